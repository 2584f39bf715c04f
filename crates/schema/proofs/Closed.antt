-- A grammar whose rules call its own variables: its pairs are numbered by their cells, and call one another. Assumes nothing.
use mathlib.Core.Bool.{Bool, true, false, cond, true≢false}
use mathlib.Core.List.{List}
use mathlib.Core.Path.{◌≡◌, refl, sym, subst}
use Prim.Native.Nat.{ℕ, ◌+◌, ◌≤◌}
use lib.Dec.{ltb, eqb}
use lib.ListN.{length, get_or}
use Rattle.calls.proofs.Numbered.{Numbering}
use Rattle.calls.proofs.System as theory
use Rattle.calls.proofs.System.{Means, value}
use Rattle.classes.specs.Class.{class_of}
use Rattle.grammar.specs.Rule.{Rule, absent, always, never, byte, class, call}
use Rattle.schema.specs.Derivation.{Pair, ◌at◌, Result, success, failure, gives, calls, at_end, act_of, act, second, Derives}
use Rattle.schema.specs.Closed.{Variable, Closed}
use Rattle.schema.specs.Table.{Ends, cell, cells}
use Rattle.schema.proofs.Cell.{pair_of, PairWithin, cell_below, pair_cell, cell_pair, pair_within}
use Rattle.schema.proofs.Ends.{ends_in, derives_ends}
use Rattle.schema.proofs.System.{gts, kind_calls, first_is, second_is, from_done}

-- A rule of kind 2 or 3 has a result at every position.
byte_gives : (p : ℕ) (b m : Bool) → (r : Result) × (cond b (cond m (gives (success (p + 1))) (gives failure)) at_end ≡ gives r)
byte_gives p true true = (success (p + 1), refl)
byte_gives p true false = (failure, refl)
byte_gives p false m = (failure, refl)

pub byte_result : (b : ℕ) (s : List ℕ) (p : ℕ) → (r : Result) × (act_of (byte b) s p ≡ gives r)
unfolding act_of
byte_result b s p = byte_gives p (ltb p (length s)) (eqb (get_or s p 0) b)

pub class_result : (c : ℕ) (s : List ℕ) (p : ℕ) → (r : Result) × (act_of (class c) s p ≡ gives r)
unfolding act_of
class_result c s p = byte_gives p (ltb p (length s)) (eqb (class_of (get_or s p 0)) c)

-- Only a rule of kind 4 calls.
pub calls_call : (r : Rule) (s : List ℕ) (p B C D : ℕ) → act_of r s p ≡ calls B C D → r ≡ call B C D
unfolding act_of
calls_call absent s p B C D e = absurd (true≢false (cc))
calls_call always s p B C D e = absurd (true≢false (cc))
calls_call never s p B C D e = absurd (true≢false (cc))
calls_call (byte b) s p B C D e = let f = (byte_result b s p).1 in absurd (true≢false (cc))
calls_call (class c) s p B C D e = let f = (class_result c s p).1 in absurd (true≢false (cc))
calls_call (call E F G) s p B C D e = cc

-- The second called pair is a pair.
pub second_within : (v n C D p : ℕ) (t : Result) → Variable v C → Variable v D → p ≤ n → Ends n t → PairWithin v n (second C D p t)
second_within v n C D p (success q) c d l e = record { variable = c; position = e }
second_within v n C D p failure c d l e = record { variable = d; position = l }

module _ (rule : ℕ → Rule) (s : List ℕ) (v : ℕ) (closed : Closed v rule) where
  first_of : (x : Pair) → PairWithin v (length s) x → (gts rule s).kind x ≡ theory.Kind.calls → PairWithin v (length s) ((gts rule s).first x)
  unfolding gts
  first_of (A at p) w q =
      let c = kind_calls (act rule s (A at p)) q in
      let i = closed A c.0 c.1 c.2 (calls_call (rule A) s p c.0 c.1 c.2 c.3) in
      subst (PairWithin v (length s)) (sym (first_is rule s A p c.3)) (record { variable = i.0; position = w.position })

  of_second : (x : Pair) (t : Result) → PairWithin v (length s) x → (gts rule s).kind x ≡ theory.Kind.calls → Means (gts rule s) ((gts rule s).first x) (value t)
      → PairWithin v (length s) ((gts rule s).second x t)
  unfolding gts
  of_second (A at p) t w q m =
      let c = kind_calls (act rule s (A at p)) q in
      let i = closed A c.0 c.1 c.2 (calls_call (rule A) s p c.0 c.1 c.2 c.3) in
      let d = subst (λ (x : Pair). Derives rule s x t m.0 m.1) (first_is rule s A p c.3) (from_done rule s m.2) in
      subst (PairWithin v (length s)) (sym (second_is rule s A p c.3 t))
      (second_within v (length s) c.1 c.2 p t i.1 i.2 w.position (ends_in p (length s) t (derives_ends rule s w.position d)))

  -- The cells number the pairs.
  pub numbering : Numbering (gts rule s) (cell (length s)) (pair_of (length s)) (PairWithin v (length s)) (cells v (length s))
  numbering = record {
    pair_number = pair_cell v (length s);
    number_pair = λ i l. cell_pair (length s) i;
    below = cell_below v (length s);
    within = pair_within v (length s);
    first_within = first_of;
    second_within = of_second;
  }
