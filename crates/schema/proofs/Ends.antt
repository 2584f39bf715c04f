-- A success ends between its position and the end of the input. Assumes nothing.
use mathlib.Core.Bool.{Bool, true, false, cond, true≢false}
use mathlib.Core.List.{List}
use mathlib.Core.Path.{◌≡◌, refl}
use Prim.Native.Nat.{ℕ, ◌+◌, ◌≤◌}
use native.Mathlib.Omega.{arith}
use lib.Dec.{ltb, eqb}
use lib.ListN.{length, get_or}
use borrow.Author.Tests.{ltb-true}
use Rattle.classes.specs.Class.{class_of}
use Rattle.grammar.specs.Rule.{Rule, absent, always, never, byte, class, call}
use Rattle.schema.specs.Derivation.{Pair, ◌at◌, Result, success, failure, gives, at_end, act_of, act, second, Derives, leaf, node}
use Rattle.schema.specs.Table.{Ends}

-- The position of a pair.
abbrev pub position_of : Pair → ℕ
position_of (A at p) = p

-- The end of a success lies from p to n.
abbrev pub EndsWithin : ℕ → ℕ → Result → Type 0
EndsWithin p n (success q) = (p ≤ q) × (q ≤ n)
EndsWithin p n failure = Unit {0}

-- Such an end is a position.
pub ends_in : (p n : ℕ) (r : Result) → EndsWithin p n r → Ends n r
ends_in p n (success q) e = e.1
ends_in p n failure e = tt

byte_ends : (s : List ℕ) (p : ℕ) (r : Result) (b m : Bool) → ltb p (length s) ≡ b
    → cond b (cond m (gives (success (p + 1))) (gives failure)) at_end ≡ gives r → EndsWithin p (length s) r
byte_ends s p (success q) true true h e =
    let l = ltb-true p (length s) h in
    let z : p + 1 ≡ q = cc in
    (omega arith, omega arith)
byte_ends s p (success q) true false h e = absurd (true≢false (cc))
byte_ends s p (success q) false m h e = absurd (true≢false (cc))
byte_ends s p failure b m h e = tt

rule_ends : (u : Rule) (s : List ℕ) (p : ℕ) (r : Result) → p ≤ length s → act_of u s p ≡ gives r → EndsWithin p (length s) r
unfolding act_of
rule_ends absent s p r l e = absurd (true≢false (cc))
rule_ends always s p (success q) l e = let z : p ≡ q = cc in (omega arith, omega arith)
rule_ends always s p failure l e = tt
rule_ends never s p (success q) l e = absurd (true≢false (cc))
rule_ends never s p failure l e = tt
rule_ends (byte b) s p r l e = byte_ends s p r (ltb p (length s)) (eqb (get_or s p 0) b) refl e
rule_ends (class c) s p r l e = byte_ends s p r (ltb p (length s)) (eqb (class_of (get_or s p 0)) c) refl e
rule_ends (call B C D) s p r l e = absurd (true≢false (cc))

-- The second pair's position, and an end beyond it, seen from the first.
second_position : (n C D p : ℕ) (t : Result) → p ≤ n → EndsWithin p n t → (p ≤ position_of (second C D p t)) × (position_of (second C D p t) ≤ n)
second_position n C D p (success q) l e = e
second_position n C D p failure l e = (omega arith, l)

further : (p q n : ℕ) (r : Result) → p ≤ q → EndsWithin q n r → EndsWithin p n r
further p q n (success e) l b = let m = b.0 in (omega arith, b.1)
further p q n failure l b = tt

module _ (rule : ℕ → Rule) (s : List ℕ) where
  leaf_ends : (x : Pair) (r : Result) → position_of x ≤ length s → act rule s x ≡ gives r → EndsWithin (position_of x) (length s) r
  leaf_ends (A at p) r l e = rule_ends (rule A) s p r l e

  -- An end lies between the position and n.
  pub derives_ends : {x : Pair} {r : Result} {k h : ℕ} → position_of x ≤ length s → Derives rule s x r k h → EndsWithin (position_of x) (length s) r
  derives_ends l (leaf {x} {r} e) = leaf_ends x r l e
  derives_ends l (node {A} {B} {C} {D} {p} {r = r} {t = t} e d d₂) =
      let b = second_position (length s) C D p t l (derives_ends l d) in
      further p (position_of (second C D p t)) (length s) r b.0 (derives_ends b.1 d₂)
