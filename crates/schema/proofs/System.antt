-- The gTS of a grammar on an input is a system of calls: its derivations, halts and loops are those of the system. Assumes nothing.
use mathlib.Core.Bool.{true≢false}
use mathlib.Core.Logic.{◌↔◌}
use mathlib.Core.List.{List}
use mathlib.Core.Path.{◌≡◌, sym, ap, subst}
use Prim.Native.Nat.{ℕ, ◌+◌, max}
use Rattle.calls.proofs.System as theory
use Rattle.calls.proofs.System.{System, Kind, Answer, value, halts, loops, Done, Halt, Means}
use Rattle.grammar.specs.Rule.{Rule}
use Rattle.schema.specs.Derivation.{Pair, ◌at◌, Result, Stop, Act, gives, stops, calls, act, second, Derives, leaf, node, Stops, here, in_first, in_second, Outcome, result, stopped, loop, Has}

-- What a pair does, in the words of a system of calls.
abbrev pub kind_of : Act → Kind Result Stop
kind_of (gives r) = theory.Kind.gives r
kind_of (stops w) = theory.Kind.stuck w
kind_of (calls B C D) = theory.Kind.calls

-- The pairs that a pair calls; one that does not call is given as its own.
abbrev pub first_of : Pair → Act → Pair
first_of (A at p) (gives r) = A at p
first_of (A at p) (stops w) = A at p
first_of (A at p) (calls B C D) = B at p

-- The second pair, by the result of the first.
abbrev pub second_of : Pair → Act → Result → Pair
second_of (A at p) (gives r) t = A at p
second_of (A at p) (stops w) t = A at p
second_of (A at p) (calls B C D) t = second C D p t

-- The system of a grammar and an input.
unfoldable pub gts : (ℕ → Rule) → List ℕ → System Pair Result Stop
gts rule s = record {
  kind = λ x. kind_of (act rule s x);
  first = λ x. first_of x (act rule s x);
  second = λ x t. second_of x (act rule s x) t;
  join = λ x t r. r;
}

pub kind_gives : (a : Act) (r : Result) → kind_of a ≡ theory.Kind.gives r → a ≡ gives r
kind_gives (gives t) r e = cc
kind_gives (stops w) r e = absurd (true≢false (cc))
kind_gives (calls B C D) r e = absurd (true≢false (cc))

-- The kind tells a stop,
pub kind_stuck : (a : Act) (w : Stop) → kind_of a ≡ theory.Kind.stuck w → a ≡ stops w
kind_stuck (gives t) w e = absurd (true≢false (cc))
kind_stuck (stops v) w e = cc
kind_stuck (calls B C D) w e = absurd (true≢false (cc))

-- and a call.
pub kind_calls : (a : Act) → kind_of a ≡ theory.Kind.calls → (B : ℕ) × (C : ℕ) × (D : ℕ) × (a ≡ calls B C D)
kind_calls (gives t) e = absurd (true≢false (cc))
kind_calls (stops v) e = absurd (true≢false (cc))
kind_calls (calls B C D) e = (B, C, D, cc)

-- An answer of the system as an outcome, and back.
abbrev pub outcome_of : Answer Result Stop → Outcome
outcome_of (value r) = result r
outcome_of (halts w) = stopped w
outcome_of loops = loop

-- The answer of an outcome.
abbrev pub answer_of : Outcome → Answer Result Stop
answer_of (result r) = value r
answer_of (stopped w) = halts w
answer_of loop = loops

module _ (rule : ℕ → Rule) (s : List ℕ) where
  -- A pair that calls, called pairs and all.
  module _ (A p : ℕ) {B C D : ℕ} (e : act rule s (A at p) ≡ calls B C D) where
    -- Its first pair is B where it stands,
    pub first_is : (gts rule s).first (A at p) ≡ B at p
    unfolding gts
    first_is = ap (first_of (A at p)) e

    -- its second the schema's.
    pub second_is : (t : Result) → (gts rule s).second (A at p) t ≡ second C D p t
    unfolding gts
    second_is t = ap (λ (a : Act). second_of (A at p) a t) e

  -- A derivation is one of the system,
  pub to_done : {x : Pair} {r : Result} {k h : ℕ} → Derives rule s x r k h → Done (gts rule s) x r k h
  unfolding gts
  to_done (leaf e) = theory.leaf (ap kind_of e)
  to_done (node {A} {B} {C} {D} {p} {k} {l} {g} {h} {r} {t} e d d₂) =
      theory.node (ap kind_of e)
      (subst (λ (x : Pair). Done (gts rule s) x t k g) (sym (first_is A p e)) (to_done d))
      (subst (λ (x : Pair). Done (gts rule s) x r l h) (sym (second_is A p e t)) (to_done d₂))

  node_at : {r t : Result} {k l g h : ℕ} (x : Pair) → (gts rule s).kind x ≡ theory.Kind.calls → Derives rule s ((gts rule s).first x) t k g
      → Derives rule s ((gts rule s).second x t) r l h → Derives rule s x r (k + l + 1) (max g h + 1)
  unfolding gts
  node_at {r} {t} {k} {l} {g} {h} (A at p) q d d₂ =
      let c = kind_calls (act rule s (A at p)) q in
      node c.3 (subst (λ (x : Pair). Derives rule s x t k g) (first_is A p c.3) d)
      (subst (λ (x : Pair). Derives rule s x r l h) (second_is A p c.3 t) d₂)

  -- and back.
  pub from_done : {x : Pair} {r : Result} {k h : ℕ} → Done (gts rule s) x r k h → Derives rule s x r k h
  unfolding gts
  from_done (theory.leaf {x = x} {a = r} q) = leaf (kind_gives (act rule s x) r q)
  from_done (theory.node {x = x} q d e) = node_at x q (from_done d) (from_done e)

  -- Missing is its halt,
  pub to_halt : {w : Stop} {x : Pair} → Stops rule s w x → Halt (gts rule s) w x
  unfolding gts
  to_halt (here e) = theory.stop (ap kind_of e)
  to_halt {w = w} (in_first {A} {B} {C} {D} {p} e i) = theory.by_first (ap kind_of e) (subst (Halt (gts rule s) w) (sym (first_is A p e)) (to_halt i))
  to_halt {w = w} (in_second {A} {B} {C} {D} {p} {k} {h} {t} e d i) =
      theory.by_second (ap kind_of e) (subst (λ (x : Pair). Done (gts rule s) x t k h) (sym (first_is A p e)) (to_done d))
      (subst (Halt (gts rule s) w) (sym (second_is A p e t)) (to_halt i))

  first_stops : (w : Stop) (x : Pair) → (gts rule s).kind x ≡ theory.Kind.calls → Stops rule s w ((gts rule s).first x) → Stops rule s w x
  unfolding gts
  first_stops w (A at p) q i =
      let c = kind_calls (act rule s (A at p)) q in
      in_first c.3 (subst (Stops rule s w) (first_is A p c.3) i)

  second_stops : {t : Result} {k h : ℕ} (w : Stop) (x : Pair) → (gts rule s).kind x ≡ theory.Kind.calls → Derives rule s ((gts rule s).first x) t k h
      → Stops rule s w ((gts rule s).second x t) → Stops rule s w x
  unfolding gts
  second_stops {t} {k} {h} w (A at p) q d i =
      let c = kind_calls (act rule s (A at p)) q in
      in_second c.3 (subst (λ (x : Pair). Derives rule s x t k h) (first_is A p c.3) d)
      (subst (Stops rule s w) (second_is A p c.3 t) i)

  -- and back.
  pub from_halt : {w : Stop} {x : Pair} → Halt (gts rule s) w x → Stops rule s w x
  unfolding gts
  from_halt {w = w} (theory.stop {x = x} q) = here (kind_stuck (act rule s x) w q)
  from_halt {w = w} (theory.by_first {x = x} q i) = first_stops w x q (from_halt i)
  from_halt {w = w} (theory.by_second {x = x} q d i) = second_stops w x q (from_done d) (from_halt i)

  -- A pair means in the system what its outcome says.
  pub means_has : (x : Pair) (a : Answer Result Stop) → Means (gts rule s) x a ↔ Has rule s x (outcome_of a)
  means_has x (value r) = (λ m. (m.0, m.1, from_done m.2), λ m. (m.0, m.1, to_done m.2))
  means_has x (halts w) = (from_halt, to_halt)
  means_has x loops = (
    λ m. record { no_result = λ r k h d. m.not_done r k h (to_done d); no_stop = λ w i. m.not_halt w (to_halt i) },
    λ m. record { not_done = λ r k h d. m.no_result r k h (from_done d); not_halt = λ w i. m.no_stop w (from_halt i) },
  )
