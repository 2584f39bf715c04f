-- An evaluator of derivations, and that what it finds is derived. Assumes nothing.
use mathlib.Core.List.{List}
use mathlib.Core.Path.{◌≡◌, refl}
use Prim.Native.Nat.{ℕ, zero, suc, ◌+◌, max}
use Rattle.grammar.specs.Rule.{Rule}
use Rattle.schema.specs.Derivation.{Pair, ◌at◌, Result, Stop, Act, gives, stops, calls, act, second, Derives, leaf, node, Stops, here, in_first, in_second}

-- A result with its steps and height; a stop; or unknown, where the depth given was too small.
pub data Value : Type 0 where
  derived : Result → ℕ → ℕ → Value
  halted : Stop → Value
  unknown : Value

-- The value of a pair whose first called pair took k steps with height h, by the value of the second.
abbrev pub after : ℕ → ℕ → Value → Value
after k h (derived r l g) = derived r (k + l + 1) (max h g + 1)
after k h (halted w) = halted w
after k h unknown = unknown

-- What a value says of a pair.
abbrev pub Evaluates : (ℕ → Rule) → List ℕ → Pair → Value → Type 0
Evaluates rule s x (derived r k h) = Derives rule s x r k h
Evaluates rule s x (halted w) = Stops rule s w x
Evaluates rule s x unknown = Unit {0}

module _ (rule : ℕ → Rule) (s : List ℕ) where
  -- The value of a pair, found by derivations up to a height.
  unfoldable pub eval : ℕ → Pair → Value
  eval zero x = unknown
  eval (suc n) (A at p) =
      elim (act rule s (A at p)) [
        | gives r ↦ derived r 1 1
        | stops w ↦ halted w
        | calls B C D ↦ elim (eval n (B at p)) [ derived t k h ↦ after k h (eval n (second C D p t)) | halted w ↦ halted w | unknown ↦ unknown ]
      ]

  eval_second : {t : Result} {k h : ℕ} (A B C D p : ℕ) (v : Value) → act rule s (A at p) ≡ calls B C D → Derives rule s (B at p) t k h
      → Evaluates rule s (second C D p t) v → Evaluates rule s (A at p) (after k h v)
  eval_second A B C D p (derived r l g) e d f = node e d f
  eval_second A B C D p (halted w) e d f = in_second e d f
  eval_second A B C D p unknown e d f = tt

  eval_call : (n A B C D p : ℕ) (v : Value) → ((x : Pair) → Evaluates rule s x (eval n x)) → act rule s (A at p) ≡ calls B C D → Evaluates rule s (B at p) v
      → Evaluates rule s (A at p)
      (elim v as (λ _. Value) [ derived t k h ↦ after k h (eval n (second C D p t)) | halted w ↦ halted w | unknown ↦ unknown ])
  eval_call n A B C D p (derived t k h) sound e d = eval_second A B C D p (eval n (second C D p t)) e d (sound (second C D p t))
  eval_call n A B C D p (halted w) sound e d = in_first e d
  eval_call n A B C D p unknown sound e d = tt

  eval_act : (n A p : ℕ) (a : Act) → ((x : Pair) → Evaluates rule s x (eval n x)) → act rule s (A at p) ≡ a → Evaluates rule s (A at p) (eval (suc n) (A at p))
  unfolding eval
  eval_act n A p (gives r) sound e = rw (e, eval) (leaf e)
  eval_act n A p (stops w) sound e = rw (e, eval) (here e)
  eval_act n A p (calls B C D) sound e = rw (e, eval) (eval_call n A B C D p (eval n (B at p)) sound e (sound (B at p)))

  -- What is found is so.
  pub eval_sound : (n : ℕ) (x : Pair) → Evaluates rule s x (eval n x)
  unfolding eval
  eval_sound zero x = tt
  eval_sound (suc n) (A at p) = eval_act n A p (act rule s (A at p)) (eval_sound n) refl
