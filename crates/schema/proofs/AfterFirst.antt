-- Document 01, "Derivations": what a pair of kind 4 has, reaches and waits for after its first called pair. Assumes nothing.
use mathlib.Core.List.{List}
use mathlib.Core.Path.{◌≡◌}
use Prim.Native.Nat.{ℕ, ◌+◌, max}
use Rattle.grammar.specs.Rule.{Rule}
use Rattle.schema.specs.Derivation.{◌at◌, success, failure, calls, act, Derives, node, NoResult}
use Rattle.schema.specs.Reached.{Reached, itself, of_second, Waits, for_second}

module _ (rule : ℕ → Rule) (s : List ℕ) {A B C D p : ℕ} (e : act rule s (A at p) ≡ calls B C D) where
  -- "failure if C fails; D is not tried"
  pub fails_with_c : {q k l g h : ℕ} → Derives rule s (B at p) (success q) k g → Derives rule s (C at q) failure l h
      → Derives rule s (A at p) failure (k + l + 1) (max g h + 1)
  fails_with_c d f = node e d f

  -- "then C at q if B succeeds ending at q"
  pub reaches_c : {q k h : ℕ} → Derives rule s (B at p) (success q) k h → Reached rule s (A at p) (C at q)
  reaches_c d = of_second itself e d

  -- "it waits for B, or, B having succeeded or failed, for its C or D"
  pub waits_for_c : {q k h : ℕ} → NoResult rule s (A at p) → Derives rule s (B at p) (success q) k h → Waits rule s (A at p) (C at q)
  waits_for_c n d = for_second n e d
