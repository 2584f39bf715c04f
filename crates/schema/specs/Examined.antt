-- Document 02, order 6: how far a derivation looked, its reach (the examined length of incremental packrat parsing). Assumes nothing.
use Rattle.std.specs.Prelude.{List, ◌≡◌, ℕ, ◌+◌, max}
use Rattle.grammar.specs.Rule.{Rule, absent, always, never, byte, class, call}
use Rattle.schema.specs.Derivation.{Pair, ◌at◌, Result, gives, calls, act, second, Outcome, result, stopped, loop}

-- "A leaf of kind 0 or 1 reaches its place; a byte or class rule reaches one past it", order 11: at place n "with reach n + 1". The other two are no leaves.
abbrev pub leaf_reach : Rule → ℕ → ℕ
leaf_reach absent p = p
leaf_reach always p = p
leaf_reach never p = p
leaf_reach (byte b) p = p + 1
leaf_reach (class c) p = p + 1
leaf_reach (call B C D) p = p

-- The same of a pair whose rule is a leaf.
abbrev pub leaf_reach_of : (ℕ → Rule) → Pair → ℕ
leaf_reach_of rule (A at p) = leaf_reach (rule A) p

-- Examines rule s x r m: the derivation of the result r of x has the reach m: it looks at bytes before m only. "Kind 4 has the greater reach of its
-- two called pairs."
pub data Examines (rule : ℕ → Rule) (s : List ℕ) : Pair → Result → ℕ → Type 0 where
  leaf : {x : Pair} {r : Result} → act rule s x ≡ gives r → Examines rule s x r (leaf_reach_of rule x)
  node : {A B C D p m n : ℕ} {r t : Result} → act rule s (A at p) ≡ calls B C D → Examines rule s (B at p) t m
      → Examines rule s (second C D p t) r n → Examines rule s (A at p) r (max m n)

-- The reach of a pair's outcome: "Loop, missing .. have reach 0."
abbrev pub Reaches : (ℕ → Rule) → List ℕ → Pair → Outcome → ℕ → Type 0
Reaches rule s x (result r) m = Examines rule s x r m
Reaches rule s x (stopped w) m = m ≡ 0
Reaches rule s x loop m = m ≡ 0
