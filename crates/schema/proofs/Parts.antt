-- The two derivations that one of a calling pair is made of. Assumes nothing.
use mathlib.Core.Bool.{true≢false}
use mathlib.Core.List.{List}
use mathlib.Core.Path.{◌≡◌, subst}
use Prim.Native.Nat.{ℕ, ◌+◌, ◌<◌}
use native.Mathlib.Omega.{arith}
use Rattle.grammar.specs.Rule.{Rule}
use Rattle.schema.specs.Derivation.{◌at◌, Result, Act, calls, act, second, Derives, leaf, node}

-- A rule calls the same variables, however it is read.
pub calls_one : {a : Act} {B C D E F G : ℕ} → a ≡ calls B C D → a ≡ calls E F G → (B ≡ E) × (C ≡ F) × (D ≡ G)
calls_one h k = (cc, cc, cc)

pub record Parts (rule : ℕ → Rule) (s : List ℕ) (B C D p : ℕ) (r : Result) (k : ℕ) : Type 0 where
  pub between : Result
  pub steps : ℕ
  pub more : ℕ
  pub height : ℕ
  pub higher : ℕ
  pub first : Derives rule s (B at p) between steps height
  pub rest : Derives rule s (second C D p between) r more higher
  pub fewer : steps + more < k

pub parts : {rule : ℕ → Rule} {s : List ℕ} {A B C D p k h : ℕ} {r : Result} → Derives rule s (A at p) r k h → act rule s (A at p) ≡ calls B C D
    → Parts rule s B C D p r k
parts (leaf f) e = absurd (true≢false (cc))
parts {rule = rule} {s = s} {C = C} {D = D} {p = p} {r = r} (node {B = E} {C = F} {D = G} {k = k} {l = l} {g = g} {h = h} {t = t} f d c) e =
    let q = calls_one f e in
    record {
      between = t;
      steps = k;
      more = l;
      height = g;
      higher = h;
      first = subst (λ (X : ℕ). Derives rule s (X at p) t k g) q.0 d;
      rest = subst (λ (X : ℕ). Derives rule s (second C X p t) r l h) q.2 (subst (λ (X : ℕ). Derives rule s (second X G p t) r l h) q.1 c);
      fewer = omega arith;
    }
