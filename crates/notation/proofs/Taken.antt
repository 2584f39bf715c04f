-- Rules that are stored for variables that are taken one after another. Assumes nothing.
use mathlib.Core.Bool.{Bool, true, false, cond}
use mathlib.Core.Path.{◌≡◌, refl, ◌∙◌}
use Prim.Native.Nat.{ℕ, ◌+◌, ◌≤◌, ◌<◌}
use native.Mathlib.Omega.{arith}
use lib.Dec.{eqb}
use borrow.Author.Tests.{eqb-false, eq-eqb, ne_eqb}
use Rattle.grammar.specs.Rule.{Rule, absent, always, never, byte, class, call, Fits}
use Rattle.notation.specs.Emit.{with}

-- ---- Another rule for one variable.

pub there : (f : ℕ → Rule) (v : ℕ) (r : Rule) → with f v r v ≡ r
unfolding with
there f v r = rw (eq-eqb v v refl)

pub elsewhere : (f : ℕ → Rule) (v A : ℕ) (r : Rule) → (A ≡ v → ⊥) → with f v r A ≡ f A
unfolding with
elsewhere f v A r n = rw (ne_eqb A v n)

-- The operands of the rules of the first n variables are among these.
abbrev pub AllFit : (ℕ → Rule) → ℕ → Type 0
AllFit f n = (A : ℕ) → A ≤ n → Fits n (f A)

fits_more : (n n' : ℕ) (r : Rule) → n ≤ n' → Fits n r → Fits n' r
fits_more n n' absent l f = tt
fits_more n n' always l f = tt
fits_more n n' never l f = tt
fits_more n n' (byte b) l f = f
fits_more n n' (class c) l f = f
fits_more n n' (call B C D) l f = omega arith

-- Of n' variables, all but v are among the first n.
pub fit_with : (f : ℕ → Rule) (n n' v : ℕ) (r : Rule) → n ≤ n' → ((A : ℕ) → A ≤ n' → (A ≡ v → ⊥) → A ≤ n) → Fits n' r → AllFit f n → AllFit (with f v r) n'
unfolding with
fit_with f n n' v r l among g h A a = go (eqb A v) refl
  where
    go : (t : Bool) → eqb A v ≡ t → Fits n' (cond t r (f A))
    go true e = g
    go false e = fits_more n n' (f A) l (h A (among A a (eqb-false A v e)))

-- ---- Variables that are taken.

-- From the rules f of n variables, at most k more were taken, all others are as they were.
pub record Taken (k : ℕ) (f : ℕ → Rule) (n : ℕ) (f' : ℕ → Rule) (n' : ℕ) : Type 0 where
  pub more : n ≤ n'
  pub few : n' ≤ n + k
  pub fit : AllFit f n → AllFit f' n'
  pub kept : (A : ℕ) → A ≤ n → f' A ≡ f A
  pub above : (A : ℕ) → n' < A → f' A ≡ f A

pub taken_none : (k : ℕ) (f : ℕ → Rule) (n : ℕ) → Taken k f n f n
taken_none k f n = record { more = omega arith; few = omega arith; fit = λ h. h; kept = λ A a. refl; above = λ A a. refl }

-- One rule more.
pub taken_put : {k : ℕ} {f f' : ℕ → Rule} {n n' : ℕ} (r : Rule) → Fits (n' + 1) r → Taken k f n f' n' → Taken (k + 1) f n (with f' (n' + 1) r) (n' + 1)
taken_put {f' = f'} {n' = n'} r g t =
    let m = t.more in
    let l = t.few in
    record {
      more = omega arith;
      few = omega arith;
      fit = λ h. fit_with f' n' (n' + 1) (n' + 1) r (omega arith) (λ A a o. omega arith) g (t.fit h);
      kept = λ A a. elsewhere f' (n' + 1) A r (λ e. omega arith) ∙ t.kept A a;
      above = λ A a. elsewhere f' (n' + 1) A r (λ e. omega arith) ∙ t.above A (omega arith);
    }

-- One step after another.
pub taken_then : {k l : ℕ} {f f₁ f₂ : ℕ → Rule} {n n₁ n₂ : ℕ} → Taken k f n f₁ n₁ → Taken l f₁ n₁ f₂ n₂ → Taken (k + l) f n f₂ n₂
taken_then t u =
    let m = t.more in
    let p = t.few in
    let o = u.more in
    let q = u.few in
    record {
      more = omega arith;
      few = omega arith;
      fit = λ h. u.fit (t.fit h);
      kept = λ A a. u.kept A (omega arith) ∙ t.kept A a;
      above = λ A a. u.above A a ∙ t.above A (omega arith);
    }

pub taken_few : {k : ℕ} (l : ℕ) {f f' : ℕ → Rule} {n n' : ℕ} → k ≤ l → Taken k f n f' n' → Taken l f n f' n'
taken_few l h t = let m = t.few in record { more = t.more; few = omega arith; fit = t.fit; kept = t.kept; above = t.above }

-- ---- Rules that agree on variables that were taken.

-- On those above n, up to n'.
abbrev pub Agree : (ℕ → Rule) → (ℕ → Rule) → ℕ → ℕ → Type 0
Agree g f n n' = (A : ℕ) → n < A → A ≤ n' → g A ≡ f A

pub agree_put : (g f' : ℕ → Rule) (n n' : ℕ) (r : Rule) → n ≤ n' → Agree g (with f' (n' + 1) r) n (n' + 1) → Agree g f' n n' × (g (n' + 1) ≡ r)
agree_put g f' n n' r l h = (
  λ A a b. h A a (omega arith) ∙ elsewhere f' (n' + 1) A r (λ e. omega arith),
  h (n' + 1) (omega arith) (omega arith) ∙ there f' (n' + 1) r,
)

pub agree_then : {k l : ℕ} {f f₁ f₂ : ℕ → Rule} {n n₁ n₂ : ℕ} (g : ℕ → Rule) → Taken k f n f₁ n₁ → Taken l f₁ n₁ f₂ n₂
    → Agree g f₂ n n₂ → Agree g f₁ n n₁ × Agree g f₂ n₁ n₂
agree_then g t u h =
    let m = t.more in
    let o = u.more in
    (λ A a b. h A a (omega arith) ∙ u.kept A b, λ A a b. h A (omega arith) b)
