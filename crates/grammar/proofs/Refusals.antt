-- A refusal comes exactly under its condition, with no condition that comes earlier in the order. Assumes nothing.
use mathlib.Core.Path.{◌≡◌, refl, ap, sym, ◌∙◌}
use mathlib.Core.Bool.{Bool, true, false, cond, true≢false}
use mathlib.Core.List.{List, [], ◌∷◌, ◌++◌, append-nil}
use mathlib.Core.Logic.{◌↔◌}
use Prim.Native.Nat.{ℕ, ◌≤◌, ◌<◌}
use borrow.Author.Tests.{lt-ltb, le-ltb}
use Rattle.grammar.specs.Refusal.{Checked, refused, accepted, checked, from}
use Rattle.grammar.specs.Order.{NoneHolds, FirstHolds}

-- What is refused stays so; what is accepted leaves it to the other.
abbrev pub then : {A B : Type 0} → Checked A → Checked B → Checked B
then (refused x l) c = refused x l
then (accepted a) c = c

-- ---- The first condition that holds.

module _ (condition : ℕ → ℕ → Bool) where
  first_holds : {A : Type 0} (rs : List (ℕ × ℕ)) (a : A) (x l : ℕ) → checked condition rs a ≡ refused x l → FirstHolds condition rs x l
  unfolding checked
  first_holds [] a x l e = absurd (true≢false (cc))
  first_holds (r ∷ rs) a x l e = go (condition r.0 r.1) refl e (first_holds rs a x l)
    where
      go : (t : Bool) → condition r.0 r.1 ≡ t → cond t (refused r.0 r.1) (checked condition rs a) ≡ refused x l
          → (checked condition rs a ≡ refused x l → FirstHolds condition rs x l) → FirstHolds condition (r ∷ rs) x l
      go true p f rest =
          let n : r.0 ≡ x = cc in
          let m : r.1 ≡ l = cc in
          record { before = []; after = rs; order = rw (← n, ← m); holds = rw (n, m) at p; none_before = tt }
      go false p f rest =
          let k = rest f in
          record {
            before = r ∷ k.before;
            after = k.after;
            order = ap (λ (qs : List (ℕ × ℕ)). r ∷ qs) k.order;
            holds = k.holds;
            none_before = (p, k.none_before);
          }

  holds_first : {A : Type 0} (before after : List (ℕ × ℕ)) (a : A) (x l : ℕ) → condition x l ≡ true → NoneHolds condition before
      → checked condition (before ++ (x, l) ∷ after) a ≡ refused x l
  unfolding checked
  holds_first [] after a x l h n = rw h
  holds_first (r ∷ rs) after a x l h n = rw n.0 (holds_first rs after a x l h n.1)

  -- Refused with a number and a line exactly if theirs is the first condition that holds.
  pub refused_exactly : {A : Type 0} (rs : List (ℕ × ℕ)) (a : A) (x l : ℕ) → checked condition rs a ≡ refused x l ↔ FirstHolds condition rs x l
  refused_exactly rs a x l = (first_holds rs a x l, λ f. rw f.order (holds_first f.before f.after a x l f.holds f.none_before))

  -- Accepted exactly if no condition holds.
  pub accepted_clear : {A : Type 0} (rs : List (ℕ × ℕ)) (a : A) → checked condition rs a ≡ accepted a ↔ NoneHolds condition rs
  unfolding checked
  accepted_clear [] a = (λ e. tt, λ n. refl)
  accepted_clear (r ∷ rs) a = go (condition r.0 r.1) (accepted_clear rs a)
    where
      go : (t : Bool) → checked condition rs a ≡ accepted a ↔ NoneHolds condition rs
          → cond t (refused r.0 r.1) (checked condition rs a) ≡ accepted a ↔ ((t ≡ false) × NoneHolds condition rs)
      go true i = (λ e. absurd (true≢false (cc)), λ n. absurd (true≢false n.0))
      go false i = (λ e. (refl, i.0 e), λ n. i.1 n.1)

  -- What is accepted is what was offered.
  pub accepted_same : {A : Type 0} (rs : List (ℕ × ℕ)) (a b : A) → checked condition rs a ≡ accepted b → a ≡ b
  unfolding checked
  accepted_same [] a b e = cc
  accepted_same (r ∷ rs) a b e = go (condition r.0 r.1) e (accepted_same rs a b)
    where
      go : (t : Bool) → cond t (refused r.0 r.1) (checked condition rs a) ≡ accepted b → (checked condition rs a ≡ accepted b → a ≡ b) → a ≡ b
      go true f rest = absurd (true≢false (cc))
      go false f rest = rest f

  pub accepted_none : {A : Type 0} (rs : List (ℕ × ℕ)) (a b : A) → checked condition rs a ≡ accepted b → NoneHolds condition rs
  accepted_none rs a b e = (accepted_clear rs a).0 (e ∙ ap accepted (sym (accepted_same rs a b e)))

  -- One order after another: the one behind is asked only where the one in front is clear, whatever that would accept.
  pub checked_then : {A B : Type 0} (rs qs : List (ℕ × ℕ)) (a : A) (b : B) → checked condition (rs ++ qs) b ≡ then (checked condition rs a) (checked condition qs b)
  unfolding checked
  checked_then [] qs a b = refl
  checked_then (r ∷ rs) qs a b = go (condition r.0 r.1) (checked_then rs qs a b)
    where
      go : (t : Bool) → checked condition (rs ++ qs) b ≡ then (checked condition rs a) (checked condition qs b)
          → cond t (refused r.0 r.1) (checked condition (rs ++ qs) b) ≡ then (cond t (refused r.0 r.1) (checked condition rs a)) (checked condition qs b)
      go true i = refl
      go false i = i

  -- What is refused does not depend on what would be accepted.
  pub checked_whatever : {A B : Type 0} (rs : List (ℕ × ℕ)) (a : A) (b : B) → checked condition rs b ≡ then (checked condition rs a) (accepted b)
  unfolding checked
  checked_whatever rs a b = ap (λ (qs : List (ℕ × ℕ)). checked condition qs b) (sym (append-nil rs)) ∙ checked_then rs [] a b

  pub none_append : (rs qs : List (ℕ × ℕ)) → NoneHolds condition (rs ++ qs) ↔ (NoneHolds condition rs × NoneHolds condition qs)
  none_append [] qs = (λ n. (tt, n), λ n. n.1)
  none_append (r ∷ rs) qs =
      let i = none_append rs qs in
      (λ n. let j = i.0 n.1 in ((n.0, j.0), j.1), λ n. (n.0.0, i.1 (n.0.1, n.1)))

-- ---- The numbers of an order.

-- Each number is one of these.
abbrev pub Each : (ℕ → Type 0) → List (ℕ × ℕ) → Type 0
Each P [] = Unit {0}
Each P (r ∷ rs) = P r.0 × Each P rs

pub each_append : (P : ℕ → Type 0) (rs qs : List (ℕ × ℕ)) → Each P rs → Each P qs → Each P (rs ++ qs)
each_append P [] qs p q = q
each_append P (r ∷ rs) qs p q = (p.0, each_append P rs qs p.1 q)

pub each_also : (P Q : ℕ → Type 0) (rs : List (ℕ × ℕ)) → ((x : ℕ) → P x → Q x) → Each P rs → Each Q rs
each_also P Q [] f p = tt
each_also P Q (r ∷ rs) f p = (f r.0 p.0, each_also P Q rs f p.1)

-- A refusal has one of the numbers.
pub refused_each : {A : Type 0} (P : ℕ → Type 0) (condition : ℕ → ℕ → Bool) (rs : List (ℕ × ℕ)) (a : A) (x l : ℕ) → Each P rs
    → checked condition rs a ≡ refused x l → P x
unfolding checked
refused_each P condition [] a x l p e = absurd (true≢false (cc))
refused_each P condition (r ∷ rs) a x l p e = go (condition r.0 r.1) e (refused_each P condition rs a x l p.1)
  where
    go : (t : Bool) → cond t (refused r.0 r.1) (checked condition rs a) ≡ refused x l → (checked condition rs a ≡ refused x l → P x) → P x
    go true f rest = let n : r.0 ≡ x = cc in rw n at p.0
    go false f rest = rest f

-- Of the conditions of the numbers from `first` on and those below it, an order on one side asks only that side's.
module _ {A : Type 0} (first : ℕ) (new old : ℕ → ℕ → Bool) (a : A) where
  pub checked_below : (rs : List (ℕ × ℕ)) → Each (λ x. x < first) rs → checked (from first new old) rs a ≡ checked old rs a
  unfolding checked
  checked_below [] p = refl
  checked_below (r ∷ rs) p = rw (lt-ltb r.0 first p.0, checked_below rs p.1)

  pub checked_from : (rs : List (ℕ × ℕ)) → Each (λ x. first ≤ x) rs → checked (from first new old) rs a ≡ checked new rs a
  unfolding checked
  checked_from [] p = refl
  checked_from (r ∷ rs) p = rw (le-ltb r.0 first p.0, checked_from rs p.1)
