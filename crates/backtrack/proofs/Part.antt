-- Parts of a run: how many moves and frames each takes, one after another. Assumes nothing.
use mathlib.Core.Path.{◌≡◌, ap, ◌∙◌}
use Prim.Native.Nat.{ℕ, ◌+◌, ◌-◌, ◌<◌, ◌≤◌, max}
use native.Mathlib.Omega.{arith}
use Rattle.schema.specs.Machine.{Ran, ran, spent, no_frame}

-- A run that comes to a, with l of the budget left and m moves made, has a part that takes c moves and n frames, and goes on as `on`:
-- it goes on with what is left then; or the budget is too small, and it is spent; or the room is, and there is no frame.
pub data Part (l c room n m : ℕ) (a : Ran) (on : ℕ → ℕ → Ran) : Type 0 where
  goes : (left : ℕ) → l ≡ c + left → n ≤ room → a ≡ on left (m + c) → Part l c room n m a on
  short : l < c → a ≡ ran spent (m + l) → Part l c room n m a on
  narrow : room < n → (moves : ℕ) → a ≡ ran no_frame moves → Part l c room n m a on

-- A part and the part after it.
pub bind : {l c₁ c₂ room n₁ n₂ m : ℕ} {a : Ran} {on after : ℕ → ℕ → Ran} → Part l c₁ room n₁ m a on
    → ((left : ℕ) → n₁ ≤ room → Part left c₂ room n₂ (m + c₁) (on left (m + c₁)) after) → Part l (c₁ + c₂) room (max n₁ n₂) m a after
bind {l} {c₁} {c₂} {room} {n₁} {n₂} {m} {a} {on} {after} (goes left e fits same) next = then (next left fits)
  where
    then : Part left c₂ room n₂ (m + c₁) (on left (m + c₁)) after → Part l (c₁ + c₂) room (max n₁ n₂) m a after
    then (goes left' e' fits' same') =
        let q : m + c₁ + c₂ ≡ m + (c₁ + c₂) = omega arith in
        goes left' (omega arith) (omega arith) (same ∙ same' ∙ ap (λ x. after left' x) q)
    then (short h same') =
        let q : m + c₁ + left ≡ m + l = omega arith in
        short (omega arith) (same ∙ same' ∙ ap (λ x. ran spent x) q)
    then (narrow h moves same') = narrow (omega arith) moves (same ∙ same')
bind (short h same) next = short (omega arith) same
bind (narrow h moves same) next = narrow (omega arith) moves same

-- The same part, its moves and frames written otherwise.
pub recast : {l c c' room n n' m : ℕ} {a : Ran} {on : ℕ → ℕ → Ran} → Part l c room n m a on → c ≡ c' → (n ≤ room → n' ≤ room)
    → (room < n → room < n') → Part l c' room n' m a on
recast {m = m} {on = on} (goes left e fits same) q up down = goes left (omega arith) (up fits) (same ∙ ap (λ x. on left (m + x)) q)
recast (short h same) q up down = short (omega arith) same
recast (narrow h moves same) q up down = narrow (down h) moves same

-- With enough of both the run goes on.
pub enough : {l c room n m : ℕ} {a : Ran} {on : ℕ → ℕ → Ran} → Part l c room n m a on → c ≤ l → n ≤ room → a ≡ on (l - c) (m + c)
enough {l} {c} {m = m} {on = on} (goes left e fits same) x y =
    let q : left ≡ l - c = omega arith in
    same ∙ ap (λ i. on i (m + c)) q
enough (short h same) x y = absurd (omega arith)
enough (narrow h moves same) x y = absurd (omega arith)
