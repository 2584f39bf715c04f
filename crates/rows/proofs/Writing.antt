-- How the columns of a field are written, from the last to the first. Assumes nothing.
use mathlib.Core.Path.{◌≡◌, refl, ap, sym, ◌∙◌, subst}
use mathlib.Core.List.{List, [], ◌∷◌, ◌++◌, append_assoc, append-nil}
use Prim.Native.Nat.{ℕ, suc, ◌+◌, ◌-◌, ◌/◌, ◌%◌, ◌≤◌, ◌<◌}
use native.Mathlib.Omega.{arith}
use lib.ListN.{length, take, drop, set}
use lib.Seq.{drop-length, drop_at, set_split, length-take-le}
use Rattle.columns.specs.Column.{leading, column}
use Rattle.rows.specs.Leading.{leading_byte}

drop_set_at : (l : List ℕ) (k a : ℕ) → k < length l → drop k (set l k a) ≡ a ∷ drop (suc k) l
drop_set_at l k a h = ap (drop k) (set_split l k a h) ∙ drop_at (take k l) (a ∷ drop (suc k) l) k (length-take-le k l (omega arith))

-- Before any of the columns left of the last, all of them are to come.
pub front_begins : (front : List ℕ) (x : ℕ) → leading (length front) x ++ drop (length front) front ≡ leading (length front) x
front_begins front x = ap (λ (r : List ℕ). leading (length front) x ++ r) (drop-length front) ∙ append-nil (leading (length front) x)

-- One column more leaves the whole the same.
pub column_written : (out : List ℕ) (k x : ℕ) (all : List ℕ) → 0 < k → k ≤ length out → leading k x ++ drop k out ≡ all
    → leading (k - 1) (x / 10) ++ drop (k - 1) (set out (k - 1) (leading_byte x)) ≡ all
unfolding leading
column_written out k x all h l e =
    let j : ℕ = k - 1 in
    let q : k ≡ suc j = omega arith in
    ap (λ (r : List ℕ). leading j (x / 10) ++ r) (drop_set_at out j (leading_byte x) (omega arith))
    ∙ sym (append_assoc (leading j (x / 10)) (leading_byte x ∷ []) (drop (suc j) out))
    ∙ subst (λ (r : ℕ). leading r x ++ drop r out ≡ all) q e

-- Where no column is left to come, the field stands.
pub field_written : (front : List ℕ) (k left x at n : ℕ) → leading at left ++ drop at front ≡ leading k (x / 10) → at ≡ 0 → k + 1 ≡ n
    → front ++ (48 + x % 10) ∷ [] ≡ column n x
unfolding leading column
field_written front k left x at n e z m =
    let s : suc k ≡ n = omega arith in
    ap (λ (r : List ℕ). r ++ (48 + x % 10) ∷ []) (subst (λ (i : ℕ). leading i left ++ drop i front ≡ leading k (x / 10)) z e) ∙ ap (λ (i : ℕ). column i x) s

-- No columns hold nothing.
pub none_written : (out : List ℕ) (x : ℕ) → length out ≡ 0 → out ≡ column (length out) x
unfolding column
none_written [] x e = refl
none_written (b ∷ out) x e = absurd (omega arith)
