-- A row that is written from its last field on: what stands behind is a row already. Assumes nothing.
use mathlib.Core.Path.{◌≡◌, refl, sym, ap, ◌∙◌}
use mathlib.Core.List.{List, [], ◌∷◌, ◌++◌, append_assoc, append-nil}
use Prim.Native.Nat.{ℕ, suc, ◌+◌, ◌-◌, ◌*◌, ◌≤◌, ◌<◌}
use native.Mathlib.Nat.{mul-suc, mul-zero}
use native.Mathlib.Omega.{arith}
use lib.ListN.{length, take, drop, set, length-take, length-drop, length-set, length-append, drop_of_length-le}
use lib.Seq.{drop_at, drop-cons, get_or-set_same}
use borrow.Rule.Slice.PartMut.{put_mid, mid_of, Post-is}
use Rattle.columns.specs.Column.{column, row}
use Rattle.columns.proofs.Rows.{column_length}

length-zero : (xs : List ℕ) → length xs ≡ 0 → xs ≡ []
length-zero [] e = refl
length-zero (x ∷ xs) e = absurd (omega arith)

-- A part that comes back from the middle of a slice.
pub part_put : (out : List ℕ) (k w : ℕ) (ys : List ℕ) → put_mid k (k + w - k) out ys ≡ take k out ++ (ys ++ drop (k + w) out)
part_put out k w ys = ap (λ (r : List ℕ). take k out ++ (ys ++ r)) (Post-is k (k + w) out (omega arith))

-- A field in its columns.
field_put : (out : List ℕ) (k w x : ℕ) (ys : List ℕ) → k + w ≤ length out → ys ≡ column (length (mid_of k (k + w - k) out)) x
    → put_mid k (k + w - k) out ys ≡ take k out ++ (column w x ++ drop (k + w) out)
field_put out k w x ys l e =
    let m : length (mid_of k (k + w - k) out) ≡ w = simp (length-take, length-drop) (omega arith) in
    part_put out k w ys ∙ ap (λ (r : List ℕ). take k out ++ (r ++ drop (k + w) out)) (e ∙ ap (λ (v : ℕ). column v x) m)

-- Before each field, in a slice of N bytes: the numbers of rest are left, and the position is where the last of them ends. The others are written.
pub record Writing (w : ℕ) (numbers : List ℕ) (N : ℕ) (out : List ℕ) (at : ℕ) (rest : List ℕ) : Type 0 where
  pub written : List ℕ
  pub all : numbers ≡ rest ++ written
  pub size : length out ≡ N
  pub here : at ≡ w * length rest
  pub room : at < length out
  pub behind : drop at out ≡ row w written

module _ (w : ℕ) (numbers : List ℕ) where
  -- Byte 10 is the row of no number.
  pub row_begins : (out rest : List ℕ) → rest ≡ numbers → length out ≡ w * length numbers + 1
      → Writing w numbers (length (set out (length out - 1) 10)) (set out (length out - 1) 10) (length out - 1) rest
  unfolding row
  row_begins out rest e whole =
      let at = length out - 1 in
      let l : length out - 1 < length out = omega arith in
      let m : length out - 1 < length (set out (length out - 1) 10) = simp length-set l in
      let z : length (set out (length out - 1) 10) ≤ suc (length out - 1) = simp length-set (omega arith) in
      let h : length out - 1 ≡ w * length numbers = omega arith in
      record {
        written = [];
        all = sym (append-nil rest ∙ e);
        size = refl;
        here = h ∙ ap (λ (xs : List ℕ). w * length xs) (sym e);
        room = m;
        behind = drop-cons (set out at 10) at 0 m ∙ rw (get_or-set_same out at 10 0 l, drop_of_length-le (set out at 10) z) refl;
      }

  module _ {N : ℕ} {out : List ℕ} {at : ℕ} {rest : List ℕ} (g : Writing w numbers N out at rest) where
    module _ (front : List ℕ) (x : ℕ) (one : rest ≡ front ++ x ∷ []) where
      -- One field less to the left.
      pub down : at ≡ w * length front + w
      down =
          let n = length-append front (x ∷ []) in
          let m : length rest ≡ suc (length front) = ap length one ∙ omega arith in
          g.here ∙ ap (λ (i : ℕ). w * i) m ∙ (let k = mul-suc w (length front) in omega arith)

      -- There is room for it.
      pub inside : at - w + w ≤ length out
      inside = let d = down in let r = g.room in omega arith

      -- The slice with a field more keeps its length.
      same_size : length (take (at - w) out ++ (column w x ++ drop (at - w + w) out)) ≡ length out
      same_size =
          let i = inside in
          let t : length (take (at - w) out) ≡ at - w = simp length-take (omega arith) in
          let a = length-append (take (at - w) out) (column w x ++ drop (at - w + w) out) in
          let b = length-append (column w x) (drop (at - w + w) out) in
          let c = column_length w x in
          let d = length-drop (at - w + w) out in
          omega arith

      pub row_goes_on : (ys : List ℕ) → ys ≡ column (length (mid_of (at - w) (at - w + w - (at - w)) out)) x
          → Writing w numbers N (put_mid (at - w) (at - w + w - (at - w)) out ys) (at - w) front
      unfolding row
      row_goes_on ys f =
          let d = down in
          let i = inside in
          let p = field_put out (at - w) w x ys i f in
          let q = ap length p ∙ same_size in
          let a : at - w + w ≡ at = omega arith in
          let t : length (take (at - w) out) ≡ at - w = simp length-take (omega arith) in
          record {
            written = x ∷ g.written;
            all = g.all ∙ ap (λ (r : List ℕ). r ++ g.written) one ∙ append_assoc front (x ∷ []) g.written;
            size = q ∙ g.size;
            here = omega arith;
            room = let r = g.room in omega arith;
            behind =
                ap (drop (at - w)) p ∙ drop_at (take (at - w) out) (column w x ++ drop (at - w + w) out) (at - w) t
                ∙ ap (λ (r : List ℕ). column w x ++ r) (ap (λ (k : ℕ). drop k out) a ∙ g.behind);
          }

    -- With none left it is all there.
    pub row_ends : length rest ≡ 0 → out ≡ row w numbers
    row_ends e =
        let h : w * 0 ≡ 0 = mul-zero w in
        let z = g.here ∙ ap (λ (i : ℕ). w * i) e ∙ h in
        ap (λ (i : ℕ). drop i out) (sym z) ∙ g.behind ∙ ap (row w) (sym (g.all ∙ ap (λ (r : List ℕ). r ++ g.written) (length-zero rest e)))
