-- The first pass: whether a cell that stays is out of range, and from where on each row has something to blank. Assumes nothing.
use mathlib.Core.Bool.{Bool, true, false, cond, not, ◌&&◌, ◌||◌, true≢false}
use mathlib.Core.List.{List, ◌++◌}
use mathlib.Core.Logic.{◌≢◌}
use mathlib.Core.Path.{◌≡◌, refl, sym, ap, ap₂, ◌∙◌, subst}
use Prim.Native.Nat.{ℕ, zero, suc, ◌+◌, ◌-◌, ◌*◌, ◌≤◌, ◌<◌, min}
use native.Mathlib.Decide.{ℕ_discrete}
use native.Mathlib.Omega.{arith}
use lib.Dec.{eqb, ltb}
use lib.ListN.{length, get_or, set}
use lib.Seq.{get_or-set_same, get_or-set_other}
use borrow.Author.Tests.{eqb-true, ne_eqb, ltb-true, ltb-false, lt-ltb, le-ltb}
use Rattle.grammar.proofs.Fitting.{neither_true}
use Rattle.schema.specs.Cells.{held_at, reach_at, cell_at}
use Rattle.schema.specs.Derivation.{◌at◌}
use Rattle.schema.specs.Table.{cells}
use Rattle.std.proofs.lemmas.List.{get_or_append_left}
use Rattle.kept.specs.Kept.{stays, kept, retained}
use Rattle.kept.specs.Range.{out_of_range, cells_out}
use Rattle.kept.specs.Some.{some}
use Rattle.kept.proofs.Ranged.{range_low}
use Rattle.kept.proofs.Some.{some_none, some_each, some_one, some_more}
use Rattle.passes.specs.Passes.{BlankIf, EndBlankIf, row_out, Unchanged, Looked, Firsts}

or_false : (b : Bool) → (b || false) ≡ b
or_false true = refl
or_false false = refl

-- ---- A cell.

-- 4 is the number right below those of success: the test for an end left of the position tells it too.
pub four_below_success : (n p k : ℕ)
    → (ltb (5 + n) k || (not (ltb k 4) && ltb k (5 + p))) ≡ ((ltb (5 + n) k || (not (ltb k 5) && ltb k (5 + p))) || eqb k 4)
four_below_success n p k = elim (ℕ_discrete k 4) [ yes e ↦ rw (e, le-ltb (5 + n) 4 (omega arith), lt-ltb 4 (5 + p) (omega arith)) | no d ↦ by_test d (ltb k 4) refl ]
  where
    by_test : k ≢ 4 → (b : Bool) → ltb k 4 ≡ b
        → (ltb (5 + n) k || (not (ltb k 4) && ltb k (5 + p))) ≡ ((ltb (5 + n) k || (not (ltb k 5) && ltb k (5 + p))) || eqb k 4)
    by_test d true h = let l = ltb-true k 4 h in rw (h, lt-ltb k 5 (omega arith), ne_eqb k 4 d) (sym (or_false (ltb (5 + n) k || false)))
    by_test d false h =
        let l = ltb-false k 4 h in
        rw (h, le-ltb k 5 (omega (arith, d)), ne_eqb k 4 d) (sym (or_false (ltb (5 + n) k || ltb k (5 + p))))

-- What is blank is blank where it stays, and where it does not.
kept_blank : (limit p : ℕ) → ◌≡◌ {A = ℕ × ℕ} (kept limit p (0, 0)) (0, 0)
kept_blank limit p = go (stays limit p (0, 0))
  where
    go : (b : Bool) → ◌≡◌ {A = ℕ × ℕ} (cond b (0, 0) (0, 0)) (0, 0)
    go true = refl
    go false = refl

-- A cell counts where it stays.
stays_kept : (n limit p : ℕ) (k : ℕ × ℕ) → (stays limit p k && out_of_range n p k) ≡ out_of_range n p (kept limit p k)
stays_kept n limit p k = go (stays limit p k)
  where
    go : (b : Bool) → (b && out_of_range n p k) ≡ out_of_range n p (cond b k (0, 0))
    go true = refl
    go false = sym (range_low n p 0 0 (omega arith) (λ e. omega arith))

-- Two numbers that pass the test are 0.
zeros : (a b : ℕ) → (eqb a 0 && eqb b 0) ≡ true → ◌≡◌ {A = ℕ × ℕ} (a, b) (0, 0)
zeros a b = go (eqb a 0) (eqb b 0) refl refl
  where
    go : (x y : Bool) → eqb a 0 ≡ x → eqb b 0 ≡ y → (x && y) ≡ true → ◌≡◌ {A = ℕ × ℕ} (a, b) (0, 0)
    go true true e f h = ap₂ {C = ℕ × ℕ} (λ (x y : ℕ). (x, y)) (eqb-true a 0 e) (eqb-true b 0 f)
    go true false e f h = absurd (true≢false (sym h))
    go false y e f h = absurd (true≢false (sym h))

-- A cell that stays or is blank is not changed.
same_kept : (limit p : ℕ) (k : ℕ × ℕ) → (not (stays limit p k) && not (eqb k.0 0 && eqb k.1 0)) ≡ false → kept limit p k ≡ k
same_kept limit p k = go (stays limit p k) (eqb k.0 0 && eqb k.1 0) refl
  where
    go : (x y : Bool) → (eqb k.0 0 && eqb k.1 0) ≡ y → (not x && not y) ≡ false → cond x k (0, 0) ≡ k
    go true y e h = refl
    go false true e h = sym (zeros k.0 k.1 e)
    go false false e h = absurd (true≢false h)

right_true : (a b : Bool) → (a && b) ≡ true → b ≡ true
right_true true b e = e
right_true false b e = absurd (true≢false (sym e))

-- So many numbers more, none of which passes the test.
some_skip : (test : ℕ → Bool) (m count : ℕ) → ((i : ℕ) → i < count → test (m + i) ≡ false) → some (m + count) test ≡ some m test
some_skip test m zero none = ap (λ (k : ℕ). some k test) (let e : m + 0 ≡ m = omega arith in e)
some_skip test m (suc count) none =
    let e : m + suc count ≡ m + count + 1 = omega arith in
    ap (λ (k : ℕ). some k test) e ∙ some_more (m + count) test
    ∙ ap₂ ◌||◌ (some_skip test m count (λ i l. none i (omega arith))) (none count (omega arith)) ∙ or_false (some m test)

-- ---- A block.

pub block_begins : (T : List ℕ) (start : ℕ) → BlankIf true T start 0
block_begins T start i l = absurd (omega arith)

-- One cell more.
pub block_more : (T : List ℕ) (start i : ℕ) (blank now : Bool) → BlankIf blank T start i → now ≡ (eqb (held_at T (start + i)) 0 && eqb (reach_at T (start + i)) 0)
    → BlankIf (blank && now) T start (i + 1)
block_more T start i false now b e = tt
block_more T start i true false b e = tt
block_more T start i true true b e = λ j l. elim (ℕ_discrete j i) [
  | yes z ↦ subst (λ (k : ℕ). cell_at T (start + k) ≡ (0, 0)) (sym z) (zeros (held_at T (start + i)) (reach_at T (start + i)) (sym e))
  | no d ↦ b j (omega arith)
]

-- The last cells of a row, of a block that ends with it.
pub end_begins : (T : List ℕ) (start n : ℕ) (blank : Bool) → 16 ≤ n + 1 → BlankIf blank T (start + (n + 1 - 16)) 16 → EndBlankIf blank T start n 16
end_begins T start n false l b = tt
end_begins T start n true l b = λ p m k.
    let i : p - (n + 1 - 16) < 16 = omega arith in
    let e : start + p ≡ start + (n + 1 - 16) + (p - (n + 1 - 16)) = omega arith in
    ap (cell_at T) e ∙ b (p - (n + 1 - 16)) i

-- ---- A row.

module _ (n limit : ℕ) (T : List ℕ) (start : ℕ) where
  -- Whether a retained cell is out of range, by the cell at a position.
  abbrev out_at : ℕ → Bool
  out_at p = out_of_range n p (kept limit p (cell_at T (start + p)))

  -- Before the first cell of a row.
  pub look_begins : Looked n limit T start 0 false (limit)
  look_begins = record { says = sym (some_none 0 out_at (λ p l. absurd (omega arith))); low = omega arith; unchanged = λ p l. absurd (omega arith) }

  -- A block of blank cells is skipped.
  module _ (from count : ℕ) (blank : (i : ℕ) → i < count → cell_at T (start + from + i) ≡ (0, 0)) where
    blank_at : (i : ℕ) → i < count → cell_at T (start + (from + i)) ≡ (0, 0)
    blank_at i l = let e : start + (from + i) ≡ start + from + i = omega arith in ap (cell_at T) e ∙ blank i l

    blank_kept : (i : ℕ) → i < count → kept limit (from + i) (cell_at T (start + (from + i))) ≡ (0, 0)
    blank_kept i l = ap (kept limit (from + i)) (blank_at i l) ∙ kept_blank limit (from + i)

    blank_in : (i : ℕ) → i < count → out_at (from + i) ≡ false
    blank_in i l = ap (out_of_range n (from + i)) (blank_kept i l) ∙ range_low n (from + i) 0 0 (omega arith) (λ e. omega arith)

    look_skips : {out : Bool} {first : ℕ} → Looked n limit T start from out first → Looked n limit T start (from + count) out first
    look_skips {first = first} g = record {
      says = g.says ∙ sym (some_skip out_at from count blank_in);
      low = g.low;
      unchanged = λ p l m. by_test p (ltb p from) refl l m;
    }
      where
        by_test : (p : ℕ) (b : Bool) → ltb p from ≡ b → p < from + count → p < first → kept limit p (cell_at T (start + p)) ≡ cell_at T (start + p)
        by_test p true h l m = g.unchanged p (ltb-true p from h) m
        by_test p false h l m =
            let a = ltb-false p from h in
            let e : p ≡ from + (p - from) = omega arith in
            let k : p - from < count = omega arith in
            subst (λ (q : ℕ). kept limit q (cell_at T (start + q)) ≡ cell_at T (start + q)) (sym e) (blank_kept (p - from) k ∙ sym (blank_at (p - from) k))

  pub look_over : (count : ℕ) {from first : ℕ} {out : Bool} (b : Bool) → not b ≡ false → BlankIf b T (start + from) count → Looked n limit T start from out first
      → Looked n limit T start (from + count) out first
  look_over count {from} true e blank g = look_skips from count blank g
  look_over count false e blank g = absurd (true≢false e)

  -- So are the cells that are left at its end.
  pub look_ends : {from first : ℕ} {out : Bool} (b : Bool) → b ≡ true → from ≤ n + 1 → n + 1 < from + 16 → EndBlankIf b T start n 16 → Looked n limit T start from out first
      → Looked n limit T start (n + 1) out first
  look_ends {from} {first} {out} true e l m blank g =
      let whole : from + (n + 1 - from) ≡ n + 1 = omega arith in
      subst (λ (k : ℕ). Looked n limit T start k out first) whole
      (look_skips from (n + 1 - from)
      (λ i k. let f : start + from + i ≡ start + (from + i) = omega arith in ap (cell_at T) f ∙ blank (from + i) (omega arith) (omega arith)) g)
  look_ends false e l m blank g = absurd (true≢false (sym e))

  -- Before a cell of those from the position `from` on; `changes`: one of them does not hold what is retained.
  pub record Looking (from position : ℕ) (out changes : Bool) : Type 0 where
    pub past : from ≤ position
    pub says : out ≡ row_out n limit T start position
    pub unchanged : changes ≡ false → (p : ℕ) → from ≤ p → p < position → kept limit p (cell_at T (start + p)) ≡ cell_at T (start + p)

  pub looking_begins : {from first : ℕ} {out : Bool} → Looked n limit T start from out first → Looking from from out false
  looking_begins g = record { past = omega arith; says = g.says; unchanged = λ e p l m. absurd (omega arith) }

  -- One cell more.
  pub looking_on : {from position : ℕ} {out changes : Bool} → Looking from position out changes → {stay far none : Bool}
      → stay ≡ stays limit position (cell_at T (start + position)) → far ≡ out_of_range n position (cell_at T (start + position))
      → none ≡ (eqb (held_at T (start + position)) 0 && eqb (reach_at T (start + position)) 0)
      → Looking from (position + 1) (out || (stay && far)) (changes || (not stay && not none))
  looking_on {from} {position} {out} {changes} g {stay} {far} {none} e f h = record {
    past = let l = g.past in omega arith;
    says = ap₂ ◌||◌ g.says (ap₂ ◌&&◌ e f ∙ stays_kept n limit position (cell_at T (start + position))) ∙ sym (some_more position out_at);
    unchanged = λ z p l m.
        let both = neither_true changes (not stay && not none) z in
        elim (ℕ_discrete p position) [
          | yes q ↦
              subst (λ (a : ℕ). kept limit a (cell_at T (start + a)) ≡ cell_at T (start + a)) (sym q)
              (same_kept limit position (cell_at T (start + position)) (ap₂ (λ (a b : Bool). not a && not b) (sym e) (sym h) ∙ both.1))
          | no d ↦ g.unchanged both.0 p l (omega arith)
        ];
  }

  -- After the last of them: one that stays is out of range;
  module _ {from to first : ℕ} {out changes : Bool} (g : Looked n limit T start from false first) (h : Looking from to out changes) where
    pub look_refuses : out ≡ true → row_out n limit T start to ≡ true
    look_refuses e = sym h.says ∙ e

    -- or none is, and where one is changed the position is at most theirs;
    pub look_changes : out ≡ false → Looked n limit T start to false (min first from)
    look_changes e = record {
      says = sym e ∙ h.says;
      low = let k = g.low in omega arith;
      unchanged = λ p a b. g.unchanged p (omega arith) (omega arith);
    }

    -- else it stays.
    pub look_stays : out ≡ false → changes ≡ false → Looked n limit T start to false first
    look_stays e f = record { says = sym e ∙ h.says; low = g.low; unchanged = λ p l m. by_test p (ltb p from) refl l m }
      where
        by_test : (p : ℕ) (b : Bool) → ltb p from ≡ b → p < to → p < first → kept limit p (cell_at T (start + p)) ≡ cell_at T (start + p)
        by_test p true i l m = g.unchanged p (ltb-true p from i) m
        by_test p false i l m = h.unchanged f p (ltb-false p from i) l

-- ---- All rows.

-- A row by its pairs: a retained cell of the variable after so many rows is out of range.
abbrev variable_out : ℕ → ℕ → List ℕ → ℕ → Bool
variable_out n limit T i = some (n + 1) (λ p. out_of_range n p (retained limit n T (suc i at p)))

variable_row : (n limit : ℕ) (T : List ℕ) (i : ℕ) → variable_out n limit T i ≡ row_out n limit T (cells i n) (n + 1)
variable_row n limit T i =
    let e : suc i - 1 ≡ i = omega arith in
    ap (λ (a : ℕ). some (n + 1) (λ p. out_of_range n p (kept limit p (cell_at T (a * (n + 1) + p))))) e

-- Before a row: no row before it has a retained cell out of range, and the first position of each is noted.
pub record RowsPassing (n limit : ℕ) (T firsts : List ℕ) (row : ℕ) : Type 0 where
  pub each : (i : ℕ) → i < row → some (n + 1) (λ p. out_of_range n p (retained limit n T (suc i at p))) ≡ false
  pub noted : Firsts row n limit T firsts

module _ (n limit : ℕ) (T : List ℕ) where
  pub rows_begin : (firsts : List ℕ) → RowsPassing n limit T firsts 0
  rows_begin firsts = record {
    each = λ i l. absurd (omega arith);
    noted = record { low = λ i l. absurd (omega arith); unchanged = λ i l. absurd (omega arith) };
  }

  module _ {firsts : List ℕ} {row : ℕ} (passing : RowsPassing n limit T firsts row) where
    module _ {first : ℕ} (found : Looked n limit T (cells row n) (n + 1) false first) where
      -- The first position of this row is noted, and the others stay.
      first_here : row < length firsts → get_or (set firsts row first) row 0 ≡ first
      first_here l = get_or-set_same firsts row first 0 l

      first_there : (i : ℕ) → i ≢ row → get_or (set firsts row first) i 0 ≡ get_or firsts i 0
      first_there i d = get_or-set_other firsts row i first 0 d

      unchanged_here : limit ≤ n → Unchanged limit T (cells row n) first
      unchanged_here l p m = let h = found.low in found.unchanged p (omega arith) m

      noted_more : limit ≤ n → row < length firsts → Firsts (row + 1) n limit T (set firsts row first)
      noted_more l here = record {
        low = λ i h. elim (ℕ_discrete i row) [
          | yes z ↦ subst (λ (k : ℕ). k ≤ limit) (sym (ap (λ (k : ℕ). get_or (set firsts row first) k 0) z ∙ first_here here)) found.low
          | no d ↦ subst (λ (k : ℕ). k ≤ limit) (sym (first_there i d)) (passing.noted.low i (omega arith))
        ];
        unchanged = λ i h. elim (ℕ_discrete i row) [
          | yes z ↦
              subst (λ (k : ℕ). Unchanged limit T (cells k n) (get_or (set firsts row first) k 0)) (sym z)
              (subst (Unchanged limit T (cells row n)) (sym (first_here here)) (unchanged_here l))
          | no d ↦ subst (Unchanged limit T (cells i n)) (sym (first_there i d)) (passing.noted.unchanged i (omega arith))
        ];
      }

      pub rows_go_on : limit ≤ n → row < length firsts → RowsPassing n limit T (set firsts row first) (row + 1)
      rows_go_on l here = record {
        each = λ i k. elim (ℕ_discrete i row) [
          | yes z ↦ ap (variable_out n limit T) z ∙ variable_row n limit T row ∙ sym found.says
          | no d ↦ passing.each i (omega arith)
        ];
        noted = noted_more l here;
      }

    -- What stands behind the positions that are noted does not matter.
    pub rows_noted : (v : ℕ) (rest : List ℕ) → row ≡ v → v ≤ length firsts → Firsts v n limit T (firsts ++ rest)
    rows_noted v rest e l = record {
      low = λ i m. rw (get_or_append_left firsts rest 0 i (omega arith)) (passing.noted.low i (omega arith));
      unchanged = λ i m. rw (get_or_append_left firsts rest 0 i (omega arith)) (passing.noted.unchanged i (omega arith));
    }

    pub rows_in : (v : ℕ) → row ≡ v → cells_out v n (retained limit n T) ≡ false
    unfolding cells_out
    rows_in v e = some_none v (variable_out n limit T) (λ i m. passing.each i (omega arith))

  -- A row with a cell out of range.
  pub rows_out : {v row : ℕ} → row < v → row_out n limit T (cells row n) (n + 1) ≡ true → cells_out v n (retained limit n T) ≡ true
  unfolding cells_out
  rows_out {v} {row} l e = some_one v (variable_out n limit T) row l (variable_row n limit T row ∙ e)

-- Where a row up to a position has a cell out of range, the whole row has.
pub row_longer : (n limit : ℕ) (T : List ℕ) (start : ℕ) {count : ℕ} → count ≤ n + 1 → row_out n limit T start count ≡ true → row_out n limit T start (n + 1) ≡ true
row_longer n limit T start {count} l e = go (row_out n limit T start (n + 1)) refl
  where
    go : (b : Bool) → row_out n limit T start (n + 1) ≡ b → row_out n limit T start (n + 1) ≡ true
    go true f = f
    go false f =
        absurd (true≢false (sym e ∙ some_none count (out_at n limit T start) (λ i m. some_each (n + 1) (out_at n limit T start) f i (omega arith))))
