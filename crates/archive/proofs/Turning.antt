-- Rows of cells turned into columns, cell by cell and column by column. Assumes nothing.
use mathlib.Core.Bool.{Bool, true, false}
use mathlib.Core.List.{List}
use mathlib.Core.Logic.{◌≢◌}
use mathlib.Core.Path.{◌≡◌, refl, sym, ap, ap₂, ◌∙◌, subst}
use Prim.Native.Nat.{ℕ, ◌+◌, ◌-◌, ◌*◌, ◌/◌, ◌≤◌, ◌<◌}
use native.Mathlib.Decide.{ℕ_discrete}
use native.Mathlib.Nat.{zero-mul, suc-mul, add-mul, mul-le-mul_right, mul-le-mul, div-add-mod', mod-lt}
use native.Mathlib.Numerals.{add-one}
use native.Mathlib.Omega.{arith}
use lib.Dec.{ltb}
use lib.ListN.{length, drop}
use borrow.Author.Tests.{ltb-true, ltb-false}
use Rattle.schema.specs.Cells.{held_at, reach_at, cell_at, stored, HasCell}
use Rattle.schema.proofs.Cell.{rows_apart}
use Rattle.schema.proofs.Cells.{stored_cell, cell_elsewhere, stored_later, stored_length, later_from}
use Rattle.archive.specs.Turn.{AcrossReady, Across, BlockReady, BlockTurned, BlocksReady, BlocksTurned, Turned}

-- The next row begins a row further on.
pub next_row : (i k : ℕ) → (i + 1) * k ≡ i * k + k
next_row i k = ap (λ (a : ℕ). a * k) (add-one i) ∙ suc-mul i k

-- ---- One cell: what is loaded of one table is stored in the other.

pub copies_cell : (S T : List ℕ) (from to : ℕ) {T' : List ℕ} {c m : ℕ} → c ≡ held_at S from → m ≡ reach_at S from → T' ≡ stored T to c m
    → T' ≡ stored T to (held_at S from) (reach_at S from)
copies_cell S T from to e f g = g ∙ ap₂ (λ (a b : ℕ). stored T to a b) e f

-- ---- The cells of rows: a number has one row and one column.

apart : (k l i j rows : ℕ) → i < rows → k < l → k * rows + i ≡ l * rows + j → ⊥
apart k l i j rows h m e = let a = rows_apart k l rows m in omega arith

one_place : (k l i j rows : ℕ) → i < rows → j < rows → k * rows + i ≡ l * rows + j → (k ≡ l) × (i ≡ j)
one_place k l i j rows h g e = elim (ℕ_discrete k l) [
  | yes f ↦ let q = ap (λ (a : ℕ). a * rows) f in (f, omega arith)
  | no d ↦ absurd (by_test d (ltb k l) refl)
]
  where
    by_test : k ≢ l → (b : Bool) → ltb k l ≡ b → ⊥
    by_test d true t = apart k l i j rows h (ltb-true k l t) e
    by_test d false t = let m = ltb-false k l t in apart l k j i rows g (omega arith) (sym e)

-- ---- One row of a block.

pub across_begins : (rows width start row from : ℕ) (S T : List ℕ) → Across rows width start row from 0 S T T
across_begins rows width start row from S T =
    record { copies = λ k l. absurd (omega arith); others = λ k i h d. refl; before = λ k l. refl; later = refl; size = refl }

module _ {rows width start row from : ℕ} {S T₀ T : List ℕ} {copied : ℕ} (ready : AcrossReady rows width start row from S T₀)
    (done : Across rows width start row from copied S T₀ T) (left : copied < width) where
  -- The number that the next cell goes to.
  abbrev to : ℕ
  to = start + (copied * rows + row)

  pub inside_block : copied * rows + row < width * rows
  inside_block = let a = rows_apart copied width rows left in let b = ready.inside in omega arith

  -- It lies in both tables.
  pub cell_inside : HasCell S (from + copied) × HasCell T to
  cell_inside =
      let a = ready.source_room in
      let b = ready.target_room in
      let c = inside_block in
      let z = done.size in
      (omega arith, omega arith)

  module _ {T' : List ℕ} (copies : T' ≡ stored T to (held_at S (from + copied)) (reach_at S (from + copied))) where
    new_cell : cell_at T' to ≡ cell_at S (from + copied)
    new_cell = ap (λ (U : List ℕ). cell_at U to) copies ∙ stored_cell T to (held_at S (from + copied)) (reach_at S (from + copied)) cell_inside.1

    old_cell : (k : ℕ) → k ≢ to → cell_at T' k ≡ cell_at T k
    old_cell k d = ap (λ (U : List ℕ). cell_at U k) copies ∙ cell_elsewhere T to k (held_at S (from + copied)) (reach_at S (from + copied)) d

    -- Another cell of the block.
    other_cell : (k i : ℕ) → i < rows → ((k ≡ copied) × (i ≡ row) → ⊥) → cell_at T' (start + (k * rows + i)) ≡ cell_at T (start + (k * rows + i))
    other_cell k i h d = old_cell (start + (k * rows + i)) (λ q. d (one_place k copied i row rows h ready.inside (omega arith)))

    pub across_goes_on : Across rows width start row from (copied + 1) S T₀ T'
    across_goes_on = record {
      copies = λ k l. elim (ℕ_discrete k copied) [
        | yes e ↦ rw e new_cell
        | no d ↦ other_cell k row ready.inside (λ q. d q.0) ∙ done.copies k (omega arith)
      ];
      others = λ k i h d. other_cell k i h (λ q. d q.1) ∙ done.others k i h d;
      before = λ k l. old_cell k (λ q. omega arith) ∙ done.before k l;
      later =
          let N = start + width * rows in
          let a = inside_block in
          ap (drop (2 * N)) copies ∙ stored_later N T to (held_at S (from + copied)) (reach_at S (from + copied)) (omega arith) ∙ done.later;
      size = ap length copies ∙ stored_length T to (held_at S (from + copied)) (reach_at S (from + copied)) ∙ done.size;
    }

-- ---- One block.

pub block_begins : (rows columns column width start : ℕ) (S T : List ℕ) → BlockTurned rows columns column width start 0 S T T
block_begins rows columns column width start S T = record { turns = λ k i l h. absurd (omega arith); before = λ k l. refl; later = refl; size = refl }

module _ {rows columns column width start : ℕ} {S T₀ T : List ℕ} {row : ℕ} (ready : BlockReady rows columns column width start S T₀)
    (done : BlockTurned rows columns column width start row S T₀ T) (left : row < rows) where
  -- What the next row is handed.
  pub across_ready : AcrossReady rows width start row (row * columns + column) S T
  across_ready =
      let a = rows_apart row rows columns left in
      let b = ready.inside in
      let c = ready.source_room in
      record {
        few_rows = ready.few_rows;
        few = let f = ready.few_columns in omega arith;
        inside = left;
        source_room = omega arith;
        target_room = let d = ready.target_room in let z = done.size in omega arith;
      }

  pub block_goes_on : {T' : List ℕ} → Across rows width start row (row * columns + column) width S T T' → BlockTurned rows columns column width start (row + 1) S T₀ T'
  block_goes_on across = record {
    turns = λ k i l h. elim (ℕ_discrete i row) [
      | yes e ↦ let q : row * columns + column + k ≡ row * columns + (column + k) = omega arith in
          rw e (across.copies k l ∙ ap (λ (a : ℕ). cell_at S a) q)
      | no d ↦ across.others k i (omega arith) d ∙ done.turns k i l (omega arith)
    ];
    before = λ k l. across.before k l ∙ done.before k l;
    later = across.later ∙ done.later;
    size = across.size ∙ done.size;
  }

-- ---- Block by block.

-- So many whole blocks are left from the first column on.
module _ {rows columns first width : ℕ} {S T : List ℕ} (ready : BlocksReady rows columns first width S T) where
  abbrev blocks : ℕ
  blocks = (columns - first) / width

  pub blocks_inside : first + blocks * width ≤ columns
  blocks_inside = let l = ready.inside in let d = div-add-mod' (columns - first) width in omega arith

  pub blocks_last : columns < first + blocks * width + width
  blocks_last = let d = div-add-mod' (columns - first) width in let r = mod-lt (columns - first) {m = width} ready.some in omega arith

  pub block_inside : (block : ℕ) → block < blocks → first + block * width + width ≤ columns
  block_inside block l = let a = rows_apart block blocks width l in let b = blocks_inside in omega arith

  -- The number of a row's first cell is small.
  pub row_small : (k : ℕ) → k ≤ columns → k * rows ≤ 4097 * 4097
  row_small k l = let m = ready.room.few_columns in let few : k ≤ 4097 = omega arith in mul-le-mul few ready.room.few_rows

-- The columns from the first on are turned up to one.
pub turning_begins : (rows columns first : ℕ) (S T : List ℕ) → Turned rows columns first first S T T
turning_begins rows columns first S T = record { turns = λ i j h m k. absurd (omega arith); before = λ k h. refl; later = refl; size = refl }

module _ {rows columns first width : ℕ} {S T₀ T : List ℕ} {column : ℕ} (ready : BlocksReady rows columns first width S T₀)
    (turned : Turned rows columns first column S T₀ T) (from_first : first ≤ column) (left : column + width ≤ columns) where
  next_start : column * rows + width * rows ≡ (column + width) * rows
  next_start = let n = add-mul column width rows in omega arith

  -- What the next block is handed.
  pub block_ready : BlockReady rows columns column width (column * rows) S T
  block_ready = record {
    few_rows = ready.room.few_rows;
    few_columns = ready.room.few_columns;
    inside = left;
    source_room = ready.room.source_room;
    target_room =
        let e = next_start in
        let a : (column + width) * rows ≤ columns * rows = mul-le-mul_right rows left in
        let b = ready.room.target_room in
        let z = turned.size in
        omega arith;
  }

  module _ {T' : List ℕ} (block : BlockTurned rows columns column width (column * rows) rows S T T') where
    -- A column of the block.
    in_block : (i j : ℕ) → i < rows → column ≤ j → j < column + width → cell_at T' (j * rows + i) ≡ cell_at S (i * columns + j)
    in_block i j h l m =
        let q : column + (j - column) ≡ j = omega arith in
        let n = add-mul column (j - column) rows in
        let p = ap (λ (a : ℕ). a * rows) q in
        let e : j * rows + i ≡ column * rows + ((j - column) * rows + i) = omega arith in
        ap (λ (a : ℕ). cell_at T' a) e ∙ block.turns (j - column) i (omega arith) h ∙ ap (λ (a : ℕ). cell_at S (i * columns + a)) q

    before_start : (k : ℕ) → k < first * rows → k < column * rows
    before_start k l = let a : first * rows ≤ column * rows = mul-le-mul_right rows from_first in omega arith

    by_test : (i j : ℕ) → i < rows → first ≤ j → j < column + width → (b : Bool) → ltb j column ≡ b → cell_at T' (j * rows + i) ≡ cell_at S (i * columns + j)
    by_test i j h l m true e =
        let k = ltb-true j column e in
        let a = rows_apart j column rows k in
        block.before (j * rows + i) (omega arith) ∙ turned.turns i j h l k
    by_test i j h l m false e = in_block i j h (ltb-false j column e) m

    pub turning_goes_on : Turned rows columns first (column + width) S T₀ T'
    turning_goes_on = record {
      turns = λ i j h l m. by_test i j h l m (ltb j column) refl;
      before = λ k l. block.before k (before_start k l) ∙ turned.before k l;
      later =
          let a = next_start in
          ap (λ (k : ℕ). drop (2 * k) T') (sym a) ∙ block.later
          ∙ later_from (2 * (column * rows)) (2 * (column * rows + width * rows)) T T₀ (omega arith) turned.later ∙ ap (λ (k : ℕ). drop (2 * k) T₀) a;
      size = block.size ∙ turned.size;
    }

-- ---- All columns: blocks of some, and then one by one.

pub all_turned : {rows columns width left last : ℕ} {S T T' T'' : List ℕ} → BlocksTurned rows columns 0 width S T T' left → BlocksTurned rows columns left 1 S T' T'' last
    → Turned rows columns 0 columns S T T''
all_turned {rows} {columns} {width} {left} {last} {S} {T} {T'} {T''} blocks rest =
    let a = rest.inside in
    let b = rest.last in
    let e : last ≡ columns = omega arith in
    let r = subst (λ (k : ℕ). Turned rows columns left k S T' T'') e rest.turned in
    let f = blocks.inside in
    let g : left * rows ≤ columns * rows = mul-le-mul_right rows f in
    record {
      turns = λ i j h l m. by_test r i j h m (ltb j left) refl;
      before = λ k h. let z = zero-mul rows in absurd (omega arith);
      later = r.later ∙ later_from (2 * (left * rows)) (2 * (columns * rows)) T' T (omega arith) blocks.turned.later;
      size = r.size ∙ blocks.turned.size;
    }
  where
    by_test : Turned rows columns left columns S T' T'' → (i j : ℕ) → i < rows → j < columns → (b : Bool) → ltb j left ≡ b
        → cell_at T'' (j * rows + i) ≡ cell_at S (i * columns + j)
    by_test r i j h m true e =
        let k = ltb-true j left e in
        let a = rows_apart j left rows k in
        r.before (j * rows + i) (omega arith) ∙ blocks.turned.turns i j h (omega arith) k
    by_test r i j h m false e = r.turns i j h (ltb-false j left e) m
