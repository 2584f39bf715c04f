-- What any results that meet the contracts of storing and restoring say. Assumes nothing.
use mathlib.Core.List.{List}
use mathlib.Core.Logic.{◌↔◌}
use mathlib.Core.Path.{◌≡◌, refl, sym, ◌∙◌, subst}
use Prim.Native.Nat.{ℕ, ◌*◌, ◌≤◌, ◌<◌}
use native.Mathlib.Omega.{arith}
use lib.ListN.{length}
use Rattle.grammar.specs.Refusal.{Checked, refused, accepted}
use Rattle.schema.specs.Cells.{cell_at}
use Rattle.schema.specs.Table.{cells}
use Rattle.schema.proofs.SameCells.{same_cells}
use Rattle.kept.proofs.FirstCells.{joined, joined_cell, joined_later, joined_length}
use Rattle.archive.specs.Archive.{Stored, told, Moved, Unless, MovePromise}
use Rattle.archive.specs.Layout.{Layout}
use Rattle.archive.specs.Refusals.{ArchiveRefuses, movable}
use Rattle.archive.specs.StoredTable.{StoredTable}
use Rattle.archive.proofs.Layouts.{pair_in}
use Rattle.archive.proofs.Refusing.{Clear, clear, movable_refused, movable_where, refusal_small}
use Rattle.archive.proofs.Tallied.{tallied}

-- ---- Of one call, from any layout to any.

module _ (from to : Layout) (v n : ℕ) (S T T' : List ℕ) (r : Stored) (promise : MovePromise from to v n S T T' r) where
  given : (o : Checked (Unit {0})) → movable v n (length S) (length T) ≡ o → Unless o (Moved from to v n S T T') T T' (told r)
  given o e = subst (λ (o : Checked (Unit {0})). Unless o (Moved from to v n S T T') T T' (told r)) e promise

  answer_is : told r ≡ movable v n (length S) (length T)
  answer_is = by_test (movable v n (length S) (length T)) refl
    where
      by_test : (o : Checked (Unit {0})) → movable v n (length S) (length T) ≡ o → told r ≡ movable v n (length S) (length T)
      by_test (refused x l) e = (given (refused x l) e).0 ∙ sym e
      by_test (accepted u) e = (given (accepted u) e).0 ∙ sym e

  -- Demand 1: it is refused with a number exactly where its condition is the first that holds,
  pub refused_exactly : (x l : ℕ) → (told r ≡ refused x l) ↔ ArchiveRefuses v n (length S) (length T) x l
  refused_exactly x l =
      let a = movable_refused v n (length S) (length T) x l in
      (λ e. a.0 (sym answer_is ∙ e), λ k. answer_is ∙ a.1 k)

  -- and then the target is as it was.
  pub then_unchanged : (x l : ℕ) → told r ≡ refused x l → T' ≡ T
  then_unchanged x l e = (given (refused x l) (sym answer_is ∙ e)).1

  pub number_small : (x l : ℕ) → told r ≡ refused x l → x ≤ 20
  number_small x l e = refusal_small v n (length S) (length T) x l (sym answer_is ∙ e)

  -- Else there are 1 to 256 variables, at most 4,096 bytes, and room in both tables,
  pub then_clear : told r ≡ accepted tt → Clear v n (length S) (length T)
  then_clear e = clear v n (length S) (length T) (sym answer_is ∙ e)

  -- and the cells are moved.
  pub then_moved : told r ≡ accepted tt → Moved from to v n S T T'
  then_moved e = (given (accepted tt) (sym answer_is ∙ e)).1

  -- Where these are so, it is done.
  pub done_where : Clear v n (length S) (length T) → told r ≡ accepted tt
  done_where c = answer_is ∙ movable_where v n (length S) (length T) c

-- ---- One result.

moved_one : {from to : Layout} {v n : ℕ} {S T T' T'' : List ℕ} → 1 ≤ v → Moved from to v n S T T' → Moved from to v n S T T'' → T' ≡ T''
moved_one {to = to} {v = v} {n = n} {T' = T'} {T'' = T''} some one other =
    same_cells (cells v n) T' T'' each (one.later ∙ sym other.later) (one.size ∙ sym other.size)
  where
    each : (k : ℕ) → k < cells v n → cell_at T' k ≡ cell_at T'' k
    each k l =
        let x = pair_in to v n some k l in
        subst (λ (i : ℕ). cell_at T' i ≡ cell_at T'' i) x.3 (one.moves x.0 x.1 x.2 ∙ sym (other.moves x.0 x.1 x.2))

one_of : (v n : ℕ) (from to : Layout) (S T T' T'' : List ℕ) (r q : Stored) → MovePromise from to v n S T T' r → MovePromise from to v n S T T'' q
    → (told r ≡ told q) × (T' ≡ T'')
one_of v n from to S T T' T'' r q one other =
    let same = answer_is from to v n S T T' r one ∙ sym (answer_is from to v n S T T'' q other) in
    (same, by_answer (told r) refl same)
  where
    by_answer : (o : Checked (Unit {0})) → told r ≡ o → told r ≡ told q → T' ≡ T''
    by_answer (refused x l) e same = then_unchanged from to v n S T T' r one x l e ∙ sym (then_unchanged from to v n S T T'' q other x l (sym same ∙ e))
    by_answer (accepted tt) e same =
        moved_one (then_clear from to v n S T T' r one e).some (then_moved from to v n S T T' r one e) (then_moved from to v n S T T'' q other (sym same ∙ e))

-- ---- There and back.

moved_back : {from to : Layout} {v n : ℕ} {S T T' U U' : List ℕ} → 1 ≤ v → 2 * cells v n ≤ length S → 2 * cells v n ≤ length U → Moved from to v n S T T'
    → Moved to from v n T' U U' → U' ≡ joined (2 * cells v n) S U
moved_back {from} {v = v} {n = n} {S = S} {U = U} {U' = U'} some source_room room there back =
    same_cells (cells v n) U' (joined (2 * cells v n) S U) each (back.later ∙ sym (joined_later (2 * cells v n) S U source_room))
    (back.size ∙ sym (joined_length (2 * cells v n) S U source_room room))
  where
    each : (k : ℕ) → k < cells v n → cell_at U' k ≡ cell_at (joined (2 * cells v n) S U) k
    each k l =
        let x = pair_in from v n some k l in
        subst (λ (i : ℕ). cell_at U' i ≡ cell_at S i) x.3 (back.moves x.0 x.1 x.2 ∙ there.moves x.0 x.1 x.2)
        ∙ sym (joined_cell (cells v n) S U source_room k l)

back_again : (v n : ℕ) (from to : Layout) (S T T' : List ℕ) (r : Stored) → MovePromise from to v n S T T' r → told r ≡ accepted tt
    → (U U' : List ℕ) (q : Stored) → 2 * cells v n ≤ length U → MovePromise to from v n T' U U' q → (told q ≡ accepted tt) × (U' ≡ joined (2 * cells v n) S U)
back_again v n from to S T T' r there done U U' q room back =
    let c = then_clear from to v n S T T' r there done in
    let m = then_moved from to v n S T T' r there done in
    let accepts = done_where to from v n T' U U' q back
    (record { some = c.some; few = c.few; short = c.short; source_room = let a = c.target_room in let z = m.size in omega arith; target_room = room }) in
    (accepts, moved_back c.some c.source_room room m (then_moved to from v n T' U U' q back accepts))

-- ---- Order 9, sentence by sentence.

pub stored_table : (v n : ℕ) → StoredTable v n
stored_table v n = record {
  one_result = one_of v n;
  restored = back_again v n;
  tally_same = λ from to S T T' r promise done. tallied (then_moved from to v n S T T' r promise done);
}
