-- The refusals of storing and restoring. Assumes nothing.
use mathlib.Core.Bool.{Bool, false, cond, not}
use mathlib.Core.Logic.{◌↔◌}
use mathlib.Core.Path.{◌≡◌, ap}
use Prim.Native.Nat.{ℕ, ◌*◌, ◌≤◌}
use native.Mathlib.Omega.{arith}
use lib.Dec.{ltb}
use borrow.Author.Tests.{ltb-false, le-ltb, not-false}
use Rattle.grammar.specs.Refusal.{refused, accepted, checked}
use Rattle.grammar.specs.Rule.{within}
use Rattle.grammar.proofs.Fitting.{neither_true, within_bounds, within_both}
use Rattle.grammar.proofs.Refusals.{refused_exactly, accepted_clear, refused_each}
use Rattle.schema.specs.Table.{cells}
use Rattle.archive.specs.Refusals.{variables_out, length_out, tables_short, archive_condition, archive_order, ArchiveRefuses, movable}

module _ (v n source target : ℕ) where
  -- By the three tests.
  pub movable_by : (a b c : Bool) → variables_out v ≡ a → length_out n ≡ b → tables_short v n source target ≡ c
      → movable v n source target ≡ cond a (refused 3 0) (cond b (refused 6 0) (cond c (refused 20 0) (accepted tt)))
  unfolding movable checked archive_condition
  movable_by a b c e f g = rw (e, f, g)

  -- Refused with a number and a line exactly if theirs is the first condition that holds.
  pub movable_refused : (x l : ℕ) → movable v n source target ≡ refused x l ↔ ArchiveRefuses v n source target x l
  unfolding movable
  movable_refused x l = refused_exactly (archive_condition v n source target) archive_order tt x l

  -- The number is small.
  pub refusal_small : (x l : ℕ) → movable v n source target ≡ refused x l → x ≤ 20
  unfolding movable
  refusal_small x l e = refused_each (λ k. k ≤ 20) (archive_condition v n source target) archive_order tt x l (omega arith) e

  -- What is not refused.
  pub record Clear : Type 0 where
    pub some : 1 ≤ v
    pub few : v ≤ 256
    pub short : n ≤ 4096
    pub source_room : 2 * cells v n ≤ source
    pub target_room : 2 * cells v n ≤ target

  pub clear : movable v n source target ≡ accepted tt → Clear
  unfolding movable archive_condition
  clear e =
      let c = (accepted_clear (archive_condition v n source target) archive_order tt).0 e in
      let b = within_bounds 1 256 v (not-false (within 1 256 v) c.0) in
      let s = neither_true (ltb source (2 * cells v n)) (ltb target (2 * cells v n)) c.1.1.0 in
      record {
        some = b.0;
        few = b.1;
        short = ltb-false 4096 n c.1.0;
        source_room = ltb-false source (2 * cells v n) s.0;
        target_room = ltb-false target (2 * cells v n) s.1;
      }

-- Where the conditions do not hold, it is accepted.
pub movable_where : (v n source target : ℕ) → Clear v n source target → movable v n source target ≡ accepted tt
movable_where v n source target c =
    movable_by v n source target false false false (ap not (within_both 1 256 v c.some c.few)) (le-ltb 4096 n c.short)
    (rw (le-ltb source (2 * cells v n) c.source_room, le-ltb target (2 * cells v n) c.target_room))
