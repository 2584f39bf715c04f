-- From the end of the walk to the table that a question leaves. Assumes nothing.
use mathlib.Core.Path.{◌≡◌, refl, sym, ap, ◌∙◌, subst}
use mathlib.Core.List.Memᴰ
use mathlib.Core.List.{List, [], ◌∷◌, Memᴰ}
use mathlib.Core.Logic.{◌≢◌}
use Prim.Native.Nat.{ℕ, ◌*◌, ◌≤◌, ◌<◌}
use native.Mathlib.Decide.{ℕ_discrete}
use native.Mathlib.Omega.{arith}
use lib.ListN.{length}
use Rattle.grammar.specs.Rule.{Rule}
use Rattle.schema.specs.Cells.{held_at}
use Rattle.schema.specs.Derivation.{Pair, ◌at◌, Outcome}
use Rattle.schema.specs.Table.{cells, decided}
use Rattle.schema.proofs.Cell.{pair_of, cell_pair, pair_within}
use Rattle.step.specs.Codes.{open_mark}
use Rattle.finish.specs.Closing.{CloseReady, Closes}
use Rattle.walk.specs.Walk.{depth_of, TableEnds, WalkEnds}
use Rattle.step.specs.declared.Walk.{Walk}
use Rattle.walk.proofs.Decided.{decided_same}

-- Closing decides no cell anew.
pub closes_counts : {N c : ℕ} (T T' : List ℕ) → c ≢ 0 → Closes N c T T' → decided N T' ≡ decided N T
closes_counts {N} T T' d h =
    decided_same T T' N (λ i l e. (h.others i (λ o. omega arith)).0 ∙ e) (λ i l f. elim (ℕ_discrete (held_at T i) open_mark) [
      | yes o ↦ λ e. d (sym (h.opened i l o).0 ∙ e)
      | no n ↦ λ e. f (sym (h.others i n).0 ∙ e)
    ])

module _ {rule : ℕ → Rule} {s : List ℕ} {v : ℕ} {x : Pair} {O T U W : List ℕ} {r : Walk} (ends : WalkEnds rule s v x O T U W r) where
  -- What the call to close is handed.
  pub close_ready : (B q c : ℕ) → v ≤ 256 → length s ≤ 4096 → c ≢ open_mark → 2 * cells v (length s) ≤ length O → cells v (length s) ≤ length U
      → (ps : List Pair) × (ends.opens ≡ (B at q) ∷ ps) → CloseReady (length s) v B q (depth_of r) c 0 T W
  close_ready B q c few short d room work_room t =
      let z = ends.table.size in
      let y = ends.work_size in
      record {
        few = few;
        short = short;
        not_open = d;
        no_reach = refl;
        room = omega arith;
        work_room = omega arith;
        deep = ends.deep;
        root = x;
        rest = t.0;
        trail = rw (← t.1) ends.trail;
        within_all = λ C D m. (ends.table.trail_open C D (subst (Memᴰ (C at D)) (sym t.1) m)).0;
        open_all = λ C D m. (ends.table.trail_open C D (subst (Memᴰ (C at D)) (sym t.1) m)).1;
        on_trail = λ C D i h. subst (Memᴰ (C at D)) t.1 (ends.table.on_trail C D i h);
      }

module _ {rule : ℕ → Rule} {s : List ℕ} {v : ℕ} {x : Pair} {O T : List ℕ} {o : Outcome} {named : Pair} {opens : List Pair}
    (ends : TableEnds rule s v x O T o named opens) where
  -- Where nothing is open.
  pub no_open : opens ≡ [] → (i : ℕ) → i < cells v (length s) → held_at T i ≢ open_mark
  no_open e i l h =
      let o = ends.on_trail _ _ (pair_within v (length s) i l) (ap (λ (j : ℕ). held_at T j) (cell_pair (length s) i) ∙ h) in
      Memᴰ.not-nil (subst (Memᴰ (pair_of (length s) i)) e o)
