-- A call over what is retained of a table is asking over a table that holds it: its promise, from that of asking. Assumes nothing.
use mathlib.Core.Bool.{false}
use mathlib.Core.List.{List}
use mathlib.Core.Logic.{◌≢◌, ◌↔◌}
use mathlib.Core.Path.{◌≡◌, refl, sym, ap, ◌∙◌, subst}
use Prim.Native.Nat.{ℕ, ◌-◌, ◌<◌}
use native.Mathlib.Omega.{arith}
use lib.ListN.{length}
use Rattle.calls.proofs.Count.{count_one, count_map}
use Rattle.grammar.specs.Refusal.{accepted}
use Rattle.grammar.specs.Rule.{Rule}
use Rattle.schema.specs.Cells.{held_at}
use Rattle.schema.specs.Derivation.{Pair, ◌at◌}
use Rattle.schema.specs.Reached.{Number}
use Rattle.schema.specs.Table.{cells, decided, held, reach, contents, Table}
use Rattle.schema.proofs.Cell.{pair_of, PairWithin, held_pair, pair_within}
use Rattle.finish.specs.Reply.{Reply}
use Rattle.walk.specs.Over.{OverReady, Over}
use Rattle.memo.specs.Ask.{AskReady}
use Rattle.memo.proofs.Result.{decided_count}
use Rattle.kept.specs.New.{New}
use Rattle.kept.specs.Range.{cells_out}
use Rattle.kept.proofs.Filled.{new_more}
use Rattle.kept.proofs.Ranged.{range_most, each_in}
use Rattle.kept.proofs.RightCells.{RightCells, right_same, ask_right}
use Rattle.passes.specs.Passes.{Starts}
use Rattle.correction.specs.Call.{KeptCall}
use Rattle.correction.proofs.KeptRight.{right_table}

-- What is at hand once the refusals are tested: what asking is handed, and no cell of the start out of range.
pub record CallReady (rule : ℕ → Rule) (s : List ℕ) (v A p : ℕ) (start : Pair → ℕ × ℕ) (T W : List ℕ) : Type 0 where
  pub ask : AskReady rule s v A p T W
  pub in_range : cells_out v (length s) start ≡ false

module _ {rule : ℕ → Rule} {s : List ℕ} {v A p : ℕ} {start : Pair → ℕ × ℕ} {T W : List ℕ} (r : CallReady rule s v A p start T W)
    {T₁ : List ℕ} (starts : Starts v (length s) start T T₁) where
  abbrev n : ℕ
  n = length s

  abbrev N : ℕ
  N = cells v (length s)

  start_cell : (y : Pair) → PairWithin v n y → contents n T₁ y ≡ start y
  start_cell (B at q) w = starts.holds B q w

  start_is : (y : Pair) → PairWithin v n y → held n T₁ y ≡ (start y).0
  start_is y w = ap (λ (k : ℕ × ℕ). k.0) (start_cell y w)

  start_reach : (y : Pair) → PairWithin v n y → reach n T₁ y ≡ (start y).1
  start_reach y w = ap (λ (k : ℕ × ℕ). k.1) (start_cell y w)

  -- The table that holds the start may be asked over.
  pub may_ask : OverReady rule s v A p T₁ W
  may_ask = record {
    few = r.ask.few;
    short = r.ask.short;
    closed = r.ask.closed;
    within = r.ask.within;
    room = let m = r.ask.room in let z = starts.size in omega arith;
    work_room = r.ask.work_room;
    in_range = λ i l.
        let w = pair_within v n i l in
        let k = range_most n _ _ (each_in v n start r.in_range _ _ w) in
        let z = held_pair n T₁ i in
        let e = start_is (pair_of n i) w in
        omega arith;
  }

  module _ {T' : List ℕ} (leaves : Table rule s v (A at p) (contents (length s) T₁) T₁ T') where
    -- What is left of that table is left of the table before.
    leaves_of : Table rule s v (A at p) start T T'
    leaves_of = record {
      holds = leaves.holds;
      others = λ B q w d. leaves.others B q w (λ e. d (e ∙ start_is (B at q) w));
      others_reach = λ B q w d. leaves.others_reach B q w (λ e. d (e ∙ start_reach (B at q) w));
      later = leaves.later ∙ starts.later;
      size = leaves.size ∙ starts.size;
    }

    was_iff : (i : ℕ) → i < N → (held_at T₁ i ≢ 0) ↔ ((start (pair_of n i)).0 ≢ 0)
    was_iff i l =
        let e : (start (pair_of n i)).0 ≡ held_at T₁ i = sym (start_is (pair_of n i) (pair_within v n i l)) ∙ held_pair n T₁ i in
        (λ m z. m (sym e ∙ z), λ m z. m (e ∙ z))

    is_iff : (i : ℕ) → i < N → (held_at T' i ≢ 0) ↔ (held n T' (pair_of n i) ≢ 0)
    is_iff i l = let e = held_pair n T' i in (λ m z. m (sym e ∙ z), λ m z. m (e ∙ z))

    -- Decided afterwards less decided before is the number of new pairs.
    new_number : Number (New rule s (A at p) start) (decided N T' - decided N T₁)
    new_number =
        let k = new_more rule s v leaves_of r.ask.closed r.ask.within (count_map was_iff (decided_count T₁ N)) in
        let e = count_one (λ i. (λ h. h, λ h. h)) k.2 (count_map is_iff (decided_count T' N)) in
        let q : k.0 ≡ decided N T' - decided N T₁ = omega arith in
        subst (Number (New rule s (A at p) start)) q k.1

  -- The promise of the call, where a kept table leaves a right start.
  pub calls_over : {Kept : Type 0} → (Kept → RightCells rule v s start) → {T' W' : List ℕ} (a : Reply) → Over rule v s (A at p) T₁ T' W W' a
      → KeptCall rule v s (A at p) Kept start T T' W W' (accepted a)
  calls_over right {T'} a over = record {
    replies = a;
    accepts = refl;
    small = over.small;
    later = over.later ∙ starts.later;
    size = over.size ∙ starts.size;
    beyond = over.beyond;
    work_size = over.work_size;
    from_kept = λ k.
        let closed = r.ask.closed in
        let o = over.from_right (right_table rule v s closed r.ask.short T₁ (right_same rule v closed s (λ y w. (start_is y w, start_reach y w)) (right k))) in
        record {
          outcome = o.outcome;
          named = o.named;
          count = decided N T' - decided N T₁;
          has = o.has;
          names = o.names;
          counts = new_number o.leaves;
          says = o.says;
          leaves = leaves_of o.leaves;
          right = (ask_right rule v closed s (right k) (leaves_of o.leaves)).right;
        };
  }
