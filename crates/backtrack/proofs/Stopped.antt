-- Every missing is named, given enough moves and frames. Assumes nothing.
use mathlib.Core.List.{List, [], ◌∷◌}
use mathlib.Core.Path.{◌≡◌, ap, ◌∙◌}
use Prim.Native.Nat.{ℕ, zero, suc, ◌+◌, ◌*◌, ◌-◌, ◌≤◌, max}
use native.Mathlib.Omega.{arith}
use lib.ListN.{length}
use Rattle.grammar.specs.Rule.{Rule}
use Rattle.schema.specs.Derivation.{Pair, ◌at◌, Result, Stop, calls, act, second, Derives, Stops, here, in_first, in_second, stopped}
use Rattle.schema.specs.Machine.{stage1, stage2, Frame, frame, says, ran, run, machine}
use Rattle.backtrack.proofs.Part.{enough}
use Rattle.backtrack.proofs.Steps.{asked, machine_run, first_asked, second_asked}
use Rattle.backtrack.proofs.Derived.{positive, takes}
use Rattle.backtrack.proofs.Named.{run_stop}

module _ (rule : ℕ → Rule) (input : List ℕ) where
  -- The stop is named after `moves` moves, within `frames` frames over any stack.
  record Halts (x : Pair) (w : Stop) : Type 0 where
    moves : ℕ
    frames : ℕ
    some : 1 ≤ frames
    halts : (l room m : ℕ) (stack : List Frame) → moves ≤ l → frames + length stack ≤ room
        → run rule input l room (asked x m stack) ≡ ran (says (stopped w)) (m + moves)

  halts_first : (A p : ℕ) {B C D : ℕ} {w : Stop} → act rule input (A at p) ≡ calls B C D → Halts (B at p) w → Halts (A at p) w
  halts_first A p {w = w} e t =
      record {
        moves = 1 + t.moves;
        frames = t.frames + 1;
        some = omega arith;
        halts = λ l room m stack x y.
            let some = t.some in
            enough (first_asked rule input l room m stack A p e) (omega arith) (omega arith)
            ∙ t.halts (l - 1) room (m + 1) (frame A p stage1 ∷ stack) (omega arith) (omega arith)
            ∙ ap (λ i. ran (says (stopped w)) i) (omega arith);
      }

  halts_second : (A p : ℕ) {B C D k h : ℕ} {r : Result} {w : Stop} → act rule input (A at p) ≡ calls B C D → Derives rule input (B at p) r k h
      → Halts (second C D p r) w → Halts (A at p) w
  halts_second A p {B} {C} {D} {k} {h} {r} {w} e d t =
      record {
        moves = 1 + (2 * k - 1) + 1 + t.moves;
        frames = max h t.frames + 1;
        some = omega arith;
        halts = λ l room m stack x y.
            let some₁ = positive rule input d in
            let some₂ = t.some in
            enough (first_asked rule input l room m stack A p e) (omega arith) (omega arith)
            ∙ enough (takes rule input d (l - 1) room (m + 1) (frame A p stage1 ∷ stack) (omega arith)) (omega arith) (omega arith)
            ∙ enough (second_asked rule input (l - 1 - (2 * k - 1)) room _ stack A p r e) (omega arith) (omega arith)
            ∙ t.halts (l - 1 - (2 * k - 1) - 1) room _ (frame A p stage2 ∷ stack) (omega arith) (omega arith)
            ∙ ap (λ i. ran (says (stopped w)) i) (omega arith);
      }

  halts_of : {w : Stop} {x : Pair} → Stops rule input w x → Halts x w
  halts_of {w = w} (here {x} e) =
      record {
        moves = 0;
        frames = 1;
        some = omega arith;
        halts = λ l room m stack _ _. run_stop rule input l room m stack x w e ∙ ap (λ i. ran (says (stopped w)) i) (omega arith);
      }
  halts_of (in_first {A} {p = p} e t) = halts_first A p e (halts_of t)
  halts_of (in_second {A} {p = p} e d t) = halts_second A p e d (halts_of t)

  -- A pair that stops: for some numbers, the machine names the stop whenever it is lent that many moves and frames.
  pub stop_named : {x : Pair} {w : Stop} → Stops rule input w x
      → (moves : ℕ) × (frames : ℕ)
      × ((budget room : ℕ) → moves ≤ budget → frames ≤ room → machine rule input x budget room ≡ ran (says (stopped w)) moves)
  stop_named {x} {w} t = let q = halts_of t in (q.moves, q.frames, go q)
    where
      go : (q : Halts x w) → (budget room : ℕ) → q.moves ≤ budget → q.frames ≤ room → machine rule input x budget room ≡ ran (says (stopped w)) q.moves
      go q budget zero a b = let some = q.some in absurd (omega arith)
      go q budget (suc n) a b =
          machine_run rule input x budget (suc n) (omega arith) ∙ q.halts budget (suc n) 0 [] a (omega arith) ∙ ap (λ i. ran (says (stopped w)) i) (omega arith)
