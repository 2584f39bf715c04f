-- The machine's steps over a pair, and the run by one move. Assumes nothing.
use mathlib.Core.Bool.{Bool, true, false}
use mathlib.Core.List.{List, [], ◌∷◌}
use mathlib.Core.Path.{◌≡◌, refl, ap, ◌∙◌}
use Prim.Native.Nat.{ℕ, zero, suc, ◌+◌, ◌<◌, ◌≤◌}
use native.Mathlib.Omega.{arith}
use lib.Dec.{leb}
use lib.ListN.{length}
use borrow.Author.Tests.{leb-true, leb-false}
use Rattle.grammar.specs.Rule.{Rule}
use Rattle.schema.proofs.Ends.{position_of}
use Rattle.schema.specs.Derivation.{Pair, ◌at◌, Result, success, failure, gives, calls, act, second}
use Rattle.schema.specs.Machine.{s, stage0, stage1, stage2, Frame, frame, State, state, moves_of, stack_of, move, popped, step, ran, spent, no_frame, run, machine}
use Rattle.backtrack.proofs.Part.{Part, goes, short, narrow}
use Rattle.backtrack.proofs.Unrolled.{run_spent, run_full, run_on}

-- A pair is asked, after m moves, over the stack.
abbrev pub asked : Pair → ℕ → List Frame → State
asked (A at p) m stack = state s p m (frame A p stage0 ∷ stack)

asked_length : (x : Pair) (m : ℕ) (stack : List Frame) → length (stack_of (asked x m stack)) ≡ suc (length stack)
asked_length (A at p) m stack = refl

asked_moves : (x : Pair) (m : ℕ) (stack : List Frame) → moves_of (asked x m stack) ≡ m
asked_moves (A at p) m stack = refl

popped_length : (r : Result) (p m : ℕ) (stack : List Frame) → length (stack_of (popped r p m stack)) ≡ length stack
popped_length (success q) p m stack = refl
popped_length failure p m stack = refl

popped_moves : (r : Result) (p m : ℕ) (stack : List Frame) → moves_of (popped r p m stack) ≡ m
popped_moves (success q) p m stack = refl
popped_moves failure p m stack = refl

module _ (rule : ℕ → Rule) (input : List ℕ) where
  -- The machine's run asks the pair over no frames.
  pub machine_run : (x : Pair) (budget room : ℕ) → 0 < room → machine rule input x budget room ≡ run rule input budget room (asked x 0 [])
  unfolding machine
  machine_run (A at p) budget zero h = absurd (omega arith)
  machine_run (A at p) budget (suc n) h = refl

  -- "room 0 gives no frame before all else"
  pub machine_none : (x : Pair) (budget : ℕ) → machine rule input x budget 0 ≡ ran no_frame 0
  unfolding machine
  machine_none (A at p) budget = refl

  step_leaf : (x : Pair) {r : Result} (m : ℕ) (stack : List Frame) → act rule input x ≡ gives r
      → step rule input (asked x m stack) ≡ move (popped r (position_of x) (m + 1) stack)
  unfolding step
  step_leaf (A at p) m stack e = rw e

  step_first : (A p : ℕ) {B C D : ℕ} (m : ℕ) (stack : List Frame) → act rule input (A at p) ≡ calls B C D
      → step rule input (asked (A at p) m stack) ≡ move (asked (B at p) (m + 1) (frame A p stage1 ∷ stack))
  unfolding step
  step_first A p m stack e = rw e

  step_second : (A p : ℕ) {B C D : ℕ} (r : Result) (m : ℕ) (stack : List Frame) → act rule input (A at p) ≡ calls B C D
      → step rule input (popped r p m (frame A p stage1 ∷ stack)) ≡ move (asked (second C D p r) (m + 1) (frame A p stage2 ∷ stack))
  unfolding step
  step_second A p (success q) m stack e = rw e
  step_second A p failure m stack e = rw e

  step_last : (A p i : ℕ) (r : Result) (m : ℕ) (stack : List Frame)
      → step rule input (popped r i m (frame A p stage2 ∷ stack)) ≡ move (popped r p (m + 1) stack)
  unfolding step
  step_last A p i (success q) m stack = refl
  step_last A p i failure m stack = refl

  -- One move from x to y, after m moves, with n frames then.
  one : (l room n m : ℕ) (x : State) (y : ℕ → State) → moves_of x ≡ m → length (stack_of (y (m + 1))) ≡ n → step rule input x ≡ move (y (m + 1))
      → Part l 1 room n m (run rule input l room x) (λ left moves. run rule input left room (y moves))
  one zero room n m x y made size e =
      let q : moves_of x ≡ m + 0 = omega arith in
      short (omega arith) (run_spent rule input 0 room x (y (m + 1)) refl e ∙ ap (λ i. ran spent i) q)
  one (suc l) room n m x y made size e = go (leb (length (stack_of (y (m + 1)))) room) refl
    where
      go : (b : Bool) → leb (length (stack_of (y (m + 1)))) room ≡ b
          → Part (suc l) 1 room n m (run rule input (suc l) room x) (λ left moves. run rule input left room (y moves))
      go true h =
          let fits : length (stack_of (y (m + 1))) ≤ room = leb-true _ _ h in
          goes l (omega arith) (omega arith) (run_on rule input (suc l) l room x (y (m + 1)) refl e fits)
      go false h =
          let full : room < length (stack_of (y (m + 1))) = leb-false _ _ h in
          narrow (omega arith) (moves_of x) (run_full rule input (suc l) room x (y (m + 1)) (omega arith) e full)

  -- The four moves for a pair over a stack: it is a leaf and is popped; its first called pair is asked; its second; it is popped.
  pub leaf_popped : (l room m : ℕ) (stack : List Frame) (x : Pair) {r : Result} → act rule input x ≡ gives r
      → Part l 1 room (length stack) m (run rule input l room (asked x m stack)) (λ left moves. run rule input left room (popped r (position_of x) moves stack))
  leaf_popped l room m stack x {r} e =
      one l room _ m (asked x m stack) (λ i. popped r (position_of x) i stack) (asked_moves x m stack) (popped_length r (position_of x) (m + 1) stack)
      (step_leaf x m stack e)

  pub first_asked : (l room m : ℕ) (stack : List Frame) (A p : ℕ) {B C D : ℕ} → act rule input (A at p) ≡ calls B C D
      → Part l 1 room (suc (suc (length stack))) m (run rule input l room (asked (A at p) m stack))
      (λ left moves. run rule input left room (asked (B at p) moves (frame A p stage1 ∷ stack)))
  first_asked l room m stack A p {B} e =
      one l room _ m (asked (A at p) m stack) (λ i. asked (B at p) i (frame A p stage1 ∷ stack)) refl refl (step_first A p m stack e)

  pub second_asked : (l room m : ℕ) (stack : List Frame) (A p : ℕ) {B C D : ℕ} (t : Result) → act rule input (A at p) ≡ calls B C D
      → Part l 1 room (suc (suc (length stack))) m (run rule input l room (popped t p m (frame A p stage1 ∷ stack)))
      (λ left moves. run rule input left room (asked (second C D p t) moves (frame A p stage2 ∷ stack)))
  second_asked l room m stack A p {C = C} {D = D} t e =
      one l room _ m (popped t p m (frame A p stage1 ∷ stack)) (λ i. asked (second C D p t) i (frame A p stage2 ∷ stack))
      (popped_moves t p m (frame A p stage1 ∷ stack)) (asked_length (second C D p t) (m + 1) (frame A p stage2 ∷ stack)) (step_second A p t m stack e)

  pub call_popped : (l room m : ℕ) (stack : List Frame) (A p i : ℕ) (r : Result)
      → Part l 1 room (length stack) m (run rule input l room (popped r i m (frame A p stage2 ∷ stack)))
      (λ left moves. run rule input left room (popped r p moves stack))
  call_popped l room m stack A p i r =
      one l room _ m (popped r i m (frame A p stage2 ∷ stack)) (λ j. popped r p j stack) (popped_moves r i m (frame A p stage2 ∷ stack))
      (popped_length r p (m + 1) stack) (step_last A p i r m stack)
