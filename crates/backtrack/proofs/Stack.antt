-- The stack that the slice of frames holds. Assumes nothing.
use mathlib.Core.List.{List, [], ◌∷◌}
use mathlib.Core.Path.{◌≡◌, refl, ap}
use Prim.Native.Nat.{ℕ, zero, suc, ◌+◌, ◌-◌, ◌*◌, ◌<◌, ◌≤◌}
use native.Mathlib.Numerals.{add-one}
use native.Mathlib.Omega.{arith}
use lib.ListN.{length, get_or, set, length-set}
use lib.Seq.{get_or-set_same, get_or-set_other}
use Rattle.schema.specs.Machine.{frame, stage0}
use Rattle.backtrack.specs.Frames.{stage_of, stack_in, restaged}

-- No frames are an empty stack.
pub no_frame_law : (xs : List ℕ) → stack_in xs 0 ≡ []
unfolding stack_in
no_frame_law xs = refl

-- The top frame and the stack below it.
pub stack_top : (xs : List ℕ) (d : ℕ) → 0 < d
    → stack_in xs d ≡ frame (get_or xs ((d - 1) * 3) 0) (get_or xs ((d - 1) * 3 + 1) 0) (stage_of (get_or xs ((d - 1) * 3 + 2) 0)) ∷ stack_in xs (d - 1)
unfolding stack_in
stack_top xs zero h = absurd (omega arith)
stack_top xs (suc d) h = let q : suc d - 1 ≡ d = omega arith in rw q

-- There are as many frames as the code counts.
pub length_stack : (xs : List ℕ) (d : ℕ) → length (stack_in xs d) ≡ d
unfolding stack_in
length_stack xs zero = refl
length_stack xs (suc d) = ap suc (length_stack xs d)

-- A store above the stack leaves it as it is.
stack_set : (xs : List ℕ) (d j v : ℕ) → d * 3 ≤ j → stack_in (set xs j v) d ≡ stack_in xs d
unfolding stack_in
stack_set xs zero j v h = refl
stack_set xs (suc d) j v h =
    rw (
      get_or-set_other xs j (d * 3) v 0 (omega arith),
      get_or-set_other xs j (d * 3 + 1) v 0 (omega arith),
      get_or-set_other xs j (d * 3 + 2) v 0 (omega arith),
      stack_set xs d j v (omega arith),
    )

-- The store of the top frame's stage.
pub stack_stage : (xs : List ℕ) (d v : ℕ) → 1 ≤ d → d * 3 ≤ length xs → stack_in (set xs (d * 3 - 1) v) d ≡ restaged (stage_of v) (stack_in xs d)
stack_stage xs d v h k =
    let q : d * 3 - 1 ≡ (d - 1) * 3 + 2 = omega arith in
    rw (
      q,
      stack_top xs d h,
      stack_top (set xs ((d - 1) * 3 + 2) v) d h,
      get_or-set_other xs ((d - 1) * 3 + 2) ((d - 1) * 3) v 0 (omega arith),
      get_or-set_other xs ((d - 1) * 3 + 2) ((d - 1) * 3 + 1) v 0 (omega arith),
      get_or-set_same xs ((d - 1) * 3 + 2) v 0 (omega arith),
      stack_set xs (d - 1) ((d - 1) * 3 + 2) v (omega arith),
    )

-- The three stores of a frame at stage 0 put it above the first d frames.
pub stack_frame : (xs : List ℕ) (d A p : ℕ) → d * 3 + 3 ≤ length xs
    → stack_in (set (set (set xs (d * 3) A) (d * 3 + 1) p) (d * 3 + 2) 0) (d + 1) ≡ frame A p stage0 ∷ stack_in xs d
unfolding stack_in
stack_frame xs d A p h =
    let f₁ : List ℕ = set xs (d * 3) A in
    let f₂ : List ℕ = set f₁ (d * 3 + 1) p in
    let l₁ : length f₁ ≡ length xs = length-set xs (d * 3) A in
    let l₂ : length f₂ ≡ length f₁ = length-set f₁ (d * 3 + 1) p in
    rw (
      add-one d,
      get_or-set_other f₂ (d * 3 + 2) (d * 3) 0 0 (omega arith),
      get_or-set_other f₁ (d * 3 + 1) (d * 3) p 0 (omega arith),
      get_or-set_same xs (d * 3) A 0 (omega arith),
      get_or-set_other f₂ (d * 3 + 2) (d * 3 + 1) 0 0 (omega arith),
      get_or-set_same f₁ (d * 3 + 1) p 0 (omega arith),
      get_or-set_same f₂ (d * 3 + 2) 0 0 (omega arith),
      stack_set f₂ d (d * 3 + 2) 0 (omega arith),
      stack_set f₁ d (d * 3 + 1) p (omega arith),
      stack_set xs d (d * 3) A (omega arith),
    )
