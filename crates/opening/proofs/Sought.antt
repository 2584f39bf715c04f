-- The search for the least opening that loops, opening by opening. Assumes nothing.
use mathlib.Core.Bool.{Bool, true, false}
use mathlib.Core.List.{List}
use mathlib.Core.Path.{◌≡◌, sym, ap, ◌∙◌, subst}
use Prim.Native.Nat.{ℕ, ◌+◌, ◌*◌, ◌≤◌, ◌<◌}
use native.Mathlib.Decide.{ℕ_discrete}
use native.Mathlib.Nat.{mul-le-mul_left}
use native.Mathlib.Omega.{arith}
use lib.ListN.{length, take, drop, length-append, take-append-drop}
use lib.Seq.{take-length}
use Rattle.grammar.specs.Rule.{Rule}
use Rattle.schema.specs.Derivation.{Pair, Loops}
use Rattle.schema.specs.Table.{cells}
use Rattle.schema.proofs.Cells.{later_from}
use Rattle.opening.specs.Opening.{Asked}
use Rattle.opening.specs.Seeking.{AskedLoop, SaysLoop, Between, Found}

-- A list that is not longer than the input: an opening of it, or the whole.
module _ (v : ℕ) (input s : List ℕ) (l : length s ≤ length input) where
  -- It has no more cells.
  fewer_cells : cells v (length s) ≤ cells v (length input)
  fewer_cells = mul-le-mul_left v (omega arith)

  -- A question about it changes nothing beyond what one about the whole input writes.
  pub between_more : {rule : ℕ → Rule} {x : Pair} {T₀ T T' W₀ W W' : List ℕ} {Said : Type 0} → Asked Said rule v s x T T' W W' → Between v input T₀ T W₀ W
      → Between v input T₀ T' W₀ W'
  between_more {T = T} {T' = T'} {W = W} {W' = W'} asked b =
      let l = fewer_cells in
      record {
        later = later_from (2 * cells v (length s)) (2 * cells v (length input)) T' T (omega arith) asked.leaves.later ∙ b.later;
        same = asked.leaves.size ∙ b.same;
        beyond = later_from (cells v (length s)) (cells v (length input)) W' W fewer_cells asked.beyond ∙ b.beyond;
        size = asked.size ∙ b.size;
      }

-- A part from the front is not longer.
pub part_fits : (k : ℕ) (input : List ℕ) → length (take k input) ≤ length input
part_fits k input = let e = sym (length-append (take k input) (drop k input)) ∙ ap length (take-append-drop k input) in omega arith

-- ---- The loop.

-- No opening of fewer bytes loops.
pub record Seeking (rule : ℕ → Rule) (v : ℕ) (input : List ℕ) (x : Pair) (T₀ T W₀ W : List ℕ) (m : ℕ) : Type 0 where
  pub inside : m ≤ length input
  pub none_shorter : (j : ℕ) → j < m → Loops rule (take j input) x → ⊥
  pub between : Between v input T₀ T W₀ W

module _ {rule : ℕ → Rule} {v : ℕ} {input : List ℕ} {x : Pair} {T₀ T W₀ W : List ℕ} {m : ℕ} (seeking : Seeking rule v input x T₀ T W₀ W m) where
  module _ {s T' W' : List ℕ} (r : Bool) (asked-part : AskedLoop rule v s x T T' W W' r) (part : s ≡ take m input) where
    asked : AskedLoop rule v (take m input) x T T' W W' r
    asked = subst (λ (s : List ℕ). AskedLoop rule v s x T T' W W' r) part asked-part

    told : (b : Bool) → r ≡ b → SaysLoop rule (take m input) x b
    told b e = subst (SaysLoop rule (take m input) x) e asked.said

    pub seeking_goes_on : m < length input → r ≡ false → Seeking rule v input x T₀ T' W₀ W' (m + 1)
    seeking_goes_on l e = record {
      inside = omega arith;
      none_shorter = λ j h. elim (ℕ_discrete j m) [
        | yes z ↦ rw z (told false e)
        | no d ↦ seeking.none_shorter j (omega arith)
      ];
      between = between_more v input (take m input) (part_fits m input) asked seeking.between;
    }

    -- This one loops.
    pub found_here : m < length input → r ≡ true → Found rule v input x T₀ T' W₀ W' m
    found_here l e = record {
      shortest = record { inside = omega arith; loops = told true e; none_shorter = seeking.none_shorter };
      between = between_more v input (take m input) (part_fits m input) asked seeking.between;
    }

  -- Only the whole loops.
  pub found_whole : length input ≤ m → Loops rule input x → Found rule v input x T₀ T W₀ W (length input)
  found_whole l h = record {
    shortest = record {
      inside = omega arith;
      loops = subst (λ (s : List ℕ). Loops rule s x) (sym (take-length input)) h;
      none_shorter = λ j k. seeking.none_shorter j (omega arith);
    };
    between = seeking.between;
  }

  -- That is, so many bytes as the whole has.
  pub found_at_end : (k : ℕ) → k ≡ length input → length input ≤ m → Loops rule input x → Found rule v input x T₀ T W₀ W k
  found_at_end k e l h = subst (λ (j : ℕ). Found rule v input x T₀ T W₀ W j) (sym e) (found_whole l h)
