-- The lines of a certificate pass exactly if each follows from those before it. Assumes nothing.
use mathlib.Core.Bool.{true, true≢false}
use mathlib.Core.List.{List, [], ◌∷◌, ◌++◌}
use mathlib.Core.Option.{Option, none, some}
use mathlib.Core.Path.{◌≡◌, refl, sym, ap, ◌∙◌}
use Prim.Native.Nat.{ℕ, zero, suc, ◌<◌}
use native.Mathlib.Decide.{dec_lt}
use native.Mathlib.Omega.{arith}
use lib.ListN.{length, get_elem?, length-append}
use borrow.Author.Tests.{not-false}
use Rattle.grammar.specs.Order.{NoneHolds}
use Rattle.grammar.specs.Rule.{Rule}
use Rattle.grammar.specs.Sheet.{Grammar}
use Rattle.grammar.proofs.Refusals.{none_append}
use Rattle.schema.proofs.Lines.{element_last}
use Rattle.schema.specs.Line.{Line, numbered}
use Rattle.checker.specs.Checker.{line_at, earlier_line, follows, line_condition, line_order, lines_order}
use Rattle.checker.specs.Proper.{EachFollows, no_line, one_more}
use Rattle.checker.proofs.Lookup.{Begins, in_front, earlier_lines}
use Rattle.checker.proofs.Progress.{Passed}
use Rattle.checker.proofs.Relation.{follows_relation}

-- A line that is of the form and follows.
pub record Right (rule : ℕ → Rule) (v : ℕ) (input s : List ℕ) (n : ℕ) : Type 0 where
  pub right : Line
  pub formed : line_at s n ≡ some right
  pub given : follows rule v input (earlier_line s n) (some right) ≡ true

module _ (rule : ℕ → Rule) (v : ℕ) (input s : List ℕ) (k : ℕ) where
  pub right_line : NoneHolds (line_condition rule v input s) (line_order (suc k)) → Right rule v input s (suc k)
  unfolding line_condition
  right_line c = go (line_at s (suc k)) refl
    where
      go : (o : Option Line) → line_at s (suc k) ≡ o → Right rule v input s (suc k)
      go none e = absurd (true≢false (rw e at c.0))
      go (some l) e = record { right = l; formed = e; given = not-false _ (rw e at c.1.0) }

  clear_line : Right rule v input s (suc k) → NoneHolds (line_condition rule v input s) (line_order (suc k))
  unfolding line_condition
  clear_line r = (rw r.formed, (rw (r.formed, r.given), tt))

module _ (g : Grammar) (input s : List ℕ) where
  -- The lines that pass, as a list.
  pub record Lines (k : ℕ) : Type 0 where
    pub list : List Line
    pub size : length list ≡ k
    pub begins : Begins s list
    pub each : EachFollows g input list

  more_lines : (k : ℕ) → Lines k → Right g.rule g.variables input s (suc k) → Lines (suc k)
  more_lines k ls r =
      let l = r.right in
      let z = ls.size in
      let n = length-append ls.list (l ∷ []) in
      let before : earlier_line s (suc k) ≡ numbered ls.list = rw z at (earlier_lines s ls.list ls.begins) in
      record {
        list = ls.list ++ l ∷ [];
        size = omega arith;
        begins = λ i h. found i h (dec_lt i (length ls.list));
        each = one_more ls.each ((follows_relation ls.list g.rule g.variables input l).0 (rw before at r.given));
      }
    where
      found : (i : ℕ) → i < length (ls.list ++ r.right ∷ []) → Dec (i < length ls.list) → line_at s (suc i) ≡ get_elem? (ls.list ++ r.right ∷ []) i
      found i h (yes y) = ls.begins i y ∙ sym (in_front ls.list (r.right ∷ []) i y)
      found i h (no y) =
          let z = ls.size in
          let n = length-append ls.list (r.right ∷ []) in
          let q : i ≡ length ls.list = omega arith in
          ap (λ (m : ℕ). line_at s (suc m)) (q ∙ z) ∙ r.formed ∙ sym (element_last ls.list r.right) ∙ ap (get_elem? (ls.list ++ r.right ∷ [])) (sym q)

  -- Lines that pass follow.
  pub passed_lines : (k : ℕ) → Passed g.rule g.variables input s k → Lines k
  unfolding lines_order
  passed_lines zero p = record { list = []; size = refl; begins = λ i h. absurd (omega arith); each = no_line }
  passed_lines (suc k) p =
      let b = (none_append (line_condition g.rule g.variables input s) (lines_order k) (line_order (suc k))).0 p in
      more_lines k (passed_lines k b.0) (right_line g.rule g.variables input s k b.1)

  -- Lines that follow pass.
  pub passes_lines : {ls : List Line} → EachFollows g input ls → Begins s ls → Passed g.rule g.variables input s (length ls)
  unfolding lines_order
  passes_lines no_line h = tt
  passes_lines (one_more {earlier} {l} each f) h =
      let n : length (earlier ++ l ∷ []) ≡ suc (length earlier) = length-append earlier (l ∷ []) ∙ omega arith in
      let front : Begins s earlier = λ i y. h i (omega arith) ∙ in_front earlier (l ∷ []) i y in
      rw n
      ((none_append (line_condition g.rule g.variables input s) (lines_order (length earlier)) (line_order (suc (length earlier)))).1 (
        passes_lines each front,
        clear_line g.rule g.variables input s (length earlier)
            record {
              right = l;
              formed = h (length earlier) (omega arith) ∙ element_last earlier l;
              given = rw (earlier_lines s earlier front) ((follows_relation earlier g.rule g.variables input l).1 f);
            },
      ))
