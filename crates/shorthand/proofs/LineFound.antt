-- A line of a text is found, or refused. Assumes nothing.
use mathlib.Core.Bool.{Bool, true}
use mathlib.Core.List.{List, []}
use mathlib.Core.Path.{◌≡◌, refl, ◌∙◌}
use Prim.Native.Nat.{ℕ, ◌+◌, ◌≤◌}
use native.Mathlib.Omega.{arith}
use lib.ListN.{get_or, set, drop}
use Rattle.grammar.specs.Numbers.{number_of, line_of}
use Rattle.grammar.specs.Refusal.{refused}
use Rattle.grammar.specs.declared.refusal.Refusal.{Refusal}
use Rattle.notation.specs.Scan.{before, scan}
use Rattle.notation.specs.Emit.{choice_rules}
use Rattle.notation.specs.Text.{Line}
use Rattle.pieces.specs.Piece.{Refuses, choices, Finds, EndsChoice, Ready}
use Rattle.pieces.specs.Store.{number_held}
use Rattle.pieces.specs.declared.Piece.{Piece}
use Rattle.pieces.proofs.Scanning.{before_end, line_ends, line_not_ended}
use Rattle.shorthand.specs.Lines.{Defines, Names, LineReady, LineFinds}
use Rattle.shorthand.proofs.Lining.{Opens, line_opens, defines_more, stored_line}

-- Where the choice of a line begins.
abbrev pub behind_equals : ℕ → Piece → Piece
behind_equals E from = record { at = from.at + 2; variable = E; last = from.last; cost = from.cost }

-- Where the next line begins.
abbrev pub behind_line : Piece → Piece
behind_line p = record { at = p.at + 1; variable = p.variable; last = p.last; cost = p.cost }

module _ (numbers : List ℕ) (E : ℕ) (s : List ℕ) (from : Piece) (lines : List Bool) (r : LineReady s from) (index : ℕ) (o : Opens s from.at lines index) where
  pub choice_ready : E ≤ 256 → Ready s 0 (behind_equals E from)
  choice_ready a =
      let l = before_end s (from.at + 1) 61 (omega arith) o.equals in
      let f = r.few in
      record {
        inside = omega arith;
        shallow = omega arith;
        few = record { variable_few = omega arith; last_few = f.last_few; cost_few = f.cost_few };
      }

  -- Its choice is refused.
  pub choice_refused : (x : Refusal) → ((u : Unit {0}) → Refuses s 0 (from.at + 2) ((choices (number_held numbers) E).before u) x)
      → (ls : List Line) → Defines ls lines → scan (drop from.at s) (before ls) ≡ refused (number_of x) (line_of x)
  choice_refused x f ls d = line_opens s from.at lines ls r.inside d index o ∙ f tt ls (get_or s from.at 0) [] refl

  module _ {ws ws₁ : List ℕ} {p : Piece} (f : Finds (choices (number_held numbers) E) s 0 (behind_equals E from) ws p ws₁) where
    -- Its choice does not end with byte 10.
    pub end_refused : EndsChoice s p → (get_or s p.at 0 ≡ 10 → ⊥) → (ls : List Line) → Defines ls lines → scan (drop from.at s) (before ls) ≡ refused 15 0
    end_refused e n ls d =
        line_opens s from.at lines ls r.inside d index o ∙ f.moves tt ls (get_or s from.at 0) [] refl
        ∙ line_not_ended s p.at e.0 e.1 n _ ls (get_or s from.at 0)

    -- It does, and its letter has a rule.
    pub line_is : {ws₂ : List ℕ} → get_or s p.at 0 ≡ 10 → Names (get_or numbers index 0) E p.variable ws₁ ws₂
        → LineFinds (number_held numbers) E s from lines ws (behind_line p) (set lines index true) ws₂
    line_is {ws₂} e names =
        let l = before_end s p.at 10 (omega arith) e in
        let b = f.low in
        let few = f.few in
        record {
          letter = get_or s from.at 0;
          choice = f.piece;
          low = omega arith;
          high = omega arith;
          moves = λ ls d.
              line_opens s from.at lines ls r.inside d index o ∙ f.moves tt ls (get_or s from.at 0) [] refl
              ∙ line_ends s p.at e f.piece ls (get_or s from.at 0);
          defines = λ ls d. rw o.index_is (defines_more ls lines (get_or s from.at 0) f.piece o.letter d);
          few = record { variable_few = few.variable_few; last_few = few.last_few; cost_few = few.cost_few };
          cost_is = f.cost_is;
          stores = λ z h. stored_line (number_held numbers) E (get_or s from.at 0) (choice_rules (number_held numbers) E (E + 1) f.piece z) p.variable p.last ws₁ ws₂ (f.stores z h) (rw o.index_is at names);
        }
