-- The lines of a text, one after another. Assumes nothing.
use mathlib.Core.Bool.{Bool, false}
use mathlib.Core.List.{List, [], ◌∷◌, ◌++◌}
use mathlib.Core.Path.{◌≡◌, refl, ap, ◌∙◌}
use Prim.Native.Nat.{ℕ, suc, ◌+◌, ◌-◌, ◌≤◌, ◌<◌}
use native.Mathlib.Omega.{arith}
use lib.ListN.{length, drop, replicate, get_or-replicate, length-replicate}
use Rattle.grammar.specs.Numbers.{number_of, line_of}
use Rattle.grammar.specs.Refusal.{refused, accepted}
use Rattle.grammar.specs.declared.refusal.Refusal.{Refusal}
use Rattle.notation.specs.Emit.{Rules, line_rules}
use Rattle.notation.specs.Scan.{before, finish, scan, lines_of}
use Rattle.notation.specs.Text.{Line, line, cost}
use Rattle.notation.proofs.OneMore.{cost_more, rules_more}
use Rattle.letters.proofs.Lettered.{index_in}
use Rattle.pieces.specs.Store.{capped, Stored, Few}
use Rattle.pieces.specs.declared.Piece.{Piece}
use Rattle.pieces.proofs.Scanning.{at_end_law}
use Rattle.shorthand.specs.Lines.{Defines, LineFinds, LinesFound}

-- No letter has a line yet.
defines_none : {lines : List Bool} → lines ≡ replicate 26 false → Defines [] lines
defines_none e = record {
  size = rw e (length-replicate {A = Bool} 26 false);
  held = λ A known. rw (e, get_or-replicate {A = Bool} 26 (A - 65) false false (index_in A known).1) refl;
}

some_more : {A : Type 0} (xs : List A) (x : A) → xs ++ x ∷ [] ≡ [] → ⊥
some_more [] x e = let h : ◌≡◌ {A = ℕ} 1 0 = ap length e in omega arith
some_more (y ∷ xs) x e = let h : suc (length (xs ++ x ∷ [])) ≡ 0 = ap length e in omega arith

module _ (number : ℕ → ℕ) (E : ℕ) (s : List ℕ) (from : Piece) (ws₀ : List ℕ) where
  -- What was read up to here: some lines, and their rules.
  pub record Going (here : Piece) (lines : List Bool) (ws : List ℕ) : Type 0 where
    pub so_far : List Line
    pub inside : here.at ≤ length s
    pub some_line : 0 < here.at → so_far ≡ [] → ⊥
    pub scanned : lines_of s ≡ scan (drop here.at s) (before so_far)
    pub defines : Defines so_far lines
    pub few : Few here
    pub cost_is : here.cost ≡ capped (from.cost + cost so_far)
    pub stores : (z : Rules) → Stored z from.last ws₀ → Stored (line_rules number E (E + 1) so_far z) here.last ws

  pub begins : {lines : List Bool} → from.at ≡ 0 → Few from → lines ≡ replicate 26 false → Going from lines ws₀
  unfolding cost line_rules
  begins z few e = record {
    so_far = [];
    inside = omega arith;
    some_line = λ l n. omega arith;
    scanned = rw z refl;
    defines = defines_none e;
    few = few;
    cost_is = let l = few.cost_few in omega arith;
    stores = λ z h. h;
  }

  module _ {here : Piece} {lines : List Bool} {ws : List ℕ} (g : Going here lines ws) where
    -- One line more,
    pub goes_on : {next : Piece} {lines' : List Bool} {ws' : List ℕ} → LineFinds number E s here lines ws next lines' ws' → Going next lines' ws'
    goes_on f =
        let l = f.low in
        let a = g.cost_is in
        let b = f.cost_is in
        record {
          so_far = g.so_far ++ line f.letter f.choice ∷ [];
          inside = f.high;
          some_line = λ h. some_more g.so_far (line f.letter f.choice);
          scanned = g.scanned ∙ f.moves g.so_far g.defines;
          defines = f.defines g.so_far g.defines;
          few = f.few;
          cost_is = rw (cost_more g.so_far f.letter f.choice) (omega arith);
          stores = λ z h. rw (rules_more number E (E + 1) g.so_far f.letter f.choice z) (f.stores (line_rules number E (E + 1) g.so_far z) (g.stores z h));
        }

    -- or none that is of the form,
    pub faults : (x : Refusal) → ((ls : List Line) → Defines ls lines → scan (drop here.at s) (before ls) ≡ refused (number_of x) (line_of x)) → lines_of s ≡ refused (number_of x) (line_of x)
    faults x f = g.scanned ∙ f g.so_far g.defines

    finished : (ls : List Line) → (ls ≡ [] → ⊥) → finish (before ls) ≡ accepted ls
    finished [] n = absurd (n refl)
    finished (l ∷ ls) n = refl

    -- or the end of the text.
    pub ends : 0 < length s → length s ≤ here.at → LinesFound number E s from ws₀ here ws
    ends some l =
        let i = g.inside in
        record {
          lines = g.so_far;
          lines_are = g.scanned ∙ at_end_law s here.at (before g.so_far) l ∙ finished g.so_far (g.some_line (omega arith));
          few = g.few;
          cost_is = g.cost_is;
          stores = g.stores;
        }

-- An empty text.
pub empty_text : (s : List ℕ) → length s ≡ 0 → lines_of s ≡ refused 15 0
unfolding scan
empty_text [] e = refl
empty_text (b ∷ s) e = absurd (omega arith)
