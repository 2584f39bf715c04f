-- Lines with one more line behind them. Assumes nothing.
use mathlib.Core.Bool.{true, false}
use mathlib.Core.List.{List, [], ◌∷◌, ◌++◌, append_assoc}
use mathlib.Core.Option.{none}
use mathlib.Core.Path.{◌≡◌, refl, sym}
use Prim.Native.Nat.{ℕ, ◌+◌, ◌≤◌}
use native.Mathlib.Omega.{arith}
use lib.Dec.{eqb}
use borrow.Author.Tests.{eqb-false, ne_eqb}
use Rattle.grammar.proofs.Fitting.{neither_true}
use Rattle.notation.specs.Text.{Choice, Line, line, choice_text, lines_text, choice_cost, cost, choice_depth, line_of, capital}
use Rattle.notation.specs.Form.{ChoiceForm, EachForm, Once}
use Rattle.notation.specs.Scan.{defined}
use Rattle.notation.specs.Emit.{Rules, choice_rules, ruled, line_rules}
use Rattle.notation.proofs.Small.{no_line}

pub text_more : (ls : List Line) (A : ℕ) (c : Choice) → lines_text (ls ++ line A c ∷ []) ≡ lines_text ls ++ A ∷ 61 ∷ choice_text c ++ 10 ∷ []
unfolding lines_text
text_more [] A c = refl
text_more (line B d ∷ ls) A c = rw (text_more ls A c) (simp append_assoc)

pub each_more : (ls : List Line) (A : ℕ) (c : Choice) → EachForm ls → capital A ≡ true → ChoiceForm c → choice_depth c ≤ 16 → EachForm (ls ++ line A c ∷ [])
each_more [] A c e a f d = (a, f, d, tt)
each_more (line B g ∷ ls) A c e a f d = (e.0, e.1, e.2, each_more ls A c e.3 a f d)

no_line_more : (ls : List Line) (A B : ℕ) (c : Choice) → line_of ls B ≡ none → (B ≡ A → ⊥) → line_of (ls ++ line A c ∷ []) B ≡ none
unfolding line_of
no_line_more [] A B c e n = rw (ne_eqb B A n)
no_line_more (line C d ∷ ls) A B c e n =
    let m = no_line (eqb B C) d (line_of ls B) e in
    rw m.0 (no_line_more ls A B c m.1 n)

pub once_more : (ls : List Line) (A : ℕ) (c : Choice) → Once ls → defined ls A ≡ false → Once (ls ++ line A c ∷ [])
unfolding line_of
once_more [] A c o d = (refl, tt)
once_more (line B e ∷ ls) A c o d =
    let n = neither_true (eqb A B) (defined ls A) d in
    (no_line_more ls A B c o.0 (λ w. eqb-false A B n.0 (sym w)), once_more ls A c o.1 n.1)

pub defined_more : (ms : List Line) (A B : ℕ) (c : Choice) → defined ms B ≡ false → (B ≡ A → ⊥) → defined (ms ++ line A c ∷ []) B ≡ false
defined_more [] A B c d n = rw (ne_eqb B A n)
defined_more (line C e ∷ ms) A B c d n =
    let m = neither_true (eqb B C) (defined ms B) d in
    rw m.0 (defined_more ms A B c m.1 n)

pub cost_more : (ls : List Line) (A : ℕ) (c : Choice) → cost (ls ++ line A c ∷ []) ≡ cost ls + choice_cost c
unfolding cost
cost_more [] A c = omega arith
cost_more (line B d ∷ ls) A c = omega (arith, cost_more ls A c)

-- What is stored for the lines is stored line by line.
pub rules_more : (number : ℕ → ℕ) (E F : ℕ) (ls : List Line) (A : ℕ) (c : Choice) (z : Rules)
    → line_rules number E F (ls ++ line A c ∷ []) z ≡ ruled number E F A (choice_rules number E F c (line_rules number E F ls z))
unfolding line_rules
rules_more number E F [] A c z = refl
rules_more number E F (line B d ∷ ls) A c z = rules_more number E F ls A c (ruled number E F B (choice_rules number E F d z))
