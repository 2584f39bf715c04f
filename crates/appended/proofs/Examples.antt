-- Cases a, e and g: which of them are covered. Assumes nothing.
use mathlib.Core.Bool.{true≢false}
use mathlib.Core.List.{[], ◌∷◌}
use mathlib.Core.Path.{◌≡◌, refl, ap₂, subst}
use Prim.Native.Nat.{ℕ}
use native.Mathlib.Omega.{arith}
use Rattle.columns.specs.Column.{digits_after, number, field, fields, leading, column, row}
use Rattle.grammar.specs.Rule.{Rule, rule_of}
use Rattle.grammar.specs.Sheet.{grammar_of, line_at, rule_within}
use Rattle.grammar.specs.Printing.{text}
use Rattle.schema.specs.Cases.{header, sheet_h}
use Rattle.schema.specs.Derivation.{Pair, ◌at◌, Result, success, failure, calls, act_of, act, result, loop}
use Rattle.schema.specs.Examined.{Examines, leaf, node}
use Rattle.schema.specs.Reached.{Reached, itself, first_of, of_second}
use Rattle.schema.proofs.Examined.{derives_examines, examines_one}
use Rattle.schema.proofs.Parts.{calls_one}
use Rattle.schema.proofs.Reaches.{whole_reach, whole_unended}
use Rattle.appended.specs.Appended.{Lasting}

-- Case a, `-6.`: it looked at its three bytes.
pub case_a : Lasting (grammar_of (text sheet_h)).rule (45 ∷ 54 ∷ 46 ∷ []) (1 at 0) (result (success 3))
case_a = (3, whole_reach, omega arith)

-- Case e, `-6`, which is case a without its last byte, is not covered: it looked past its two bytes.
pub case_e : Lasting (grammar_of (text sheet_h)).rule (45 ∷ 54 ∷ []) (1 at 0) (result failure) → ⊥
case_e l =
    let same = examines_one (grammar_of (text sheet_h)).rule (45 ∷ 54 ∷ []) l.1 whole_unended in
    let k = l.2 in
    omega arith

-- ---- Case g, "Rule 1 = 1(1,1), empty entry": no pair is finished.

abbrev rule_g : ℕ → Rule
rule_g = (grammar_of (text (header 1 ∷ (1 ∷ 4 ∷ 1 ∷ 1 ∷ 1 ∷ []) ∷ []))).rule

calls_itself : act rule_g [] (1 at 0) ≡ calls 1 1 1
unfolding text leading column row digits_after number field fields line_at rule_within rule_of act_of
calls_itself = refl

called : {A B C D p : ℕ} → A at p ≡ 1 at 0 → act rule_g [] (A at p) ≡ calls B C D → B at p ≡ 1 at 0
called {A} {B} {C} {D} {p} q e =
    let k = calls_one (subst (λ (x : Pair). act rule_g [] x ≡ calls B C D) q e) calls_itself in
    let position : p ≡ 0 = cc in
    ap₂ ◌at◌ k.0 position

not_finished : {x : Pair} {r : Result} {m : ℕ} → x ≡ 1 at 0 → Examines rule_g [] x r m → ⊥
not_finished q (leaf e) = let f = calls_itself in true≢false (cc)
not_finished q (node e i j) = not_finished (called q e) i

only_itself : {y : Pair} → Reached rule_g [] (1 at 0) y → y ≡ 1 at 0
only_itself itself = refl
only_itself (first_of h e) = called (only_itself h) e
only_itself (of_second h e d) = absurd (not_finished (called (only_itself h) e) (derives_examines rule_g [] d).1)

pub case_g : Lasting rule_g [] (1 at 0) loop
case_g y r m h e = absurd (not_finished (only_itself h) e)
