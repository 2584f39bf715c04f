use mathlib.Core.Path.{refl, sym, ap}
use borrow.Author.Tests.{lt-ltb, le-ltb}
use Rattle.grammar.specs.Promise.{told}
use Rattle.grammar.specs.Sheet.{sheet}
use Rattle.grammar.proofs.HandedOn.{handed_on}
use Rattle.grammar.proofs.Told.{told_refused, told_read, line_says_law}
use Rattle.grammar.proofs.Fitting.{within_low, within_high, within_both}
use Rattle.rules.proofs.Admitted.{admits}
use Rattle.schema.proofs.Tested.{handed_refused, asked_by}
use native.Mathlib.Omega.{arith}
use Rattle.rules.proofs.admit.Goals as goal

pub returns-then-input-gt4096 : goal.returns-then-input-gt4096
returns-then-input-gt4096 c =
    let a = c.args in
    let p = c.read_sheet.ensures in
    let t = told_read (sheet a.sheet.now) _ _ p.says c.in_ok-grammar.was in
    admits _ _ _ _ _ p.stores (asked_by a.sheet.now a.input.now t.grammar a.variable a.position t.accepts (lt-ltb _ _ c.if-input-gt4096.true) (refl) (refl)) refl

pub returns-then-variable-lt1 : goal.returns-then-variable-lt1
returns-then-variable-lt1 c =
    let a = c.args in
    let p = c.read_sheet.ensures in
    let t = told_read (sheet a.sheet.now) _ _ p.says c.in_ok-grammar.was in
    admits _ _ _ _ _ p.stores (asked_by a.sheet.now a.input.now t.grammar a.variable a.position t.accepts (le-ltb _ _ c.if-input-gt4096.false) (within_low _ _ _ c.if-variable-lt1.true) (refl)) refl

pub returns-then-grammar-variable : goal.returns-then-grammar-variable
returns-then-grammar-variable c =
    let a = c.args in
    let p = c.read_sheet.ensures in
    let t = told_read (sheet a.sheet.now) _ _ p.says c.in_ok-grammar.was in
    admits _ _ _ _ _ p.stores (asked_by a.sheet.now a.input.now t.grammar a.variable a.position t.accepts (le-ltb _ _ c.if-input-gt4096.false) (within_high 1 t.grammar.variables a.variable (omega (arith, t.variables_are))) (refl)) refl

pub returns-then-input-position : goal.returns-then-input-position
returns-then-input-position c =
    let a = c.args in
    let p = c.read_sheet.ensures in
    let t = told_read (sheet a.sheet.now) _ _ p.says c.in_ok-grammar.was in
    admits _ _ _ _ _ p.stores (asked_by a.sheet.now a.input.now t.grammar a.variable a.position t.accepts (le-ltb _ _ c.if-input-gt4096.false) (within_both 1 t.grammar.variables a.variable (omega arith) (omega (arith, t.variables_are))) (lt-ltb _ _ c.if-input-position.true)) refl

pub returns-in_err-grammar : goal.returns-in_err-grammar
returns-in_err-grammar c =
    let a = c.args in
    let p = c.read_sheet.ensures in
    admits _ _ _ _ _ p.stores (handed_refused a.sheet.now _ _ _ (told_refused (sheet a.sheet.now) _ _ p.says c.in_err-grammar.was)) (ap told (handed_on c.from_residual.ensures.1))

pub returns : goal.returns
returns c =
    let a = c.args in
    let p = c.read_sheet.ensures in
    let t = told_read (sheet a.sheet.now) _ _ p.says c.in_ok-grammar.was in
    admits _ _ _ _ _ p.stores (asked_by a.sheet.now a.input.now t.grammar a.variable a.position t.accepts (le-ltb _ _ c.if-input-gt4096.false) (within_both 1 t.grammar.variables a.variable (omega arith) (omega (arith, t.variables_are))) (le-ltb _ _ c.if-input-position.false))
    (sym (line_says_law t))
