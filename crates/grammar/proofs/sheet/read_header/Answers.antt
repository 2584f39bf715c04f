use mathlib.Core.Path.{refl}
use borrow.Author.Tests.{eq-eqb, ne_eqb}
use Rattle.grammar.proofs.Header.{line_read, fails, passes, byte_within, byte_without, header_found_law, malformed_header}
use Rattle.grammar.proofs.sheet.read_header.Goals as goal

pub returns-in_default : goal.returns-in_default
returns-in_default c = malformed_header _ (line_read _ 1 refl c.fields.ensures c.in_default.is)

pub returns-then-not-within : goal.returns-then-not-within
returns-then-not-within c = header_found_law _ (line_read _ 1 refl c.fields.ensures c.in-Some.is) (fails c.within.ensures c.if-not-within.true-raw) refl refl refl refl

pub returns-then-not-within-2 : goal.returns-then-not-within-2
returns-then-not-within-2 c = header_found_law _ (line_read _ 1 refl c.fields.ensures c.in-Some.is) (passes c.within.ensures c.if-not-within.false-raw) (fails c.within-2.ensures c.if-not-within-2.true-raw) refl refl refl

pub returns-then-endmarker-gt255 : goal.returns-then-endmarker-gt255
returns-then-endmarker-gt255 c = header_found_law _ (line_read _ 1 refl c.fields.ensures c.in-Some.is) (passes c.within.ensures c.if-not-within.false-raw) (passes c.within-2.ensures c.if-not-within-2.false-raw) (byte_without _ c.if-endmarker-gt255.true) refl refl

pub returns-then-fourth-ne0 : goal.returns-then-fourth-ne0
returns-then-fourth-ne0 c = header_found_law _ (line_read _ 1 refl c.fields.ensures c.in-Some.is) (passes c.within.ensures c.if-not-within.false-raw) (passes c.within-2.ensures c.if-not-within-2.false-raw) (byte_within _ c.if-endmarker-gt255.false) (ne_eqb _ _ c.if-fourth-ne0.true) refl

pub returns-then-fifth-ne0 : goal.returns-then-fifth-ne0
returns-then-fifth-ne0 c = header_found_law _ (line_read _ 1 refl c.fields.ensures c.in-Some.is) (passes c.within.ensures c.if-not-within.false-raw) (passes c.within-2.ensures c.if-not-within-2.false-raw) (byte_within _ c.if-endmarker-gt255.false) (eq-eqb _ _ c.if-fourth-ne0.false) (ne_eqb _ _ c.if-fifth-ne0.true)

pub returns : goal.returns
returns c = header_found_law _ (line_read _ 1 refl c.fields.ensures c.in-Some.is) (passes c.within.ensures c.if-not-within.false-raw) (passes c.within-2.ensures c.if-not-within-2.false-raw) (byte_within _ c.if-endmarker-gt255.false) (eq-eqb _ _ c.if-fourth-ne0.false) (eq-eqb _ _ c.if-fifth-ne0.false)
