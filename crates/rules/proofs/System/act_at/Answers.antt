use mathlib.Core.Path.{ap, ◌∙◌}
use lib.ListN.{get_or}
use Rattle.std.specs.Prelude.{option_map}
use Rattle.std.proofs.lemmas.Option.{slice_get-get_or, slice_get_past}
use Rattle.classes.specs.Class.{class_of}
use Rattle.rules.proofs.Seeing.{sees}
use native.Mathlib.Omega.{arith}
use Rattle.rules.proofs.RuleWords.{word_of}
use Rattle.schema.specs.Derivation.{act_of}
use Rattle.rules.proofs.System.act_at.Goals as goal

-- `act_at` does what the rule of the variable does at the position. Assumes nothing.
pub returns-in-Call : goal.returns-in-Call
unfolding act_of
returns-in-Call c = rw (word_of c.args.self.rules.now c.args.variable (omega arith), ← c.in-Call.ensures)

pub returns-in-Byte : goal.returns-in-Byte
unfolding act_of
returns-in-Byte c = rw (word_of c.args.self.rules.now c.args.variable (omega arith), ← c.in-Byte.ensures)
    (c.one_byte.ensures
    ∙ sees c.args.self.input.now c.args.position _ (get_or c.args.self.input.now c.args.position 0) (λ h. c.byte_at.ensures ∙ slice_get-get_or _ _ 0 h) (λ h. c.byte_at.ensures ∙ slice_get_past _ _ h))

pub returns-in-Class : goal.returns-in-Class
unfolding act_of
returns-in-Class c = rw (word_of c.args.self.rules.now c.args.variable (omega arith), ← c.in-Class.ensures)
    (c.one_byte-in-Class.ensures
    ∙ sees c.args.self.input.now c.args.position _ (class_of (get_or c.args.self.input.now c.args.position 0)) (λ h. c.class_at.ensures ∙ ap (option_map class_of) (slice_get-get_or _ _ 0 h)) (λ h. c.class_at.ensures ∙ ap (option_map class_of) (slice_get_past _ _ h)))

pub returns-in-Always : goal.returns-in-Always
unfolding act_of
returns-in-Always c = rw (word_of c.args.self.rules.now c.args.variable (omega arith), ← c.in-Always.ensures)

pub returns-in-Never : goal.returns-in-Never
unfolding act_of
returns-in-Never c = rw (word_of c.args.self.rules.now c.args.variable (omega arith), ← c.in-Never.ensures)

pub returns-in-Absent : goal.returns-in-Absent
unfolding act_of
returns-in-Absent c = rw (word_of c.args.self.rules.now c.args.variable (omega arith), ← c.in-Absent.ensures)
