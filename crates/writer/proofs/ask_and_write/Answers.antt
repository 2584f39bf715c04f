use mathlib.Core.Path.{sym, ◌∙◌}
use Rattle.writer.proofs.LinesAsked.{writes_nothing, may_write_lines, answers_still, writes_lines}
use Rattle.writer.proofs.ask_and_write.Goals as goal

pub write_lines-lines-requires : goal.write_lines-lines-requires
write_lines-lines-requires c = may_write_lines c.requires c.ask-answer.ensures (sym c.has_result.ensures ∙ c.if-has_result.true)

pub returns-then-has_result : goal.returns-then-has_result
returns-then-has_result c =
    let f = sym c.has_result.ensures ∙ c.if-has_result.true in
    record {
      answers = answers_still c.requires c.ask-answer.ensures f c.write_lines-lines.ensures;
      writes = writes_lines c.requires c.ask-answer.ensures f c.write_lines-lines.ensures;
    }

pub returns : goal.returns
returns c = record {
  answers = c.ask-answer.ensures;
  writes = writes_nothing c.requires c.ask-answer.ensures (sym c.has_result.ensures ∙ c.if-has_result.false);
}
