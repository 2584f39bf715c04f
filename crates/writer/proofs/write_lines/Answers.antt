use Rattle.writer.proofs.LinesAsked.{lines_end}
use Rattle.writer.proofs.write_lines.Goals as goal

pub returns : goal.returns
returns c =
    lines_end c.requires c.blank.ensures c.cell_number-root.ensures c.write_from.ensures
