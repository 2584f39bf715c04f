use mathlib.Core.Path.{refl}
use borrow.Author.Rules.{rules}
use Rattle.output.proofs.certificate.Goals as goal

pub returns : goal.returns
returns c =
    let a = c.args in
    record {
      nothing = search rules;
      writing = λ d. record {
        start = c.start_of-start.result;
        start_is = c.start_of-start.ensures;
        table = a.table.now;
        table' = c.write-written.new.table;
        work = a.work.now;
        work' = c.write-written.new.work;
        table_length = refl;
        work_length = refl;
        written = c.write-written.result;
        promise = c.write-written.ensures;
        counts = search rules;
      };
    }
