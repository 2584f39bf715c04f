use mathlib.Core.Path.{subst}
use Rattle.schema.specs.Exported.{Fits}
use Rattle.shorthand.specs.Promise.{told}
use Rattle.entryreader.proofs.Shortened.{compiled_fits}
use Rattle.entryreader.proofs.entryreader_shorthand.Goals as goal

pub map-requires : goal.map-requires
map-requires c =
    let a = c.args in
    let k = c.compile-compiled in
    λ x e. subst (λ r. Fits (λ n. n) (told r)) e (compiled_fits a.text.now a.out.now k.new.out k.result k.ensures)
