use Rattle.std.proofs.Common.{◌≡◌, get_or, map, refl, ap, ◌∙◌, arith}
use Rattle.std.proofs.lemmas.List.FromFn.{get_or-map-range_with_len}
use Rattle.std.specs.List.{range_with_len}
use Rattle.classes.specs.Class.{class_of, class_in}
use Rattle.classes.specs.declared.TheConstants.{CLASSES}
use Rattle.classes.proofs.class_of.Goals as goal

-- The table has the class of each byte: one test, which antt computes.
table : CLASSES ≡ map class_of (range_with_len 0 256)
unfolding class_of class_in
table = refl

pub returns : goal.returns
returns c =
    let b = c.args.b in
    ap (λ t. get_or t b 0) table ∙ get_or-map-range_with_len class_of 0 256 b b 0 (omega arith) (omega arith)
