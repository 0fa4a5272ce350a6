use mathlib.Core.Path.{◌∙◌, ap}
use native.Mathlib.Omega.{arith}
use Rattle.text_order.specs.Starts.{part_at}
use Rattle.text_order.proofs.Words.{most-few}
use Rattle.text_order.proofs.testing.full_at.Goals as goal

pub part_at-requires : goal.part_at-requires
part_at-requires c =
    let w = most-few c.args.size c.args.s in
    (omega (arith, c.requires.0, c.requires.1), omega (arith, c.most_at.ensures, w))

pub returns : goal.returns
returns c = c.part_at.ensures ∙ ap (part_at c.args.s) c.most_at.ensures
