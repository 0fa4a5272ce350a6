use Rattle.truth.proofs.Quotients.{divided-keys}
use mathlib.Core.Path.{◌∙◌}
use mir.Syntax.{w64}
use mir.Val.{to_z}
use Rattle.truth.proofs.value.divide_known.Goals as goal

pub returns : goal.returns
returns c =
    c.part_of.ensures ∙ divided-keys c.args.code (to_z w64 c.args.a.0) (to_z w64 c.args.b.0)
    c.divide.result c.divide.ensures
