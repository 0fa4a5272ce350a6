use mathlib.Core.Bool.{true}
use Rattle.constraints.specs.Lined.{lined}
use Rattle.column_constraints.specs.Abstraction.{limit_of}
use Rattle.constraints.specs.Column as q
use mathlib.Core.Path.{◌∙◌, ap}
use Rattle.rewrite.proofs.add.add_equal.Goals as goal

pub returns : goal.returns
returns c =
    record { result_value = (λ t a. c.with_upper.ensures.result_value t a ∙ ap (λ x. q.add_upper lined (limit_of c.args.v) true x) (c.with_lower-d.ensures.result_value t a)); len_value = c.with_upper.ensures.len_value ∙ c.with_lower-d.ensures.len_value }
