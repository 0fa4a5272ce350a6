use Rattle.std.proofs.Common.{◌≡◌, Option, Some, None, is_some, refl, ap, ◌∙◌}
use Rattle.merge.specs.Emit.{is_fixed}
use Rattle.column_constraints.specs.declared.bound.Limit.{Limit}
use Rattle.column_constraints.specs.Abstraction.{fixed_of}
use Rattle.rewrite.proofs.emit.is_fixed.Goals as goal

some-fixed : (o : Option Limit) → is_some o ≡ is_fixed (fixed_of o)
some-fixed None = refl
some-fixed (Some v) = refl

pub returns : goal.returns
returns c = λ t a. c.is_some.ensures ∙ some-fixed _ ∙ ap is_fixed (c.fixed_value.ensures t a)
