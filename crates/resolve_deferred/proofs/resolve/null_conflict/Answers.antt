use borrow.Author.Tests.{not-true, not-false}
use mathlib.Core.Path.{ap}
use mathlib.Core.Bool.{not}
use Rattle.resolve_deferred.proofs.resolve.null_conflict.Goals as goal

pub returns-then-not-is_null : goal.returns-then-not-is_null
returns-then-not-is_null c = λ t e. rw (← c.is_null.ensures, not-true c.is_null.result (ap not c.if-not-is_null.true))

pub returns : goal.returns
returns c =
    λ t e. rw (
      ← c.is_null.ensures,
      not-false c.is_null.result
          (ap not c.if-not-is_null.false),
    ) (c.has_value_constraint.ensures t e)
