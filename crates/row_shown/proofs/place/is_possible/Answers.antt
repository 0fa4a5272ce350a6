use borrow.Author.Tests.{not-true, not-false}
use mathlib.Core.Path.{ap}
use mathlib.Core.Bool.{not}
use Rattle.row_shown.proofs.place.is_possible.Goals as goal

pub returns-then-not-clears_lower : goal.returns-then-not-clears_lower
returns-then-not-clears_lower c = rw (← c.clears_lower.ensures, not-true c.clears_lower.result (ap not c.if-not-clears_lower.true))

pub returns-then-not-clears_upper : goal.returns-then-not-clears_upper
returns-then-not-clears_upper c =
    rw (
      ← c.clears_lower.ensures,
      not-false c.clears_lower.result (ap not c.if-not-clears_lower.false),
      ← c.clears_upper.ensures,
      not-true
          c.clears_upper.result (ap not c.if-not-clears_upper.true),
    )

pub returns-then-excludes : goal.returns-then-excludes
returns-then-excludes c =
    rw (
      ← c.clears_lower.ensures,
      not-false c.clears_lower.result (ap not c.if-not-clears_lower.false),
      ← c.clears_upper.ensures,
      not-false c.clears_upper.result (ap not c.if-not-clears_upper.false),
      ← c.excludes.ensures,
      c.if-excludes.true,
    )

pub returns-then-not-allows : goal.returns-then-not-allows
returns-then-not-allows c =
    rw (
      ← c.clears_lower.ensures,
      not-false c.clears_lower.result (ap not c.if-not-clears_lower.false),
      ← c.clears_upper.ensures,
      not-false c.clears_upper.result (ap not c.if-not-clears_upper.false),
      ← c.excludes.ensures,
      c.if-excludes.false,
      ← c.allows.ensures,
      not-true
          c.allows.result (ap not c.if-not-allows.true),
    )

pub returns : goal.returns
returns c =
    rw (
      ← c.clears_lower.ensures,
      not-false c.clears_lower.result (ap not c.if-not-clears_lower.false),
      ← c.clears_upper.ensures,
      not-false c.clears_upper.result (ap not c.if-not-clears_upper.false),
      ← c.excludes.ensures,
      c.if-excludes.false,
      ← c.allows.ensures,
      not-false
          c.allows.result (ap not c.if-not-allows.false),
      ← c.disallows.ensures,
    )
