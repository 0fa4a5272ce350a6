use borrow.Author.Tests.{not-true, not-false}
use mathlib.Core.Path.{ap}
use mathlib.Core.Bool.{not}
use Rattle.column_changes.proofs.changes.is_feasible.Goals as goal

pub returns-then-not-clears_lower : goal.returns-then-not-clears_lower
returns-then-not-clears_lower c =
    rw (← c.value_at.ensures, ← c.clears_lower.ensures, not-true c.clears_lower.result (ap not c.if-not-clears_lower.true))

pub returns-then-not-clears_upper : goal.returns-then-not-clears_upper
returns-then-not-clears_upper c =
    rw (
      ← c.value_at.ensures,
      ← c.clears_lower.ensures,
      not-false c.clears_lower.result (ap not c.if-not-clears_lower.false),
      ←
          c.clears_upper.ensures,
      not-true c.clears_upper.result (ap not c.if-not-clears_upper.true),
    )

pub returns-then-excludes_if : goal.returns-then-excludes_if
returns-then-excludes_if c =
    rw (
      ← c.value_at.ensures,
      ← c.clears_lower.ensures,
      not-false c.clears_lower.result (ap not c.if-not-clears_lower.false),
      ←
          c.clears_upper.ensures,
      not-false c.clears_upper.result (ap not c.if-not-clears_upper.false),
      ← c.excludes_if.ensures,
      c.if-excludes_if.true,
    )

pub returns-then-not-allows_at : goal.returns-then-not-allows_at
returns-then-not-allows_at c =
    rw (
      ← c.allows_at.ensures,
      ← c.value_at.ensures,
      ← c.clears_lower.ensures,
      not-false c.clears_lower.result
          (ap not c.if-not-clears_lower.false),
      ← c.clears_upper.ensures,
      not-false c.clears_upper.result (ap not c.if-not-clears_upper.false),
      ← c.excludes_if.ensures,
      c.if-excludes_if.false,
      not-true c.allows_at.result (ap not c.if-not-allows_at.true),
    )

pub disallows_at-requires : goal.disallows_at-requires
disallows_at-requires c = record { indexed = c.requires.indexed; low = (c.requires.low.0, c.requires.low.2) }

pub returns : goal.returns
returns c =
    rw (
      ← c.allows_at.ensures,
      ← c.disallows_at.ensures,
      ← c.value_at.ensures,
      ← c.clears_lower.ensures,
      not-false
          c.clears_lower.result (ap not c.if-not-clears_lower.false),
      ← c.clears_upper.ensures,
      not-false c.clears_upper.result (ap not c.if-not-clears_upper.false),
      ←
          c.excludes_if.ensures,
      c.if-excludes_if.false,
      not-false c.allows_at.result (ap not c.if-not-allows_at.false),
    )
