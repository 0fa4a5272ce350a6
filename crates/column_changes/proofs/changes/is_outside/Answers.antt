use Rattle.column_constraints.proofs.Lines.{contains-values}
use mathlib.Core.Bool.{and-true, and-false}
use Rattle.column_changes.proofs.changes.is_outside.Goals as goal

pub listed_at-requires : goal.listed_at-requires
listed_at-requires c = c.requires.indexed

pub returns-then-listed_at : goal.returns-then-listed_at
returns-then-listed_at c = rw (contains-values, ← c.listed_at.ensures, c.if-listed_at.true, and-false)

pub allows_at-requires : goal.allows_at-requires
allows_at-requires c = record { indexed = c.requires.indexed; low = c.requires.low }

pub returns : goal.returns
returns c = rw (c.allows_at.ensures, contains-values, ← c.listed_at.ensures, c.if-listed_at.false, and-true)
