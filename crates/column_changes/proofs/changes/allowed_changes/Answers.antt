use mathlib.Core.Path.{sym, ◌∙◌, ap}
use mathlib.Core.List.{List}
use Prim.Native.Nat.{ℕ}
use lib.ListN.{get_or}
use Rattle.column_constraints.specs.Abstraction.{numbered}
use Rattle.column_sets.proofs.Lists.{held-allowed}
use Rattle.column_changes.proofs.changes.allowed_changes.Goals as goal

pub returns-then-c : goal.returns-then-c
returns-then-c c = λ t e. rw c.if-c.true

pub returns-then-has_mark : goal.returns-then-has_mark
returns-then-has_mark c =
    λ t e. held-allowed t (numbered c.args.marks.now c.args.c) c.args.j c.if-c.false (sym
    c.has_mark.ensures ∙ c.if-has_mark.true) (ap (λ (l : List ℕ). get_or l c.args.j 0) e.0 ∙ c.requires.j_value)

pub allowed_narrows-requires : goal.allowed_narrows-requires
allowed_narrows-requires c = c.requires.indexed

pub returns : goal.returns
returns c = λ t e. rw (c.if-c.false, e.0, e.1, e.2, e.3) c.allowed_narrows.ensures
