use mathlib.Core.Path.{sym}
use mathlib.Core.Bool.{not-not}
use borrow.Author.Tests.{not-true, not-false}
use Rattle.column_sets.proofs.Lists.{no_excluded, no_allowed}
use mathlib.Core.Path.{ap}
use mathlib.Core.Bool.{not}
use Rattle.resolve_deferred.proofs.resolve.has_value_constraint.Goals as goal

pub returns-then-not-is_absent : goal.returns-then-not-is_absent
returns-then-not-is_absent c = λ t e. rw (← c.is_absent.ensures, not-true c.is_absent.result (ap not c.if-not-is_absent.true))

pub returns-then-not-is_absent-2 : goal.returns-then-not-is_absent-2
returns-then-not-is_absent-2 c =
    λ t e. rw (
      ← c.is_absent.ensures,
      not-false c.is_absent.result (ap not c.if-not-is_absent.false),
      ← c.is_absent-2.ensures,
      not-true c.is_absent-2.result (ap not c.if-not-is_absent-2.true),
    )

pub returns-then-has_kind : goal.returns-then-has_kind
returns-then-has_kind c =
    λ t e. rw (
      ← c.is_absent.ensures,
      not-false c.is_absent.result (ap not c.if-not-is_absent.false),
      ← c.is_absent-2.ensures,
      not-false c.is_absent-2.result (ap not c.if-not-is_absent-2.false),
      no_excluded t.kinds t.values c.args.marks.now c.args.c.len,
      e,
      ← c.has_kind.ensures,
      c.if-has_kind.true,
    )

pub returns-then-has_kind-2 : goal.returns-then-has_kind-2
returns-then-has_kind-2 c =
    λ t e. rw (
      ← c.is_absent.ensures,
      not-false c.is_absent.result (ap not c.if-not-is_absent.false),
      ← c.is_absent-2.ensures,
      not-false c.is_absent-2.result (ap not c.if-not-is_absent-2.false),
      no_excluded t.kinds t.values c.args.marks.now c.args.c.len,
      no_allowed t.kinds t.starts t.counts t.pool c.args.marks.now c.args.c.len,
      e,
      ← c.has_kind.ensures,
      c.if-has_kind.false,
      ← c.has_kind-2.ensures,
      c.if-has_kind-2.true,
    )

pub returns : goal.returns
returns c =
    λ t e. rw (
      ← c.is_absent.ensures,
      not-false c.is_absent.result (ap not c.if-not-is_absent.false),
      ← c.is_absent-2.ensures,
      not-false c.is_absent-2.result (ap not c.if-not-is_absent-2.false),
      no_excluded t.kinds t.values c.args.marks.now c.args.c.len,
      no_allowed t.kinds t.starts t.counts t.pool c.args.marks.now c.args.c.len,
      e,
      ← c.has_kind.ensures,
      c.if-has_kind.false,
      ← c.has_kind-2.ensures,
      c.if-has_kind-2.false,
    ) (sym (not-not c.args.c.strict))
