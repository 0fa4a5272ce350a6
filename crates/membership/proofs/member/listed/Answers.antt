use Rattle.membership.proofs.Lists.{list-more, list-found, list_done, list-start}
use borrow.Author.Rules.{rules}
use Rattle.membership.proofs.member.listed.Goals as goal

pub loop-i-init : goal.loop-i-init
loop-i-init c = (search rules, search rules, list-start _ _ _ _)

pub returns-then-is_eq : goal.returns-then-is_eq
returns-then-is_eq c =
    list-found _ _ _ _ _ c.loop-i.invariant.2
    c.loop-i-test.true
    (rw (
      ← c.value_in.ensures,
      ← c.scalar_cmp.ensures,
      ← c.is_eq.ensures,
    ) c.if-is_eq.true)

pub loop-i-preserved : goal.loop-i-preserved
loop-i-preserved c = (
  search rules,
  search rules,
  list-more _ _ _ _ _ c.loop-i.invariant.2
      c.loop-i-test.true
      (rw (
        ← c.value_in.ensures,
        ← c.scalar_cmp.ensures,
        ← c.is_eq.ensures,
      ) c.if-is_eq.false),
)

pub returns : goal.returns
returns c = list_done _ _ _ _ _ c.loop-i.invariant.2 c.loop-i-test.false
