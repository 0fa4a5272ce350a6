use native.Mathlib.Omega.{arith}
use Rattle.pool_lists.proofs.Members.{left-start, left-more, left-found, left-done}
use borrow.Author.Rules.{rules}
use Rattle.pool_lists.proofs.member.find_key.Goals as goal

pub loop-i-init : goal.loop-i-init
loop-i-init c = (search rules, search rules, left-start _ _ _ _)

pub returns-then-x-w : goal.returns-then-x-w
returns-then-x-w c =
    left-found _ _ _ _ _ _ _ _ c.loop-i.invariant.2 c.loop-i-test.true c.value_in.ensures (omega arith) c.biased-x.ensures c.if-x-w.true

pub loop-i-preserved : goal.loop-i-preserved
loop-i-preserved c = (
  search rules,
  search rules,
  left-more _ _ _ _ _ _ _ _ c.loop-i.invariant.2 c.loop-i-test.true c.value_in.ensures (omega
      arith) c.biased-x.ensures c.if-x-w.false,
)

pub returns : goal.returns
returns c = left-done _ _ _ _ _ _ c.loop-i.invariant.2 c.loop-i-test.false
