use mathlib.Core.Path.{◌≡◌}
use native.Mathlib.Omega.{arith}
use Rattle.pool_lists.proofs.Members.{finds_none, finds_more, finds_done}
use borrow.Author.Rules.{rules}
use Rattle.pool_lists.proofs.member.find_keys.Goals as goal

pub loop-i-init : goal.loop-i-init
loop-i-init c = (search rules, finds_none _ _ _)

pub find_key-requires : goal.find_key-requires
find_key-requires c = c.requires.count_in_bounds

pub loop-i-preserved : goal.loop-i-preserved
loop-i-preserved c =
    (search rules, finds_more _ _ _ _ _ _ _ c.loop-i.invariant.1 c.find_key.ensures c.with_bit-m.ensures)

pub returns : goal.returns
returns c =
    let e : c.loop-i.i ≡ 64 = omega arith in
    finds_done _ _ _ _ _ e c.loop-i.invariant.1
