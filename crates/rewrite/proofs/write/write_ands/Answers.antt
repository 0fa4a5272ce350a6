use borrow.Author.Rules.{rules}
use native.Mathlib.Omega.{arith}
use mathlib.Core.Path.{refl}
use Rattle.rewrite.specs.Written.{chain_at}
use Rattle.rewrite.proofs.Writing.{ands_begin, ands_none, acc_turn, ands_turn, ands_end_lem}
use Rattle.rewrite.proofs.write.write_ands.Goals as goal

pub loop-i-init : goal.loop-i-init
loop-i-init c =
    (search rules, search rules, omega arith, refl, ands_begin _ _ _ c.chain_at-acc.ensures, ands_none _ _ _)

pub put_record-requires : goal.put_record-requires
put_record-requires c =
    omega (arith, c.loop-i.invariant.0, c.loop-i.invariant.2, c.loop-i.invariant.3, c.loop-i-test.true, c.requires.4)

pub overflow_add-u : goal.overflow_add-u
overflow_add-u c =
    omega (arith, c.loop-i.invariant.0, c.loop-i.invariant.2, c.loop-i-test.true, c.requires.2, c.requires.3)

pub loop-i-preserved : goal.loop-i-preserved
loop-i-preserved c = (
  omega arith,
  omega (arith, c.loop-i.invariant.0, c.loop-i-test.true),
  omega (arith, c.loop-i.invariant.0, c.loop-i.invariant.2),
  search rules,
  acc_turn (chain_at c.args.nodes.now c.args.kept c.args.used) _ _ _ c.loop-i.invariant.0 c.loop-i.invariant.2,
  ands_turn (chain_at c.args.nodes.now c.args.kept c.args.used) _ _ _ _ _ _ _ _ c.loop-i.invariant.0 c.loop-i.invariant.2
      c.loop-i.invariant.4 c.loop-i.invariant.5 c.chain_at-n.ensures c.put_record.ensures,
)

pub returns : goal.returns
returns c =
    ands_end_lem (chain_at c.args.nodes.now c.args.kept c.args.used) _ _ _ _ _
    c.loop-i.invariant.0 c.loop-i.invariant.1 (omega arith) c.loop-i.invariant.5
