use mathlib.Core.Path.{◌≡◌, refl, sym}
use mathlib.Core.Bool.{true, true≢false}
use native.Mathlib.Nat.{le_antisymm}
use native.Mathlib.Omega.{arith}
use lib.ListN.{length, length-set}
use Rattle.records.proofs.Loops.{all_none, all_done}
use Rattle.symbol_chain.specs.ChainWith.{answer_at_with}
use Rattle.symbol_chain.proofs.RowClasses.{chain-refused, tested-more, judged-more, judged-none, row_inside}
use borrow.Author.Rules.{rules}
use Rattle.symbol_chain.proofs.each.judge_each.Goals as goal

pub loop-r-init : goal.loop-r-init
loop-r-init c = (search rules, refl, refl, c.requires.reduced, all_none _, judged-none _ _)

pub chain_class-k-requires : goal.chain_class-k-requires
chain_class-k-requires c =
    record {
      checked_in = c.requires.checked_in;
      root_bound = c.requires.root_bound;
      used_in_bounds = omega (arith, c.requires.used_in_bounds, c.loop-r.invariant.2);
      reduced = c.loop-r.invariant.3;
      r_bound = omega (
        arith,
        c.loop-r-test.true,
        c.requires.nulls_len_bound,
      );
      table_in_bounds = row_inside _ _ _ _ c.requires.values_len c.loop-r-test.true;
    }

pub shape_of-classes-then-k-eq3 : goal.shape_of-classes-then-k-eq3
shape_of-classes-then-k-eq3 c = c.loop-r.invariant.1

pub shape_of-out-then-k-eq3 : goal.shape_of-out-then-k-eq3
shape_of-out-then-k-eq3 c = search (rules, c.loop-r.invariant.2)

pub returns-then-k-eq3 : goal.returns-then-k-eq3
unfolding answer_at_with
returns-then-k-eq3 c =
    record {
      value = chain-refused (answer_at_with c.args.text.now c.args.table.now c.args.records.now c.args.pool.now c.args.used c.args.root.0 c.args.values.now c.args.nulls.now) _ _ _
          c.chain_class-k.ensures.value c.loop-r-test.true c.if-k-eq3.true;
      judged = λ e. absurd (true≢false (sym e));
    }

pub bounds-classes-r : goal.bounds-classes-r
bounds-classes-r c = omega (arith, c.loop-r-test.true, c.requires.nulls_in_bounds, c.loop-r.invariant.1)

pub loop-r-preserved : goal.loop-r-preserved
unfolding answer_at_with
loop-r-preserved c = (
  omega (arith, c.loop-r-test.true),
  simp length-set c.loop-r.invariant.1,
  search (rules, c.loop-r.invariant.2),
  c.chain_class-k.ensures.reduced_2,
  tested-more (answer_at_with c.args.text.now c.args.table.now c.args.records.now c.args.pool.now c.args.used c.args.root.0 c.args.values.now c.args.nulls.now) _
      (length c.args.nulls.now) _ c.chain_class-k.ensures.value c.loop-r.invariant.4 c.if-k-eq3.false,
  judged-more (answer_at_with c.args.text.now c.args.table.now c.args.records.now c.args.pool.now c.args.used c.args.root.0 c.args.values.now c.args.nulls.now) _ (length c.args.nulls.now) _ c.chain_class-k.ensures.value
      c.loop-r.classes (omega (arith, c.loop-r-test.true, c.requires.nulls_in_bounds, c.loop-r.invariant.1)) c.loop-r.invariant.5,
)

pub shape_of-classes : goal.shape_of-classes
shape_of-classes c = c.loop-r.invariant.1

pub shape_of-out : goal.shape_of-out
shape_of-out c = c.loop-r.invariant.2

pub returns : goal.returns
returns c =
    let w : c.loop-r.r ≡ length c.args.nulls.now = le_antisymm c.loop-r.invariant.0 c.loop-r-test.false in
    record { value = all_done _ _ _ c.loop-r.invariant.0 c.loop-r-test.false c.loop-r.invariant.4; judged = λ e. rw w at c.loop-r.invariant.5 }
