use mathlib.Core.Path.{◌≡◌, refl}
use native.Mathlib.Omega.{arith}
use Rattle.ranked_chain.proofs.RaisedLists.{lists-none, lists-more, start-low}
use borrow.Author.Rules.{rules}
use Rattle.ranked_chain.proofs.lists.raise_lists.Goals as goal

pub loop-i-init : goal.loop-i-init
loop-i-init c = (omega arith, refl, lists-none _ _)

pub raise_list-requires : goal.raise_list-requires
raise_list-requires c =
    record {
      i_bound = (
        omega (arith, c.loop-i-test.true, c.requires.used_bound.0),
        c.requires.used_bound.1,
        omega (
          arith,
          c.loop-i.invariant.1,
          c.loop-i-test.true,
          c.requires.used_bound.2,
        ),
      );
      i_bound_2 = start-low _ _ _ _ _ c.loop-i.invariant.2 c.requires.lists_pooled c.loop-i-test.true;
    }

pub loop-i-preserved : goal.loop-i-preserved
loop-i-preserved c =
    (omega (arith, c.loop-i-test.true), search rules, lists-more _ _ _ _ _ c.loop-i.invariant.2 c.raise_list.ensures)

pub returns : goal.returns
returns c =
    let w : c.loop-i.i ≡ c.args.used = omega (arith, c.loop-i.invariant.0, c.loop-i-test.false) in
    rw w at c.loop-i.invariant.2
