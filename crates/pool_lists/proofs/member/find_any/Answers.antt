use borrow.Author.Rules.{rules}
use native.Mathlib.Omega.{arith}
use Rattle.pool_order.specs.Order.{OrderedPart}
use Rattle.pool_lists.proofs.Members.{finds_kept}
use Rattle.pool_lists.proofs.member.find_any.Goals as goal

pub find_guessed-requires : goal.find_guessed-requires
unfolding OrderedPart
find_guessed-requires c =
    record {
      full = c.requires.ordered_part (omega (arith, c.if-order-lt21512.false));
      in_bounds = omega (arith, c.if-order-lt21512.false);
      count_in_bounds = c.requires.count_in_bounds;
      at_in_bounds = search rules;
      in_bounds_2 = search
          rules;
    }

pub returns : goal.returns
returns c = finds_kept _ _ _ _ c.guess.ensures c.find_guessed.ensures
