use borrow.Author.Rules.{rules}
use Rattle.ranked_chain.proofs.RaisedLists.{middle-pooled}
use Rattle.ranked_chain.proofs.screen.rank_records.Goals as goal

pub raise_lists-requires : goal.raise_lists-requires
raise_lists-requires c =
    record {
      used_bound = (c.requires.used_bound.0, search (rules, c.requires.used_bound.1), search (rules, c.requires.used_in_bounds.1));
      lists_pooled = middle-pooled _ _ _ _
          c.rank_literals.ensures c.requires.used_in_bounds.2;
    }
