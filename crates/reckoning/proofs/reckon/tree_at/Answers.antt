use lib.ListN.{get_or-eq_default}
use borrow.Author.Rules.{rules}
use Rattle.reckoning.proofs.reckon.tree_at.Goals as goal

pub returns : goal.returns
returns c = record { value = rw (get_or-eq_default _ _ c.if-at-trees.false); upper_bound = search rules }
