use Rattle.row_blocks.proofs.quotients.+fill_worth.Given as goal

-- `quotients::fill_worth`, which calls itself on the inputs of a division: their numbers are below the record's. Assumes nothing.
abbrev pub decreases-fill_worth : goal.decreases-fill_worth
decreases-fill_worth l = l.n.0
