use Rattle.row_test.proofs.evaluate.+truth_at_value_at.Given as goal

-- The measure is the record's number.
abbrev pub decreases-truth_at : goal.decreases-truth_at
decreases-truth_at l = l.n.0

abbrev pub decreases-value_at : goal.decreases-value_at
decreases-value_at l = l.n.0
