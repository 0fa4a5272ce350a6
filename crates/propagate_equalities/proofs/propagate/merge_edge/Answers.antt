use Rattle.column_table.proofs.Propagating.{edge-self}
use Rattle.propagate_equalities.proofs.Edges.{edge-taken}
use Rattle.propagate_equalities.proofs.propagate.merge_edge.Goals as goal

pub returns-then-x-y : goal.returns-then-x-y
returns-then-x-y c =
    record { edge_merged = (λ T S. edge-self _ _ _ T _ _ _ _ S c.requires.1 c.requires.2 c.slot-x.ensures c.slot-y.ensures c.if-x-y.true); fits = c.requires.0 }

pub returns : goal.returns
returns c =
    record { edge_merged = (λ T S. edge-taken _ _ _ _ _ _ _ T _ _ _ _ S _ _ _ _ c.requires.1 c.requires.2 c.slot-x.ensures c.slot-y.ensures c.if-x-y.false c.take_in-right.ensures.taken_in c.take_in-left.ensures.taken_in); fits = c.take_in-left.ensures.fits }
