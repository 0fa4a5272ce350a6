use Rattle.row_ranks.specs.RowRanks.{holds_symbol}
use Rattle.row_ranks.proofs.row.holds_symbol.Goals as goal

pub returns : goal.returns
unfolding holds_symbol
returns c = rw c.null_marked.ensures
