use Rattle.symbol_chain.proofs.RowClasses.{part_row}
use Rattle.symbol_chain.proofs.ranked.chain_fault.Goals as goal

pub returns : goal.returns
returns c = rw part_row at c.row_fault_with.ensures
