use Rattle.symbol_chain.proofs.RowClasses.{part_row}
use Rattle.symbol_chain.proofs.each.chain_class.Goals as goal

pub row_class-requires : goal.row_class-requires
row_class-requires c =
    record { checked_in = c.requires.checked_in; root_bound = c.requires.root_bound; used_in_bounds = c.requires.used_in_bounds; reduced = c.requires.reduced }

pub returns : goal.returns
returns c =
    record { value = rw part_row at c.row_class.ensures.value; reduced_2 = c.row_class.ensures.reduced_2 }
