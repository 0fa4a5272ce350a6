use Rattle.records.proofs.Laws.{flags}
use Rattle.records.specs.Record.{fields_at}
use Rattle.ranked_chain.specs.RankedChain.{is_number_list}
use Rattle.ranked_chain.proofs.lists.is_number_list.Goals as goal

pub returns : goal.returns
unfolding is_number_list fields_at
returns c = search (flags, ← c.byte.ensures, ← c.byte-2.ensures)
