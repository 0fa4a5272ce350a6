use Rattle.records.specs.Record.{fields_at}
use Rattle.ranked_chain.specs.RankedChain.{is_text_literal}
use Rattle.ranked_chain.proofs.literals.is_text_literal.Goals as goal

pub returns : goal.returns
unfolding is_text_literal fields_at
returns c = search (← c.byte.ensures, ← c.byte-2.ensures)
