use Rattle.records.proofs.Laws.{flags}
use Rattle.records.specs.Bytes.{value_at}
use Rattle.records.proofs.bytes.value_in.Goals as goal

pub returns : goal.returns
unfolding value_at
returns c = search (flags, ← c.join8.ensures, ← c.word_in-2.ensures, ← c.word_in.ensures)
