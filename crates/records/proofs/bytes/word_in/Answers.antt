use Rattle.records.proofs.Laws.{flags}
use Rattle.records.specs.Bytes.{word}
use Rattle.records.proofs.bytes.word_in.Goals as goal

pub returns : goal.returns
unfolding word
returns c = search (flags, ← c.join4.ensures)
