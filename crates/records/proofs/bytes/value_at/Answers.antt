use Rattle.records.proofs.Laws.{flags}
use Rattle.records.specs.Bytes.{value_at}
use Rattle.records.proofs.bytes.value_at.Goals as goal

pub returns-then-at-p : goal.returns-then-at-p
returns-then-at-p c = c.value_in.ensures

pub returns : goal.returns
unfolding value_at
returns c = search (flags, ← c.join8.ensures, ← c.word_at-2.ensures, ← c.word_at.ensures)
