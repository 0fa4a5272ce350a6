use Rattle.records.proofs.Laws.{flags}
use Rattle.records.specs.Bytes.{word}
use Rattle.records.proofs.bytes.word_at.Goals as goal

pub returns : goal.returns
unfolding word
returns c =
    search (flags, ← c.join4.ensures, ← c.byte-4.ensures, ← c.byte-3.ensures, ← c.byte-2.ensures, ← c.byte.ensures)
