use Rattle.records.proofs.Laws.{flags}
use Rattle.checking.proofs.reads.word_of.Goals as goal

pub returns-then-x-n : goal.returns-then-x-n
returns-then-x-n c = search flags

pub returns : goal.returns
returns c = search flags
