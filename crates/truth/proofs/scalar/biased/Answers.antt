use Rattle.records.proofs.Laws.{flags}
use Rattle.truth.specs.Halves.{bias_of}
use Rattle.truth.proofs.scalar.biased.Goals as goal

pub returns-then-x-lt9223372036854775808 : goal.returns-then-x-lt9223372036854775808
unfolding bias_of
returns-then-x-lt9223372036854775808 c = search flags

pub returns : goal.returns
unfolding bias_of
returns c = search flags
