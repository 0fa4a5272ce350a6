use Rattle.records.proofs.Laws.{flags}
use native.Mathlib.Numerals.{add-one}
use Rattle.check_lent.proofs.lent_as.Goals as goal

pub returns-then-text-gt8192 : goal.returns-then-text-gt8192
returns-then-text-gt8192 c = search flags

pub returns : goal.returns
returns c = search (flags, add-one)
