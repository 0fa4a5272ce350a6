use Rattle.records.proofs.Laws.{flags}
use Rattle.rewrite.proofs.write.chain_at.Goals as goal

pub returns-then-i-kept : goal.returns-then-i-kept
returns-then-i-kept c = search flags

pub returns : goal.returns
returns c = search flags
