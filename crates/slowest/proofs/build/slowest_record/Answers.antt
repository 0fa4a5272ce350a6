use Rattle.records.proofs.Laws.{flags}
use Rattle.slowest.specs.Screen.{slowest_record}
use Rattle.slowest.proofs.build.slowest_record.Goals as goal

pub returns-then-i-n : goal.returns-then-i-n
unfolding slowest_record
returns-then-i-n c = search flags

pub returns-then-i-n-2 : goal.returns-then-i-n-2
unfolding slowest_record
returns-then-i-n-2 c = search flags

pub returns-then-i-n-3 : goal.returns-then-i-n-3
unfolding slowest_record
returns-then-i-n-3 c = search flags

pub returns-then-i-n-eq0 : goal.returns-then-i-n-eq0
unfolding slowest_record
returns-then-i-n-eq0 c = search flags

pub returns : goal.returns
unfolding slowest_record
returns c = search flags
