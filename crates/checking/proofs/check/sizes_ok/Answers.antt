use Rattle.records.proofs.Laws.{flags}
use Rattle.checking.specs.Check.{sizes_ok_in}
use Rattle.checking.proofs.check.sizes_ok.Goals as goal

pub returns-then-used-gt4096 : goal.returns-then-used-gt4096
unfolding sizes_ok_in
returns-then-used-gt4096 c = search flags

pub returns-then-rs-used : goal.returns-then-rs-used
unfolding sizes_ok_in
returns-then-rs-used c = search flags

pub returns-then-p-ne0 : goal.returns-then-p-ne0
unfolding sizes_ok_in
returns-then-p-ne0 c = search flags

pub returns-then-text-gt8193 : goal.returns-then-text-gt8193
unfolding sizes_ok_in
returns-then-text-gt8193 c = search flags

pub returns : goal.returns
unfolding sizes_ok_in
returns c = search flags
