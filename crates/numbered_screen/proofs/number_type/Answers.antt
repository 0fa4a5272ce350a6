use Rattle.records.proofs.Laws.{flags}
use Rattle.numbered_screen.specs.Numbered.{number_type}
use Rattle.numbered_screen.proofs.number_type.Goals as goal

pub returns-then-ty-eq4 : goal.returns-then-ty-eq4
unfolding number_type
returns-then-ty-eq4 c = search flags

pub returns : goal.returns
unfolding number_type
returns c = search flags
