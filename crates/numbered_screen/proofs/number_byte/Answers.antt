use Rattle.records.proofs.Laws.{flags}
use Rattle.numbered_screen.specs.Numbered.{number_byte}
use Rattle.numbered_screen.proofs.number_byte.Goals as goal

pub returns-then-i-eq2 : goal.returns-then-i-eq2
unfolding number_byte
returns-then-i-eq2 c = search (flags, ← c.number_type.ensures)

pub returns : goal.returns
unfolding number_byte
returns c = search flags
