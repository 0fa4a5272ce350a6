use Rattle.records.proofs.Laws.{flags}
use Rattle.file_structure.specs.Read.{follows_ok, kind_of}
use Rattle.file_structure.proofs.follows_ok.Goals as goal

pub returns-then-b-next : goal.returns-then-b-next
unfolding follows_ok kind_of
returns-then-b-next c = search (flags, ← c.capacity_of.ensures, ← c.repeats_kind.ensures, ← c.count_in.ensures)

pub returns : goal.returns
unfolding follows_ok kind_of
returns c = search (flags, ← c.place_of.ensures, ← c.place_of-2.ensures)
