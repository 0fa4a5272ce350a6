use Rattle.records.proofs.Laws.{flags}
use Rattle.file_structure.specs.Read.{unused_ok}
use Rattle.file_structure.proofs.unused_ok.Goals as goal

pub returns-then-not-zeros_from : goal.returns-then-not-zeros_from
unfolding unused_ok
returns-then-not-zeros_from c = search (flags, ← c.zeros_from.ensures)

pub returns : goal.returns
unfolding unused_ok
returns c = search (flags, ← c.zeros_from.ensures, ← c.zeros_from-2.ensures, ← c.content_size-size.ensures)
