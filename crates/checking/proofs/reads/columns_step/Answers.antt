use Rattle.records.proofs.Laws.{flags}
use Rattle.checking.proofs.reads.columns_step.Goals as goal

pub returns : goal.returns
returns c =
    search (flags, ← c.word_of_inputs.ensures, ← c.inputs_of.ensures, ← c.own_column.ensures, ← c.record_at-r.ensures)
