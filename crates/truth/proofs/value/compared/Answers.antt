use Rattle.records.proofs.Laws.{flags}
use Rattle.truth.specs.Evaluate.{compared_of}
use Rattle.truth.proofs.value.compared.Goals as goal

pub returns-then-code-eq1 : goal.returns-then-code-eq1
unfolding compared_of
returns-then-code-eq1 c = search (flags, ← c.from.ensures, ← c.same_values.ensures)

pub returns-then-code-eq3 : goal.returns-then-code-eq3
unfolding compared_of
returns-then-code-eq3 c = search (flags, ← c.from-then-code-eq3.ensures, ← c.same_values-then-code-eq3.ensures)

pub returns : goal.returns
unfolding compared_of
returns c = search (flags, ← c.compare_values.ensures)
