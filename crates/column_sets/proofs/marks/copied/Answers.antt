use Rattle.std.proofs.Common.{rules}
use Rattle.std.proofs.lemmas.List.{places}
use Rattle.column_sets.proofs.marks.copied.Goals as goal

pub returns : goal.returns
returns c = search (rules, places)
