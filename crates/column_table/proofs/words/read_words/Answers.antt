use Rattle.column_table.specs.Words.{column_from}
use Rattle.column_table.proofs.words.read_words.Goals as goal

pub returns : goal.returns
unfolding column_from
returns c =
    rw (c.bound_from-low.ensures, c.bound_from-upp.ensures, c.nullability_from-nul.ensures, c.narrow.ensures)
