use Rattle.std.proofs.Common.{refl, arith}
use Rattle.row_blocks.proofs.Turns.{binary-a, binary-b}
use Rattle.row_blocks.proofs.Worths.{record_there, column-there}
use Rattle.row_blocks.proofs.Telling.{word_of, rows-small, rows_end, line-column, compare-line}
use Rattle.row_blocks.proofs.lines.compare_line.Goals as goal

pub fields_in-x-requires : goal.fields_in-x-requires
fields_in-x-requires c =
    record_there _ _ _ _ _ _ _ _ _ (binary-a _ _ _ _ _ _ _ _ _ _ _ c.requires.turn c.requires.kind_value).ready
    refl

pub fields_in-y-requires : goal.fields_in-y-requires
fields_in-y-requires c =
    record_there _ _ _ _ _ _ _ _ _ (binary-b _ _ _ _ _ _ _ _ _ _ _ c.requires.turn c.requires.kind_value).ready
    refl

pub bounds-words-x : goal.bounds-words-x
bounds-words-x c =
    let r = (binary-a _ _ _ _ _ _ _ _ _ _ _ c.requires.turn c.requires.kind_value).ready in
    let h = column-there _ _ _ _ _ _ _ _ _ r c.fields_in-x.ensures (line-column _ _ _ _ _ _ _ _ _ _ _ c.requires.turn c.requires.line _ c.fields_in-x.ensures) in
    let w = r.narrow in
    omega (arith, h, w, c.requires.in_bounds)

pub compare_literal-requires : goal.compare_literal-requires
compare_literal-requires c =
    let r = (binary-a _ _ _ _ _ _ _ _ _ _ _ c.requires.turn c.requires.kind_value).ready in
    let h = column-there _ _ _ _ _ _ _ _ _ r c.fields_in-x.ensures (line-column _ _ _ _ _ _ _ _ _ _ _ c.requires.turn c.requires.line _ c.fields_in-x.ensures) in
    let q = c.requires.line.compared c.requires.kind_value in
    record { rows_bound = r.few; columns_bound = r.narrow; c_lt_columns = h; rows_bound_2 = rows-small _ _ _ _ _ _ _ _ r; rows_in_bounds = rows_end _ _ _ _ _ _ _ _ r; fact = q.1; fact_2 = q.2 }

pub returns : goal.returns
returns c =
    let r = (binary-a _ _ _ _ _ _ _ _ _ _ _ c.requires.turn c.requires.kind_value).ready in
    let h = column-there _ _ _ _ _ _ _ _ _ r c.fields_in-x.ensures (line-column _ _ _ _ _ _ _ _ _ _ _ c.requires.turn c.requires.line _ c.fields_in-x.ensures) in
    compare-line _ _ _ _ _ _ _ _ _ _ _ c.requires.turn c.requires.line _ c.fields_in-x.ensures c.requires.kind_value _ c.fields_in-y.ensures _ c.join.ensures _ (c.compare_literal.ensures _ (word_of _ _ _ _ _ _ c.requires.null_words h))
