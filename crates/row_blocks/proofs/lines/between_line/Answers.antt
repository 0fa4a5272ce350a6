use Rattle.std.proofs.Common.{refl, arith}
use Rattle.row_blocks.proofs.Turns.{between-a, between-b, between-c}
use Rattle.row_blocks.proofs.Worths.{record_there, column-there}
use Rattle.row_blocks.proofs.Telling.{word_of, rows-small, rows_end, line-column, between-line}
use Rattle.row_blocks.proofs.lines.between_line.Goals as goal

pub fields_in-x-requires : goal.fields_in-x-requires
fields_in-x-requires c =
    record_there _ _ _ _ _ _ _ _ _ (between-a _ _ _ _ _ _ _ _ _ _ _ c.requires.turn c.requires.kind_value).ready
    refl

pub fields_in-y-requires : goal.fields_in-y-requires
fields_in-y-requires c =
    record_there _ _ _ _ _ _ _ _ _ (between-b _ _ _ _ _ _ _ _ _ _ _ c.requires.turn c.requires.kind_value).ready
    refl

pub fields_in-z-requires : goal.fields_in-z-requires
fields_in-z-requires c =
    record_there _ _ _ _ _ _ _ _ _ (between-c _ _ _ _ _ _ _ _ _ _ _ c.requires.turn c.requires.kind_value).ready
    refl

pub bounds-words-x : goal.bounds-words-x
bounds-words-x c =
    let r = (between-a _ _ _ _ _ _ _ _ _ _ _ c.requires.turn c.requires.kind_value).ready in
    let h = column-there _ _ _ _ _ _ _ _ _ r c.fields_in-x.ensures (line-column _ _ _ _ _ _ _ _ _ _ _ c.requires.turn c.requires.line _ c.fields_in-x.ensures) in
    let w = r.narrow in
    omega (arith, h, w, c.requires.in_bounds)

pub between_literals-requires : goal.between_literals-requires
between_literals-requires c =
    let r = (between-a _ _ _ _ _ _ _ _ _ _ _ c.requires.turn c.requires.kind_value).ready in
    let h = column-there _ _ _ _ _ _ _ _ _ r c.fields_in-x.ensures (line-column _ _ _ _ _ _ _ _ _ _ _ c.requires.turn c.requires.line _ c.fields_in-x.ensures) in
    record { rows_bound = r.few; columns_bound = r.narrow; c_lt_columns = h; rows_bound_2 = rows-small _ _ _ _ _ _ _ _ r; rows_in_bounds = rows_end _ _ _ _ _ _ _ _ r }

pub returns : goal.returns
returns c =
    let r = (between-a _ _ _ _ _ _ _ _ _ _ _ c.requires.turn c.requires.kind_value).ready in
    let h = column-there _ _ _ _ _ _ _ _ _ r c.fields_in-x.ensures (line-column _ _ _ _ _ _ _ _ _ _ _ c.requires.turn c.requires.line _ c.fields_in-x.ensures) in
    between-line _ _ _ _ _ _ _ _ _ _ _ c.requires.turn c.requires.line _ c.fields_in-x.ensures c.requires.kind_value _ _ c.fields_in-y.ensures c.fields_in-z.ensures _ _ c.join.ensures c.join-2.ensures _
    (c.between_literals.ensures _ (word_of _ _ _ _ _ _ c.requires.null_words h))
