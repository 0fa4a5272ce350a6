use Rattle.std.proofs.Common.{refl, arith}
use Rattle.row_blocks.proofs.Turns.{null_a}
use Rattle.row_blocks.proofs.Worths.{record_there, column-there}
use Rattle.row_blocks.proofs.Telling.{word_of, line-column, null_line_lem, not-null_line}
use Rattle.row_blocks.proofs.lines.null_line.Goals as goal

pub fields_in-x-requires : goal.fields_in-x-requires
fields_in-x-requires c =
    record_there _ _ _ _ _ _ _ _ _ (null_a _ _ _ _ _ _ _ _ _ _ _ c.requires.turn c.requires.lt_kind c.requires.kind_bound).ready refl

pub bounds-words-x : goal.bounds-words-x
bounds-words-x c =
    let r = (null_a _ _ _ _ _ _ _ _ _ _ _ c.requires.turn c.requires.lt_kind c.requires.kind_bound).ready
    in
    let h = column-there _ _ _ _ _ _ _ _ _ r c.fields_in-x.ensures (line-column _ _ _ _ _ _ _ _ _ _ _ c.requires.turn c.requires.line _ c.fields_in-x.ensures) in
    let w = r.narrow in
    omega (arith, h, w, c.requires.in_bounds)

pub returns-then-f-eq6 : goal.returns-then-f-eq6
returns-then-f-eq6 c =
    let r = (null_a _ _ _ _ _ _ _ _ _ _ _ c.requires.turn c.requires.lt_kind c.requires.kind_bound).ready
    in
    let h = column-there _ _ _ _ _ _ _ _ _ r c.fields_in-x.ensures (line-column _ _ _ _ _ _ _ _ _ _ _ c.requires.turn c.requires.line _ c.fields_in-x.ensures) in
    null_line_lem _ _ _ _ _ _ _ _ _ _ _ c.requires.turn c.requires.line _ c.fields_in-x.ensures c.requires.lt_kind c.requires.kind_bound c.if-f-eq6.true _ (c.null_masks-m.ensures _ _ _ _ _ _ (word_of _ _ _ _ _ _ c.requires.null_words h))

pub returns : goal.returns
returns c =
    let r = (null_a _ _ _ _ _ _ _ _ _ _ _ c.requires.turn c.requires.lt_kind c.requires.kind_bound).ready
    in
    let h = column-there _ _ _ _ _ _ _ _ _ r c.fields_in-x.ensures (line-column _ _ _ _ _ _ _ _ _ _ _ c.requires.turn c.requires.line _ c.fields_in-x.ensures) in
    not-null_line _ _ _ _ _ _ _ _ _ _ _ c.requires.turn c.requires.line _ c.fields_in-x.ensures c.requires.lt_kind c.requires.kind_bound c.if-f-eq6.false _ (c.not_masks.ensures _ _ (c.null_masks-m.ensures _ _ _ _ _ _
    (word_of _ _ _ _ _ _ c.requires.null_words h)))
