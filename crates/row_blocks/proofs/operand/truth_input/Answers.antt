use Rattle.std.proofs.Common.{sym, refl, ◌∙◌, arith}
use Rattle.truth.specs.Halves.{bias_of}
use Rattle.row_blocks.proofs.Worths.{record_there, kept-told, free_told}
use Rattle.row_blocks.proofs.operand.truth_input.Goals as goal

pub fields_in-requires : goal.fields_in-requires
fields_in-requires c = record_there _ _ _ _ _ _ _ c.args.n _ c.requires.input.ready refl

pub returns-then-is_kept : goal.returns-then-is_kept
returns-then-is_kept c =
    kept-told _ _ _ _ _ _ _ c.args.n _ c.requires.input.ready c.fields_in.ensures (sym c.is_kept.ensures ∙
    c.if-is_kept.true) _ _ c.requires.input.held

pub returns : goal.returns
unfolding bias_of
returns c =
    free_told _ _ _ _ _ _ _ c.args.n _ c.requires.input.ready c.fields_in.ensures (sym c.is_kept.ensures ∙
    c.if-is_kept.false) _ (c.equal_to.ensures _ _ 1 c.operand-u.ensures.shown (omega arith) refl)
