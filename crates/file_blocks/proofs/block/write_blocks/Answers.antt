use mathlib.Core.Path.{◌≡◌, refl, sym}
use native.Mathlib.Omega.{arith}
use Rattle.file_blocks.specs.Format.{blocks_to, blocks_for}
use Rattle.file_blocks.proofs.Lists.{overwrite-none}
use Rattle.file_blocks.proofs.Making.{piece-part, length-piece, blocks_more}
use borrow.Author.Rules.{rules}
use Rattle.file_blocks.proofs.block.write_blocks.Goals as goal

pub overflow_add-blocks : goal.overflow_add-blocks
unfolding blocks_for
overflow_add-blocks c = omega arith

pub loop-j-init : goal.loop-j-init
unfolding blocks_to blocks_for
loop-j-init c = (search rules, search rules, refl, sym (overwrite-none _ _))

pub overflow_mul-start : goal.overflow_mul-start
unfolding blocks_for
overflow_mul-start c = omega arith

pub piece_end-end-requires : goal.piece_end-end-requires
unfolding blocks_for
piece_end-end-requires c = omega arith

pub overflow_add-first : goal.overflow_add-first
unfolding blocks_for
overflow_add-first c = omega arith

pub write_block-requires : goal.write_block-requires
write_block-requires c =
    let p = piece-part c.args.content.now c.loop-j.j c.piece_end-end.result c.piece_end-end.ensures.0 c.piece_end-end.ensures.1 c.piece_end-end.ensures.2 c.piece_end-end.ensures.3 in
    let q = length-piece c.args.content.now c.loop-j.j in
    record { number_bound = omega arith; number_in_bounds = omega arith; content_len_bound = rw p q }

pub loop-j-preserved : goal.loop-j-preserved
loop-j-preserved c =
    let p = piece-part c.args.content.now c.loop-j.j c.piece_end-end.result c.piece_end-end.ensures.0 c.piece_end-end.ensures.1 c.piece_end-end.ensures.2 c.piece_end-end.ensures.3 in (
      omega arith,
      c.loop-j.invariant.1,
      omega arith,
      blocks_more _ _ _ _ _ _ _ _ (omega arith) p c.loop-j.invariant.3
          c.write_block.ensures,
    )

pub returns : goal.returns
returns c =
    let e : c.loop-j.j ≡ blocks_for c.args.content.now = omega arith in
    rw (← e) c.loop-j.invariant.3
