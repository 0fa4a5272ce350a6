use Prim.Native.Nat.{◌/◌}
use mathlib.Core.Path.{◌≡◌, ◌∙◌, refl, sym}
use lib.ListN.{length}
use native.Mathlib.Omega.{arith}
use Rattle.file_structure.specs.Read.{held_to, held, block_at, blocks_in}
use Rattle.file_blocks.proofs.Lists.{overwrite-none}
use Rattle.file_structure.proofs.Parts.{part_block, length-block}
use Rattle.files.proofs.Contents.{held-room, held-length, gather-more, block-is_ok, block-fits}
use borrow.Author.Rules.{rules}
use Rattle.files.proofs.held.gather.Goals as goal

pub loop-i-init : goal.loop-i-init
unfolding held_to
loop-i-init c = (search rules, search rules, refl, refl, sym (overwrite-none _ 0))

pub take_block-at-requires : goal.take_block-at-requires
unfolding blocks_in
take_block-at-requires c =
    let f = c.args.f.now in
    let p = part_block f c.loop-i.i in
    let r = held-room c.args.kind f c.loop-i.i _ (omega arith) c.requires.f_in_bounds in
    record {
      b_len = rw p (length-block f c.loop-i.i (omega arith));
      b_bound = rw p (block-fits (block_at f c.loop-i.i) c.loop-i.i (block-is_ok f
          c.loop-i.i c.requires.f_value (omega arith)));
      b_in_bounds = rw p (omega (arith, r, c.loop-i.invariant.2, c.loop-i.invariant.3));
    }

pub loop-i-preserved : goal.loop-i-preserved
loop-i-preserved c =
    let f = c.args.f.now in
    let p = part_block f c.loop-i.i in
    let r = held-room c.args.kind f c.loop-i.i _ (omega arith) c.requires.f_in_bounds in (
      omega arith,
      c.loop-i.invariant.1,
      omega arith,
      rw c.loop-i.invariant.3 at (rw p at c.take_block-at.ensures.value) ∙ held-length
          c.args.kind f c.loop-i.i,
      gather-more c.args.kind f c.args.dst.now _ _ c.loop-i.i _ c.loop-i.invariant.3
          (omega (arith, r, c.loop-i.invariant.3)) c.loop-i.invariant.4 (rw p at c.take_block-at.ensures.dst_after),
    )

pub returns : goal.returns
unfolding held blocks_in
returns c =
    let e : c.loop-i.i ≡ length c.args.f.now / 512 = omega arith in
    rw (← e) c.loop-i.invariant.4
