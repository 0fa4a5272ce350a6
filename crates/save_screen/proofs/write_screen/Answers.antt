use Prim.Native.Nat.{◌*◌}
use mathlib.Core.Path.{refl, sym}
use lib.Seq.{length-take-le}
use native.Mathlib.Omega.{arith}
use Rattle.file_blocks.specs.Format.{file_length, blocks_for}
use Rattle.files.proofs.Saving.{screen_written}
use Rattle.save_screen.proofs.write_screen.Goals as goal

pub write_block-requires : goal.write_block-requires
unfolding file_length
write_block-requires c =
    record { number_bound = omega arith; number_in_bounds = omega arith; content_len_bound = omega arith }

pub slice_bounds-write_blocks-end : goal.slice_bounds-write_blocks-end
slice_bounds-write_blocks-end c = sym (length-take-le (16 * c.args.used) c.args.rs.now c.requires.used_in_bounds)

pub write_blocks-requires : goal.write_blocks-requires
unfolding file_length blocks_for
write_blocks-requires c =
    let k = length-take-le (16 * c.args.used) c.args.rs.now c.requires.used_in_bounds in
    record { content_bound = omega (arith, k); content_in_bounds = omega (arith, k) }

pub write_blocks-requires-2 : goal.write_blocks-requires-2
unfolding file_length blocks_for
write_blocks-requires-2 c = record { content_bound = omega arith; content_in_bounds = omega arith }

pub write_blocks-requires-3 : goal.write_blocks-requires-3
unfolding file_length blocks_for
write_blocks-requires-3 c = record { content_bound = omega arith; content_in_bounds = omega arith }

pub write_block-requires-2 : goal.write_block-requires-2
unfolding file_length blocks_for
write_block-requires-2 c =
    let u = c.requires.used_bound in
    let v = c.requires.p_len_bound in
    let x = c.requires.x_len_bound in
    record { number_bound = omega (arith, u, v, x); number_in_bounds = omega (arith, c.requires.used_in_bounds_2, c.write_block.auto.file, c.write_blocks.auto.file, c.write_blocks-2.auto.file, c.write_blocks-3.auto.file); content_len_bound = omega arith }

pub returns : goal.returns
returns c =
    screen_written _ _ _ _ _ _ _ _ _ _ _ c.args.used c.args.root _ _ _ refl refl refl c.requires.t_len_bound c.requires.used_in_bounds c.requires.used_in_bounds_2 c.end_bytes-end.ensures c.write_block.ensures c.write_blocks.ensures
    c.write_blocks-2.ensures c.write_blocks-3.ensures c.write_block-2.ensures
