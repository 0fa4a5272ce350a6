use Prim.Native.Nat.{◌/◌}
use mathlib.Core.Path.{◌≡◌, refl}
use lib.ListN.{length}
use native.Mathlib.Omega.{arith}
use Rattle.file_structure.specs.Read.{total, total_to, blocks_in}
use Rattle.file_structure.proofs.Parts.{part_block, total-more, length-block}
use Rattle.file_structure.proofs.Sizes.{counts-small}
use borrow.Author.Rules.{rules}
use Rattle.file_structure.proofs.total_of.Goals as goal

pub loop-i-init : goal.loop-i-init
unfolding total_to
loop-i-init c = (search rules, search rules, search rules, refl)

pub count_if-sum-requires : goal.count_if-sum-requires
unfolding blocks_in
count_if-sum-requires c =
    let f = c.args.f.now in
    let p = part_block f c.loop-i.i in
    record { b_len = rw p (length-block f c.loop-i.i (omega arith)); b_bound = rw p (counts-small f c.loop-i.i c.requires (omega arith)) }

pub loop-i-preserved : goal.loop-i-preserved
loop-i-preserved c = (
  omega arith,
  c.loop-i.invariant.1,
  omega arith,
  total-more _ _ _ _ _ c.loop-i.invariant.3 (rw part_block at c.count_if-sum.ensures.value),
)

pub returns : goal.returns
unfolding total blocks_in
returns c =
    let e : c.loop-i.i ≡ length c.args.f.now / 512 = omega arith in
    rw (← e) c.loop-i.invariant.3
