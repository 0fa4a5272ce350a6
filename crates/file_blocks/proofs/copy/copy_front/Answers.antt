use mathlib.Core.Path.{◌≡◌, refl, ◌∙◌}
use lib.ListN.{length, length-set}
use lib.Seq.{take_all}
use native.Mathlib.Omega.{arith}
use Rattle.file_blocks.proofs.Lists.{copied_more}
use borrow.Author.Rules.{rules}
use Rattle.file_blocks.proofs.copy.copy_front.Goals as goal

pub loop-i-init : goal.loop-i-init
loop-i-init c = (search rules, refl, refl)

pub loop-i-preserved : goal.loop-i-preserved
loop-i-preserved c = (
  omega arith,
  simp length-set c.loop-i.invariant.1,
  rw c.loop-i.invariant.2 (copied_more c.args.src.now c.args.dst.now c.loop-i.i (omega arith) (omega arith)),
)

pub returns : goal.returns
returns c =
    let e : c.loop-i.i ≡ length c.args.src.now = omega arith in
    c.loop-i.invariant.2 ∙ rw (e, take_all (length c.args.src.now) c.args.src.now (omega arith))
