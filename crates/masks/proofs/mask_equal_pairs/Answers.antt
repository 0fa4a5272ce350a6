use Prim.Native.Nat.{ℕ, ◌+◌}
use mathlib.Core.Path.{◌≡◌}
use lib.ListN.{get_or}
use lib.Dec.{eqb}
use native.Mathlib.Omega.{arith}
use Rattle.masks.proofs.Bits.{mask_none, mask_more}
use borrow.Author.Rules.{rules}
use Rattle.masks.proofs.mask_equal_pairs.Goals as goal

pub loop-i-init : goal.loop-i-init
loop-i-init c = (
  search rules,
  mask_none (λ (j : ℕ). eqb (get_or c.args.keys.now (c.args.at + j) 0) (get_or c.args.keys.now (c.args.other + j) 0)),
)

pub loop-i-preserved : goal.loop-i-preserved
loop-i-preserved c = (
  search rules,
  mask_more (λ (j : ℕ). eqb (get_or c.args.keys.now (c.args.at + j) 0) (get_or c.args.keys.now (c.args.other + j) 0)) _ _ _ c.loop-i.invariant.1 c.with_bit-m.ensures,
)

pub returns : goal.returns
returns c =
    let e : c.loop-i.i ≡ 64 = omega arith in
    rw e at c.loop-i.invariant.1
