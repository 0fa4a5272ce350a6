use mathlib.Core.Path.{◌≡◌, ◌∙◌}
use native.Mathlib.Omega.{arith}
use Rattle.checksum_bench.proofs.Sums.{cleared-none, cleared_more, cleared-done}
use borrow.Author.Rules.{rules}
use Rattle.checksum_bench.proofs.by_pairs.Goals as goal

pub loop-k-init : goal.loop-k-init
loop-k-init c = (search rules, search rules, search rules, cleared-none _)

pub loop-k-preserved : goal.loop-k-preserved
loop-k-preserved c = (
  omega arith,
  omega arith,
  c.ones_add-sum.ensures.upper_bound,
  c.ones_add-sum.ensures.value ∙ cleared_more _ _ _ _ c.loop-k.invariant.0
      c.loop-k.invariant.3 c.big_word-word.ensures.value,
)

pub returns : goal.returns
returns c =
    let e : c.loop-k.k ≡ 256 = omega arith in
    cleared-done _ _ c.requires (rw e at c.loop-k.invariant.3)
