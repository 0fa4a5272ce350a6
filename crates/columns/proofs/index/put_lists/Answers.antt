use mathlib.Core.Path.{◌≡◌, refl}
use native.Mathlib.Omega.{arith}
use Rattle.columns.proofs.Indexing.{sets-none, sets-next}
use borrow.Author.Rules.{rules}
use Rattle.columns.proofs.index.put_lists.Goals as goal

pub loop-j-init : goal.loop-j-init
loop-j-init c = (search rules, refl, (λ s. sets-none _ _ _ _ _ _ _ s c.requires.by_index))

pub loop-j-preserved : goal.loop-j-preserved
loop-j-preserved c = (
  search rules,
  search rules,
  (λ s. sets-next _ _ _ _ _ _ _ _ _ _ s c.start_at-start.ensures c.count_at-count.ensures (c.put_list.ensures _ _ (c.loop-j.invariant.2 _))),
)

pub returns : goal.returns
returns c =
    let e : c.loop-j.j ≡ 128 = omega (arith, c.loop-j.invariant.0, c.loop-j-test.false) in
    rw e at (c.loop-j.invariant.2 0)
