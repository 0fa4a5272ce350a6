use mathlib.Core.Path.{◌≡◌, sym, ◌∙◌}
use native.Mathlib.Omega.{arith}
use Rattle.column_sets.proofs.Asked.{set-none, kind-more, kind-skip}
use borrow.Author.Rules.{rules}
use Rattle.column_sets.proofs.marks.kind_set.Goals as goal
use Rattle.column_sets.proofs.marks.kind_set.Goals.{then-kind_at-k, else-kind_at-k}

pub loop-i-init : goal.loop-i-init
loop-i-init c = (search rules, set-none _ _ _)

pub slice_bounds-put-end : goal.slice_bounds-put-end
slice_bounds-put-end c = search (rules, c.loop-i.invariant.1.size)

pub put-requires : goal.put-requires
put-requires c = omega (arith, c.byte-j.ensures, c.requires _ c.loop-i-test.true, c.loop-i.invariant.1.size)

pub loop-i-preserved : goal.loop-i-preserved
loop-i-preserved c = (
  search rules,
  elim c.if-kind_at-k.branch [
    | then-kind_at-k w ↦ rw w.set-is (kind-more _ _ _ _ _ _ _ c.byte-j.ensures c.loop-i.invariant.1 (search rules)
        (sym c.kind_at.ensures ∙ w.if-kind_at-k.true) w.put.ensures)
    | else-kind_at-k w ↦ rw w.set-is (kind-skip _ _ _ _ _ _ c.byte-j.ensures c.loop-i.invariant.1
        (λ e. w.if-kind_at-k.false (c.kind_at.ensures ∙ e)))
  ],
)

pub returns : goal.returns
returns c =
    let e : c.loop-i.i ≡ c.args.n = omega (arith, c.loop-i.invariant.0, c.loop-i-test.false) in
    rw e at c.loop-i.invariant.1
