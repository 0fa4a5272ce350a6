use mathlib.Core.Path.{◌≡◌, sym, ◌∙◌, ap}
use Prim.Native.Nat.{ℕ}
use native.Mathlib.Omega.{arith}
use lib.ListN.{get_or}
use Rattle.column_constraints.specs.Abstraction.{conjuncts, numbered, allowed_by}
use Rattle.column_sets.proofs.Lists.{skip_allowed, none_allowed}
use Rattle.row_shown.proofs.Smallest.{place-bounds, place-listed}
use borrow.Author.Rules.{rules}
use Rattle.column_constraints.specs.Abstraction.{kinds_in, starts_in, counts_in}
use Rattle.row_shown.proofs.place.value_place.Goals as goal

pub loop-i-init : goal.loop-i-init
loop-i-init c = (search rules, none_allowed _ _ _ _ _)

pub returns-then-kind_at-eq1 : goal.returns-then-kind_at-eq1
returns-then-kind_at-eq1 c =
    place-listed (conjuncts c.args.told.now c.args.pool.now) (numbered c.args.marks.now c.args.c)
    c.loop-i.i c.loop-i-test.true c.loop-i.invariant.1 _ c.byte-f.ensures (sym c.kind_at.ensures ∙ c.if-kind_at-eq1.true) c.smallest_listed-s.result c.smallest_listed-s.ensures _
    c.list_place.ensures

pub loop-i-preserved : goal.loop-i-preserved
loop-i-preserved c = (
  search rules,
  skip_allowed (kinds_in c.args.told.now) (starts_in c.args.told.now) (counts_in c.args.told.now) c.args.pool.now c.args.marks.now c.loop-i.i c.loop-i.invariant.1 (λ e. c.if-kind_at-eq1.false (c.kind_at.ensures ∙ ap (λ (m : ℕ).
      get_or (kinds_in c.args.told.now) m 0) c.byte-f.ensures ∙ e)),
)

pub returns : goal.returns
returns c =
    let e : c.loop-i.i ≡ c.args.c.len = omega (arith, c.loop-i.invariant.0, c.loop-i-test.false) in
    place-bounds (conjuncts c.args.told.now c.args.pool.now) (numbered c.args.marks.now c.args.c)
    _ (c.fixed_place.ensures (conjuncts c.args.told.now c.args.pool.now) c.args.marks.now) (ap (λ
    (m : ℕ). allowed_by (kinds_in c.args.told.now) (starts_in c.args.told.now) (counts_in c.args.told.now) c.args.pool.now c.args.marks.now m) (sym e) ∙ c.loop-i.invariant.1)
