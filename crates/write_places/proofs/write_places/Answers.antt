use mathlib.Core.Path.{◌≡◌, refl}
use native.Mathlib.Omega.{arith}
use Rattle.write_places.proofs.Writing.{row-none, row_more}
use borrow.Author.Rules.{rules}
use Rattle.write_places.proofs.write_places.Goals as goal

pub loop-c-init : goal.loop-c-init
loop-c-init c = (search rules, refl, λ T S. row-none _ _ _ T S _ _)

pub load-k-requires : goal.load-k-requires
load-k-requires c = (omega (arith, c.loop-c-test.true, c.requires.2), c.requires.0)

pub is_shown_null-null-requires : goal.is_shown_null-null-requires
is_shown_null-null-requires c = c.requires.1

pub shown_place-place-requires : goal.shown_place-place-requires
shown_place-place-requires c = omega (arith, c.loop-c-test.true, c.requires.2)

pub put_place-requires : goal.put_place-requires
put_place-requires c = omega (arith, c.loop-c-test.true, c.requires.3, c.loop-c.invariant.1)

pub with_bit-nulls-requires : goal.with_bit-nulls-requires
with_bit-nulls-requires c = omega (arith, c.loop-c-test.true, c.requires.2)

pub loop-c-preserved : goal.loop-c-preserved
loop-c-preserved c = (
  search rules,
  search rules,
  λ T S. row_more _ _ _ T S _ _ _ (omega (arith, c.loop-c-test.true, c.requires.2)) _
      c.load-k.ensures _ c.is_shown_null-null.ensures _ c.shown_place-place.ensures c.put_place.ensures.whole_bound _ _ _ _
      c.put_place.ensures.row_after c.with_bit-nulls.ensures (omega (arith, c.loop-c-test.true, c.requires.3)) (c.loop-c.invariant.2 T
      S),
)

pub returns : goal.returns
returns c =
    let e : c.loop-c.c ≡ c.args.columns = omega (arith, c.loop-c.invariant.0, c.loop-c-test.false) in
    λ T S. rw (← e) (c.loop-c.invariant.2 T S)
