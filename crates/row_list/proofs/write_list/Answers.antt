use Prim.Native.Nat.{ℕ}
use mathlib.Core.Path.{◌≡◌, refl}
use lib.ListN.{get_or}
use lib.Dec.{eqb}
use native.Mathlib.Omega.{arith}
use Rattle.row_list.proofs.Numbers.{list-none, place_none, place-more, list-more, put_small}
use borrow.Author.Rules.{rules}
use Rattle.row_list.proofs.write_list.Goals as goal

pub loop-i-init : goal.loop-i-init
loop-i-init c = (
  search rules,
  search rules,
  refl,
  place_none (λ (j : ℕ). eqb (get_or c.args.classes.now j 0) 2),
  list-none (λ (j : ℕ). eqb (get_or c.args.classes.now j 0) 2) c.args.list.now,
)

pub put_number-at-requires : goal.put_number-at-requires
put_number-at-requires c =
    record { at_in_bounds = omega (arith, c.loop-i.invariant.1, c.loop-i.invariant.2, c.loop-i-test.true); number_bound = omega (arith, c.loop-i-test.true) }

pub loop-i-preserved : goal.loop-i-preserved
loop-i-preserved c = (
  search rules,
  omega (
    arith,
    c.loop-i.invariant.1,
    put_small (eqb (get_or c.args.classes.now c.loop-i.i 0) 2) _ _
        c.put_number-at.ensures.value,
  ),
  search rules,
  place-more (λ (j : ℕ). eqb (get_or c.args.classes.now j 0) 2) _
      _ _ c.loop-i.invariant.3 c.put_number-at.ensures.value,
  list-more (λ (j : ℕ). eqb (get_or c.args.classes.now j 0) 2)
      c.args.list.now _ _ _ _ c.loop-i.invariant.3 (omega (arith, c.loop-i.invariant.1, c.loop-i-test.true)) c.loop-i.invariant.4 c.put_number-at.ensures.list_after,
)

pub returns : goal.returns
returns c =
    let e : c.loop-i.i ≡ c.args.rows = omega arith in
    rw e at c.loop-i.invariant.4
