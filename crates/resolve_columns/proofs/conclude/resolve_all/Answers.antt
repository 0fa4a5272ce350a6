use mathlib.Core.Path.{◌≡◌, refl, ◌∙◌}
use mathlib.Core.Bool.{false}
use native.Mathlib.Omega.{arith}
use Rattle.column_constraints.specs.Abstraction.{conjuncts, numbered}
use Rattle.column_table.specs.Rows.{row_of}
use Rattle.column_table.proofs.Arrays.{fits-set}
use Rattle.column_table.proofs.Resolving.{resolved-none, resolved-stored, column-few}
use Rattle.resolve_columns.proofs.conclude.resolve_all.Goals as goal

pub loop-o-init : goal.loop-o-init
loop-o-init c = (omega arith, omega arith, (λ T S. resolved-none _ _ _ _ _ T S), c.requires.fits.0, refl, refl)

pub load-c-requires : goal.load-c-requires
load-c-requires c = (omega (arith, c.slot-x.ensures), c.loop-o.invariant.3.size)

pub resolve_row-d-requires : goal.resolve_row-d-requires
resolve_row-d-requires c = (
  omega (arith, c.slot-x.ensures),
  c.loop-o.invariant.3.narrow,
  rw c.load-c.ensures (c.loop-o.invariant.3.fine _ (omega (arith, c.slot-x.ensures))),
  c.requires.fits.3,
)

pub store-requires : goal.store-requires
store-requires c = (omega (arith, c.slot-x.ensures), c.loop-o.invariant.3.size)

pub count_row-total-requires : goal.count_row-total-requires
count_row-total-requires c =
    let z = c.resolve_row-d.ensures.rows_kept.size in
    (omega (arith, c.slot-x.ensures), omega (arith, z, c.loop-o.invariant.3.narrow), c.resolve_row-d.ensures.fine)

pub overflow_add-total : goal.overflow_add-total
overflow_add-total c =
    let z = c.resolve_row-d.ensures.rows_kept.size in
    let m = c.resolve_row-d.new.marks in
    let t = conjuncts c.args.told.now c.args.pool.now in
    let f = column-few t (numbered (row_of m c.slot-x.result) c.resolve_row-d.result) _ c.resolve_row-d.ensures.fine (omega (arith, z, c.loop-o.invariant.3.narrow)) in
    let g = c.count_row-total.ensures t refl in
    omega (arith, c.loop-o-test.true, c.loop-o.invariant.0, c.loop-o.invariant.1, c.requires.fits.2, f, g)

pub loop-o-smaller : goal.loop-o-smaller
loop-o-smaller c = omega (arith, c.loop-o-test.true)

pub loop-o-preserved : goal.loop-o-preserved
loop-o-preserved c =
    let z = c.resolve_row-d.ensures.rows_kept.size in
    let m = c.resolve_row-d.new.marks in
    let t = conjuncts c.args.told.now c.args.pool.now in
    let f = column-few t (numbered (row_of m c.slot-x.result) c.resolve_row-d.result) _ c.resolve_row-d.ensures.fine (omega (arith, z, c.loop-o.invariant.3.narrow)) in
    let g = c.count_row-total.ensures t refl in (
      omega (arith, c.loop-o-test.true),
      omega (arith, c.loop-o.invariant.1, f, g),
      (λ T S. resolved-stored _ _ _ _ _ _ _ _ _ _ T _
          _ _ _ (c.loop-o.invariant.2 T S) (c.requires.by_index _ c.loop-o-test.true).0 (c.requires.by_index _ c.loop-o-test.true).1 c.slot-x.ensures c.load-c.ensures c.resolve_row-d.ensures.result_after c.resolve_row-d.ensures.fine c.resolve_row-d.ensures.rows_kept (c.count_row-total.ensures _ refl) c.store.ensures.cells_after),
      fits-set _ _ _ _ _ _ c.loop-o.invariant.3 (omega (arith, c.slot-x.ensures))
          c.resolve_row-d.ensures.rows_kept c.resolve_row-d.ensures.fine c.store.ensures.cells_after c.store.ensures.cells_len_unchanged,
      z ∙ c.loop-o.invariant.4,
      c.store.ensures.cells_len_unchanged ∙ c.loop-o.invariant.5,
    )

pub shape_of-cells : goal.shape_of-cells
shape_of-cells c = c.loop-o.invariant.5

pub shape_of-marks : goal.shape_of-marks
shape_of-marks c = c.loop-o.invariant.4

pub returns : goal.returns
returns c =
    let h : c.loop-o.o ≡ c.args.columns = omega (arith, c.loop-o.invariant.0, c.loop-o-test.false) in
    record { resolved = (λ T S. rw (← h) (c.loop-o.invariant.2 T S)); fits_2 = (c.loop-o.invariant.3, omega (arith, h, c.loop-o.invariant.1)) }
