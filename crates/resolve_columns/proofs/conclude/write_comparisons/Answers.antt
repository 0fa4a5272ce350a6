use mathlib.Core.Path.{◌≡◌, refl}
use mathlib.Core.List.{[]}
use native.Mathlib.Omega.{arith}
use Rattle.column_table.specs.Words.{columns_of}
use Rattle.column_table.proofs.Resolving.{written_none, written-loaded, row-asked}
use borrow.Author.Rules.{rules}
use Rattle.column_constraints.specs.Abstraction.{kinds_in, values_in, conjuncts_of}
use Rattle.resolve_columns.proofs.conclude.write_comparisons.Goals as goal

pub loop-w-init : goal.loop-w-init
loop-w-init c = (omega arith, λ s ek ev. written_none _ _ _ _ _)

pub load-c-requires : goal.load-c-requires
load-c-requires c = (omega (arith, c.slot-x.ensures), c.requires.fits.0.size)

pub write_row-u-requires : goal.write_row-u-requires
write_row-u-requires c =
    let s = conjuncts_of (kinds_in c.args.told.now) (values_in c.args.told.now) [] [] [] in
    let r = row-asked c.args.t.now c.args.used c.args.order.now c.loop-w.w c.args.columns s
    (columns_of c.args.cells.now) c.args.marks.now c.args.rs.now c.loop-w.rs c.loop-w.u _ _ c.loop-w-test.true (c.requires.by_index _ c.loop-w-test.true) c.slot-x.ensures c.load-c.ensures (c.loop-w.invariant.1 s refl refl) (c.requires.marks_bound s refl refl) in
    record {
      x_bound = (
        omega (arith, c.slot-x.ensures),
        c.requires.fits.0.narrow,
        rw c.load-c.ensures (c.requires.fits.0.fine _ (omega
            (arith, c.slot-x.ensures))),
      );
      u_bound = (r.0, r.1);
    }

pub loop-w-preserved : goal.loop-w-preserved
loop-w-preserved c = (
  omega (arith, c.loop-w-test.true),
  λ s ek ev. written-loaded _ _ c.args.order.now _ s (columns_of c.args.cells.now) c.args.marks.now _ _ _ _ _ _ _ (c.loop-w.invariant.1 s ek ev) (c.requires.by_index _ c.loop-w-test.true) c.slot-x.ensures c.load-c.ensures (c.write_row-u.ensures.value s ek ev) (c.write_row-u.ensures.rs_after s ek ev) (search rules),
)

pub shape_of-rs : goal.shape_of-rs
shape_of-rs c =
    (c.loop-w.invariant.1 (conjuncts_of (kinds_in c.args.told.now) (values_in c.args.told.now) [] [] []) refl refl).size

pub returns : goal.returns
returns c =
    let h : c.loop-w.w ≡ c.args.columns = omega (arith, c.loop-w.invariant.0, c.loop-w-test.false) in
    λ s ek ev. rw (← h) (c.loop-w.invariant.1 s ek ev)
