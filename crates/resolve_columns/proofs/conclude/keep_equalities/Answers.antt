use mathlib.Core.Path.{◌≡◌, refl, ◌∙◌, ap}
use native.Mathlib.Omega.{arith}
use Rattle.constraints.specs.Lined.{lined}
use Rattle.constraints.specs.Resolve.{fixed_at}
use Rattle.column_constraints.specs.Abstraction.{numbered, column_of}
use Rattle.merge.specs.Emit.{is_fixed}
use Rattle.column_table.specs.Rows.{row_of}
use Rattle.resolve_columns.proofs.Keeping.{kept-none, kept_more}
use borrow.Author.Rules.{rules}
use Rattle.resolve_columns.proofs.conclude.keep_equalities.Goals as goal

pub loop-e-init : goal.loop-e-init
loop-e-init c = (omega arith, omega arith, (λ t marks T l rights S K. kept-none T _ _ _ _ _ l K), refl)

pub load-c-requires : goal.load-c-requires
load-c-requires c = (omega (arith, c.slot-x.ensures), c.requires.cells_len.0)

pub bounds-kept-next : goal.bounds-kept-next
bounds-kept-next c =
    omega (arith, c.loop-e-test.true, c.loop-e.invariant.1, c.loop-e.invariant.3, c.requires.cells_len.3, c.requires.cells_len.4)

pub bump-next-requires : goal.bump-next-requires
bump-next-requires c = omega (arith, c.loop-e-test.true, c.loop-e.invariant.1, c.requires.cells_len.3)

pub loop-e-preserved : goal.loop-e-preserved
loop-e-preserved c = (
  omega (arith, c.loop-e-test.true),
  omega (arith, c.loop-e.invariant.1, c.bump-next.ensures.upper_bound),
  (λ t marks T l rights S K. kept_more t _ marks T _
      rights _ _ _ _ _ _ _ _ l S (c.loop-e.invariant.2 t marks T l rights S K) (c.requires.by_index _ c.loop-e-test.true) (omega (
        arith,
        c.loop-e-test.true,
        c.loop-e.invariant.1,
        c.loop-e.invariant.3,
        c.requires.cells_len.3,
        c.requires.cells_len.4,
      )) c.slot-x.ensures (c.is_fixed-fixed.ensures t (row_of
      marks c.slot-x.result) ∙ ap (λ d. is_fixed (fixed_at lined (column_of t (numbered (row_of marks c.slot-x.result)
      d)).lower (column_of t (numbered (row_of marks c.slot-x.result) d)).upper)) c.load-c.ensures) c.bump-next.ensures.value),
  search rules,
)

pub returns : goal.returns
returns c =
    let h : c.loop-e.e ≡ c.args.edges = omega (arith, c.loop-e.invariant.0, c.loop-e-test.false) in
    record { kept = (λ t marks T l rights S K. rw (← h) (c.loop-e.invariant.2 t marks T l rights S K)); keeps_bound = omega (arith, h, c.loop-e.invariant.1) }
