use mathlib.Core.Path.{refl, ◌∙◌, subst, sym}
use native.Mathlib.Omega.{arith}
use Rattle.truth.specs.FromBytes.{aexpr_of}
use Rattle.column_table.specs.State.{Shows}
use Rattle.contradiction.proofs.Steps.{told_none, shows_more, told-stop, told-end}
use Rattle.contradiction.proofs.told.tell_lines.Goals as goal

pub loop-i-init : goal.loop-i-init
loop-i-init c = (
  omega arith,
  told_none _ _ _ c.args.labels.now (aexpr_of c.args.rs.now c.args.pool.now)
      c.args.nodes.now c.requires.n_bound.4,
  refl,
  refl,
)

pub bounds-nodes-i : goal.bounds-nodes-i
bounds-nodes-i c = omega (arith, c.loop-i-test.true, c.requires.n_bound.2)

pub overflow_cast-j : goal.overflow_cast-j
overflow_cast-j c = omega (arith, c.loop-i-test.true, c.requires.n_bound.0, c.requires.n_bound.1)

pub tell_line-stops-requires : goal.tell_line-stops-requires
tell_line-stops-requires c =
    record {
      fits = (
        record {
          size = c.loop-i.invariant.2 ∙ c.requires.n_bound.3;
          narrow = omega (arith, c.loop-i.invariant.3, c.requires.n_bound.1);
          fine = c.loop-i.invariant.1.fine;
        },
        omega (arith, c.loop-i-test.true, c.loop-i.invariant.3, c.requires.n_bound.0),
        c.requires.n_bound.5,
        c.requires.n_bound.6,
      );
      told_conjunct = c.requires.by_index _ c.loop-i-test.true;
      columns_below = c.requires.by_index_2 _ c.loop-i-test.true;
    }

pub shape_of-cells-then-stops : goal.shape_of-cells-then-stops
shape_of-cells-then-stops c = c.tell_line-stops.ensures.cells_len_unchanged ∙ c.loop-i.invariant.2

pub shape_of-marks-then-stops : goal.shape_of-marks-then-stops
shape_of-marks-then-stops c = c.tell_line-stops.ensures.marks_len_unchanged ∙ c.loop-i.invariant.3

pub returns-then-stops : goal.returns-then-stops
returns-then-stops c =
    record { told_lines = told-stop _ _ _ c.args.labels.now (aexpr_of c.args.rs.now c.args.pool.now) c.args.nodes.now c.loop-i.i _ (λ T e. c.tell_line-stops.ensures.tells T (subst (Shows _ _ _) (sym e) c.loop-i.invariant.1)) c.args.n c.loop-i-test.true c.if-stops.true; cells_len_unchanged = c.tell_line-stops.ensures.cells_len_unchanged ∙ c.loop-i.invariant.2; marks_len_unchanged = c.tell_line-stops.ensures.marks_len_unchanged ∙ c.loop-i.invariant.3 }

pub loop-i-preserved : goal.loop-i-preserved
loop-i-preserved c = (
  omega (arith, c.loop-i-test.true),
  shows_more _ _ _ c.args.labels.now (aexpr_of c.args.rs.now c.args.pool.now) c.args.nodes.now c.loop-i.i _ (λ T e. c.tell_line-stops.ensures.tells T (subst (Shows _ _ _) (sym e)
      c.loop-i.invariant.1)),
  c.tell_line-stops.ensures.cells_len_unchanged ∙ c.loop-i.invariant.2,
  c.tell_line-stops.ensures.marks_len_unchanged ∙ c.loop-i.invariant.3,
)

pub shape_of-cells : goal.shape_of-cells
shape_of-cells c = c.loop-i.invariant.2

pub shape_of-marks : goal.shape_of-marks
shape_of-marks c = c.loop-i.invariant.3

pub returns : goal.returns
returns c =
    record { told_lines = told-end _ _ _ c.args.labels.now (aexpr_of c.args.rs.now c.args.pool.now) c.args.nodes.now c.loop-i.i c.args.n c.loop-i.invariant.0 c.loop-i-test.false c.loop-i.invariant.1; cells_len_unchanged = c.loop-i.invariant.2; marks_len_unchanged = c.loop-i.invariant.3 }
