use mathlib.Core.Path.{◌∙◌}
use native.Mathlib.Omega.{arith}
use Rattle.filter_constraint.proofs.Concluding.{passes-stopped, passes-is, passes-are, lined-is, concluded-stopped, concluded}
use Rattle.filter_constraint.proofs.merged.merge_columns.Goals as goal

pub collect-s-requires : goal.collect-s-requires
collect-s-requires c =
    record {
      n_bound = (
        c.requires.n_bound.0,
        c.requires.n_bound.1,
        c.requires.n_bound.2,
        c.requires.n_bound.3,
        c.requires.n_bound.4,
        c.requires.room.0,
        c.requires.room.1,
        c.requires.room.2,
        c.requires.room.3,
        c.requires.room.4,
      );
      by_index = c.requires.by_index;
      by_index_2 = c.requires.by_index_2;
    }

pub returns-then-s : goal.returns-then-s
returns-then-s c =
    record {
      concluded = rw c.stopped.ensures (concluded-stopped _ _ _ _ _ _ _ _ _ _ c.collect-s.ensures.collects.1.stops c.if-s.true);
      passes_value = rw c.stopped.ensures (passes-stopped _ _ _ _ c.collect-s.ensures.collects.1.stops c.if-s.true);
      fits = rw
          c.stopped.ensures (
            record {
              size = c.collect-s.ensures.columns_bound.3;
              narrow = omega (
                arith,
                c.collect-s.ensures.columns_bound.4,
                c.requires.n_bound.1,
              );
              fine = c.collect-s.ensures.collects.1.shows.fine;
            },
            c.collect-s.ensures.columns_bound.0,
            omega (
              arith,
              c.collect-s.ensures.columns_bound.1,
            ),
            omega arith,
            (λ o h. c.collect-s.ensures.collects.1.entered.low o h),
          );
    }

pub propagate_equalities-m-requires : goal.propagate_equalities-m-requires
propagate_equalities-m-requires c =
    record {
      fits = (
        record {
          size = c.collect-s.ensures.columns_bound.3;
          narrow = omega (arith, c.collect-s.ensures.columns_bound.4, c.requires.n_bound.1);
          fine = c.collect-s.ensures.collects.1.shows.fine;
        },
        omega (
          arith,
          c.collect-s.auto.lefts,
          c.requires.room.2,
          c.collect-s.ensures.columns_bound.0,
          c.collect-s.ensures.columns_bound.1,
          c.collect-s.ensures.columns_bound.2,
          c.requires.n_bound.0,
          c.requires.n_bound.1,
        ),
        omega (
          arith,
          c.collect-s.auto.rights,
          c.requires.room.3,
          c.collect-s.ensures.columns_bound.0,
          c.collect-s.ensures.columns_bound.1,
          c.collect-s.ensures.columns_bound.2,
          c.requires.n_bound.0,
          c.requires.n_bound.1,
        ),
        c.requires.n_bound.5,
      );
      edges_below = λ e h. (
        c.collect-s.ensures.collects.1.linked.low-left e h,
        c.collect-s.ensures.collects.1.linked.low-right e h,
      );
    }

pub keep_equalities-k-requires : goal.keep_equalities-k-requires
keep_equalities-k-requires c =
    record {
      cells_len = (
        c.propagate_equalities-m.ensures.fits_2.size,
        omega (
          arith,
          c.collect-s.auto.lefts,
          c.requires.room.2,
          c.collect-s.ensures.columns_bound.0,
          c.collect-s.ensures.columns_bound.1,
          c.collect-s.ensures.columns_bound.2,
          c.requires.n_bound.0,
          c.requires.n_bound.1,
        ),
        omega (
          arith,
          c.collect-s.auto.equals,
          c.requires.room.4,
          c.collect-s.ensures.columns_bound.0,
          c.collect-s.ensures.columns_bound.1,
          c.collect-s.ensures.columns_bound.2,
          c.requires.n_bound.0,
          c.requires.n_bound.1,
        ),
        omega (
          arith,
          c.collect-s.ensures.columns_bound.0,
          c.collect-s.ensures.columns_bound.1,
          c.collect-s.ensures.columns_bound.2,
          c.requires.n_bound.0,
          c.requires.n_bound.1,
        ),
        omega (
          arith,
          c.collect-s.auto.kept,
          c.requires.room.1,
          c.collect-s.ensures.columns_bound.1,
        ),
      );
      by_index = λ e h. c.collect-s.ensures.collects.1.linked.low-left e h;
    }

pub resolve_all-r-requires : goal.resolve_all-r-requires
resolve_all-r-requires c =
    record {
      fits = (
        c.propagate_equalities-m.ensures.fits_2,
        omega (
          arith,
          c.collect-s.auto.order,
          c.requires.room.0,
          c.collect-s.ensures.columns_bound.0,
          c.collect-s.ensures.columns_bound.1,
          c.collect-s.ensures.columns_bound.2,
          c.requires.n_bound.0,
          c.requires.n_bound.1,
        ),
        omega (
          arith,
          c.collect-s.ensures.columns_bound.0,
          c.collect-s.ensures.columns_bound.1,
          c.collect-s.ensures.columns_bound.2,
          c.requires.n_bound.0,
          c.requires.n_bound.1,
        ),
        c.requires.n_bound.5,
      );
      by_index = λ o h. (
        c.collect-s.ensures.collects.1.entered.low o h,
        c.collect-s.ensures.collects.1.entered.distinct o h,
      );
    }

pub shape_of-cells : goal.shape_of-cells
shape_of-cells c = c.resolve_all-r.auto.cells ∙ c.propagate_equalities-m.auto.cells ∙ c.collect-s.auto.cells

pub shape_of-marks : goal.shape_of-marks
shape_of-marks c = c.resolve_all-r.auto.marks ∙ c.propagate_equalities-m.auto.marks ∙ c.collect-s.auto.marks

pub shape_of-order : goal.shape_of-order
shape_of-order c = c.collect-s.auto.order

pub shape_of-kept : goal.shape_of-kept
shape_of-kept c = c.keep_equalities-k.auto.kept ∙ c.collect-s.auto.kept

pub shape_of-lefts : goal.shape_of-lefts
shape_of-lefts c = c.collect-s.auto.lefts

pub shape_of-rights : goal.shape_of-rights
shape_of-rights c = c.collect-s.auto.rights

pub shape_of-equals : goal.shape_of-equals
shape_of-equals c = c.collect-s.auto.equals

pub returns : goal.returns
returns c =
    record {
      concluded = concluded _ _ _ _ _ _ _ _ _ _ _ _ _ _ _ _ _ _ _ _ _ _ c.collect-s.ensures.collects.1 c.if-s.false _ _
          c.propagate_equalities-m.ensures.spread _ c.keep_equalities-k.ensures.kept _ _ c.resolve_all-r.ensures.resolved _ (lined-is
          _ _ _);
      passes_value = passes-are _ _ _ _ _ _ _ _ _ _ _ _ _ _ _ _ _ _ _ _ _ _ c.collect-s.ensures.collects.1 c.if-s.false _ _
          c.propagate_equalities-m.ensures.spread _ c.keep_equalities-k.ensures.kept _ _ c.resolve_all-r.ensures.resolved ∙ passes-is
          _ _ _;
      fits = (
        c.resolve_all-r.ensures.fits_2.0,
        c.collect-s.ensures.columns_bound.0,
        omega (
          arith,
          c.keep_equalities-k.ensures.keeps_bound,
          c.collect-s.ensures.columns_bound.1,
        ),
        omega (arith, c.resolve_all-r.ensures.fits_2.1, c.collect-s.ensures.columns_bound.0),
        (λ o h.
            c.collect-s.ensures.collects.1.entered.low o h),
      );
    }
