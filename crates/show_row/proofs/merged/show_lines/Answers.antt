use mathlib.Core.Path.{◌∙◌, refl}
use Prim.Native.Nat.{ℕ}
use native.Mathlib.Omega.{arith}
use lib.ListN.{length-replicate}
use Rattle.column_table.proofs.Encoding.{columns-empty}
use Rattle.truth.specs.FromBytes.{aexpr_of}
use Rattle.read_operands.specs.Walk.{first_of}
use Rattle.show_row.proofs.Nothing.{nothing-stopped}
use Rattle.show_row.proofs.Ends.{no_row, row-dead, row-answer, row-bytes, row_low}
use Rattle.show_row.proofs.merged.show_lines.Goals as goal

pub collect-s-requires : goal.collect-s-requires
collect-s-requires c =
    record {
      n_bound = (
        c.requires.n_bound.0,
        c.requires.n_bound.1,
        c.requires.n_bound.2,
        length-replicate {A = ℕ} 448 0,
        columns-empty,
        omega
            (arith, length-replicate {A = ℕ} 256 0, c.requires.n_bound.0, c.requires.n_bound.1),
        omega (
          arith,
          length-replicate {A =
              ℕ} 128 0,
          c.requires.n_bound.0,
          c.requires.n_bound.1,
        ),
        omega (
          arith,
          length-replicate {A = ℕ} 128 0,
          c.requires.n_bound.0,
          c.requires.n_bound.1,
        ),
        omega (arith, length-replicate {A = ℕ} 128 0, c.requires.n_bound.0, c.requires.n_bound.1),
        omega (
          arith,
          length-replicate {A = ℕ} 128 0,
          c.requires.n_bound.0,
          c.requires.n_bound.1,
        ),
      );
      by_index = c.requires.by_index;
      by_index_2 = c.requires.by_index_2;
    }

pub returns-then-s : goal.returns-then-s
returns-then-s c =
    record { value = no_row (aexpr_of c.args.rs.now c.args.p.now) (first_of c.args.nodes.now c.args.n) c.args.columns (nothing-stopped (aexpr_of c.args.rs.now c.args.p.now) c.args.nodes.now c.args.n _ c.collect-s.ensures.collects.1.stops c.if-s.true); row_after = refl; low_wholes = tt }

pub propagate_and_resolve-r-requires : goal.propagate_and_resolve-r-requires
propagate_and_resolve-r-requires c =
    let zl = c.collect-s.auto.lefts ∙ length-replicate {A = ℕ} 128 0 in
    let zr = c.collect-s.auto.rights ∙ length-replicate {A = ℕ} 128 0 in
    let zo = c.collect-s.auto.order ∙ length-replicate {A = ℕ} 256 0 in
    record {
      fits = (
        record {
          size = c.collect-s.ensures.columns_bound.3;
          narrow = omega (arith, c.collect-s.ensures.columns_bound.4, c.requires.n_bound.1);
          fine = c.collect-s.ensures.collects.1.shows.fine;
        },
        omega (
          arith,
          zl,
          c.collect-s.ensures.columns_bound.1,
          c.requires.n_bound.0,
          c.requires.n_bound.1,
        ),
        omega (arith, zr, c.collect-s.ensures.columns_bound.1, c.requires.n_bound.0, c.requires.n_bound.1),
        omega (
          arith,
          zo,
          c.collect-s.ensures.columns_bound.0,
          c.requires.n_bound.0,
          c.requires.n_bound.1,
        ),
        omega (
          arith,
          c.collect-s.ensures.columns_bound.0,
          c.requires.n_bound.0,
          c.requires.n_bound.1,
        ),
        c.requires.n_bound.3,
      );
      edges_below = (λ e h. (
        c.collect-s.ensures.collects.1.linked.low-left e h,
        c.collect-s.ensures.collects.1.linked.low-right e h,
      ));
      by_index = (λ o h. (
        c.collect-s.ensures.collects.1.entered.low o h,
        c.collect-s.ensures.collects.1.entered.distinct o h,
      ));
    }

pub returns-then-r : goal.returns-then-r
returns-then-r c =
    record {
      value = row-dead _ _ _ _ _ _ _ _ _ _ _ _ _ _ _ _ _ _ _ _ c.collect-s.ensures.collects.1 c.if-s.false _ _
          c.propagate_and_resolve-r.ensures.resolved c.if-r.true _;
      row_after = refl;
      low_wholes = tt;
    }

pub write_places-nulls-requires : goal.write_places-nulls-requires
write_places-nulls-requires c =
    let zo = c.collect-s.auto.order ∙ length-replicate {A = ℕ} 256 0 in (
      c.propagate_and_resolve-r.ensures.cells_len,
      omega (
        arith,
        zo,
        c.collect-s.ensures.columns_bound.0,
        c.collect-s.ensures.columns_bound.1,
        c.collect-s.ensures.columns_bound.2,
        c.requires.n_bound.0,
        c.requires.n_bound.1,
      ),
      c.requires.n_bound.4,
      c.requires.n_bound.5,
    )

pub shape_of-marks : goal.shape_of-marks
shape_of-marks c = c.propagate_and_resolve-r.auto.marks ∙ c.collect-s.auto.marks

pub returns : goal.returns
returns c =
    record {
      value = row-answer _ _ _ _ _ _ _ _ _ _ _ _ _ _ _ _ _ _ _ _ c.collect-s.ensures.collects.1 c.if-s.false _ _
          c.propagate_and_resolve-r.ensures.resolved _ _ _ _ c.write_places-nulls.ensures c.if-r.false;
      row_after = row-bytes _ _ _ _ _ _ _ _
          _ _ _ _ _ _ _ _ _ _ _ _ c.collect-s.ensures.collects.1 c.if-s.false _ _ c.propagate_and_resolve-r.ensures.resolved _ _ _ _
          c.write_places-nulls.ensures;
      low_wholes = row_low _ _ _ _ _ _ _ _ _ _ _ _ _ _ _ _ _ _ _ _ c.collect-s.ensures.collects.1 c.if-s.false _ _ c.propagate_and_resolve-r.ensures.resolved _ _ _ _ c.write_places-nulls.ensures;
    }
