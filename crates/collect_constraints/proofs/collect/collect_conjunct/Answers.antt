use mathlib.Core.Path.{refl, ◌∙◌, subst}
use native.Mathlib.Omega.{arith}
use Rattle.truth.specs.FromBytes.{aexpr_of}
use Rattle.column_constraints.specs.Abstraction.{conjuncts}
use Rattle.merge.specs.Classify as m
use Rattle.rewrite.specs.Told.{ToldConjunct}
use Rattle.reading.specs.Columns.{ColumnsBelow}
use Rattle.collect_constraints.proofs.Collecting.{read_as, bounds-turn, normalized-turn, recorded-turn}
use Rattle.collect_constraints.proofs.Collecting.{opaque-turn, equality_turn, pair_turn}
use Rattle.collect_constraints.proofs.NullLines.{null_both, null_same}
use Rattle.collect_constraints.proofs.collect.collect_conjunct.Goals as goal

pub enter-requires : goal.enter-requires
enter-requires c =
    let k = read_as _ _ _ _ _ (c.classify-k.ensures _) c.in-Bounds.is in
    let b = subst (ColumnsBelow 64) k c.requires.columns_below in
    (b, omega (arith, c.requires.fits.3), omega (arith, c.requires.fits.4), c.requires.fits.2)

pub add_to_column-requires : goal.add_to_column-requires
add_to_column-requires c =
    let k = read_as _ _ _ _ _ (c.classify-k.ensures _) c.in-Bounds.is in
    let b = subst (ColumnsBelow 64) k c.requires.columns_below in
    record { fits = (c.requires.fits.0, b, c.requires.fits.1); told = subst (ToldConjunct (conjuncts c.args.told.now c.args.pool.now) c.args.j) k c.requires.told_conjunct }

pub overflow_add-held : goal.overflow_add-held
overflow_add-held c = omega (arith, c.requires.fits.11)

pub enter-requires-in-Normalized : goal.enter-requires-in-Normalized
enter-requires-in-Normalized c =
    let k = read_as _ _ _ _ _ (c.classify-k.ensures _) c.in-Normalized.is in
    let b = subst (ColumnsBelow 64) k c.requires.columns_below in
    (b, omega (arith, c.requires.fits.3), omega (arith, c.requires.fits.4), c.requires.fits.2)

pub add_to_column-requires-in-Normalized : goal.add_to_column-requires-in-Normalized
add_to_column-requires-in-Normalized c =
    let k = read_as _ _ _ _ _ (c.classify-k.ensures _) c.in-Normalized.is in
    let b = subst (ColumnsBelow 64) k c.requires.columns_below in
    record { fits = (c.requires.fits.0, b, c.requires.fits.1); told = subst (ToldConjunct (conjuncts c.args.told.now c.args.pool.now) c.args.j) k c.requires.told_conjunct }

pub overflow_add-held-in-Normalized : goal.overflow_add-held-in-Normalized
overflow_add-held-in-Normalized c = omega (arith, c.requires.fits.11)

pub enter-requires-in-Equality : goal.enter-requires-in-Equality
enter-requires-in-Equality c =
    let k = read_as _ _ _ _ _ (c.classify-k.ensures _) c.in-Equality.is in
    let b = subst (ColumnsBelow 64) k c.requires.columns_below in
    (b.0, omega (arith, c.requires.fits.3), omega (arith, c.requires.fits.4), c.requires.fits.2)

pub require_non_null-requires : goal.require_non_null-requires
require_non_null-requires c =
    let k = read_as _ _ _ _ _ (c.classify-k.ensures _) c.in-Equality.is in
    let b = subst (ColumnsBelow 64) k c.requires.columns_below in
    (b.0, c.requires.fits.0.size)

pub enter-requires-in-Equality-2 : goal.enter-requires-in-Equality-2
enter-requires-in-Equality-2 c =
    let k = read_as _ _ _ _ _ (c.classify-k.ensures _) c.in-Equality.is in
    let b = subst (ColumnsBelow 64) k c.requires.columns_below in (
      b.1,
      omega (arith, c.requires.fits.3, c.enter-in-Equality.ensures.upper_bound, c.enter-in-Equality.auto.order),
      omega (arith, c.requires.fits.4, c.enter-in-Equality.ensures.upper_bound),
      c.enter-in-Equality.auto.seen
          ∙ c.requires.fits.2,
    )

pub require_non_null-requires-in-Equality : goal.require_non_null-requires-in-Equality
require_non_null-requires-in-Equality c =
    let k = read_as _ _ _ _ _ (c.classify-k.ensures _) c.in-Equality.is in
    let b = subst (ColumnsBelow 64) k c.requires.columns_below in
    (b.1, c.require_non_null.ensures.cells_len_unchanged ∙ c.requires.fits.0.size)

pub offset_bounds-lefts-edges : goal.offset_bounds-lefts-edges
offset_bounds-lefts-edges c = omega (arith, c.requires.fits.10)

pub bounds-lefts-edges : goal.bounds-lefts-edges
bounds-lefts-edges c = omega (arith, c.requires.fits.6)

pub offset_bounds-rights-edges : goal.offset_bounds-rights-edges
offset_bounds-rights-edges c = omega (arith, c.requires.fits.10)

pub bounds-rights-edges : goal.bounds-rights-edges
bounds-rights-edges c = omega (arith, c.requires.fits.7)

pub offset_bounds-equals-edges : goal.offset_bounds-equals-edges
offset_bounds-equals-edges c = omega (arith, c.requires.fits.10)

pub bounds-equals-edges : goal.bounds-equals-edges
bounds-equals-edges c = omega (arith, c.requires.fits.8)

pub overflow_add-held-in-Equality : goal.overflow_add-held-in-Equality
overflow_add-held-in-Equality c = omega (arith, c.requires.fits.10)

pub enter-requires-in-Recorded : goal.enter-requires-in-Recorded
enter-requires-in-Recorded c =
    let k = read_as _ _ _ _ _ (c.classify-k.ensures _) c.in-Recorded.is in
    let b = subst (ColumnsBelow 64) k c.requires.columns_below in
    (b, omega (arith, c.requires.fits.3), omega (arith, c.requires.fits.4), c.requires.fits.2)

pub add_to_column-requires-in-Recorded : goal.add_to_column-requires-in-Recorded
add_to_column-requires-in-Recorded c =
    let k = read_as _ _ _ _ _ (c.classify-k.ensures _) c.in-Recorded.is in
    let b = subst (ColumnsBelow 64) k c.requires.columns_below in
    record { fits = (c.requires.fits.0, b, c.requires.fits.1); told = subst (ToldConjunct (conjuncts c.args.told.now c.args.pool.now) c.args.j) k c.requires.told_conjunct }

pub offset_bounds-kept-keeps : goal.offset_bounds-kept-keeps
offset_bounds-kept-keeps c = omega (arith, c.requires.fits.9)

pub bounds-kept-keeps : goal.bounds-kept-keeps
bounds-kept-keeps c = omega (arith, c.requires.fits.5)

pub overflow_add-held-in-Recorded : goal.overflow_add-held-in-Recorded
overflow_add-held-in-Recorded c = omega (arith, c.requires.fits.9)

pub enter-requires-in-NonNullPair : goal.enter-requires-in-NonNullPair
enter-requires-in-NonNullPair c =
    let k = read_as _ _ _ _ _ (c.classify-k.ensures _) c.in-NonNullPair.is in
    let b = subst (ColumnsBelow 64) k c.requires.columns_below in
    (b.0, omega (arith, c.requires.fits.3), omega (arith, c.requires.fits.4), c.requires.fits.2)

pub require_non_null-requires-in-NonNullPair : goal.require_non_null-requires-in-NonNullPair
require_non_null-requires-in-NonNullPair c =
    let k = read_as _ _ _ _ _ (c.classify-k.ensures _) c.in-NonNullPair.is in
    let b = subst (ColumnsBelow 64) k c.requires.columns_below in
    (b.0, c.requires.fits.0.size)

pub enter-requires-in-NonNullPair-2 : goal.enter-requires-in-NonNullPair-2
enter-requires-in-NonNullPair-2 c =
    let k = read_as _ _ _ _ _ (c.classify-k.ensures _) c.in-NonNullPair.is in
    let b = subst (ColumnsBelow 64) k c.requires.columns_below in (
      b.1,
      omega (arith, c.requires.fits.3, c.enter-in-NonNullPair.ensures.upper_bound, c.enter-in-NonNullPair.auto.order),
      omega (arith, c.requires.fits.4, c.enter-in-NonNullPair.ensures.upper_bound),
      c.enter-in-NonNullPair.auto.seen
          ∙ c.requires.fits.2,
    )

pub require_non_null-requires-in-NonNullPair-2 : goal.require_non_null-requires-in-NonNullPair-2
require_non_null-requires-in-NonNullPair-2 c =
    let k = read_as _ _ _ _ _ (c.classify-k.ensures _) c.in-NonNullPair.is in
    let b = subst (ColumnsBelow 64) k c.requires.columns_below in
    (b.1, c.require_non_null-in-NonNullPair.ensures.cells_len_unchanged ∙ c.requires.fits.0.size)

pub offset_bounds-kept-keeps-in-NonNullPair : goal.offset_bounds-kept-keeps-in-NonNullPair
offset_bounds-kept-keeps-in-NonNullPair c = omega (arith, c.requires.fits.9)

pub bounds-kept-keeps-in-NonNullPair : goal.bounds-kept-keeps-in-NonNullPair
bounds-kept-keeps-in-NonNullPair c = omega (arith, c.requires.fits.5)

pub overflow_add-held-in-NonNullPair : goal.overflow_add-held-in-NonNullPair
overflow_add-held-in-NonNullPair c = omega (arith, c.requires.fits.9)

pub returns-in-Bounds : goal.returns-in-Bounds
returns-in-Bounds c =
    let k = read_as _ _ _ _ _ (c.classify-k.ensures _) c.in-Bounds.is in
    record {
      collects = (λ s C live. bounds-turn _ _ _ _ _ _ _ _ _ _ _ _ _ _ _ _ C _ c.args.j (m.classify (aexpr_of c.args.rs.now c.args.pool.now) c.args.node) refl _ _ _ _ _ _ _ _ k c.enter.ensures.by_index c.add_to_column.ensures.added);
      columns_bound = (
        omega (arith, c.enter.ensures.upper_bound),
        omega arith,
        omega arith,
        c.add_to_column.ensures.cells_len_unchanged,
        c.add_to_column.ensures.marks_len_unchanged,
        c.add_to_column.ensures.null_kept,
      );
    }

pub returns-in-Normalized : goal.returns-in-Normalized
returns-in-Normalized c =
    let k = read_as _ _ _ _ _ (c.classify-k.ensures _) c.in-Normalized.is in
    record {
      collects = (λ s C live. normalized-turn _ _ _ _ _ _ _ _ _ _ _ _ _ _ _ _ C _ c.args.j (m.classify (aexpr_of c.args.rs.now c.args.pool.now) c.args.node) refl _ _ _ _ _ _ _ _ k c.enter-in-Normalized.ensures.by_index
          c.add_to_column-in-Normalized.ensures.added);
      columns_bound = (
        omega (arith, c.enter-in-Normalized.ensures.upper_bound),
        omega arith,
        omega arith,
        c.add_to_column-in-Normalized.ensures.cells_len_unchanged,
        c.add_to_column-in-Normalized.ensures.marks_len_unchanged,
        c.add_to_column-in-Normalized.ensures.null_kept,
      );
    }

pub returns-in-Equality : goal.returns-in-Equality
returns-in-Equality c =
    let k = read_as _ _ _ _ _ (c.classify-k.ensures _) c.in-Equality.is in
    let b = subst (ColumnsBelow 64) k c.requires.columns_below in
    record {
      collects = (λ s C live. equality_turn _ _ _ _ _ _ _ _ _ _ _ _ _ _ _ _ C _ c.args.j (m.classify (aexpr_of c.args.rs.now c.args.pool.now) c.args.node) refl _ _ _ _ _ _ _ _ _ _ _ live c.enter-in-Equality.ensures.by_index
          c.require_non_null.ensures.shows c.enter-in-Equality-2.ensures.by_index c.require_non_null-in-Equality.ensures.shows k c.requires.fits.6 c.requires.fits.7 c.requires.fits.8 b.0 b.1);
      columns_bound = (
        omega (arith, c.enter-in-Equality.ensures.upper_bound, c.enter-in-Equality-2.ensures.upper_bound),
        omega
            arith,
        omega arith,
        c.require_non_null-in-Equality.ensures.cells_len_unchanged ∙ c.require_non_null.ensures.cells_len_unchanged,
        refl,
        null_both _ _
            _ _ c.require_non_null.ensures.null_kept c.require_non_null-in-Equality.ensures.null_kept,
      );
    }

pub returns-in-Recorded : goal.returns-in-Recorded
returns-in-Recorded c =
    let k = read_as _ _ _ _ _ (c.classify-k.ensures _) c.in-Recorded.is in
    record {
      collects = (λ s C live. recorded-turn _ _ _ _ _ _ _ _ _ _ _ _ _ _ _ _ C _ c.args.j (m.classify (aexpr_of c.args.rs.now c.args.pool.now) c.args.node) refl _ _ _ _ _ _ _ _ _ _ k c.requires.fits.5 c.enter-in-Recorded.ensures.by_index c.add_to_column-in-Recorded.ensures.added);
      columns_bound = (
        omega (arith, c.enter-in-Recorded.ensures.upper_bound),
        omega arith,
        omega arith,
        c.add_to_column-in-Recorded.ensures.cells_len_unchanged,
        c.add_to_column-in-Recorded.ensures.marks_len_unchanged,
        c.add_to_column-in-Recorded.ensures.null_kept,
      );
    }

pub returns-in-NonNullPair : goal.returns-in-NonNullPair
returns-in-NonNullPair c =
    let k = read_as _ _ _ _ _ (c.classify-k.ensures _) c.in-NonNullPair.is in
    record {
      collects = (λ s C live. pair_turn _ _ _ _ _ _ _ _ _ _ _ _ _ _ _ _ C _ c.args.j (m.classify (aexpr_of c.args.rs.now c.args.pool.now) c.args.node) refl _ _ _ _ _ _ _ _ _ _ _ live c.enter-in-NonNullPair.ensures.by_index
          c.require_non_null-in-NonNullPair.ensures.shows c.enter-in-NonNullPair-2.ensures.by_index c.require_non_null-in-NonNullPair-2.ensures.shows k c.requires.fits.5);
      columns_bound = (
        omega (arith, c.enter-in-NonNullPair.ensures.upper_bound, c.enter-in-NonNullPair-2.ensures.upper_bound),
        omega arith,
        omega arith,
        c.require_non_null-in-NonNullPair-2.ensures.cells_len_unchanged ∙ c.require_non_null-in-NonNullPair.ensures.cells_len_unchanged,
        refl,
        null_both _ _ _ _ c.require_non_null-in-NonNullPair.ensures.null_kept
            c.require_non_null-in-NonNullPair-2.ensures.null_kept,
      );
    }

pub returns-in-Opaque : goal.returns-in-Opaque
returns-in-Opaque c =
    let k = read_as _ _ _ _ _ (c.classify-k.ensures _) c.in-Opaque.is in
    record {
      collects = (λ s C live. opaque-turn _ _ _ _ _ _ _ _ _ _ _ _ _ _ _ _ C _ c.args.j (m.classify (aexpr_of c.args.rs.now c.args.pool.now) c.args.node) refl _ k c.requires.fits.5 live);
      columns_bound = (
        omega arith,
        omega
            arith,
        omega arith,
        refl,
        refl,
        null_same _ _,
      );
    }
