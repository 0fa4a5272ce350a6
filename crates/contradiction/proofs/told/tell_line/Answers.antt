use mathlib.Core.Path.{refl, ◌∙◌, ap, subst}
use Rattle.column_constraints.specs.Abstraction.{conjuncts}
use Rattle.constraints.specs.Lined.{on_line, lined}
use Rattle.merge.specs.Lines.{map_conjunct}
use Rattle.rewrite.specs.Told.{ToldConjunct}
use Rattle.collect_constraints.proofs.Collecting.{read_as}
use Rattle.contradiction.specs.Labels.{label_at, tell_one}
use Rattle.contradiction.proofs.Steps.{label_low, tell_at, tell_none, tell_pair}
use Rattle.contradiction.proofs.told.tell_line.Goals as goal

pub tell_column-requires : goal.tell_column-requires
tell_column-requires c =
    let k = read_as _ _ _ _ _ (c.classify-k.ensures _) c.in-Bounds.is in
    record { fits = (c.requires.fits.0, label_low c.args.labels.now _ _ c.requires.fits.3 c.label_of-x.ensures, c.requires.fits.1); told = subst (ToldConjunct (conjuncts c.args.told.now c.args.pool.now) c.args.j) k c.requires.told_conjunct }

pub tell_column-requires-in-Normalized : goal.tell_column-requires-in-Normalized
tell_column-requires-in-Normalized c =
    let k = read_as _ _ _ _ _ (c.classify-k.ensures _) c.in-Normalized.is in
    record { fits = (c.requires.fits.0, label_low c.args.labels.now _ _ c.requires.fits.3 c.label_of-x-in-Normalized.ensures, c.requires.fits.1); told = subst (ToldConjunct (conjuncts c.args.told.now c.args.pool.now) c.args.j) k c.requires.told_conjunct }

pub tell_non_null-requires : goal.tell_non_null-requires
tell_non_null-requires c =
    (label_low c.args.labels.now _ _ c.requires.fits.3 c.label_of-x-in-Equality.ensures, c.requires.fits.0.size)

pub tell_non_null-requires-in-Equality : goal.tell_non_null-requires-in-Equality
tell_non_null-requires-in-Equality c = (
  label_low c.args.labels.now _ _ c.requires.fits.3 c.label_of-y.ensures,
  c.tell_non_null.ensures.cells_len_unchanged ∙ c.requires.fits.0.size,
)

pub tell_column-requires-in-Recorded : goal.tell_column-requires-in-Recorded
tell_column-requires-in-Recorded c =
    let k = read_as _ _ _ _ _ (c.classify-k.ensures _) c.in-Recorded.is in
    record { fits = (c.requires.fits.0, label_low c.args.labels.now _ _ c.requires.fits.3 c.label_of-x-in-Recorded.ensures, c.requires.fits.1); told = subst (ToldConjunct (conjuncts c.args.told.now c.args.pool.now) c.args.j) k c.requires.told_conjunct }

pub tell_non_null-requires-in-NonNullPair : goal.tell_non_null-requires-in-NonNullPair
tell_non_null-requires-in-NonNullPair c =
    (label_low c.args.labels.now _ _ c.requires.fits.3 c.label_of-x-in-NonNullPair.ensures, c.requires.fits.0.size)

pub tell_non_null-requires-in-NonNullPair-2 : goal.tell_non_null-requires-in-NonNullPair-2
tell_non_null-requires-in-NonNullPair-2 c = (
  label_low c.args.labels.now _ _ c.requires.fits.3 c.label_of-y-in-NonNullPair.ensures,
  c.tell_non_null-in-NonNullPair.ensures.cells_len_unchanged ∙ c.requires.fits.0.size,
)

pub returns-in-Bounds : goal.returns-in-Bounds
returns-in-Bounds c =
    let k = read_as _ _ _ _ _ (c.classify-k.ensures _) c.in-Bounds.is in
    record {
      tells = (λ T S. tell_at _ _ _ T _ _ _ _ _ (ap (λ y. tell_one lined (label_at c.args.labels.now) (map_conjunct
          (on_line c.args.j) y) T) k) c.label_of-x.ensures (c.tell_column.ensures.added T S));
      cells_len_unchanged = c.tell_column.ensures.cells_len_unchanged;
      marks_len_unchanged = c.tell_column.ensures.marks_len_unchanged;
    }

pub returns-in-Normalized : goal.returns-in-Normalized
returns-in-Normalized c =
    let k = read_as _ _ _ _ _ (c.classify-k.ensures _) c.in-Normalized.is in
    record {
      tells = (λ T S. tell_at _ _ _ T _ _ _ _ _ (ap (λ y. tell_one lined (label_at c.args.labels.now) (map_conjunct
          (on_line c.args.j) y) T) k) c.label_of-x-in-Normalized.ensures (c.tell_column-in-Normalized.ensures.added T S));
      cells_len_unchanged = c.tell_column-in-Normalized.ensures.cells_len_unchanged;
      marks_len_unchanged = c.tell_column-in-Normalized.ensures.marks_len_unchanged;
    }

pub returns-in-Equality : goal.returns-in-Equality
returns-in-Equality c =
    let k = read_as _ _ _ _ _ (c.classify-k.ensures _) c.in-Equality.is in
    record {
      tells = (λ T S. tell_pair _ _ _ T _ _ _ _ _ (ap (λ y. tell_one lined (label_at c.args.labels.now) (map_conjunct
          (on_line c.args.j) y) T) k) c.label_of-x-in-Equality.ensures c.label_of-y.ensures (c.tell_non_null-in-Equality.ensures.shows _ _ _
          (c.tell_non_null.ensures.shows _ _ T S)));
      cells_len_unchanged = c.tell_non_null-in-Equality.ensures.cells_len_unchanged ∙ c.tell_non_null.ensures.cells_len_unchanged;
      marks_len_unchanged = refl;
    }

pub returns-in-Recorded : goal.returns-in-Recorded
returns-in-Recorded c =
    let k = read_as _ _ _ _ _ (c.classify-k.ensures _) c.in-Recorded.is in
    record {
      tells = (λ T S. tell_at _ _ _ T _ _ _ _ _ (ap (λ y. tell_one lined (label_at c.args.labels.now) (map_conjunct
          (on_line c.args.j) y) T) k) c.label_of-x-in-Recorded.ensures (c.tell_column-in-Recorded.ensures.added T S));
      cells_len_unchanged = c.tell_column-in-Recorded.ensures.cells_len_unchanged;
      marks_len_unchanged = c.tell_column-in-Recorded.ensures.marks_len_unchanged;
    }

pub returns-in-NonNullPair : goal.returns-in-NonNullPair
returns-in-NonNullPair c =
    let k = read_as _ _ _ _ _ (c.classify-k.ensures _) c.in-NonNullPair.is in
    record {
      tells = (λ T S. tell_pair _ _ _ T _ _ _ _ _ (ap (λ y. tell_one lined (label_at c.args.labels.now) (map_conjunct
          (on_line c.args.j) y) T) k) c.label_of-x-in-NonNullPair.ensures c.label_of-y-in-NonNullPair.ensures (c.tell_non_null-in-NonNullPair-2.ensures.shows _ _ _
          (c.tell_non_null-in-NonNullPair.ensures.shows _ _ T S)));
      cells_len_unchanged = c.tell_non_null-in-NonNullPair-2.ensures.cells_len_unchanged ∙ c.tell_non_null-in-NonNullPair.ensures.cells_len_unchanged;
      marks_len_unchanged = refl;
    }

pub returns-in-Opaque : goal.returns-in-Opaque
returns-in-Opaque c =
    let k = read_as _ _ _ _ _ (c.classify-k.ensures _) c.in-Opaque.is in
    record {
      tells = (λ T S. tell_none _ _ _ T _ (ap (λ y. tell_one lined (label_at c.args.labels.now) (map_conjunct (on_line
          c.args.j) y) T) k) S);
      cells_len_unchanged = refl;
      marks_len_unchanged = refl;
    }
