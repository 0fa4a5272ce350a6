use mathlib.Core.Path.{refl}
use Rattle.contradiction.proofs.Steps.{joins_as}
use Rattle.contradiction.proofs.labels.join_line.Goals as goal

pub returns-in-Bounds : goal.returns-in-Bounds
returns-in-Bounds c =
    record { by_index = (λ p. joins_as c.args.rs.now p c.args.node.0 _ _ c.args.labels.now c.args.labels.now (c.classify-k.ensures p) c.in-Bounds.is refl); labels_len_unchanged = refl }

pub returns-in-Normalized : goal.returns-in-Normalized
returns-in-Normalized c =
    record { by_index = (λ p. joins_as c.args.rs.now p c.args.node.0 _ _ c.args.labels.now c.args.labels.now (c.classify-k.ensures p) c.in-Normalized.is refl); labels_len_unchanged = refl }

pub returns-in-Equality : goal.returns-in-Equality
returns-in-Equality c =
    record {
      by_index = (λ p. joins_as c.args.rs.now p c.args.node.0 _ _ c.args.labels.now _ (c.classify-k.ensures
          p) c.in-Equality.is (c.join_columns.ensures.labels_len_unchanged, c.join_columns.ensures.by_index));
      labels_len_unchanged = c.join_columns.ensures.labels_len_unchanged;
    }

pub returns-in-Recorded : goal.returns-in-Recorded
returns-in-Recorded c =
    record { by_index = (λ p. joins_as c.args.rs.now p c.args.node.0 _ _ c.args.labels.now c.args.labels.now (c.classify-k.ensures p) c.in-Recorded.is refl); labels_len_unchanged = refl }

pub returns-in-NonNullPair : goal.returns-in-NonNullPair
returns-in-NonNullPair c =
    record { by_index = (λ p. joins_as c.args.rs.now p c.args.node.0 _ _ c.args.labels.now c.args.labels.now (c.classify-k.ensures p) c.in-NonNullPair.is refl); labels_len_unchanged = refl }

pub returns-in-Opaque : goal.returns-in-Opaque
returns-in-Opaque c =
    record { by_index = (λ p. joins_as c.args.rs.now p c.args.node.0 _ _ c.args.labels.now c.args.labels.now (c.classify-k.ensures p) c.in-Opaque.is refl); labels_len_unchanged = refl }
