use Rattle.places.specs.Places.{places_row}
use Rattle.check_row.proofs.Arms.{below, bounds-true, normalized-true, recorded-true, equality_true, pair_false, opaque-false}
use Rattle.check_row.proofs.lines.line_passes.Goals as goal

pub place_at-requires : goal.place_at-requires
place_at-requires c = (
  below c.args.p.now c.args.n.0 c.classify-k.result _ (c.classify-k.ensures c.args.p.now) _ c.in-Bounds.is c.requires.1,
  c.requires.0,
)

pub place_at-requires-in-Normalized : goal.place_at-requires-in-Normalized
place_at-requires-in-Normalized c = (
  below c.args.p.now c.args.n.0 c.classify-k.result _ (c.classify-k.ensures c.args.p.now) _ c.in-Normalized.is c.requires.1,
  c.requires.0,
)

pub place_at-requires-in-Equality : goal.place_at-requires-in-Equality
place_at-requires-in-Equality c = (
  (below c.args.p.now c.args.n.0 c.classify-k.result _ (c.classify-k.ensures c.args.p.now) _ c.in-Equality.is c.requires.1).0,
  c.requires.0,
)

pub place_at-requires-in-Equality-2 : goal.place_at-requires-in-Equality-2
place_at-requires-in-Equality-2 c = (
  (below c.args.p.now c.args.n.0 c.classify-k.result _ (c.classify-k.ensures c.args.p.now) _ c.in-Equality.is c.requires.1).1,
  c.requires.0,
)

pub place_at-requires-in-Recorded : goal.place_at-requires-in-Recorded
place_at-requires-in-Recorded c = (
  below c.args.p.now c.args.n.0 c.classify-k.result _ (c.classify-k.ensures c.args.p.now) _ c.in-Recorded.is c.requires.1,
  c.requires.0,
)

pub returns-in-Bounds : goal.returns-in-Bounds
returns-in-Bounds c =
    bounds-true c.args.p.now c.args.n.0 c.classify-k.result _ (c.classify-k.ensures c.args.p.now)
    (places_row c.args.row.now c.args.nulls) _ _ c.place_at.result _ c.in-Bounds.is c.place_at.ensures c.meets.ensures

pub returns-in-Normalized : goal.returns-in-Normalized
returns-in-Normalized c =
    normalized-true c.args.p.now c.args.n.0 c.classify-k.result _ (c.classify-k.ensures c.args.p.now) (places_row c.args.row.now c.args.nulls) _ _ c.place_at-in-Normalized.result _ c.in-Normalized.is c.place_at-in-Normalized.ensures
    c.meets-in-Normalized.ensures

pub returns-in-Equality : goal.returns-in-Equality
returns-in-Equality c =
    equality_true c.args.p.now c.args.n.0 c.classify-k.result _ (c.classify-k.ensures c.args.p.now) (places_row c.args.row.now c.args.nulls) _ _ c.place_at-in-Equality.result c.place_at-in-Equality-2.result _ c.in-Equality.is c.place_at-in-Equality.ensures
    c.place_at-in-Equality-2.ensures c.same_value.ensures

pub returns-in-Recorded : goal.returns-in-Recorded
returns-in-Recorded c =
    recorded-true c.args.p.now c.args.n.0 c.classify-k.result _ (c.classify-k.ensures c.args.p.now) (places_row c.args.row.now c.args.nulls) _ _ _ c.place_at-in-Recorded.result _ c.in-Recorded.is c.place_at-in-Recorded.ensures
    c.meets-in-Recorded.ensures

pub returns-in-NonNullPair : goal.returns-in-NonNullPair
returns-in-NonNullPair c =
    pair_false c.args.p.now c.args.n.0 c.classify-k.result _ (c.classify-k.ensures c.args.p.now)
    (places_row c.args.row.now c.args.nulls) _ _ c.in-NonNullPair.is

pub returns-in-Opaque : goal.returns-in-Opaque
returns-in-Opaque c =
    opaque-false c.args.p.now c.args.n.0 c.classify-k.result _ (c.classify-k.ensures c.args.p.now)
    (places_row c.args.row.now c.args.nulls) c.in-Opaque.is
