use Rattle.records.proofs.Laws.{flags}
use Rattle.truth.specs.Evaluate.{between_of}
use Rattle.truth.proofs.value.between.Goals as goal

pub returns : goal.returns
unfolding between_of
returns c =
    search (
      flags,
      ← c.and_of.ensures,
      ← c.compare_values-below.ensures,
      ← c.high_code.ensures,
      ← c.compare_values-above.ensures,
      ← c.low_code.ensures,
    )
