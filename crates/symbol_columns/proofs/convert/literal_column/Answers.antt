use mathlib.Core.Path.{refl}
use Rattle.truth.specs.FromBytes.{aexpr_of}
use Rattle.symbol_columns.proofs.Converting.{column-literals}
use Rattle.symbol_columns.proofs.convert.literal_column.Goals as goal

pub returns : goal.returns
returns c =
    record {
      by_index = (λ p t a. column-literals (aexpr_of c.args.rs.now p) c.args.nodes.now t a c.args.c _ _ _ _
          (c.is_fixed-fixed.ensures t a) (c.literal_bound-lower.ensures p) (c.literal_bound-upper.ensures p) c.either_bound.ensures);
      len_value = refl;
    }
