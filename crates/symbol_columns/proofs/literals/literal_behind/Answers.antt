use mathlib.Core.Path.{◌∙◌, ap}
use lib.ListN.{get_or}
use Rattle.truth.specs.FromBytes.{aexpr_of}
use Rattle.merge.specs.Classify.{classify}
use Rattle.symbol_columns.specs.Literals.{conjunct_literal, literal_behind}
use Rattle.symbol_columns.proofs.literals.literal_behind.Goals as goal

pub returns : goal.returns
unfolding literal_behind
returns c =
    λ p. c.conjunct_literal.ensures p c.number_at.result ∙ ap (conjunct_literal c.args.upper)
    (c.classify_by_record-k.ensures p ∙ ap (classify (aexpr_of c.args.rs.now p)) (c.number_at.ensures ∙ ap (λ
    j. get_or c.args.nodes.now j 0) c.giver_of-j.ensures))
