use mathlib.Core.Path.{◌∙◌, ap}
use mathlib.Core.Bool.{not}
use mathlib.Core.Logic.{⊎_elim}
use Rattle.plain.specs.Forms.{is_negation}
use Rattle.plain.proofs.Readings.{plain-arm}
use Rattle.plain.proofs.plain_conjunct.Goals as goal

pub returns-in-Bounds : goal.returns-in-Bounds
returns-in-Bounds c =
    λ p. ⊎_elim (λ e. plain-arm c.args.rs.now p c.args.n _ _ (c.classify.ensures p) e.2)
    (λ e. plain-arm c.args.rs.now p c.args.n _ _ (c.classify.ensures p) e.2) c.in-Bounds.is

pub returns-in-Equality : goal.returns-in-Equality
returns-in-Equality c =
    λ p. ap not (c.is_negation.ensures ∙ ap is_negation c.record_at.ensures) ∙ plain-arm c.args.rs.now p
    c.args.n _ _ (c.classify.ensures p) c.in-Equality.is

pub returns-in-Recorded : goal.returns-in-Recorded
returns-in-Recorded c =
    λ p. c.says_something.ensures p ∙ plain-arm c.args.rs.now p c.args.n _ _ (c.classify.ensures p) c.in-Recorded.is
