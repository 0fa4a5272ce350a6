use mathlib.Core.Path.{◌∙◌, sym, ap}
use Rattle.read_operands.specs.Read.{says_in}
use Rattle.places.specs.Held.{place_in}
use Rattle.check_row.specs.Line.{meets_all}
use Rattle.check_row.proofs.says.meets.Goals as goal

pub returns-in-None : goal.returns-in-None
returns-in-None c =
    c.null_meets.ensures c.args.p.now ∙ sym (ap (λ x. meets_all (says_in c.args.p.now c.args.s)
    (place_in x)) c.in-None.is)

pub returns-in-Some : goal.returns-in-Some
returns-in-Some c =
    c.value_meets.ensures ∙ sym (ap (λ x. meets_all (says_in c.args.p.now c.args.s) (place_in x)) c.in-Some.is)
