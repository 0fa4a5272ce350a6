use mathlib.Core.Path.{sym, ◌∙◌}
use borrow.Author.Tests.{not-true, not-false}
use Rattle.truth.specs.FromBytes.{aexpr_of}
use Rattle.places.specs.Places.{places_row}
use Rattle.check_row.specs.Line.{lines_true}
use Rattle.places.proofs.Reading.{all_halved}
use Rattle.check_row.proofs.Answers.{not-places, passing, not-passing}
use mathlib.Core.Path.{ap}
use mathlib.Core.Bool.{not}
use Rattle.check_row.proofs.judge_row.Goals as goal

pub returns-then-not-places_ok : goal.returns-then-not-places_ok
returns-then-not-places_ok c =
    not-places c.args.columns c.args.row.now c.args.nulls (lines_true (aexpr_of c.args.rs.now c.args.p.now) (places_row c.args.row.now c.args.nulls) c.args.nodes.now c.args.n) (sym c.places_ok.ensures ∙ not-true
    _ (ap not c.if-not-places_ok.true))

pub lines_pass-requires : goal.lines_pass-requires
lines_pass-requires c =
    record {
      n_in_bounds = (
        c.requires.columns_bound.1,
        all_halved c.args.columns c.args.row.now c.args.nulls (sym c.places_ok.ensures ∙ not-false _ (ap not c.if-not-places_ok.false)),
      );
      by_index = c.requires.by_index;
    }

pub returns-then-lines_pass : goal.returns-then-lines_pass
returns-then-lines_pass c =
    passing c.args.columns c.args.row.now c.args.nulls _ (sym c.places_ok.ensures ∙ not-false _
    (ap not c.if-not-places_ok.false)) (sym c.lines_pass.ensures ∙ c.if-lines_pass.true)

pub returns : goal.returns
returns c =
    not-passing c.args.columns c.args.row.now c.args.nulls _ (sym c.places_ok.ensures ∙
    not-false _ (ap not c.if-not-places_ok.false)) (sym c.lines_pass.ensures ∙ c.if-lines_pass.false)
