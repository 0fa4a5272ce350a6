use mathlib.Core.Path.{refl, ◌∙◌, ap}
use mathlib.Core.Bool.{cond}
use native.Mathlib.Omega.{arith}
use lib.ListN.{length-set}
use Rattle.records.specs.Shape.{in_pool}
use Rattle.record_check.proofs.Filling.{filled_more}
use Rattle.symbol_screens.specs.Placed.{word_at}
use Rattle.ranked_screen.proofs.places.fill_values.Goals as goal

pub loop-i-init : goal.loop-i-init
loop-i-init c = (omega arith, refl, λ a h. absurd (omega (arith, h)))

pub loop-i-preserved : goal.loop-i-preserved
loop-i-preserved c = (
  omega arith,
  simp length-set c.loop-i.invariant.1,
  filled_more (λ k. cond (in_pool c.args.size (word_at c.args.rs.now c.args.p.now c.args.used k)) (word_at c.args.rs.now c.args.p.now c.args.used k) 0) c.loop-i.values c.loop-i.i c.symbol_or_empty.result (omega (
    arith,
    c.loop-i.invariant.1,
    c.loop-i-test.true,
    c.requires.2,
  )) c.loop-i.invariant.2 (c.symbol_or_empty.ensures ∙ ap (λ w. cond (in_pool c.args.size w) w 0)
      c.place_word.ensures),
)

pub shape_of-values : goal.shape_of-values
shape_of-values c = c.loop-i.invariant.1

pub returns : goal.returns
returns c = record { stands = λ i h. c.loop-i.invariant.2 i (omega (arith, h, c.loop-i-test.false)) }
