use mathlib.Core.Path.{◌≡◌, ◌∙◌, ap}
use native.Mathlib.Omega.{arith}
use Rattle.checksum.specs.Words.{word_sum}
use Rattle.checksum.proofs.Words.{none_yet, word_more}
use Rattle.checksum.proofs.word_sum.Goals as goal

pub loop-k-init : goal.loop-k-init
loop-k-init c = (omega arith, omega arith, none_yet _)

pub loop-k-preserved : goal.loop-k-preserved
loop-k-preserved c =
    (omega arith, omega arith, c.add_word-sum.ensures.value ∙ word_more _ _ _ _ c.loop-k.invariant.2 c.value_in-word.ensures)

pub returns : goal.returns
returns c =
    let e : c.loop-k.k ≡ 64 = omega arith in
    record { value = c.loop-k.invariant.2 ∙ ap (word_sum _) e; upper_bound = omega arith }
