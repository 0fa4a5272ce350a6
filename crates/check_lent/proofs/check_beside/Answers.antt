use mathlib.Core.Path.{sym, ◌∙◌}
use mathlib.Core.Bool.{false, true≢false}
use native.Mathlib.Omega.{arith}
use Rattle.check_lent.proofs.Lent.{eight_more, told-answer, untold, untold_answer, untold_free}
use borrow.Author.Rules.{rules}
use Rattle.check_lent.proofs.check_beside.Goals as goal

pub check_with_text-f-requires : goal.check_with_text-f-requires
check_with_text-f-requires c =
    record { used_in_bounds = (λ h. omega (arith, c.requires.used_in_bounds h, c.loop-symbols.invariant.1)); used_in_bounds_2 = λ h. omega (arith, c.requires.used_in_bounds_2 h, c.loop-symbols.invariant.2) }

pub returns-then-symbols : goal.returns-then-symbols
returns-then-symbols c =
    record { result_value = told-answer c.loop-symbols.symbols _ _ _ _ _ _ _ _ c.lent_if.ensures c.check_with_text-f.ensures.result_value c.if-symbols.true; counted = (λ h. c.check_with_text-f.ensures.counted (sym (eight_more _) ∙ h)); text_bound = λ h. absurd (omega (arith, h)) }

pub returns-then-f-lt8 : goal.returns-then-f-lt8
returns-then-f-lt8 c =
    let short = c.loop-symbols.invariant.0 c.if-symbols.false in
    let none = untold c.loop-symbols.symbols _ _ _ _ _ _ _ _ c.lent_if.ensures c.check_with_text-f.ensures.result_value c.if-symbols.false short in
    record {
      result_value = untold_answer c.loop-symbols.symbols _ _ _ _ _ _ _ _ c.lent_if.ensures c.check_with_text-f.ensures.result_value c.if-symbols.false
          short (c.check_with_text-f.ensures.stands none c.if-f-lt8.true);
      counted = c.check_with_text-f.ensures.counted;
      text_bound = untold_free c.loop-symbols.symbols _ _ _ _ _ _ _ _ c.lent_if.ensures c.check_with_text-f.ensures.result_value c.if-symbols.false short;
    }

pub loop-symbols-smaller : goal.loop-symbols-smaller
loop-symbols-smaller c = rw c.if-symbols.false (omega arith)

pub loop-symbols-preserved : goal.loop-symbols-preserved
loop-symbols-preserved c = ((λ q. absurd (true≢false q)), search rules, search rules)
