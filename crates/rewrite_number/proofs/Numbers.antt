-- The number says which answer it is: 257 is nothing passes and no other, and 256 and up is no refusal.
use mathlib.Core.Path.{◌≡◌, refl, sym}
use mathlib.Core.Bool.{true, false, true≢false}
use Prim.Native.Nat.{ℕ, ◌≤◌, ◌<◌}
use native.Mathlib.Omega.{arith}
use Rattle.merge.specs.declared.answer.RewriteAnswer.{RewriteAnswer}
use Rattle.merge.specs.declared.answer.RewriteAnswer.TheVariants as answer
use Rattle.merge.specs.Demand.{is_refused, is_nothing}
use Rattle.rewrite_number.specs.Answers.{rewrite_number}

-- ---- A refusal's number is below 256.
abbrev pub SmallRefusal : RewriteAnswer → Type 0
SmallRefusal (answer.Refused k) = k < 256
SmallRefusal answer.Unchanged = Unit {0}
SmallRefusal (answer.NothingPasses root used) = Unit {0}
SmallRefusal (answer.Rewritten root used) = Unit {0}

-- ---- The number says which answer it is.
pub accepted : (a : RewriteAnswer) → SmallRefusal a → 256 ≤ rewrite_number a → is_refused a ≡ false
accepted (answer.Refused k) h n = absurd (omega (arith, h, n))
accepted answer.Unchanged h n = refl
accepted (answer.NothingPasses root used) h n = refl
accepted (answer.Rewritten root used) h n = refl

pub nothing-number : (a : RewriteAnswer) → SmallRefusal a → rewrite_number a ≡ 257 → is_nothing a ≡ true
nothing-number (answer.Refused k) h e = absurd (omega (arith, h, e))
nothing-number answer.Unchanged h e = absurd (omega (arith, e))
nothing-number (answer.NothingPasses root used) h e = refl
nothing-number (answer.Rewritten root used) h e = absurd (omega (arith, e))

pub number-nothing : (a : RewriteAnswer) → is_nothing a ≡ true → rewrite_number a ≡ 257
number-nothing (answer.Refused k) e = absurd (true≢false (sym e))
number-nothing answer.Unchanged e = absurd (true≢false (sym e))
number-nothing (answer.NothingPasses root used) e = refl
number-nothing (answer.Rewritten root used) e = absurd (true≢false (sym e))
