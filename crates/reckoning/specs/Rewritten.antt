-- Whether an answer writes a chain.
use Rattle.std.specs.Prelude.{Bool, true, false}
use Rattle.merge.specs.declared.answer.RewriteAnswer.{RewriteAnswer}
use Rattle.merge.specs.declared.answer.RewriteAnswer.TheVariants as answer

abbrev pub is_rewritten : RewriteAnswer → Bool
is_rewritten (answer.Refused k) = false
is_rewritten answer.Unchanged = false
is_rewritten (answer.NothingPasses root used) = false
is_rewritten (answer.Rewritten root used) = true
