-- The numbers and values that the C interface gives for each answer. An answer below 256 is a refusal with 01's number;
-- 256 and up is an answer. An out-parameter that an answer does not set keeps its value.
use Rattle.std.specs.Prelude.{ℕ, List, length}
use Rattle.merge.specs.declared.answer.RewriteAnswer.{RewriteAnswer}
use Rattle.merge.specs.declared.answer.RewriteAnswer.TheVariants as rewrite

-- rewriting: 256 unchanged, 257 nothing passes, 258 rewritten
abbrev pub rewrite_number : RewriteAnswer → ℕ
rewrite_number (rewrite.Refused k) = k
rewrite_number rewrite.Unchanged = 256
rewrite_number (rewrite.NothingPasses root used) = 257
rewrite_number (rewrite.Rewritten root used) = 258

-- the root that stands in `new_root` after the call, which found `old` there
abbrev pub new_root_out : RewriteAnswer → ℕ → ℕ
new_root_out (rewrite.Refused k) old = old
new_root_out rewrite.Unchanged old = old
new_root_out (rewrite.NothingPasses root used) old = root
new_root_out (rewrite.Rewritten root used) old = root

-- the same of `new_used`
abbrev pub new_used_out : RewriteAnswer → ℕ → ℕ
new_used_out (rewrite.Refused k) old = old
new_used_out rewrite.Unchanged old = old
new_used_out (rewrite.NothingPasses root used) old = used
new_used_out (rewrite.Rewritten root used) old = used

-- the same of `passes`, where rewriting made so many
abbrev pub passes_out : RewriteAnswer → ℕ → ℕ → ℕ
passes_out (rewrite.Refused k) made old = old
passes_out rewrite.Unchanged made old = made
passes_out (rewrite.NothingPasses root used) made old = made
passes_out (rewrite.Rewritten root used) made old = made

-- the same of `reasons_used`: the length of the text, which is empty unless the screen was rewritten
abbrev pub reasons_used_out : RewriteAnswer → List ℕ → ℕ → ℕ
reasons_used_out (rewrite.Refused k) text old = old
reasons_used_out rewrite.Unchanged text old = 0
reasons_used_out (rewrite.NothingPasses root used) text old = 0
reasons_used_out (rewrite.Rewritten root used) text old = length text
