-- Rewriting with the reasons of a rewritten screen (02, 2.6): the answer, the records and the text. t is the column
-- table, rs the records, p the pool, `len` the length of the lent text buffer.
use Rattle.std.specs.Prelude.{cond, List, ℕ, leb, length}
use Rattle.merge.specs.declared.answer.RewriteAnswer.{RewriteAnswer}
use Rattle.merge.specs.declared.answer.RewriteAnswer.TheVariants as answer
use Rattle.merge.specs.Reasons.{screen_reasons}
use Rattle.merge.specs.Rewrite.{outcome_of, rewrite_answer, written_if}
use Rattle.merge.specs.Write.{outcome_bytes, splice}
use Rattle.reasons.specs.Text.{reasons_text}

-- "Refused: 16, after 11, for a lent text buffer that cannot hold it": only where the answer would be rewritten. The
-- text has `size` bytes.
abbrev pub refuse_long : ℕ → ℕ → RewriteAnswer → RewriteAnswer
refuse_long size len (answer.Refused k) = answer.Refused k
refuse_long size len answer.Unchanged = answer.Unchanged
refuse_long size len (answer.NothingPasses root used) = answer.NothingPasses root used
refuse_long size len (answer.Rewritten root used) = cond (leb size len) (answer.Rewritten root used) (answer.Refused 16)

-- "per rebuilt comparison [..] in rebuild order"; "for the other answers the text is empty".
unfoldable pub explained_text : List ℕ → List ℕ → ℕ → ℕ → List ℕ
explained_text rs p used root = reasons_text (screen_reasons rs p used root)

unfoldable pub explained_answer : List ℕ → List ℕ → List ℕ → ℕ → ℕ → ℕ → RewriteAnswer
explained_answer t rs p used root len =
    refuse_long (length (explained_text rs p used root)) len (rewrite_answer t rs p used root)

-- The records' bytes at exit: "the records are then not added either".
unfoldable pub explained_bytes : List ℕ → List ℕ → List ℕ → ℕ → ℕ → ℕ → List ℕ
explained_bytes t rs p used root len =
    written_if (explained_answer t rs p used root len) rs (outcome_bytes t rs used (outcome_of rs p used root))

-- The text buffer at exit: the text in its front, the bytes behind it as they were.
abbrev pub text_if : RewriteAnswer → List ℕ → List ℕ → List ℕ
text_if (answer.Refused k) buffer text = buffer
text_if answer.Unchanged buffer text = buffer
text_if (answer.NothingPasses root used) buffer text = buffer
text_if (answer.Rewritten root used) buffer text = splice buffer 0 text

-- How many bytes of it the text has: none unless the screen was rewritten.
abbrev pub length_if : RewriteAnswer → List ℕ → ℕ
length_if (answer.Refused k) text = 0
length_if answer.Unchanged text = 0
length_if (answer.NothingPasses root used) text = 0
length_if (answer.Rewritten root used) text = length text
