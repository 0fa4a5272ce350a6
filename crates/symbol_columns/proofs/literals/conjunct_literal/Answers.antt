use Rattle.symbol_columns.proofs.literals.conjunct_literal.Goals as goal

pub returns-in-Bounds : goal.returns-in-Bounds
returns-in-Bounds c = λ p n. rw c.in-Bounds.is (c.said_literal.ensures p)

pub returns-in-Normalized : goal.returns-in-Normalized
returns-in-Normalized c = λ p n. rw c.in-Normalized.is (c.said_literal-in-Normalized.ensures p)

pub returns-in-Equality : goal.returns-in-Equality
returns-in-Equality c = λ p n. rw c.in-Equality.is

pub returns-in-Recorded : goal.returns-in-Recorded
returns-in-Recorded c = λ p n. rw c.in-Recorded.is (c.said_literal-in-Recorded.ensures p)

pub returns-in-NonNullPair : goal.returns-in-NonNullPair
returns-in-NonNullPair c = λ p n. rw c.in-NonNullPair.is

pub returns-in-Opaque : goal.returns-in-Opaque
returns-in-Opaque c = λ p n. rw c.in-Opaque.is
