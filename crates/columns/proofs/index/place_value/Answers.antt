use borrow.Author.Rules.{rules}
use Rattle.columns.proofs.Indexing.{value-more, value-skipped}
use Rattle.columns.proofs.index.place_value.Goals as goal

pub returns-then-k-r : goal.returns-then-k-r
returns-then-k-r c =
    λ ss cs s i e S. value-skipped ss cs _ _ _ _ _ _ s i _ _ _ e c.value_at-v.ensures (search rules)
    c.find_by_hint-r.ensures (search rules) S

pub returns : goal.returns
returns c =
    λ ss cs s i e S. value-more ss cs _ _ _ _ _ _ _ s i _ _ _ c.requires.rising.0 c.requires.k_in_bounds.2 e c.value_at-v.ensures (search rules) c.find_by_hint-r.ensures (search rules) c.put_value.ensures S
