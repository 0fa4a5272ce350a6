use Rattle.masks.proofs.Comparing.{tells-same, between-compared}
use Rattle.masks.proofs.Literals.{low-code_plain, high-code_plain}
use Rattle.literal_masks.proofs.between_literals.Goals as goal

pub compare_literal-above-requires : goal.compare_literal-above-requires
compare_literal-above-requires c =
    let p = low-code_plain _ _ c.low_code.ensures in
    record { rows_bound = c.requires.rows_bound; columns_bound = c.requires.columns_bound; c_lt_columns = c.requires.c_lt_columns; rows_bound_2 = c.requires.rows_bound_2; rows_in_bounds = c.requires.rows_in_bounds; fact = p.0; fact_2 = p.1 }

pub compare_literal-below-requires : goal.compare_literal-below-requires
compare_literal-below-requires c =
    let p = high-code_plain _ _ c.high_code.ensures in
    record { rows_bound = c.requires.rows_bound; columns_bound = c.requires.columns_bound; c_lt_columns = c.requires.c_lt_columns; rows_bound_2 = c.requires.rows_bound_2; rows_in_bounds = c.requires.rows_in_bounds; fact = p.0; fact_2 = p.1 }

pub returns : goal.returns
returns c =
    λ chain s. tells-same _ _ _ _ (λ i h. between-compared _ _ _ _ _ _ c.low_code.ensures c.high_code.ensures)
    (c.and_masks.ensures _ _ _ (c.compare_literal-above.ensures chain s) (c.compare_literal-below.ensures chain s))
