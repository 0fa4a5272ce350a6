use borrow.Author.Rules.{rules}
use native.Mathlib.Omega.{arith}
use Rattle.ranked_screen.proofs.Placing.{standing-pooled}
use Rattle.ranked_screen.proofs.Reading.{accepted-sizes, lists-in, ranks_of}
use Rattle.ranked_screen.proofs.rank.rank_screen.Goals as goal

-- `rank_screen` meets its contract. Assumes nothing.
pub overflow_cast-text : goal.overflow_cast-text
overflow_cast-text c =
    let s = accepted-sizes _ _ _ _ c.requires.accepted in
    omega (arith, s.text-low)

pub fill_values-requires : goal.fill_values-requires
fill_values-requires c =
    let s = accepted-sizes _ _ _ _ c.requires.accepted in
    (s.used_low, s.pool-low, c.requires.used_in_bounds.0)

pub symbol_ranks-requires : goal.symbol_ranks-requires
symbol_ranks-requires c =
    (standing-pooled _ _ _ _ _ (search rules) c.fill_values.ensures, c.requires.used_in_bounds.1, c.requires.used_in_bounds.2)

pub overflow_cast-words : goal.overflow_cast-words
overflow_cast-words c =
    let s = accepted-sizes _ _ _ _ c.requires.accepted in
    omega (arith, s.pool-low)

pub overflow_cast-used : goal.overflow_cast-used
overflow_cast-used c =
    let s = accepted-sizes _ _ _ _ c.requires.accepted in
    omega (arith, s.used_low)

pub rank_records-requires : goal.rank_records-requires
rank_records-requires c =
    let s = accepted-sizes _ _ _ _ c.requires.accepted in
    record { used_bound = (s.used_low, omega (arith, s.pool-low), lists-in _ _ _ _ c.requires.accepted); used_in_bounds = (search rules, c.requires.used_in_bounds_2.0) }

pub rank_pool-requires : goal.rank_pool-requires
rank_pool-requires c =
    let s = accepted-sizes _ _ _ _ c.requires.accepted in
    record { used_bound = (s.used_low, s.pool-low, search rules); p_in_bounds = omega (arith, c.requires.used_in_bounds_2.1) }

pub returns : goal.returns
returns c =
    ranks_of _ _ _ _ c.requires.accepted _ _ _ _ (search rules) c.fill_values.ensures c.symbol_ranks.ensures.ranked
    c.rank_records.ensures c.rank_pool.ensures
