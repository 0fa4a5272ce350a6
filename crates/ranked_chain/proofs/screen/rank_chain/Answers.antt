use borrow.Author.Rules.{rules}
use native.Mathlib.Omega.{arith}
use Rattle.ranked_screen.proofs.Reading.{accepted-sizes}
use Rattle.ranked_chain.proofs.Ranking.{places-few, accepted-lent, accepted-lists, chain-ranks}
use Rattle.ranked_chain.proofs.screen.rank_chain.Goals as goal

pub overflow_cast-text : goal.overflow_cast-text
overflow_cast-text c =
    let s = accepted-sizes _ _ _ _ c.requires.accepted in
    omega (arith, s.text-low)

pub fill_values-requires : goal.fill_values-requires
fill_values-requires c =
    let s = accepted-sizes _ _ _ _ c.requires.accepted in
    (s.used_low, s.pool-low, places-few _ _ _ _ c.requires.accepted)

pub number_all-requires : goal.number_all-requires
number_all-requires c =
    let w = places-few _ _ _ _ c.requires.accepted in
    (c.requires.in_bounds.0, omega (arith, w, c.fill_values.auto.values), search (rules, w))

pub rank_records-requires : goal.rank_records-requires
rank_records-requires c =
    let s = accepted-sizes _ _ _ _ c.requires.accepted in
    let w = places-few _ _ _ _ c.requires.accepted in
    record {
      used_bound = (s.used_low, s.pool-low, omega (arith, w, c.number_all.auto.numbers));
      used_in_bounds = (
        accepted-lent _ _ _ _ c.requires.accepted,
        c.requires.in_bounds.2,
        accepted-lists _ _ _ _ c.requires.accepted,
      );
    }

pub rank_pool-requires : goal.rank_pool-requires
rank_pool-requires c =
    let s = accepted-sizes _ _ _ _ c.requires.accepted in
    let w = places-few _ _ _ _ c.requires.accepted in
    record { used_bound = (s.used_low, s.pool-low, omega (arith, w, c.number_all.auto.numbers)); p_in_bounds = omega (arith, c.requires.in_bounds.1) }

pub returns : goal.returns
returns c =
    let w = places-few _ _ _ _ c.requires.accepted in
    chain-ranks _ _ _ _ c.requires.accepted _ _ _ _ _ (search (rules, w)) c.fill_values.ensures c.number_all.ensures
    c.rank_records.ensures c.rank_pool.ensures
