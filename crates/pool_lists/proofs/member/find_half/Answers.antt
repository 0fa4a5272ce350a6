use native.Mathlib.Omega.{arith}
use mathlib.Core.Path.{sym, refl}
use lib.Seq.{length-take-le}
use Rattle.pool_lists.proofs.Parts.{found_front, found_back, inside_back, part_front, part_back}
use Rattle.pool_lists.proofs.member.find_half.Goals as goal

pub find_first-requires : goal.find_first-requires
find_first-requires c =
    record { ordered_part = part_back _ _ c.part_end-end.ensures.value c.requires.in_bounds _ c.requires.ordered _ c.second_from-from.ensures.le_size; count_in_bounds = inside_back c.args.pool.now _ c.part_end-end.ensures.value c.requires.in_bounds _ _ _ c.if-first-at.true refl c.requires.count_in_bounds; in_bounds = c.requires.in_bounds_2; le_hints = c.requires.le_hints; hints_bound = c.requires.hints_bound }

pub returns-then-first-at : goal.returns-then-first-at
returns-then-first-at c =
    found_back _ _ c.part_end-end.ensures.value c.requires.in_bounds _ _ _ _ _ c.if-first-at.true refl c.find_first.ensures

pub slice_bounds-find_first-end-then-at-count : goal.slice_bounds-find_first-end-then-at-count
slice_bounds-find_first-end-then-at-count c = sym (length-take-le _ _ c.part_end-end.ensures.upper_bound)

pub slice_bounds-find_first-end-then-at-count-2 : goal.slice_bounds-find_first-end-then-at-count-2
slice_bounds-find_first-end-then-at-count-2 c = sym (length-take-le _ _ c.first_words-till.ensures.upper_bound)

pub find_first-requires-then-at-count : goal.find_first-requires-then-at-count
find_first-requires-then-at-count c =
    let l = length-take-le _ c.args.pool.now c.part_end-end.ensures.upper_bound in
    record {
      ordered_part = part_front _ _ c.part_end-end.ensures.value c.requires.in_bounds _ c.requires.ordered _ c.first_words-till.ensures.upper_bound
          c.first_words-till.ensures.value;
      count_in_bounds = omega (arith, l, c.if-at-count.true);
      in_bounds = c.requires.in_bounds_2;
      le_hints = c.requires.le_hints;
      hints_bound = c.requires.hints_bound;
    }

pub returns-then-at-count : goal.returns-then-at-count
returns-then-at-count c =
    found_front _ _ c.part_end-end.ensures.value c.requires.in_bounds _ _ _ _ c.if-at-count.true c.find_first-then-at-count.ensures
