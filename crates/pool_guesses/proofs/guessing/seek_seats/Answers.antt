use borrow.Author.Rules.{rules}
use native.Mathlib.Omega.{arith}
use Rattle.pool_guesses.proofs.guessing.seek_seats.Goals as goal

pub find_places-requires : goal.find_places-requires
find_places-requires c =
    record { in_bounds = omega arith; in_bounds_2 = omega arith; n_in_bounds = search rules; n_in_bounds_2 = search rules }
