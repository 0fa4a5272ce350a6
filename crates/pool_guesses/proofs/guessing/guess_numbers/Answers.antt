use native.Mathlib.Omega.{arith}
use Rattle.pool_guesses.proofs.guessing.guess_numbers.Goals as goal

pub returns : goal.returns
returns c = λ j h. c.put_numbers.ensures j (omega (arith, h, c.requires.le_hints))
