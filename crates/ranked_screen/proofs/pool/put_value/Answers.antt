use Rattle.ranked_screen.specs.Screen.{write_value}
use Rattle.ranked_screen.proofs.pool.put_value.Goals as goal

pub returns : goal.returns
unfolding write_value
returns c = c.put_value.ensures
