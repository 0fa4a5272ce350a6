use Rattle.judge_lines.proofs.Ends.{nothing-contradict}
use Rattle.judge_lines.proofs.merged.lets_nothing_pass.Goals as goal

pub returns : goal.returns
returns c = nothing-contradict _ _ _ _ c.contradict.ensures
