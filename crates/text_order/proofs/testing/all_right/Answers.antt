use Rattle.std.proofs.Common.{rules}
use Rattle.std.proofs.iter.runs.Sources.{ranges}
use Rattle.text_order.proofs.testing.all_right.Goals as goal

pub returns : goal.returns
returns c = search (rules, ranges)
