use Rattle.truth.proofs.Comparisons.{is_le_lem, is_ge_lem}
use Rattle.check_row.proofs.says.within_ends.Goals as goal

pub returns-in-Both : goal.returns-in-Both
returns-in-Both c = rw (c.in-Both.is, c.is_ge.ensures, c.is_le.ensures, is_ge_lem c.args.low, is_le_lem c.args.high)

pub returns-in-Left : goal.returns-in-Left
returns-in-Left c = rw (c.in-Left.is, c.is_ge-in-Left.ensures, c.is_lt.ensures, is_ge_lem c.args.low)

pub returns-in-Right : goal.returns-in-Right
returns-in-Right c = rw (c.in-Right.is, c.is_gt.ensures, c.is_le-in-Right.ensures, is_le_lem c.args.high)

pub returns-in-None : goal.returns-in-None
returns-in-None c = rw (c.in-None.is, c.is_gt-in-None.ensures, c.is_lt-in-None.ensures)
