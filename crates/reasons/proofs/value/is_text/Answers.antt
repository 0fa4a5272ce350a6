use native.Mathlib.Omega.{arith}
use mathlib.Core.Path.{sym, ap}
use lib.Dec.{eqb}
use lib.ListN.{get_or-eq_default}
use Rattle.reasons.proofs.value.is_text.Goals as goal

pub returns : goal.returns
returns c = sym (ap (λ n. eqb n 4) (get_or-eq_default c.args.t.now 0 {n = c.args.column.0} (omega arith)))
