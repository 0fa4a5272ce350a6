use native.Mathlib.Omega.{arith}
use Rattle.merge.specs.Reasons.{shown_in}
use Rattle.reasons.specs.Reason.{reason_in}
use Rattle.reasons.proofs.Writing.{line-length}
use Rattle.reasons.proofs.reason.reason_length.Goals as goal

pub returns : goal.returns
returns c =
    record {
      by_index = λ text. omega (
        arith,
        line-length (reason_in (shown_in c.args.t.now text) c.args.column.0 c.args.operator c.args.value.0 c.args.line),
        c.value_length-c.ensures.by_index text,
      );
      upper_bound = omega (
        arith,
        c.value_length-c.ensures.upper_bound,
      );
    }
