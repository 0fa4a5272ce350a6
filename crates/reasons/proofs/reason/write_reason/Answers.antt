use native.Mathlib.Omega.{arith}
use mathlib.Core.Path.{◌∙◌, ap}
use lib.ListN.{length-append}
use Rattle.merge.specs.Write.{splice}
use Rattle.merge.specs.Reasons.{shown_in}
use Rattle.reasons.specs.Reason.{reason_in}
use Rattle.reasons.proofs.Writing.{four_words, line-words, line-length}
use Rattle.reasons.proofs.reason.write_reason.Goals as goal

pub write_number-b-requires : goal.write_number-b-requires
write_number-b-requires c =
    let k = line-length (reason_in (shown_in c.args.t.now c.args.text.now) c.args.column.0 c.args.operator c.args.value.0 c.args.line) in
    omega arith

pub write_operator-c-requires : goal.write_operator-c-requires
write_operator-c-requires c =
    let k = line-length (reason_in (shown_in c.args.t.now c.args.text.now) c.args.column.0 c.args.operator c.args.value.0 c.args.line) in
    omega arith

pub write_value-d-requires : goal.write_value-d-requires
write_value-d-requires c =
    let k = line-length (reason_in (shown_in c.args.t.now c.args.text.now) c.args.column.0 c.args.operator c.args.value.0 c.args.line) in
    omega arith

pub write_number-requires : goal.write_number-requires
write_number-requires c =
    let k = line-length (reason_in (shown_in c.args.t.now c.args.text.now) c.args.column.0 c.args.operator c.args.value.0 c.args.line) in
    omega arith

pub returns : goal.returns
returns c =
    let k = line-length (reason_in (shown_in c.args.t.now c.args.text.now) c.args.column.0 c.args.operator c.args.value.0 c.args.line) in
    record {
      value = omega arith;
      buffer_after = four_words _ _ _ _ _ _ _ _ _ c.write_number-b.ensures.s_after (simp length-append (omega arith))
          c.write_operator-c.ensures.s_after (simp length-append (omega arith)) c.write_value-d.ensures.buffer_after (simp
          length-append (omega arith)) c.write_number.ensures.s_after (simp length-append (omega arith)) ∙ ap (splice _
          _) (line-words (reason_in (shown_in c.args.t.now c.args.text.now) c.args.column.0 c.args.operator c.args.value.0 c.args.line));
    }
