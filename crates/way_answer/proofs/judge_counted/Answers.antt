use borrow.Author.Rules.{rules}
use mathlib.Core.Path.{sym, ◌∙◌}
use Prim.Native.Nat.{◌≤◌, ◌<◌}
use native.Mathlib.Omega.{arith}
use lib.ListN.{length}
use borrow.Author.Tests.{not-true, not-false}
use Rattle.checking.proofs.Accepted.{checked, accepted-root}
use Rattle.merge.specs.Minterms as mt
use Rattle.read_operands.specs.Walk.{walked}
use Rattle.reading.proofs.Screens.{walked-inputs}
use Rattle.plain_lines.proofs.Refusals.{table-few}
use Rattle.way_answer.proofs.Answers.{way-9, way-17}
use mathlib.Core.Path.{ap}
use mathlib.Core.Bool.{not}
use Rattle.way_answer.proofs.judge_counted.Goals as goal

pub minterms-n-requires : goal.minterms-n-requires
minterms-n-requires c =
    let ok = checked c.args.t.now c.args.rs.now c.args.p.now c.args.used c.args.root.0 c.requires.accepted in
    record { below = walked-inputs c.args.t.now c.args.rs.now c.args.p.now c.args.used c.args.root.0 ok; room = search rules }

pub returns-then-n-gt128 : goal.returns-then-n-gt128
returns-then-n-gt128 c =
    let k : 128 < length (mt.minterms (walked c.args.rs.now) c.args.root.0) = omega (
      arith,
      c.minterms-n.ensures.counted,
      c.if-n-gt128.true,
    ) in
    way-9 c.args.t.now c.args.rs.now c.args.p.now c.args.used c.args.root.0 c.requires.accepted c.requires.small k

pub is_plain-requires : goal.is_plain-requires
is_plain-requires c =
    let ok = checked c.args.t.now c.args.rs.now c.args.p.now c.args.used c.args.root.0 c.requires.accepted in (
      table-few c.args.t.now c.args.rs.now c.args.p.now c.args.used c.args.root.0
          ok,
      accepted-root c.args.t.now c.args.rs.now c.args.p.now c.args.used c.args.root.0 c.requires.accepted,
      search rules,
    )

pub returns-then-not-is_plain : goal.returns-then-not-is_plain
returns-then-not-is_plain c =
    let ok = checked c.args.t.now c.args.rs.now c.args.p.now c.args.used c.args.root.0 c.requires.accepted in
    let few : length (mt.minterms (walked c.args.rs.now) c.args.root.0) ≤ 128 = omega (
      arith,
      c.minterms-n.ensures.counted,
      c.if-n-gt128.false,
    ) in
    way-17 c.args.t.now c.args.rs.now c.args.p.now c.args.used c.args.root.0 c.requires.accepted c.requires.small few (sym (c.is_plain.ensures c.args.p.now c.args.used ok (c.minterms-n.ensures.all few)) ∙ not-true _ (ap not c.if-not-is_plain.true))

pub judge_plain-requires : goal.judge_plain-requires
judge_plain-requires c =
    let ok = checked c.args.t.now c.args.rs.now c.args.p.now c.args.used c.args.root.0 c.requires.accepted in
    let few : length (mt.minterms (walked c.args.rs.now) c.args.root.0) ≤ 128 = omega (
      arith,
      c.minterms-n.ensures.counted,
      c.if-n-gt128.false,
    ) in
    record {
      accepted = c.requires.accepted;
      small = c.requires.small;
      walked = c.minterms-n.ensures.all few;
      there = (omega (arith, c.if-n-gt128.false), search rules);
      plain = sym
          (c.is_plain.ensures c.args.p.now c.args.used ok (c.minterms-n.ensures.all few)) ∙ not-false _ (ap not c.if-not-is_plain.false);
    }
