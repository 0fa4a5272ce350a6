use borrow.Author.Rules.{rules}
use mathlib.Core.Path.{sym, ◌∙◌}
use Prim.Native.Nat.{◌≤◌, ◌<◌}
use native.Mathlib.Omega.{arith}
use lib.ListN.{length}
use borrow.Author.Tests.{not-true, not-false}
use Rattle.checking.proofs.Accepted.{checked, accepted-root}
use Rattle.merge.specs.Minterms as mt
use Rattle.read_operands.specs.Walk.{walked}
use Rattle.reading.proofs.Screens.{walked-inputs}
use Rattle.plain_lines.proofs.Refusals.{refused-9, refused-17, refused-not, table-few}
use mathlib.Core.Path.{ap}
use mathlib.Core.Bool.{not}
use Rattle.plain_lines.proofs.lines_counted.Goals as goal

pub minterms-n-requires : goal.minterms-n-requires
minterms-n-requires c =
    let ok = checked c.args.t.now c.args.rs.now c.args.p.now c.args.used c.args.root.0 c.requires.accepted in
    record { below = walked-inputs c.args.t.now c.args.rs.now c.args.p.now c.args.used c.args.root.0 ok; room = search rules }

pub returns-then-n-gt128 : goal.returns-then-n-gt128
returns-then-n-gt128 c =
    let k : 128 < length (mt.minterms (walked c.args.rs.now) c.args.root.0) = omega (
      arith,
      c.minterms-n.ensures.counted,
    ) in
    record {
      answer = refused-9 c.args.t.now c.args.rs.now c.args.p.now c.args.used c.args.root.0
          c.requires.accepted c.requires.small k;
      lines = tt;
    }

pub is_plain-requires : goal.is_plain-requires
is_plain-requires c =
    let ok = checked c.args.t.now c.args.rs.now c.args.p.now c.args.used c.args.root.0 c.requires.accepted in (
      table-few c.args.t.now c.args.rs.now c.args.p.now c.args.used c.args.root.0
          ok,
      accepted-root c.args.t.now c.args.rs.now c.args.p.now c.args.used c.args.root.0 c.requires.accepted,
      search rules,
    )

pub returns-then-not-is_plain : goal.returns-then-not-is_plain
returns-then-not-is_plain c =
    let ok = checked c.args.t.now c.args.rs.now c.args.p.now c.args.used c.args.root.0 c.requires.accepted in
    let few : length (mt.minterms (walked c.args.rs.now) c.args.root.0) ≤ 128 = omega (
      arith,
      c.minterms-n.ensures.counted,
    ) in
    record {
      answer = refused-17 c.args.t.now c.args.rs.now c.args.p.now c.args.used c.args.root.0
          c.requires.accepted c.requires.small few (sym (c.is_plain.ensures c.args.p.now c.args.used ok (c.minterms-n.ensures.all few)) ∙ not-true _ (ap not c.if-not-is_plain.true));
      lines = tt;
    }

pub returns : goal.returns
returns c =
    let ok = checked c.args.t.now c.args.rs.now c.args.p.now c.args.used c.args.root.0 c.requires.accepted in
    let few : length (mt.minterms (walked c.args.rs.now) c.args.root.0) ≤ 128 = omega (
      arith,
      c.minterms-n.ensures.counted,
    ) in
    record {
      answer = refused-not c.args.t.now c.args.rs.now c.args.p.now c.args.used c.args.root.0
          c.requires.accepted c.requires.small few (sym (c.is_plain.ensures c.args.p.now c.args.used ok (c.minterms-n.ensures.all few)) ∙ not-false _ (ap not c.if-not-is_plain.false));
      lines = (omega arith, c.minterms-n.ensures.all few);
    }
