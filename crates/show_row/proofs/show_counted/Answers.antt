use borrow.Author.Rules.{rules}
use mathlib.Core.Path.{sym, ◌∙◌, refl}
use Prim.Native.Nat.{◌≤◌, ◌<◌}
use native.Mathlib.Omega.{arith}
use lib.ListN.{length}
use borrow.Author.Tests.{not-true, not-false}
use Rattle.checking.proofs.Accepted.{checked, accepted-root}
use Rattle.merge.specs.Minterms as mt
use Rattle.read_operands.specs.Walk.{walked}
use Rattle.reading.proofs.Screens.{walked-inputs}
use Rattle.plain_lines.proofs.Refusals.{table-few}
use Rattle.show_row.proofs.Answers.{show-9, show-17, show-14}
use mathlib.Core.Path.{ap}
use mathlib.Core.Bool.{not}
use Rattle.show_row.proofs.show_counted.Goals as goal

pub minterms-n-requires : goal.minterms-n-requires
minterms-n-requires c =
    let ok = checked c.args.t.now c.args.rs.now c.args.p.now c.args.used c.args.root.0 c.requires.accepted in
    record { below = walked-inputs c.args.t.now c.args.rs.now c.args.p.now c.args.used c.args.root.0 ok; room = search rules }

pub returns-then-n-gt128 : goal.returns-then-n-gt128
returns-then-n-gt128 c =
    let k : 128 < length (mt.minterms (walked c.args.rs.now) c.args.root.0) = omega (
      arith,
      c.minterms-n.ensures.counted,
      c.if-n-gt128.true,
    ) in
    record { value = show-9 c.args.t.now c.args.rs.now c.args.p.now c.args.used c.args.root.0 _ c.requires.accepted c.requires.small k; row_after = refl; low_shown = tt }

pub is_plain-requires : goal.is_plain-requires
is_plain-requires c =
    let ok = checked c.args.t.now c.args.rs.now c.args.p.now c.args.used c.args.root.0 c.requires.accepted in (
      table-few c.args.t.now c.args.rs.now c.args.p.now c.args.used c.args.root.0
          ok,
      accepted-root c.args.t.now c.args.rs.now c.args.p.now c.args.used c.args.root.0 c.requires.accepted,
      search rules,
    )

pub returns-then-not-is_plain : goal.returns-then-not-is_plain
returns-then-not-is_plain c =
    let ok = checked c.args.t.now c.args.rs.now c.args.p.now c.args.used c.args.root.0 c.requires.accepted in
    let few : length (mt.minterms (walked c.args.rs.now) c.args.root.0) ≤ 128 = omega (
      arith,
      c.minterms-n.ensures.counted,
      c.if-n-gt128.false,
    ) in
    record {
      value = show-17 c.args.t.now c.args.rs.now c.args.p.now c.args.used c.args.root.0 _
          c.requires.accepted c.requires.small few (sym (c.is_plain.ensures c.args.p.now c.args.used ok (c.minterms-n.ensures.all few)) ∙ not-true _ (ap not c.if-not-is_plain.true));
      row_after = refl;
      low_shown = tt;
    }

pub returns-then-row-t : goal.returns-then-row-t
returns-then-row-t c =
    let ok = checked c.args.t.now c.args.rs.now c.args.p.now c.args.used c.args.root.0 c.requires.accepted in
    let few : length (mt.minterms (walked c.args.rs.now) c.args.root.0) ≤ 128 = omega (
      arith,
      c.minterms-n.ensures.counted,
      c.if-n-gt128.false,
    ) in
    record {
      value = show-14 c.args.t.now c.args.rs.now c.args.p.now c.args.used c.args.root.0 _
          c.requires.accepted c.requires.small few (sym (c.is_plain.ensures c.args.p.now c.args.used ok (c.minterms-n.ensures.all few)) ∙ not-false _ (ap not c.if-not-is_plain.false)) c.if-row-t.true;
      row_after = refl;
      low_shown = tt;
    }

pub show_plain-requires : goal.show_plain-requires
show_plain-requires c =
    let ok = checked c.args.t.now c.args.rs.now c.args.p.now c.args.used c.args.root.0 c.requires.accepted in
    let few : length (mt.minterms (walked c.args.rs.now) c.args.root.0) ≤ 128 = omega (
      arith,
      c.minterms-n.ensures.counted,
      c.if-n-gt128.false,
    ) in
    record {
      accepted = c.requires.accepted;
      small = c.requires.small;
      walked = c.minterms-n.ensures.all few;
      there = (omega (arith, c.if-n-gt128.false), search rules);
      plain = sym
          (c.is_plain.ensures c.args.p.now c.args.used ok (c.minterms-n.ensures.all few)) ∙ not-false _ (ap not c.if-not-is_plain.false);
      room = c.if-row-t.false;
    }
