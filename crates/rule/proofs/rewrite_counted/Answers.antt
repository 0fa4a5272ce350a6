use mathlib.Core.Path.{refl}
use borrow.Author.Rules.{rules}
use Prim.Native.Nat.{◌≤◌, ◌<◌}
use native.Mathlib.Omega.{arith}
use lib.ListN.{length}
use borrow.Author.Tests.{le-leb}
use Rattle.checking.proofs.Accepted.{checked-in}
use Rattle.merge.specs.Minterms as mt
use Rattle.read_operands.specs.Walk.{walked}
use Rattle.symbol_screens.specs.Rewriting.{lent}
use Rattle.ranked_reading.proofs.Walking.{walked-inputs}
use Rattle.rewrite_symbols.proofs.Refusals.{refused-explains, with-9, accepted-as_ever, numbers-explain}
use Rattle.rule.proofs.rewrite_counted.Goals as goal

pub minterms-n-requires : goal.minterms-n-requires
minterms-n-requires c =
    record { below = walked-inputs (lent c.args.text.now) c.args.t.now c.args.rs.now c.args.p.now c.args.used c.args.root.0 (checked-in (lent c.args.text.now) c.args.t.now c.args.rs.now c.args.p.now c.args.used c.args.root.0 c.requires.accepted); room = search rules }

pub returns-then-n-gt128 : goal.returns-then-n-gt128
returns-then-n-gt128 c =
    let k : 128 < length (mt.minterms (walked c.args.rs.now) c.args.root.0) = omega (
      arith,
      c.minterms-n.ensures.counted,
    ) in
    record { explains = (λ _. refused-explains c.args.text.now c.args.t.now c.args.rs.now c.args.p.now c.args.used c.args.root.0 9 c.refused.result c.args.reasons.now c.refused.ensures.answer_value c.refused.ensures.length_value (with-9 c.args.text.now c.args.t.now c.args.rs.now c.args.p.now c.args.used c.args.root.0 c.requires.accepted c.requires.small k)) }

pub merge_sized-requires : goal.merge_sized-requires
merge_sized-requires c =
    let few : length (mt.minterms (walked c.args.rs.now) c.args.root.0) ≤ 128 = omega (
      arith,
      c.minterms-n.ensures.counted,
    ) in
    record {
      accepted = c.requires.accepted;
      counted = c.requires.counted;
      small = c.requires.small;
      walked = c.minterms-n.ensures.all few;
      there = (
        omega arith,
        search rules,
      );
    }

pub merge_in-requires : goal.merge_in-requires
merge_in-requires c =
    let few : length (mt.minterms (walked c.args.rs.now) c.args.root.0) ≤ 128 = omega (
      arith,
      c.minterms-n.ensures.counted,
    ) in
    record { accepted = accepted-as_ever c.args.text.now c.args.t.now c.args.rs.now c.args.p.now c.args.used c.args.root.0 c.requires.accepted (c.requires.free c.if-symbols.false).1; counted = c.requires.counted; small = c.requires.small; walked = c.minterms-n.ensures.all few; sizes = (omega arith, refl, refl); there = (c.if-n-le16.true, search rules) }

pub returns-then-n-le16 : goal.returns-then-n-le16
returns-then-n-le16 c =
    record {
      explains = (λ _. let h = c.requires.free c.if-symbols.false in
          numbers-explain c.args.text.now c.args.t.now c.args.rs.now c.args.p.now c.args.used c.args.root.0 (le-leb (lent c.args.text.now) 8193
          (omega (arith, h.0))) h.1 c.merge_in.result c.args.reasons.now _ _ c.merge_in.ensures.answer
          c.merge_in.ensures.bytes c.merge_in.ensures.passes c.merge_in.ensures.text c.merge_in.ensures.length);
    }

pub merge_sized-requires-then-symbols-2 : goal.merge_sized-requires-then-symbols-2
merge_sized-requires-then-symbols-2 c =
    let few : length (mt.minterms (walked c.args.rs.now) c.args.root.0) ≤ 128 = omega (
      arith,
      c.minterms-n.ensures.counted,
    ) in
    record {
      accepted = c.requires.accepted;
      counted = c.requires.counted;
      small = c.requires.small;
      walked = c.minterms-n.ensures.all few;
      there = (
        omega arith,
        search rules,
      );
    }

pub merge_in-requires-2 : goal.merge_in-requires-2
merge_in-requires-2 c =
    let few : length (mt.minterms (walked c.args.rs.now) c.args.root.0) ≤ 128 = omega (
      arith,
      c.minterms-n.ensures.counted,
    ) in
    record { accepted = accepted-as_ever c.args.text.now c.args.t.now c.args.rs.now c.args.p.now c.args.used c.args.root.0 c.requires.accepted (c.requires.free c.if-symbols-2.false).1; counted = c.requires.counted; small = c.requires.small; walked = c.minterms-n.ensures.all few; sizes = (omega arith, refl, refl); there = (omega arith, search rules) }

pub returns : goal.returns
returns c =
    record {
      explains = (λ _. let h = c.requires.free c.if-symbols-2.false in
          numbers-explain c.args.text.now c.args.t.now c.args.rs.now c.args.p.now c.args.used c.args.root.0 (le-leb (lent c.args.text.now) 8193
          (omega (arith, h.0))) h.1 c.merge_in-2.result c.args.reasons.now _ _ c.merge_in-2.ensures.answer
          c.merge_in-2.ensures.bytes c.merge_in-2.ensures.passes c.merge_in-2.ensures.text c.merge_in-2.ensures.length);
    }
