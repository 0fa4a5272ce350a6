use native.Mathlib.Omega.{arith}
use Rattle.ranked_screen.proofs.Reading.{Sizes, accepted-sizes}
use Rattle.checking.proofs.Accepted.{checked-in}
use Rattle.symbol_screens.specs.Rewriting.{lent}
use Rattle.rewrite_symbols.proofs.merge_sized.Goals as goal

pub merge_in-requires : goal.merge_in-requires
merge_in-requires c =
    let s : Sizes c.args.text.now c.args.p.now c.args.used = accepted-sizes c.args.text.now c.args.rs.now c.args.p.now c.args.used (record {
      table = c.args.t.now;
      root = c.args.root.0;
      checked = checked-in (lent c.args.text.now) c.args.t.now c.args.rs.now c.args.p.now c.args.used c.args.root.0 c.requires.accepted;
    }) in
    record {
      accepted = c.requires.accepted;
      counted = c.requires.counted;
      small = c.requires.small;
      walked = c.requires.walked;
      there = c.requires.there;
      room = (omega (arith, s.used_low, s.pool-low), omega arith);
      copied = (omega (arith, s.used_low), omega arith, omega (arith, s.pool-low), omega arith);
    }

pub merge_in-requires-then-p-gt512 : goal.merge_in-requires-then-p-gt512
merge_in-requires-then-p-gt512 c =
    let s : Sizes c.args.text.now c.args.p.now c.args.used = accepted-sizes c.args.text.now c.args.rs.now c.args.p.now c.args.used (record {
      table = c.args.t.now;
      root = c.args.root.0;
      checked = checked-in (lent c.args.text.now) c.args.t.now c.args.rs.now c.args.p.now c.args.used c.args.root.0 c.requires.accepted;
    }) in
    record {
      accepted = c.requires.accepted;
      counted = c.requires.counted;
      small = c.requires.small;
      walked = c.requires.walked;
      there = c.requires.there;
      room = (omega (arith, s.used_low, s.pool-low), omega arith);
      copied = (omega (arith, s.used_low), omega arith, omega (arith, s.pool-low), omega arith);
    }

pub merge_in-requires-2 : goal.merge_in-requires-2
merge_in-requires-2 c =
    record {
      accepted = c.requires.accepted;
      counted = c.requires.counted;
      small = c.requires.small;
      walked = c.requires.walked;
      there = c.requires.there;
      room = (omega arith, omega arith);
      copied = (omega arith, omega arith, omega arith, omega arith);
    }
