use native.Mathlib.Omega.{arith}
use Rattle.checking.proofs.Accepted.{checked-in}
use Rattle.symbol_screens.specs.Rewriting.{lent}
use Rattle.rewrite_symbols.proofs.merge_ranked.Goals as goal

pub rank_screen-requires : goal.rank_screen-requires
rank_screen-requires c =
    record {
      accepted = record {
        table = c.args.t.now;
        root = c.args.root.0;
        checked = checked-in (lent c.args.text.now) c.args.t.now c.args.rs.now c.args.p.now c.args.used c.args.root.0 c.requires.accepted;
      };
      used_in_bounds = c.requires.room;
      used_in_bounds_2 = (c.requires.copied.0, c.requires.copied.1);
    }

pub merge_symbols-requires : goal.merge_symbols-requires
merge_symbols-requires c =
    record {
      accepted = c.requires.accepted;
      counted = c.requires.counted;
      small = c.requires.small;
      walked = c.requires.walked;
      there = (
        c.requires.there.0,
        c.requires.there.1,
        omega (arith, c.rank_screen.auto.values, c.requires.copied.2),
        omega (
          arith,
          c.rank_screen.auto.values,
          c.rank_screen.auto.places,
          c.requires.copied.3,
        ),
      );
      copied = omega (arith, c.rank_screen.auto.src, c.requires.copied.0);
      ranked = (
        _,
        _,
        c.rank_screen.ensures,
      );
    }
