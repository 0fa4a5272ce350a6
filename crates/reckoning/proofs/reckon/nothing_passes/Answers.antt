use Rattle.reckoning.proofs.Reckoning.{nothing-full, nothing-fits, room-lent}
use borrow.Author.Tests.{not-false}
use lib.ListN.{length}
use native.Mathlib.Omega.{arith}
use Prim.Native.Nat.{◌+◌, ◌/◌, ◌≤◌}
use mathlib.Core.Path.{refl, sym, ◌∙◌}
use mathlib.Core.Path.{ap}
use mathlib.Core.Bool.{not}
use Rattle.reckoning.proofs.reckon.nothing_passes.Goals as goal

pub returns-then-not-room_for : goal.returns-then-not-room_for
returns-then-not-room_for c =
    record {
      by_index = (λ trees. nothing-full (length c.args.rs.now) c.args.used _ c.room_for.ensures
          (ap not c.if-not-room_for.true));
      by_index_2 = (λ t. refl);
    }

pub write_false-requires : goal.write_false-requires
write_false-requires c =
    let h : c.args.used + 1 ≤ length c.args.rs.now / 16 = room-lent _ _
    (sym c.room_for.ensures ∙ not-false _ (ap not c.if-not-room_for.false)) in omega (arith, h)

pub returns : goal.returns
returns c =
    record {
      by_index = (λ trees. nothing-fits (length c.args.rs.now) c.args.used _
          c.room_for.ensures
          (ap not c.if-not-room_for.false));
      by_index_2 = (λ t. c.write_false.ensures);
    }
