use Prim.Native.Nat.{◌-◌, ◌≤◌}
use Rattle.truth.specs.FromBytes.{values_from}
use Rattle.pool_lists.proofs.Members.{FindsTo}
use Rattle.pool_lists.proofs.member.find_guessed.Given as goal

abbrev pub invariant-loop-i : goal.invariant-loop-i
invariant-loop-i l =
    (l.i ≤ 64) × FindsTo l.keys l.at (values_from l.pool l.start l.count) l.i l.m
