use Prim.Native.Nat.{◌+◌, ◌-◌, ◌≤◌}
use mathlib.Core.Path.{◌≡◌}
use Rattle.pool_lists.proofs.Members.{Left}
use Rattle.pool_lists.proofs.member.find_key.Given as goal

abbrev pub invariant-loop-i : goal.invariant-loop-i
invariant-loop-i l =
    (l.i ≤ l.end) × (l.end ≡ l.start + l.count) × Left l.pool l.start l.count l.end l.i l.w
