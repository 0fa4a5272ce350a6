use mathlib.Core.Path.{◌≡◌}
use Prim.Native.Nat.{◌<◌}
use Rattle.text_order.specs.Codes.{walk}
use Rattle.text_order.proofs.number.first_rank.Given as goal

abbrev pub invariant-loop-left : goal.invariant-loop-left
invariant-loop-left l =
    (l.s < 8192) × (walk l._left l.codes l.s l.l ≡ walk 17 l.codes l.start l.l)
