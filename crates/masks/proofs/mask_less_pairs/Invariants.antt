use Prim.Native.Nat.{ℕ, ◌+◌, ◌≤◌}
use mathlib.Core.Path.{◌≡◌}
use lib.ListN.{get_or}
use lib.Dec.{ltb}
use Rattle.masks.specs.Masks.{mask_to}
use Rattle.masks.proofs.mask_less_pairs.Given as goal

abbrev pub invariant-loop-i : goal.invariant-loop-i
invariant-loop-i l =
    (l.i ≤ 64) × (l.m ≡ mask_to (λ (j : ℕ). ltb (get_or l.keys (l.at + j) 0) (get_or l.keys (l.other + j) 0)) l.i)
