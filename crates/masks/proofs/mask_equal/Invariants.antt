use Prim.Native.Nat.{ℕ, ◌+◌, ◌≤◌}
use mathlib.Core.Path.{◌≡◌}
use lib.ListN.{get_or}
use lib.Dec.{eqb}
use Rattle.masks.specs.Masks.{mask_to}
use Rattle.masks.proofs.mask_equal.Given as goal

abbrev pub invariant-loop-i : goal.invariant-loop-i
invariant-loop-i l =
    (l.i ≤ 64) × (l.m ≡ mask_to (λ (j : ℕ). eqb (get_or l.keys (l.at + j) 0) l.w) l.i)
