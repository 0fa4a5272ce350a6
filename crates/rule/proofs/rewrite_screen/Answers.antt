use Prim.Native.Nat.{ℕ}
use native.Mathlib.Omega.{arith}
use lib.ListN.{length-replicate}
use Rattle.rule.proofs.rewrite_screen.Goals as goal

pub rewrite_within-requires-2 : goal.rewrite_within-requires-2
rewrite_within-requires-2 c =
    record { used_in_bounds = (λ h. omega (arith, h, length-replicate {A = ℕ} 4096 0)); used_in_bounds_2 = λ h. omega (arith, h, length-replicate {A = ℕ} 4096 0) }
