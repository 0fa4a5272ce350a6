use mathlib.Core.Path.{◌≡◌}
use mathlib.Core.Bool.{true}
use Prim.Native.Nat.{ℕ, ◌≤◌, ◌-◌}
use Rattle.records.specs.Bytes.{all}
use Rattle.truth.specs.FromBytes.{null_marked}
use Rattle.places.specs.Places.{whole_at, half_at, place_ok}
use Rattle.places.proofs.checks.each_ok.Given as goal

abbrev pub invariant-loop-c : goal.invariant-loop-c
invariant-loop-c l =
    (l.c ≤ l.columns) × (all (λ (k : ℕ). place_ok (null_marked l.nulls k) (whole_at l.row k) (half_at l.row k)) l.c ≡ true)
