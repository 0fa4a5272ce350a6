use Rattle.records.specs.Bytes.{all}
use lib.ListN.{get_or}
use mathlib.Core.Bool.{true}
use mathlib.Core.Path.{◌≡◌}
use Prim.Native.Nat.{ℕ}
use Rattle.records.specs.Shape.{known_type_in}
use Rattle.checking.proofs.check.types_fault.Given as goal

abbrev pub invariant-loop-ty : goal.invariant-loop-ty
invariant-loop-ty l = all (λ (j : ℕ). known_type_in l.text (get_or l.t j 0)) l.ty-index ≡ true
