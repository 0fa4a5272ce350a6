-- Lists of values in the pool.
use Prim.Native.Nat.{ℕ, ◌+◌}
use mathlib.Core.List.{List}
use mathlib.Core.Bool.{true}
use mathlib.Core.Path.{◌≡◌, refl}
use Rattle.records.specs.Bytes.{value_at}
use Rattle.records.specs.Shape.{in_type_in}
use Rattle.record_check.specs.Fit.{all_fit_in}
use Rattle.records.proofs.Loops.{all_true}

-- any 64 bits are an Int
pub all_ints : (text : ℕ) (p : List ℕ) (start count : ℕ) → all_fit_in text p 1 start count ≡ true
unfolding all_fit_in in_type_in
all_ints text p start count = all_true (λ (k : ℕ). in_type_in text 1 (value_at p (start + k))) (λ i. refl) count
