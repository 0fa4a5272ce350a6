-- A symbol is null where its value is.
use mathlib.Core.Path.{◌≡◌, refl}
use mathlib.Core.List.{List}
use Prim.Native.Nat.{ℕ}
use Rattle.truth.specs.Evaluate.{keyed, null_test}
use Rattle.std.specs.Prelude.{Option, None, Some}
use Rattle.truth.specs.declared.scalar.Scalar.{Scalar}
use Rattle.symbol_values.specs.SymbolValues.{bits_in, symbolic}

pub null_test_lem : (text : List ℕ) (x : Option Scalar) → null_test (keyed x) ≡ null_test (symbolic text (bits_in x))
null_test_lem text None = refl
null_test_lem text (Some v) = refl
