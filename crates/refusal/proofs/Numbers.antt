-- No refusal has the number 0, which stands for none.
use mathlib.Core.Path.{◌≡◌, refl, sym}
use mathlib.Core.Bool.{true, false, true≢false}
use Prim.Native.Nat.{ℕ}
use native.Mathlib.Omega.{arith}
use Rattle.refusal.specs.declared.Refusal.{Refusal}
use Rattle.refusal.specs.declared.Refusal.TheVariants.{Table, Size, Root, Record, Reference, Operator, Types, Tree, Conjuncts, Room, RowLength, Row, Short, File, Reasons, Plain, Cells, Columns, Chain, Tally}
use Rattle.refusal.specs.Numbers.{number, fault}
use Rattle.std.specs.Prelude.{Result, Ok, Err}
use Rattle.std.specs.Result.{is_err}

pub number-positive : (r : Refusal) → number r ≡ 0 → ⊥
number-positive Table e = absurd (omega (arith, e))
number-positive Size e = absurd (omega (arith, e))
number-positive Root e = absurd (omega (arith, e))
number-positive Record e = absurd (omega (arith, e))
number-positive Reference e = absurd (omega (arith, e))
number-positive Operator e = absurd (omega (arith, e))
number-positive Types e = absurd (omega (arith, e))
number-positive Tree e = absurd (omega (arith, e))
number-positive Conjuncts e = absurd (omega (arith, e))
number-positive Room e = absurd (omega (arith, e))
number-positive RowLength e = absurd (omega (arith, e))
number-positive Row e = absurd (omega (arith, e))
number-positive Short e = absurd (omega (arith, e))
number-positive File e = absurd (omega (arith, e))
number-positive Reasons e = absurd (omega (arith, e))
number-positive Plain e = absurd (omega (arith, e))
number-positive Cells e = absurd (omega (arith, e))
number-positive Columns e = absurd (omega (arith, e))
number-positive Chain e = absurd (omega (arith, e))
number-positive Tally e = absurd (omega (arith, e))

pub fault-positive : (a : Result (Unit {0}) Refusal) → is_err a ≡ true → fault a ≡ 0 → ⊥
fault-positive (Ok u) h z = true≢false (sym h)
fault-positive (Err r) h z = number-positive r z

pub fault-zero : (a : Result (Unit {0}) Refusal) → is_err a ≡ false → fault a ≡ 0
fault-zero (Ok u) h = refl
fault-zero (Err r) h = absurd (true≢false h)
