-- What the columns' functions ensure, as `add_says` needs it.
use mathlib.Core.Path.{◌≡◌}
use mathlib.Core.List.{List, []}
use Prim.Native.Nat.{ℕ}
use Rattle.truth.specs.Comparison.{Comparison, Eq, NotEq, Lt, LtEq, Gt, GtEq}
use Rattle.column_constraints.specs.Abstraction.{Conjuncts, Fine}
use Rattle.merge.specs.Classify.{comparison_constraints}
use Rattle.rewrite.specs.Told.{Told}
use Rattle.column_constraints.specs.Abstraction.{conjuncts_of}

-- A comparison reads no list.
pub told-compared : (t : Conjuncts) (j : ℕ) (k : Comparison) (v : ℕ) → Told t j (comparison_constraints k v) →
    Told (conjuncts_of t.kinds t.values [] [] []) j (comparison_constraints k v)
told-compared t j Eq v h = h
told-compared t j NotEq v h = h
told-compared t j Lt v h = h
told-compared t j LtEq v h = h
told-compared t j Gt v h = h
told-compared t j GtEq v h = h
