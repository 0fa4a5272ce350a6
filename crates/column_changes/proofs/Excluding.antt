-- Of numbers that exclude no value none is excluded.
use mathlib.Core.Path.{◌≡◌, refl, sym, ◌∙◌, ap}
use mathlib.Core.Bool.{Bool, true, false, not, true≢false}
use mathlib.Core.List.{List, [], ◌∷◌}
use Prim.Native.Nat.{ℕ}
use lib.IntN.{ℤ}
use Rattle.constraints.specs.Lined.{Lined, lined}
use Rattle.constraints.specs.Values.{contains, is_empty}
use Rattle.column_constraints.specs.Abstraction.{excluded_by}
use Rattle.column_constraints.specs.Steps.{any_of_kind}
use Rattle.column_sets.proofs.Lists.{no_excluded}

empty-has_none : (l : List Lined) (k : ℤ) → is_empty l ≡ true → false ≡ contains lined k l
empty-has_none [] k h = refl
empty-has_none (v ∷ l) k h = absurd (true≢false (sym h))

pub none-excludes : (ks vs a : List ℕ) (n : ℕ) (k : ℤ) (e : Bool) → e ≡ any_of_kind ks 0 a n → not e ≡ true
    → false ≡ contains lined k (excluded_by ks vs a n)
none-excludes ks vs a n k e h t =
    empty-has_none (excluded_by ks vs a n) k (no_excluded ks vs a n ∙ ap not (sym h) ∙ t)
