-- Values under the numbers of their conjuncts: what looks at keys does not see the numbers. Assumes nothing.
use mathlib.Core.Path.{◌≡◌, refl}
use mathlib.Core.Bool.{Bool}
use mathlib.Core.List.{List, [], ◌∷◌, map}
use Prim.Native.Nat.{ℕ}
use lib.IntN.{ℤ}
use Rattle.constraints.specs.Values.{contains}
use Rattle.constraints.specs.Payload.{payload}
use Rattle.constraints.specs.Lined.{Lined, on_line, lined}
use Rattle.column_constraints.specs.Abstraction.{list_of, values_of}
use Rattle.column_constraints.specs.Steps.{any_of}

pub contains-lines : (k : ℤ) (j : ℕ) (l : List ℕ) → contains lined k (map (on_line j) l) ≡ contains payload k l
unfolding lined payload
contains-lines k j [] = refl
contains-lines k j (v ∷ l) = rw (contains-lines k j l)

pub contains-values : (k : ℤ) (ss cs ps : List ℕ) (j : ℕ) → contains lined k (values_of ss cs ps j) ≡
    contains payload k (list_of ss cs ps j)
unfolding values_of
contains-values k ss cs ps j = contains-lines k j (list_of ss cs ps j)

pub any-lines : (P : ℤ → Bool) (j : ℕ) (l : List ℕ) → any_of (λ (x : Lined). P (lined.key x)) (map (on_line j) l) ≡
    any_of (λ (v : ℕ). P (payload.key v)) l
unfolding lined payload
any-lines P j [] = refl
any-lines P j (v ∷ l) = rw (any-lines P j l)
