-- The rule of the three tables, each proved at all nine places at once.
-- Assumes nothing.
use mathlib.Core.Path.{◌≡◌, refl, ◌∙◌}
use mathlib.Core.List.{List, [], ◌∷◌}
use Prim.Native.Nat.{ℕ, ◌<◌}
use native.Mathlib.Omega.{arith}
use lib.ListN.{get_or}
use Rattle.three_valued.specs.declared.logic.Truth.{Truth}
use Rattle.three_valued.specs.declared.logic.Truth.TheVariants.{False, Unknown, True}
use Rattle.three_valued.specs.Logic.{truth_code, truth_of, and3, or3, xor3}

pub truth-code_small : (t : Truth) → truth_code t < 3
truth-code_small False = omega arith
truth-code_small Unknown = omega arith
truth-code_small True = omega arith

-- What holds at the nine pairs holds of every pair.
nine :
    (P : Truth → Truth → Type 0) →
    P False False → P False Unknown → P False True →
    P Unknown False → P Unknown Unknown → P Unknown True →
    P True False → P True Unknown → P True True → (a b : Truth) → P a b
nine P ff fu ft uf uu ut tf tu t False False = ff
nine P ff fu ft uf uu ut tf tu t False Unknown = fu
nine P ff fu ft uf uu ut tf tu t False True = ft
nine P ff fu ft uf uu ut tf tu t Unknown False = uf
nine P ff fu ft uf uu ut tf tu t Unknown Unknown = uu
nine P ff fu ft uf uu ut tf tu t Unknown True = ut
nine P ff fu ft uf uu ut tf tu t True False = tf
nine P ff fu ft uf uu ut tf tu t True Unknown = tu
nine P ff fu ft uf uu ut tf tu t True True = t

-- The rows say the connective f.
abbrev pub Says : List (List ℕ) → (Truth → Truth → Truth) → Type 0
Says rows f = (a b : Truth) → truth_of (get_or (get_or rows (truth_code a) []) (truth_code b) 0) ≡ f a b

abbrev pub and_rows : List (List ℕ)
and_rows = (0 ∷ 0 ∷ 0 ∷ []) ∷ (0 ∷ 1 ∷ 1 ∷ []) ∷ (0 ∷ 1 ∷ 2 ∷ []) ∷ []

abbrev pub or_rows : List (List ℕ)
or_rows = (0 ∷ 1 ∷ 2 ∷ []) ∷ (1 ∷ 1 ∷ 2 ∷ []) ∷ (2 ∷ 2 ∷ 2 ∷ []) ∷ []

abbrev pub xor_rows : List (List ℕ)
xor_rows = (0 ∷ 1 ∷ 2 ∷ []) ∷ (1 ∷ 1 ∷ 1 ∷ []) ∷ (2 ∷ 1 ∷ 0 ∷ []) ∷ []

pub and_table : Says and_rows and3
unfolding truth_of
and_table =
    nine (λ a b. truth_of (get_or (get_or and_rows (truth_code a) []) (truth_code b) 0) ≡ and3 a b)
    refl refl refl refl refl refl refl refl refl

pub or_table : Says or_rows or3
unfolding truth_of
or_table =
    nine (λ a b. truth_of (get_or (get_or or_rows (truth_code a) []) (truth_code b) 0) ≡ or3 a b)
    refl refl refl refl refl refl refl refl refl

pub xor_table : Says xor_rows xor3
unfolding truth_of
xor_table =
    nine (λ a b. truth_of (get_or (get_or xor_rows (truth_code a) []) (truth_code b) 0) ≡ xor3 a b)
    refl refl refl refl refl refl refl refl refl

-- An entry read at the codes of a and b.
pub entry_read :
    (rows : List (List ℕ)) (f : Truth → Truth → Truth) → Says rows f →
    (a b r : Truth) (i j : ℕ) → i ≡ truth_code a → j ≡ truth_code b → r ≡ truth_of (get_or (get_or rows i []) j 0) → r ≡ f a b
entry_read rows f says a b r i j p q e = e ∙ rw (p, q) (says a b)
