-- A row makes of a screen without Text what it ever made of it, whatever text pool is lent.
use mathlib.Core.Path.{◌≡◌, refl, sym, ◌∙◌, ap, fun_ext}
use mathlib.Core.Bool.{Bool, true, false, cond}
use mathlib.Core.List.{List}
use mathlib.Core.Option.{Option, none, some, map}
use Prim.Native.Nat.{ℕ}
use lib.IntN.{ℤ}
use lib.Dec.{eqb}
use lib.ListN.{get_or}
use Rattle.records.specs.Bytes.{value_at}
use Rattle.truth.specs.Halves.{key}
use Rattle.truth.specs.AExpr.{AExpr, map_aexpr}
use Rattle.truth.specs.FromBytes.{aexpr_at, null_marked, row_keys, truth_keys, truth_in}
use Rattle.truth.proofs.SameComparisons.{Keeps, truth-kept}
use Rattle.symbol_screens.specs.Held.{Held, Number, Symbol, key_in}
use Rattle.symbol_screens.specs.Reading.{held_at}
use Rattle.symbol_screens.specs.Rows.{row_keys_with, truth_with}
use Rattle.symbol_screens.proofs.Numbers.{NoSymbol, numbers-held}

unchanged : (x : Option ℤ) → map (λ (k : ℤ). k) x ≡ x
unchanged none = refl
unchanged (some k) = refl

numbers_keep : (text : List ℕ) → Keeps key truth_keys (key_in text) truth_keys (λ (k : ℤ). k) Number
numbers_keep text =
    record { keys = λ v. refl; compares = λ a b. refl; false-key = refl; true-key = refl }

-- Of any row of keys.
pub numbers-truth : (text rs p : List ℕ) (used : ℕ) → NoSymbol rs used → (row : ℕ → Option ℤ) (root : ℕ) →
    truth_with text (held_at rs p used) row root ≡ truth_in (aexpr_at rs p used) row root
numbers-truth text rs p used free row root =
    ap (λ (R : ℕ → AExpr Held). truth_with text R row root) (fun_ext (numbers-held rs p used free))
    ∙ ap (λ (r : ℕ → Option ℤ). truth_with text (λ n. map_aexpr Number (aexpr_at rs p used n)) r root)
    (sym (fun_ext (λ c. unchanged (row c))))
    ∙ sym (truth-kept (numbers_keep text) (aexpr_at rs p used)
    (λ n. (λ x y e a b. unchanged _, λ x y e a b. unchanged _)) row root)

-- The keys of a row as it is lent, in a column that is no Text.
pub numbers-row : (text t row : List ℕ) (nulls c : ℕ) → eqb (get_or t c 0) 4 ≡ false →
    row_keys_with text t row nulls c ≡ row_keys row nulls c
unfolding row_keys_with row_keys
numbers-row text t row nulls c e =
    ap (λ b. cond (null_marked nulls c) none (some (key_in text (cond b (Symbol (value_at row c)) (Number (value_at row c)))))) e
