-- Comparisons say of two symbols what they say of 1 and the number beside it.
use mathlib.Core.Path.{◌≡◌, refl, ◌∙◌, ap}
use mathlib.Core.Bool.{Bool, true, cond, not}
use mathlib.Core.List.{List}
use mathlib.Core.Option.{Option, none, some}
use Prim.Native.Nat.{ℕ, ◌<◌}
use lib.Dec.{eqb}
use lib.ListN.{get_or}
use Rattle.three_valued.specs.Logic.{and3, of_bool}
use Rattle.truth.specs.Halves.{ord_z, key}
use Rattle.truth.specs.Order.{is_equal}
use Rattle.truth.specs.Comparison.{Comparison, comparison_holds}
use Rattle.std.specs.declared.cmp.Ordering.{Ordering}
use Rattle.std.specs.declared.cmp.Ordering.TheVariants.{Less, Equal, Greater}
use Rattle.truth.specs.Evaluate.{comparing, same, comparison_at, compared_of, low_code, high_code, between_of}
use Rattle.records.specs.Shape.{in_pool}
use Rattle.symbols.specs.Symbol.{symbol, cmp_bytes, symbol_key}
use Rattle.symbols.proofs.Keys.{key-order}
use Rattle.symbol_values.specs.SymbolValues.{symbolic, beside_one, as_one, beside}

one-beside : (o : Ordering) → ord_z.cmp (key 1) (key (beside_one o)) ≡ o
one-beside Less = refl
one-beside Equal = refl
one-beside Greater = refl

module _ (text : List ℕ) where
  abbrev order : ℕ → ℕ → Ordering
  order a b = ord_z.cmp (symbol_key text a) (symbol_key text b)

  comparing-beside : (c : Comparison) (x y : Option ℕ) →
      comparing c (as_one x) (beside text x y) ≡ comparing c (symbolic text x) (symbolic text y)
  comparing-beside c none none = refl
  comparing-beside c none (some b) = refl
  comparing-beside c (some a) none = refl
  comparing-beside c (some a) (some b) = λ i. of_bool (comparison_holds c (one-beside (order a b) i))

  same_beside : (x y : Option ℕ) → same (as_one x) (beside text x y) ≡ same (symbolic text x) (symbolic text y)
  same_beside none none = refl
  same_beside none (some b) = refl
  same_beside (some a) none = refl
  same_beside (some a) (some b) = λ i. is_equal (one-beside (order a b) i)

  pub compared-beside : (code : ℕ) (x y : Option ℕ) →
      compared_of code (as_one x) (beside text x y) ≡ compared_of code (symbolic text x) (symbolic text y)
  unfolding compared_of
  compared-beside code x y =
      λ i. cond (eqb code 1) (of_bool (same_beside x y i))
      (cond (eqb code 3) (of_bool (not (same_beside x y i))) (comparing-beside (comparison_at code) x y i))

  pub between-beside : (code : ℕ) (x low high : Option ℕ) →
      between_of code (as_one x) (beside text x low) (beside text x high) ≡
      between_of code (symbolic text x) (symbolic text low) (symbolic text high)
  unfolding between_of
  between-beside code x low high =
      λ i. and3 (comparing-beside (comparison_at (low_code code)) x low i)
      (comparing-beside (comparison_at (high_code code)) x high i)

  pub beside-known : (size a b : ℕ) → ((q : ℕ) → get_or text q 0 < 256) → in_pool size a ≡ true → in_pool size b ≡ true →
      (o : Ordering) → o ≡ cmp_bytes (symbol text a) (symbol text b) → (r : ℕ) → r ≡ beside_one o →
      some (key r) ≡ beside text (some a) (some b)
  beside-known size a b below ha hb o eo r er =
      ap (λ v. some (key v)) (er ∙ ap beside_one (eo ∙ key-order text below size a b ha hb))
