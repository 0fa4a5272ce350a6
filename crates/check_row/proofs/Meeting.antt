-- What a line says of its column, at null and at a key.
-- Assumes nothing.
use mathlib.Core.Path.{◌≡◌, refl, sym, ◌∙◌, ap}
use mathlib.Core.Bool.{Bool, true, false, not, ◌&&◌, ◌||◌, and-true}
use mathlib.Core.List.{List, [], ◌∷◌}
use mathlib.Core.Option.{Option, none, some}
use Prim.Native.Nat.{ℕ, zero, suc}
use native.Mathlib.Omega.{arith}
use lib.Dec.{eqb}
use lib.IntN.{ℤ}
use borrow.Author.Tests.{ne_eqb}
use Rattle.records.specs.declared.record.ClosedInterval.{ClosedInterval}
use Rattle.truth.specs.Cell.{compare3, low_comparison, high_comparison}
use Rattle.truth.specs.Comparison.{comparison_holds}
use Rattle.truth.specs.Evaluate.{holds_key}
use Rattle.truth.specs.FromBytes.{values_from, truth_keys, closes_low, closes_high}
use Rattle.truth.specs.Halves.{ord_z, key}
use Rattle.three_valued.specs.Logic.{is_true, of_bool}
use Rattle.std.specs.declared.cmp.Ordering.{Ordering}
use Rattle.truth.specs.declared.scalar.Scalar.{Scalar}
use Rattle.truth.proofs.Cells.{and_is_true}
use Rattle.constraints.specs.Column.{Lower, Upper}
use Rattle.constraints.specs.Values.{is_empty}
use Rattle.constraints.specs.declared.column.Nullability.{Nullability}
use Rattle.constraints.proofs.Columns.{null_fits, value_fits}
use Rattle.merge.proofs.Comparisons.{comparison_null, comparison_obeyed}
use Rattle.merge.proofs.Demand.{payload}
use Rattle.merge.proofs.Readings.{true_of, between-mean}
use Rattle.read_operands.specs.Read.{comparison_in, says_in}
use Rattle.read_operands.specs.declared.operands.Comparison.{Comparison}
use Rattle.read_operands.specs.declared.operands.Says.{Says}
use Rattle.read_operands.specs.declared.operands.Says.TheVariants as says
use Rattle.std.specs.declared.option.Option as lang
use Rattle.places.specs.declared.place.Half.{Half}
use Rattle.check_row.specs.Line.{meets_all, within_ends}

no_values : (p : List ℕ) (start count : ℕ) → is_empty (values_from p start count) ≡ eqb count 0
unfolding values_from
no_values p start zero = refl
no_values p start (suc count) = sym (ne_eqb (suc count) 0 (λ e. omega (arith, e)))

-- Each arm of a match on what is said: b is what the code answers there.
module _ (p : List ℕ) (s : Says) where
  arm : (x : Option ℤ) (a : Says) (b : Bool) → s ≡ a → b ≡ meets_all (says_in p a) x → b ≡ meets_all (says_in p s) x
  arm x a b e h = h ∙ sym (ap (λ z. meets_all (says_in p z) x) e)

  pub nothing_said : (x : Option ℤ) → s ≡ says.Nothing → true ≡ meets_all (says_in p s) x
  nothing_said x e = arm x says.Nothing true e refl

  -- ---- At null.
  pub compared-null : (o : Comparison) (v : Scalar) → s ≡ says.Compare o v → false ≡ meets_all (says_in p s) none
  compared-null o v e = arm none (says.Compare o v) false e (sym (comparison_null payload (comparison_in o) v.0))

  pub between-null : (ends : ClosedInterval) (v w : Scalar) → s ≡ says.Between ends v w → false ≡ meets_all (says_in p s) none
  between-null ends v w e = arm none (says.Between ends v w) false e refl

  pub listed-null : (start count : ℕ) → s ≡ says.Allow start count → false ≡ meets_all (says_in p s) none
  listed-null start count e = arm none (says.Allow start count) false e refl

  pub unlisted_null : (strict : Bool) (start count : ℕ) → s ≡ says.Disallow strict start count
      → (not strict || eqb count 0) ≡ meets_all (says_in p s) none
  unlisted_null strict start count e =
      arm none (says.Disallow strict start count) (not strict || eqb count 0) e
      (go strict (eqb count 0)
      ∙ sym (and-true (not (strict && not (is_empty (values_from p start count))))
      ∙ ap (λ b. not (strict && not b)) (no_values p start count)))
    where
      go : (s b : Bool) → (not s || b) ≡ not (s && not b)
      go true true = refl
      go true false = refl
      go false b = refl

  pub required_null : (must : Nullability) (b : Bool) → s ≡ says.Require must → b ≡ null_fits must
      → b ≡ meets_all (says_in p s) none
  required_null must b e h = arm none (says.Require must) b e (h ∙ sym (and-true (null_fits must)))

  -- ---- At a key.
  module _ (k : ℤ) where
    pub compared-key : (o : Comparison) (v : Scalar) (r : Ordering) (b : Bool) → s ≡ says.Compare o v
        → r ≡ ord_z.cmp k (key v.0) → b ≡ comparison_holds (comparison_in o) r → b ≡ meets_all (says_in p s) (some k)
    compared-key o v r b e q h =
        arm (some k) (says.Compare o v) b e
        (h ∙ ap (comparison_holds (comparison_in o)) q ∙ sym (comparison_obeyed payload (comparison_in o) v.0 k))

    within : (c d : Bool) (v w : ℕ) → within_ends c d (ord_z.cmp k (key v)) (ord_z.cmp k (key w))
        ≡ meets_all (Lower c v ∷ (Upper d w ∷ [])) (some k)
    within c d v w =
        sym (between-mean payload truth_keys c d v w (some k)
        ∙ and_is_true (compare3 key ord_z truth_keys (low_comparison c) (some k) (some (key v)))
        (compare3 key ord_z truth_keys (high_comparison d) (some k) (some (key w)))
        ∙ ap (λ b. b && is_true (of_bool (comparison_holds (high_comparison d) (ord_z.cmp k (key w)))))
        (true_of (comparison_holds (low_comparison c) (ord_z.cmp k (key v))))
        ∙ ap (λ b. comparison_holds (low_comparison c) (ord_z.cmp k (key v)) && b)
        (true_of (comparison_holds (high_comparison d) (ord_z.cmp k (key w)))))

    pub between-key : (ends : ClosedInterval) (v w : Scalar) (low high : Ordering) (b : Bool) → s ≡ says.Between ends v w
        → low ≡ ord_z.cmp k (key v.0) → high ≡ ord_z.cmp k (key w.0)
        → b ≡ within_ends (closes_low ends) (closes_high ends) low high → b ≡ meets_all (says_in p s) (some k)
    between-key ends v w low high b e q r h =
        arm (some k) (says.Between ends v w) b e
        (h ∙ ap (λ z. within_ends (closes_low ends) (closes_high ends) z high) q
        ∙ ap (within_ends (closes_low ends) (closes_high ends) (ord_z.cmp k (key v.0))) r
        ∙ within (closes_low ends) (closes_high ends) v.0 w.0)

    pub listed-key : (start count : ℕ) (b : Bool) → s ≡ says.Allow start count
        → b ≡ holds_key k (values_from p start count) → b ≡ meets_all (says_in p s) (some k)
    listed-key start count b e h =
        arm (some k) (says.Allow start count) b e (h ∙ sym (and-true (holds_key k (values_from p start count))))

    pub unlisted_key : (strict : Bool) (start count : ℕ) (b : Bool) → s ≡ says.Disallow strict start count
        → b ≡ holds_key k (values_from p start count) → not b ≡ meets_all (says_in p s) (some k)
    unlisted_key strict start count b e h =
        arm (some k) (says.Disallow strict start count) (not b) e
        (ap not h ∙ sym (and-true (not (holds_key k (values_from p start count)))))

    pub required_key : (must : Nullability) (b : Bool) → s ≡ says.Require must → b ≡ value_fits must
        → b ≡ meets_all (says_in p s) (some k)
    required_key must b e h = arm (some k) (says.Require must) b e (h ∙ sym (and-true (value_fits must)))

-- ---- A place, as the code holds it.
abbrev pub CodePlace : Type 0
CodePlace = lang.Option (Scalar × Half)
