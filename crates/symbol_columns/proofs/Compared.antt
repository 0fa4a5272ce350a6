-- The comparisons of a column whose limits are taken to others: each comparison's value is taken so, where a column of one value
-- stays one and no other becomes one.
use mathlib.Core.Path.{◌≡◌, refl, sym, ◌∙◌, ap, subst}
use mathlib.Core.Bool.{Bool, true, false, cond, ◌&&◌}
use mathlib.Core.List.{List, [], ◌∷◌, ◌++◌, map, map-append}
use mathlib.Core.Logic.{inl, inr}
use mathlib.Core.Option.{Option, none, some}
use Prim.Native.Nat.{ℕ}
use Rattle.truth.specs.Order.{is_equal}
use Rattle.truth.proofs.Orders.{cmp-refl}
use Rattle.constraints.specs.Bound.{Bound, absent, at, of_bound}
use Rattle.constraints.specs.Column.{ColumnConstraints}
use Rattle.constraints.specs.Comparisons.{ColumnComparison, IsEq, IsLower, IsUpper, IsNotEq, collect_by, collect_column_comparisons}
use Rattle.constraints.specs.Lined.{Lined, lined}
use Rattle.constraints.specs.LineKept.{OneOf}
use Rattle.constraints.specs.Mapped.{map_bound}
use Rattle.constraints.specs.Resolve.{fixed_at}
use Rattle.constraints.specs.Scalars.{scalar_cmp}
use Rattle.merge.specs.Emit.{of_column, is_fixed, comparisons}
use Rattle.column_table.specs.State.{ColumnTable}
use Rattle.symbol_sources.proofs.Limits.{one_left, one_right}

-- ---- what a column is written out as, by its bounds and its excluded values
abbrev by_value : Option Lined → Bound Lined → Bound Lined → List Lined → List (ColumnComparison Lined)
by_value (some v) lower upper l = IsEq v ∷ []
by_value none lower upper l = of_bound IsLower lower ++ (of_bound IsUpper upper ++ map IsNotEq l)

abbrev parts : Bound Lined → Bound Lined → List Lined → List (ColumnComparison Lined)
parts lower upper l = by_value (fixed_at lined lower upper) lower upper l

in_parts : (q : ColumnConstraints Lined) → collect_column_comparisons lined q ≡ parts q.lower q.upper q.excluded
in_parts q = go (fixed_at lined q.lower q.upper)
  where
    go : (o : Option Lined) → collect_by o q ≡ by_value o q.lower q.upper q.excluded
    go none = refl
    go (some v) = refl

-- A column of two closed bounds that differ has both.
pub has_both : (q : ColumnConstraints Lined) (v u : Lined) → q.lower ≡ at true v → q.upper ≡ at true u →
    is_equal (scalar_cmp lined v u) ≡ false →
    OneOf (IsLower true v) (collect_column_comparisons lined q) × OneOf (IsUpper true u) (collect_column_comparisons lined q)
has_both q v u el eu e =
    let all : collect_column_comparisons lined q ≡ IsLower true v ∷ (IsUpper true u ∷ map IsNotEq q.excluded) =
    in_parts q ∙ (λ i. parts (el i) (eu i) q.excluded) ∙ ap (λ b. by_value (cond b (some v) none) (at true v) (at true u) q.excluded) e in (
      subst (OneOf (IsLower true v)) (sym all) (inl refl),
      subst (OneOf (IsUpper true u)) (sym all) (inr (inl refl)),
    )

module _ (lows highs excluded : Lined → Lined) where
  abbrev pub converted : ColumnComparison Lined → ColumnComparison Lined
  converted (IsEq v) = IsEq (lows v)
  converted (IsLower inclusive v) = IsLower inclusive (lows v)
  converted (IsUpper inclusive v) = IsUpper inclusive (highs v)
  converted (IsNotEq v) = IsNotEq (excluded v)

  excluded-all : (l : List Lined) → map IsNotEq (map excluded l) ≡ map converted (map IsNotEq l)
  excluded-all [] = refl
  excluded-all (v ∷ l) = λ i. IsNotEq (excluded v) ∷ excluded-all l i

  bounds-all : (lower upper : Bound Lined) (l : List Lined) →
      of_bound IsLower (map_bound lows lower) ++ (of_bound IsUpper (map_bound highs upper) ++ map IsNotEq (map excluded l)) ≡
      map converted (of_bound IsLower lower ++ (of_bound IsUpper upper ++ map IsNotEq l))
  bounds-all absent absent l = excluded-all l
  bounds-all absent (at d u) l = λ i. IsUpper d (highs u) ∷ excluded-all l i
  bounds-all (at c v) absent l = λ i. IsLower c (lows v) ∷ excluded-all l i
  bounds-all (at c v) (at d u) l = λ i. IsLower c (lows v) ∷ (IsUpper d (highs u) ∷ excluded-all l i)

  -- two closed bounds that differ are not taken to equal ones
  abbrev pub Apart : Bound Lined → Bound Lined → Type 0
  Apart lower upper =
      (v u : Lined) → lower ≡ at true v → upper ≡ at true u → is_equal (scalar_cmp lined v u) ≡ false →
      is_equal (scalar_cmp lined (lows v) (highs u)) ≡ false

  parts_converted : (lower upper : Bound Lined) (l : List Lined) → Apart lower upper →
      parts (map_bound lows lower) (cond (is_fixed (fixed_at lined lower upper)) (map_bound lows lower) (map_bound highs upper))
      (map excluded l) ≡ map converted (parts lower upper l)
  parts_converted absent upper l h = bounds-all absent upper l
  parts_converted (at false v) upper l h = bounds-all (at false v) upper l
  parts_converted (at true v) absent l h = bounds-all (at true v) absent l
  parts_converted (at true v) (at d u) l h = go d (is_equal (scalar_cmp lined v u)) (λ b e. h v u refl (ap (λ x. at x u) b) e)
    where
      go : (d b : Bool) → (d ≡ true → b ≡ false → is_equal (scalar_cmp lined (lows v) (highs u)) ≡ false) →
          parts (at true (lows v)) (cond (is_fixed (cond (d && b) (some v) none)) (at true (lows v)) (at d (highs u)))
          (map excluded l) ≡ map converted (by_value (cond (d && b) (some v) none) (at true v) (at d u) l)
      go true true k =
          ap (λ b. by_value (cond b (some (lows v)) none) (at true (lows v)) (at true (lows v)) (map excluded l))
          (ap is_equal (cmp-refl lined.total (lined.key (lows v))))
      go true false k =
          ap (λ b. by_value (cond b (some (lows v)) none) (at true (lows v)) (at true (highs u)) (map excluded l)) (k refl refl)
          ∙ bounds-all (at true v) (at true u) l
      go false b k = bounds-all (at true v) (at false u) l

  pub column-converted : (q q' : ColumnConstraints Lined) → q'.lower ≡ map_bound lows q.lower →
      q'.upper ≡ cond (is_fixed (fixed_at lined q.lower q.upper)) (map_bound lows q.lower) (map_bound highs q.upper) →
      q'.excluded ≡ map excluded q.excluded → Apart q.lower q.upper →
      collect_column_comparisons lined q' ≡ map converted (collect_column_comparisons lined q)
  column-converted q q' el eu ex h =
      in_parts q' ∙ (λ i. parts (el i) (eu i) (ex i)) ∙ parts_converted q.lower q.upper q.excluded h
      ∙ ap (map converted) (sym (in_parts q))

-- Where only the excluded values are taken to others.
abbrev pub kept : Lined → Lined
kept v = v

pub column-kept : (excluded : Lined → Lined) (q q' : ColumnConstraints Lined) → q'.lower ≡ q.lower → q'.upper ≡ q.upper →
    q'.excluded ≡ map excluded q.excluded →
    collect_column_comparisons lined q' ≡ map (converted kept kept excluded) (collect_column_comparisons lined q)
column-kept excluded q q' el eu ex =
    in_parts q' ∙ (λ i. parts (el i) (eu i) (ex i)) ∙ go (fixed_at lined q.lower q.upper) q.lower q.upper
    ∙ ap (map (converted kept kept excluded)) (sym (in_parts q))
  where
    go : (o : Option Lined) (lower upper : Bound Lined) → by_value o lower upper (map excluded q.excluded) ≡
        map (converted kept kept excluded) (by_value o lower upper q.excluded)
    go (some v) lower upper = refl
    go none absent absent = bounds-all kept kept excluded absent absent q.excluded
    go none absent (at d u) = bounds-all kept kept excluded absent (at d u) q.excluded
    go none (at c v) absent = bounds-all kept kept excluded (at c v) absent q.excluded
    go none (at c v) (at d u) = bounds-all kept kept excluded (at c v) (at d u) q.excluded

-- ---- all columns, some of them with their bounds taken to others
module _ (lows highs excluded : Lined → Lined) (taken : ℕ → Bool) where
  abbrev pub converted_if : Bool → ColumnComparison Lined → ColumnComparison Lined
  converted_if true x = converted lows highs excluded x
  converted_if false x = converted kept kept excluded x

  abbrev pub converted_in : (ℕ × ColumnComparison Lined) → (ℕ × ColumnComparison Lined)
  converted_in x = (x.0, converted_if (taken x.0) x.1)

  of_column_lem : (a : ℕ) (l : List (ColumnComparison Lined)) →
      of_column a (map (converted_if (taken a)) l) ≡ map converted_in (of_column a l)
  of_column_lem a [] = refl
  of_column_lem a (x ∷ l) = λ i. (a, converted_if (taken a) x) ∷ of_column_lem a l i

  pub all_converted : (order : List ℕ) (T T' : ColumnTable) →
      ((a : ℕ) → OneOf a order → collect_column_comparisons lined (T' a) ≡
      map (converted_if (taken a)) (collect_column_comparisons lined (T a))) →
      comparisons lined order T' ≡ map converted_in (comparisons lined order T)
  all_converted [] T T' h = refl
  all_converted (a ∷ order) T T' h =
      (λ i. (ap (of_column a) (h a (inl refl)) ∙ of_column_lem a (collect_column_comparisons lined (T a))) i
      ++ all_converted order T T' (λ b k. h b (inr k)) i)
      ∙ sym (map-append converted_in (of_column a (collect_column_comparisons lined (T a))) (comparisons lined order T))

-- ---- a column's comparisons are among those of all
in_column : (a : ℕ) (x : ColumnComparison Lined) (l : List (ColumnComparison Lined)) → OneOf x l → OneOf (a, x) (of_column a l)
in_column a x [] i = absurd i
in_column a x (y ∷ l) (inl e) = inl (ap (λ z. (a, z)) e)
in_column a x (y ∷ l) (inr i) = inr (in_column a x l i)

pub in_comparisons : (order : List ℕ) (T : ColumnTable) (a : ℕ) (x : ColumnComparison Lined) → OneOf a order →
    OneOf x (collect_column_comparisons lined (T a)) → OneOf (a, x) (comparisons lined order T)
in_comparisons [] T a x i j = absurd i
in_comparisons (b ∷ order) T a x (inl e) j =
    one_left (a, x) (of_column b (collect_column_comparisons lined (T b))) (comparisons lined order T)
    (subst (λ c. OneOf (a, x) (of_column c (collect_column_comparisons lined (T c)))) e
    (in_column a x (collect_column_comparisons lined (T a)) j))
in_comparisons (b ∷ order) T a x (inr i) j =
    one_right (a, x) (of_column b (collect_column_comparisons lined (T b))) (comparisons lined order T) (in_comparisons order T a x i j)
