-- A row makes of a checked screen with symbols what it makes of the screen of their ranks: numbers stay what they are, and a
-- row's symbols stand at places too. So the row test needs no comparison of symbols.
use mathlib.Core.Path.{◌≡◌, refl, sym, ◌∙◌, ap, subst, fun_ext}
use mathlib.Core.Bool.{Bool, true, false, cond, not, ◌&&◌, true≢false}
use mathlib.Core.List.{List, [], ◌∷◌, map}
use mathlib.Core.Option
use mathlib.Core.Option.{Option, none, some}
use Prim.Native.Nat.{ℕ, zero, suc, ◌+◌, ◌≤◌, ◌<◌}
use native.Mathlib.Omega.{arith}
use lib.Dec.{ltb, eqb}
use lib.IntN.{ℤ}
use lib.ListN.{length, get_or}
use borrow.Author.Tests.{ltb-true, eqb-true}
use Rattle.records.specs.Operator.{is_comparison, is_division}
use Rattle.records.specs.Bytes.{value_at}
use Rattle.records.specs.Record.{node, record_at}
use Rattle.records.specs.declared.operator.Operator.{Operator}
use Rattle.records.specs.declared.operator.Operator.TheVariants as operator
use Rattle.records.specs.declared.record.Record.{Record}
use Rattle.records.specs.declared.record.Record.TheVariants as kind
use Rattle.records.proofs.Laws.{and_left, and_right}
use Rattle.record_check.specs.Fit.{type_of, type_at, same_type, binary_fits, between_fits, member_fits, types_ok}
use Rattle.checking.specs.Checked.{CheckedIn}
use Rattle.truth.specs.Halves.{ord_z, key, floor_divide_keys, modulus_keys}
use Rattle.truth.specs.Order.{Order}
use Rattle.truth.specs.Comparison.{Eq, NotEq, Lt, LtEq, Gt, GtEq}
use Rattle.truth.specs.AExpr.{AExpr, Literal, ListLiteral, Missing, BinaryExpr, BinaryOp, Compare, EqValidity, NotEqValidity}
use Rattle.truth.specs.AExpr.{FloorDivide, Modulus, And, Or, Xor, LogicalAnd, LogicalOr, map_aexpr}
use Rattle.truth.specs.Cell.{TruthKeys, truth_at}
use Rattle.truth.specs.FromBytes.{binary_expr, to_aexpr, values_from, null_marked, truth_keys, truth_in}
use Rattle.truth.proofs.SameWithin.{KeepsWithin, KeyOf, ValuesOf, DivisionOf, BinaryOf, RecordOf, same-truths_within}
use Rattle.symbols.specs.Symbol.{symbol_key}
use Rattle.symbol_ranks.specs.Ranks.{Ranked, Pooled}
use Rattle.symbol_ranks.proofs.SameComparisons.{standing, standing_or_not, places-compare}
use Rattle.symbol_screens.specs.Held.{Held, Number, Symbol, key_in}
use Rattle.symbol_screens.specs.Reading.{held_at}
use Rattle.symbol_screens.specs.Rewriting.{lent}
use Rattle.symbol_screens.specs.Rows.{row_keys_with, truth_with}
use Rattle.symbol_screens.specs.Placed.{Placed, number, placed_from, placed_aexpr, placed_at, place_count, Standing}
use Rattle.symbol_screens.proofs.ColumnKinds.{kind_at, same-types}
use Rattle.symbol_screens.proofs.Places.{held_by, held-placed}
use Rattle.symbol_screens.proofs.Ranked.{ranked_at}

-- ---- Keys of a row and of values: a number's, or the place of a symbol.
pub data PlaceKey : Type 0 where
  NumberKey : ℤ → PlaceKey
  SymbolAt : ℕ → PlaceKey

abbrev pub is_place : PlaceKey → Bool
is_place (NumberKey k) = false
is_place (SymbolAt i) = true

abbrev pub place_key : Placed → PlaceKey
place_key v = cond v.0 (SymbolAt v.1) (NumberKey (key v.1))

abbrev pub by_symbol : List ℕ → List ℕ → ℕ → PlaceKey → ℤ
by_symbol text values n (NumberKey k) = k
by_symbol text values n (SymbolAt i) = symbol_key text (standing values n i)

abbrev pub by_rank : List ℕ → ℕ → PlaceKey → ℤ
by_rank ranks n (NumberKey k) = k
by_rank ranks n (SymbolAt i) = key (standing ranks n i)

-- only numbers are divided
abbrev divided_by : (ℤ → ℤ → Option ℤ) → PlaceKey → PlaceKey → Option PlaceKey
divided_by d (NumberKey a) (NumberKey b) = Option.map NumberKey (d a b)
divided_by d (NumberKey a) (SymbolAt j) = none
divided_by d (SymbolAt i) y = none

module _ (text values : List ℕ) (n : ℕ) where
  abbrev place_order : Order PlaceKey
  place_order =
      record {
        less = λ a b. ord_z.less (by_symbol text values n a) (by_symbol text values n b);
        cmp = λ a b. ord_z.cmp (by_symbol text values n a) (by_symbol text values n b);
      }

  abbrev place_truths : TruthKeys place_order
  place_truths =
      record {
        false_key = NumberKey (key 0);
        true_key = NumberKey (key 1);
        below = truth_keys.below;
        floor_divide = divided_by floor_divide_keys;
        modulus = divided_by modulus_keys;
      }

  by-symbols : KeepsWithin is_place place_key place_truths (key_in text) truth_keys (by_symbol text values n) (held_by values n)
  by-symbols =
      record {
        keys = λ v. go v.0 v.1;
        compares = λ a b e. refl;
        false-key = refl;
        true-key = refl;
        truths = refl;
      }
    where
      go : (b : Bool) (i : ℕ) → by_symbol text values n (place_key (b, i)) ≡ key_in text (held_by values n (b, i))
      go true i = refl
      go false i = refl

  module _ (ranks : List ℕ) (bytes : (q : ℕ) → get_or text q 0 < 256) (pooled : Pooled text values n)
      (small : n ≤ 9223372036854775808) (ranked : Ranked text values n ranks) where
    by-ranks : KeepsWithin is_place place_key place_truths key truth_keys (by_rank ranks n) (standing_or_not ranks n)
    by-ranks =
        record {
          keys = λ v. go v.0 v.1;
          compares = alike;
          false-key = refl;
          true-key = refl;
          truths = refl;
        }
      where
        go : (b : Bool) (i : ℕ) → by_rank ranks n (place_key (b, i)) ≡ key (standing_or_not ranks n (b, i))
        go true i = refl
        go false i = refl

        alike : (a b : PlaceKey) → is_place a ≡ is_place b →
            ord_z.cmp (by_symbol text values n a) (by_symbol text values n b) ≡ ord_z.cmp (by_rank ranks n a) (by_rank ranks n b)
        alike (NumberKey a) (NumberKey b) e = refl
        alike (NumberKey a) (SymbolAt j) e = absurd (true≢false (sym e))
        alike (SymbolAt i) (NumberKey b) e = absurd (true≢false e)
        alike (SymbolAt i) (SymbolAt j) e = places-compare bytes n pooled small ranked i j

-- ---- The kinds of records: whether their values, or those of a list, are symbols.
module _ (t : List ℕ) where
  abbrev entry_type : Record → ℕ
  entry_type kind.Invalid = 0
  entry_type (kind.Column c) = get_or t c.0 0
  entry_type (kind.Literal ty v) = ty
  entry_type (kind.Null ty) = ty
  entry_type (kind.Binary o x y) = cond (is_division o) 1 3
  entry_type (kind.Not x) = 3
  entry_type (kind.IsNull x) = 3
  entry_type (kind.IsNotNull x) = 3
  entry_type (kind.IsBetween k x low high) = 3
  entry_type (kind.List ty marked start count) = ty
  entry_type (kind.IsIn equal x list) = 3

  abbrev entry_kind : Record → Bool
  entry_kind r = eqb (entry_type r) 4

  -- the type of a value is its entry's; a list is no value
  value-type : (r : Record) (ty : ℕ) → 0 < ty → type_of t r ≡ ty → entry_type r ≡ ty
  unfolding type_of
  value-type kind.Invalid ty h e = absurd (omega (arith, h, e))
  value-type (kind.Column c) ty h e = e
  value-type (kind.Literal s v) ty h e = e
  value-type (kind.Null s) ty h e = e
  value-type (kind.Binary o x y) ty h e = e
  value-type (kind.Not x) ty h e = e
  value-type (kind.IsNull x) ty h e = e
  value-type (kind.IsNotNull x) ty h e = e
  value-type (kind.IsBetween k x low high) ty h e = e
  value-type (kind.List s marked start count) ty h e = absurd (omega (arith, h, e))
  value-type (kind.IsIn equal x list) ty h e = e

typed-root : (t rs : List ℕ) (n : ℕ) → type_at t rs (node n) ≡ 3 → type_of t (record_at rs (node n)) ≡ 3
unfolding type_at
typed-root t rs n e = e

-- a binary record by what its operator is
by-operator : (C : AExpr ℕ → Type 0) (x y : ℕ) → C Missing → (o : Operator) →
    (is_comparison o ≡ true → C (BinaryExpr (Compare Eq) x y) × C (BinaryExpr (Compare NotEq) x y)
    × C (BinaryExpr (Compare Lt) x y) × C (BinaryExpr (Compare LtEq) x y) × C (BinaryExpr (Compare Gt) x y)
    × C (BinaryExpr (Compare GtEq) x y) × C (BinaryExpr EqValidity x y) × C (BinaryExpr NotEqValidity x y)) →
    (is_comparison o ≡ false → (b : BinaryOp) → C (BinaryExpr b x y)) → C (binary_expr o x y)
by-operator C x y m operator.Eq v w = (v refl).0
by-operator C x y m operator.EqValidity v w = (v refl).6
by-operator C x y m operator.NotEq v w = (v refl).1
by-operator C x y m operator.NotEqValidity v w = (v refl).7
by-operator C x y m operator.Lt v w = (v refl).2
by-operator C x y m operator.LtEq v w = (v refl).3
by-operator C x y m operator.Gt v w = (v refl).4
by-operator C x y m operator.GtEq v w = (v refl).5
by-operator C x y m operator.Plus v w = m
by-operator C x y m operator.Minus v w = m
by-operator C x y m operator.Multiply v w = m
by-operator C x y m operator.RustDivide v w = m
by-operator C x y m operator.TrueDivide v w = m
by-operator C x y m operator.FloorDivide v w = w refl FloorDivide
by-operator C x y m operator.Modulus v w = w refl Modulus
by-operator C x y m operator.And v w = w refl And
by-operator C x y m operator.Or v w = w refl Or
by-operator C x y m operator.Xor v w = w refl Xor
by-operator C x y m operator.LogicalAnd v w = w refl LogicalAnd
by-operator C x y m operator.LogicalOr v w = w refl LogicalOr

-- ---- A checked screen's records are of their kinds, whatever its places are taken to.
module _ (text₀ : ℕ) (t rs p : List ℕ) (used root : ℕ) (ok : CheckedIn text₀ t rs p used root) (text values : List ℕ) (n : ℕ)
    {B : Type 0} {key' : B → ℤ} {u : PlaceKey → ℤ} {f : Placed → B}
    (E : KeepsWithin is_place place_key (place_truths text values n) key' truth_keys u f) (plain : (k : ℤ) → u (NumberKey k) ≡ k)
  where
    abbrev record_kind : ℕ → Bool
    record_kind m = entry_kind t (record_at rs (node m))

    abbrev Of : Bool → AExpr Placed → Type 0
    Of k r = RecordOf E (kind_at t) record_kind k r

    numbers-divide : (d : ℤ → ℤ → Option ℤ) (i j k : Bool) → i ≡ false → j ≡ false → k ≡ false → DivisionOf E k i j (divided_by d) d
    numbers-divide d i j k hi hj hk (NumberKey a) (NumberKey b) e g = go (d a b) refl
      where
        go : (r : Option ℤ) → d a b ≡ r → (Option.map u (Option.map NumberKey (d a b)) ≡ d (u (NumberKey a)) (u (NumberKey b)))
            × KeyOf E k (Option.map NumberKey (d a b))
        go none q = rw (plain a, plain b, q) (refl, tt)
        go (some c) q = rw (plain a, plain b, q) (ap some (plain c), sym hk)
    numbers-divide d i j k hi hj hk (NumberKey a) (SymbolAt y) e g = absurd (true≢false (g ∙ hj))
    numbers-divide d i j k hi hj hk (SymbolAt x) y e g = absurd (true≢false (e ∙ hi))

    -- of numbers every operator
    numbers_of : (b : BinaryOp) (i j k : Bool) → i ≡ false → j ≡ false → k ≡ false → BinaryOf E (kind_at t) record_kind k i j b
    numbers_of (Compare c) i j k hi hj hk = (hi ∙ sym hj, hk)
    numbers_of EqValidity i j k hi hj hk = (hi ∙ sym hj, hk)
    numbers_of NotEqValidity i j k hi hj hk = (hi ∙ sym hj, hk)
    numbers_of FloorDivide i j k hi hj hk = numbers-divide floor_divide_keys i j k hi hj hk
    numbers_of Modulus i j k hi hj hk = numbers-divide modulus_keys i j k hi hj hk
    numbers_of And i j k hi hj hk = (hi, hj, hk)
    numbers_of Or i j k hi hj hk = (hi, hj, hk)
    numbers_of Xor i j k hi hj hk = (hi, hj, hk)
    numbers_of LogicalAnd i j k hi hj hk = (hi, hj, hk)
    numbers_of LogicalOr i j k hi hj hk = (hi, hj, hk)

    -- the kind of a record by its type
    kind-of : (x ty : ℕ) → 0 < ty → type_at t rs (node x) ≡ ty → record_kind x ≡ eqb ty 4
    unfolding type_at
    kind-of x ty h e = ap (λ s. eqb s 4) (value-type t (record_at rs (node x)) ty h e)

    kinds-same : (x y : ℕ) → same_type (type_at t rs (node x)) (type_at t rs (node y)) ≡ true → record_kind x ≡ record_kind y
    kinds-same x y h =
        let s = same-types (type_at t rs (node x)) (type_at t rs (node y)) h in
        kind-of x (type_at t rs (node x)) s.0 refl ∙ sym (kind-of y (type_at t rs (node x)) s.0 (sym s.1))

    truth-kind : (o : Operator) → eqb (cond (is_division o) 1 3) 4 ≡ false
    truth-kind o = go (is_division o)
      where
        go : (b : Bool) → eqb (cond b 1 3) 4 ≡ false
        go true = refl
        go false = refl

    -- what is no comparison takes numbers
    fits-numbers : (o : Operator) (x y : ℕ) → binary_fits o (type_at t rs (node x)) (type_at t rs (node y)) ≡ true →
        is_comparison o ≡ false → (record_kind x ≡ false) × (record_kind y ≡ false)
    unfolding binary_fits
    fits-numbers o x y h e = go (is_division o) (rw e at h)
      where
        each : (ty : ℕ) → 0 < ty → eqb ty 4 ≡ false → (eqb (type_at t rs (node x)) ty && eqb (type_at t rs (node y)) ty) ≡ true →
            (record_kind x ≡ false) × (record_kind y ≡ false)
        each ty l q k = (
          kind-of x ty l (eqb-true _ ty (and_left (eqb (type_at t rs (node x)) ty) _ k)) ∙ q,
          kind-of y ty l (eqb-true _ ty (and_right (eqb (type_at t rs (node x)) ty) _ k)) ∙ q,
        )

        go : (b : Bool) → cond b (eqb (type_at t rs (node x)) 1 && eqb (type_at t rs (node y)) 1)
            (eqb (type_at t rs (node x)) 3 && eqb (type_at t rs (node y)) 3) ≡ true → (record_kind x ≡ false) × (record_kind y ≡ false)
        go true k = each 1 (omega arith) refl k
        go false k = each 3 (omega arith) refl k

    fits-same : (o : Operator) (x y : ℕ) → binary_fits o (type_at t rs (node x)) (type_at t rs (node y)) ≡ true →
        is_comparison o ≡ true → record_kind x ≡ record_kind y
    unfolding binary_fits
    fits-same o x y h e = kinds-same x y (rw e at h)

    placed-values : (start c : ℕ) → ValuesOf E true (placed_from used start c)
    placed-values start zero = tt
    placed-values start (suc c) = (refl, placed-values (suc start) c)

    number-values : (l : List ℕ) → ValuesOf E false (map number l)
    number-values [] = tt
    number-values (v ∷ l) = (refl, number-values l)

    list-kind : (x : ℕ) (r : Record) → member_fits (type_at t rs (node x)) r ≡ true → record_kind x ≡ entry_kind t r
    unfolding member_fits
    list-kind x kind.Invalid h = absurd (true≢false (sym h))
    list-kind x (kind.Column c) h = absurd (true≢false (sym h))
    list-kind x (kind.Literal ty v) h = absurd (true≢false (sym h))
    list-kind x (kind.Null ty) h = absurd (true≢false (sym h))
    list-kind x (kind.Binary o a b) h = absurd (true≢false (sym h))
    list-kind x (kind.Not a) h = absurd (true≢false (sym h))
    list-kind x (kind.IsNull a) h = absurd (true≢false (sym h))
    list-kind x (kind.IsNotNull a) h = absurd (true≢false (sym h))
    list-kind x (kind.IsBetween k a low high) h = absurd (true≢false (sym h))
    list-kind x (kind.List ty marked start count) h =
        let s = same-types (type_at t rs (node x)) ty h in
        kind-of x (type_at t rs (node x)) s.0 refl ∙ ap (λ z. eqb z 4) s.1
    list-kind x (kind.IsIn equal a list) h = absurd (true≢false (sym h))

    record_of : (m : ℕ) (r : Record) → types_ok t rs r ≡ true → Of (entry_kind t r) (placed_aexpr used p m r)
    unfolding types_ok between_fits
    record_of m kind.Invalid k = tt
    record_of m (kind.Column c) k = refl
    record_of m (kind.Literal ty v) k = go (eqb ty 4)
      where
        go : (b : Bool) → is_place (place_key (cond b (true, m) (number v))) ≡ b
        go true = refl
        go false = refl
    record_of m (kind.Null ty) k = tt
    record_of m (kind.Binary o x y) k =
        by-operator (λ e. Of (eqb (cond (is_division o) 1 3) 4) (map_aexpr number e)) x.0 y.0 tt o
        (λ c. let q : (record_kind x.0 ≡ record_kind y.0) × (eqb (cond (is_division o) 1 3) 4 ≡ false) =
        (fits-same o x.0 y.0 k c, truth-kind o) in (q, q, q, q, q, q, q, q))
        (λ c b. let q = fits-numbers o x.0 y.0 k c in
        numbers_of b (record_kind x.0) (record_kind y.0) (eqb (cond (is_division o) 1 3) 4) q.0 q.1 (truth-kind o))
    record_of m (kind.Not x) k = (kind-of x.0 3 (omega arith) (eqb-true _ 3 k), refl)
    record_of m (kind.IsNull x) k = refl
    record_of m (kind.IsNotNull x) k = refl
    record_of m (kind.IsBetween ends x low high) k = (
      kinds-same x.0 low.0 (and_left (same_type (type_at t rs x) (type_at t rs low)) _ k),
      kinds-same x.0 high.0 (and_right (same_type (type_at t rs x) (type_at t rs low)) _ k),
      refl,
    )
    record_of m (kind.List ty holds start c) k = go (eqb ty 4)
      where
        go : (b : Bool) → ValuesOf E b (cond b (placed_from used start c) (map number (values_from p start c)))
        go true = placed-values start c
        go false = number-values (values_from p start c)
    record_of m (kind.IsIn equal x list) k = (list-kind x.0 (record_at rs list) k, refl)

    records-of : (m : ℕ) → Of (record_kind m) (placed_at rs p used m)
    unfolding placed_at
    records-of m = go (ltb m used) refl
      where
        go : (b : Bool) → ltb m used ≡ b → Of (record_kind m) (cond b (placed_aexpr used p m (record_at rs (node m))) Missing)
        go true e = record_of m (record_at rs (node m)) (ok.records m (ltb-true m used e)).types
        go false e = tt

-- ---- A checked screen, and a row of numbers and places: in Text columns places alone, in the others numbers.
abbrev pub OfKind : Bool → Option PlaceKey → Type 0
OfKind k none = Unit {0}
OfKind k (some a) = is_place a ≡ k

pub ranked-truth : (text t rs p : List ℕ) (used root : ℕ) → CheckedIn (lent text) t rs p used root →
    (values ranks : List ℕ) → Standing (length text) rs p used values → (n : ℕ) → place_count p used ≤ n →
    ((q : ℕ) → get_or text q 0 < 256) → Pooled text values n → n ≤ 9223372036854775808 → Ranked text values n ranks →
    (row : ℕ → Option PlaceKey) → ((c : ℕ) → OfKind (kind_at t c) (row c)) →
    truth_with text (held_at rs p used) (λ c. Option.map (by_symbol text values n) (row c)) root ≡
    truth_in (ranked_at rs p used ranks n) (λ c. Option.map (by_rank ranks n) (row c)) root
ranked-truth text t rs p used root ok values ranks st n enough bytes pooled small ranked row typed =
    ap (λ (R : ℕ → AExpr Held). truth_with text R (λ c. Option.map (by_symbol text values n) (row c)) root)
    (fun_ext (held-placed (length text) t rs p used root ok values st n enough))
    ∙ same-truths_within F G (kind_at t) (λ m. entry_kind t (record_at rs (node m))) (placed_at rs p used)
    (records-of (lent text) t rs p used root ok text values n F (λ k. refl))
    (records-of (lent text) t rs p used root ok text values n G (λ k. refl)) row (λ c. of_kind_lem (row c) (kind_at t c) (typed c)) root
    (ap (λ s. eqb s 4) (value-type t (record_at rs (node root)) 3 (omega arith) truth))
  where
    F : KeepsWithin is_place place_key (place_truths text values n) (key_in text) truth_keys (by_symbol text values n) (held_by values n)
    F = by-symbols text values n

    G : KeepsWithin is_place place_key (place_truths text values n) key truth_keys (by_rank ranks n) (standing_or_not ranks n)
    G = by-ranks text values n ranks bytes pooled small ranked

    truth : type_of t (record_at rs (node root)) ≡ 3
    truth = typed-root t rs root ok.root-truth

    of_kind_lem : (x : Option PlaceKey) (k : Bool) → OfKind k x → KeyOf F k x
    of_kind_lem none k h = tt
    of_kind_lem (some a) k h = h

-- ---- A row as it is lent: the symbol of column c stands at place base + c.
abbrev pub row_places : List ℕ → List ℕ → ℕ → ℕ → ℕ → Option PlaceKey
row_places t row nulls base c =
    cond (null_marked nulls c) none (some (cond (kind_at t c) (SymbolAt (base + c)) (NumberKey (key (value_at row c)))))

pub row-kinds : (t row : List ℕ) (nulls base c : ℕ) → OfKind (kind_at t c) (row_places t row nulls base c)
row-kinds t row nulls base c = go (null_marked nulls c) (kind_at t c)
  where
    go : (m k : Bool) →
        OfKind k (cond m none (some (cond k (SymbolAt (base + c)) (NumberKey (key (value_at row c))))))
    go true k = tt
    go false true = refl
    go false false = refl

pub row-placed : (text values t row : List ℕ) (nulls base n c : ℕ) →
    (kind_at t c ≡ true → standing values n (base + c) ≡ value_at row c) →
    Option.map (by_symbol text values n) (row_places t row nulls base c) ≡ row_keys_with text t row nulls c
unfolding row_keys_with
row-placed text values t row nulls base n c h = go (null_marked nulls c) (kind_at t c) h
  where
    go : (m k : Bool) → (k ≡ true → standing values n (base + c) ≡ value_at row c) →
        Option.map (by_symbol text values n) (cond m none (some (cond k (SymbolAt (base + c)) (NumberKey (key (value_at row c)))))) ≡
        cond m none (some (key_in text (cond k (Symbol (value_at row c)) (Number (value_at row c)))))
    go true k f = refl
    go false true f = ap (λ v. some (symbol_key text v)) (f refl)
    go false false f = refl
