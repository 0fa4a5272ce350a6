-- In a checked screen each conjunct's values are of its column's kind, symbols or numbers, and an equality joins columns of
-- one kind. So symbols may be merged as their ranks, whatever stands beside them (`translated_within` in merge).
use mathlib.Core.Path.{◌≡◌, refl, sym, ◌∙◌, ap, subst}
use mathlib.Core.Bool.{Bool, true, false, cond, not, ◌&&◌}
use mathlib.Core.List.{List, [], ◌∷◌, map}
use mathlib.Core.Option.{Option, none, some}
use Prim.Native.Nat.{ℕ, ◌<◌}
use native.Mathlib.Omega.{arith}
use lib.Dec.{ltb, leb, eqb}
use lib.ListN.{length, get_or}
use borrow.Author.Tests.{ltb-true, lt-ltb, eqb-true}
use Rattle.records.specs.Operator.{code_of, is_comparison, is_division, is_null_propagating_comparison, swap_operands, negate}
use Rattle.records.specs.Record.{node, record_at}
use Rattle.records.specs.declared.operator.Operator.{Operator}
use Rattle.records.specs.declared.operator.Operator.TheVariants as operator
use Rattle.std.specs.Prelude as code
use Rattle.records.specs.declared.record.Record.{Record}
use Rattle.records.specs.declared.record.Record.TheVariants as kind
use Rattle.records.proofs.Laws.{and_left, and_right}
use Rattle.record_check.specs.Fit.{reach_ok_in, all_below, type_of, type_at, same_type, binary_fits, between_fits, member_fits, types_ok}
use Rattle.checking.specs.Checked.{CheckedIn}
use Rattle.truth.specs.Comparison.{Comparison, Eq, NotEq, Lt, LtEq, Gt, GtEq}
use Rattle.truth.specs.AExpr.{AExpr, Missing, map_aexpr, BinaryExpr, BinaryOp}
use Rattle.truth.specs.FromBytes.{binary_expr, to_aexpr, values_from}
use Rattle.constraints.specs.Column.{Constraint, Allow, Disallow}
use Rattle.constraints.specs.declared.column.Nullability.{Nullability}
use Rattle.constraints.specs.declared.column.Nullability.TheVariants.{NonNull}
use Rattle.constraints.specs.declared.column.Nullability.TheVariants as required
use Rattle.constraints.proofs.SameWithin.{ValuesHave, ConstraintHas}
use Rattle.merge.specs.Minterms.{minterms}
use Rattle.merge.specs.Classify.{Conjunct, Bounds, Normalized, Equality, Recorded, NonNullPair, Opaque, Operand, AColumn, ALiteral}
use Rattle.merge.specs.Classify.{AList, Other, operand, operator_of, ordinary_comparison, classify_column_literal, classify_literal_column}
use Rattle.merge.specs.Classify.{classify_column_column, classify_comparison, normalized, classify_negated, classify_is_between}
use Rattle.merge.specs.Classify.{classify_is_in, classify_null, classify_negation, classify_record, classify, read_conjuncts}
use Rattle.merge.proofs.Accepted.{binary-ind}
use Rattle.merge.proofs.SameWithin.{ConjunctHas, ConjunctsHave}
use Rattle.symbol_screens.specs.Held.{Held, Number, Symbol, held}
use Rattle.symbol_screens.specs.Reading.{value_type, held_aexpr, held_at}

abbrev pub is_symbol : Held → Bool
is_symbol (Number v) = false
is_symbol (Symbol v) = true

held-kind : (ty v : ℕ) → is_symbol (held ty v) ≡ eqb ty 4
held-kind ty v = go (eqb ty 4)
  where
    go : (b : Bool) → is_symbol (cond b (Symbol v) (Number v)) ≡ b
    go true = refl
    go false = refl

module _ (t : List ℕ) where
  -- whether a column's values are symbols
  abbrev pub kind_at : ℕ → Bool
  kind_at c = eqb (get_or t c 0) 4

  abbrev Has : Conjunct Held → Type 0
  Has x = ConjunctHas is_symbol kind_at x

  -- an operand of the type ty; of a list its values
  abbrev OfType : ℕ → Operand Held → Type 0
  OfType ty (AColumn c) = get_or t c 0 ≡ ty
  OfType ty (ALiteral v) = is_symbol v ≡ eqb ty 4
  OfType ty (AList l) = Unit {0}
  OfType ty Other = Unit {0}

  abbrev ListOf : ℕ → Operand Held → Type 0
  ListOf ty (AColumn c) = Unit {0}
  ListOf ty (ALiteral v) = Unit {0}
  ListOf ty (AList l) = ValuesHave is_symbol (eqb ty 4) l
  ListOf ty Other = Unit {0}

  column-literal : (n c : ℕ) (v : Held) (o : Option Comparison) → is_symbol v ≡ kind_at c → Has (classify_column_literal n c v o)
  column-literal n c v (some Eq) h = (h, (h, tt))
  column-literal n c v (some NotEq) h = (h, tt)
  column-literal n c v (some Lt) h = (h, tt)
  column-literal n c v (some LtEq) h = (h, tt)
  column-literal n c v (some Gt) h = (h, tt)
  column-literal n c v (some GtEq) h = (h, tt)
  column-literal n c v none h = tt

  literal-column : (n c : ℕ) (v : Held) (o : code.Option Operator) → is_symbol v ≡ kind_at c → Has (classify_literal_column n c v o)
  literal-column n c v code.None h = tt
  literal-column n c v (code.Some o) h = column-literal n c v (ordinary_comparison o) h

  column-column : (n a b : ℕ) (o : Operator) → kind_at a ≡ kind_at b → Has (classify_column_column n a b o)
  column-column n a b o h = go (is_null_propagating_comparison o) (eqb (code_of o) (code_of operator.Eq))
    where
      go : (p e : Bool) → Has (cond p (cond e (Equality a b n) (NonNullPair n a b)) (Opaque n))
      go true true = h
      go true false = tt
      go false e = tt

  of_column_lem : (ty c : ℕ) (v : Held) → get_or t c 0 ≡ ty → is_symbol v ≡ eqb ty 4 → is_symbol v ≡ kind_at c
  of_column_lem ty c v e h = h ∙ ap (λ x. eqb x 4) (sym e)

  comparison_has : (n ty : ℕ) (o : Operator) (x y : Operand Held) → OfType ty x → OfType ty y → Has (classify_comparison n o x y)
  comparison_has n ty o (AColumn a) (AColumn b) h k = column-column n a b o (ap (λ x. eqb x 4) (h ∙ sym k))
  comparison_has n ty o (AColumn c) (ALiteral v) h k = column-literal n c v (ordinary_comparison o) (of_column_lem ty c v h k)
  comparison_has n ty o (AColumn c) (AList l) h k = tt
  comparison_has n ty o (AColumn c) Other h k = tt
  comparison_has n ty o (ALiteral v) (AColumn c) h k = literal-column n c v (swap_operands o) (of_column_lem ty c v k h)
  comparison_has n ty o (ALiteral v) (ALiteral w) h k = tt
  comparison_has n ty o (ALiteral v) (AList l) h k = tt
  comparison_has n ty o (ALiteral v) Other h k = tt
  comparison_has n ty o (AList l) y h k = tt
  comparison_has n ty o Other y h k = tt

  normalized-has : (c : Conjunct Held) → Has c → Has (normalized c)
  normalized-has (Bounds c l) h = h
  normalized-has (Normalized c l) h = h
  normalized-has (Equality a b n) h = h
  normalized-has (Recorded stops n c l) h = h
  normalized-has (NonNullPair n a b) h = h
  normalized-has (Opaque n) h = h

  negated_has : (n ty : ℕ) (o : code.Option Operator) (x y : Operand Held) → OfType ty x → OfType ty y → Has (classify_negated n o x y)
  negated_has n ty code.None x y h k = tt
  negated_has n ty (code.Some o) x y h k = normalized-has (classify_comparison n o x y) (comparison_has n ty o x y h k)

  between-has : (n ty : ℕ) (lo hi : Bool) (x low high : Operand Held) → OfType ty x → OfType ty low → OfType ty high →
      Has (classify_is_between n lo hi x low high)
  between-has n ty lo hi (AColumn c) (ALiteral v) (ALiteral w) h k m = (of_column_lem ty c v h k, (of_column_lem ty c w h m, tt))
  between-has n ty lo hi (AColumn c) (ALiteral v) (AColumn d) h k m = tt
  between-has n ty lo hi (AColumn c) (ALiteral v) (AList l) h k m = tt
  between-has n ty lo hi (AColumn c) (ALiteral v) Other h k m = tt
  between-has n ty lo hi (AColumn c) (AColumn d) high h k m = tt
  between-has n ty lo hi (AColumn c) (AList l) high h k m = tt
  between-has n ty lo hi (AColumn c) Other high h k m = tt
  between-has n ty lo hi (ALiteral v) low high h k m = tt
  between-has n ty lo hi (AList l) low high h k m = tt
  between-has n ty lo hi Other low high h k m = tt

  member-has : (n ty : ℕ) (says : List Held → Constraint Held) →
      ((k : Bool) (l : List Held) → ValuesHave is_symbol k l → ConstraintHas is_symbol k (says l)) → (x y : Operand Held) →
      OfType ty x → ListOf ty y → Has (classify_is_in n says x y)
  member-has n ty says s (AColumn c) (AList l) h k =
      (s (kind_at c) l (subst (λ b. ValuesHave is_symbol b l) (ap (λ x. eqb x 4) (sym h)) k), tt)
  member-has n ty says s (AColumn c) (AColumn d) h k = tt
  member-has n ty says s (AColumn c) (ALiteral v) h k = tt
  member-has n ty says s (AColumn c) Other h k = tt
  member-has n ty says s (ALiteral v) y h k = tt
  member-has n ty says s (AList l) y h k = tt
  member-has n ty says s Other y h k = tt

  null_has : (n : ℕ) (must : Nullability) (x : Operand Held) → Has (classify_null n must x)
  null_has n must (AColumn c) = (tt, tt)
  null_has n must (ALiteral v) = tt
  null_has n must (AList l) = tt
  null_has n must Other = tt

-- ---- Types that fit.
pub same-types : (x y : ℕ) → same_type x y ≡ true → (0 < x) × (x ≡ y)
unfolding same_type
same-types x y h = (ltb-true 0 x (and_left (ltb 0 x) (eqb x y) h), eqb-true x y (and_right (ltb 0 x) (eqb x y) h))

same-type : (x y : ℕ) → same_type x y ≡ true → x ≡ y
same-type x y h = (same-types x y h).1

binary-same : (o : Operator) (x y : ℕ) → binary_fits o x y ≡ true → x ≡ y
unfolding binary_fits
binary-same o x y = go (is_comparison o) (is_division o)
  where
    each : (ty : ℕ) → (eqb x ty && eqb y ty) ≡ true → x ≡ y
    each ty h = eqb-true x ty (and_left (eqb x ty) (eqb y ty) h) ∙ sym (eqb-true y ty (and_right (eqb x ty) (eqb y ty) h))

    go : (b d : Bool) → cond b (same_type x y) (cond d (eqb x 1 && eqb y 1) (eqb x 3 && eqb y 3)) ≡ true → x ≡ y
    go true d h = same-type x y h
    go false true h = each 1 h
    go false false h = each 3 h

-- whatever a binary record is, it has its two inputs, or is nothing
binary-has : (C : AExpr ℕ → Type 0) (x y : ℕ) → C Missing → ((b : BinaryOp) → C (BinaryExpr b x y)) → (o : Operator) →
    C (binary_expr o x y)
binary-has C x y m h o = binary-ind C x y m (h _, h _) o (λ e c. h _) (λ e. (h _, h _)) (λ e d b. h b)

module _ (t p : List ℕ) where
  operand-of : (r : Record) → OfType t (type_of t r) (operand (held_aexpr p r))
  unfolding type_of
  operand-of kind.Invalid = tt
  operand-of (kind.Column c) = refl
  operand-of (kind.Literal ty v) = held-kind ty v
  operand-of (kind.Null ty) = tt
  operand-of (kind.Binary o x y) =
      binary-has (λ e. OfType t (cond (is_division o) 1 3) (operand (map_aexpr (held 0) e))) x.0 y.0 tt (λ b. tt) o
  operand-of (kind.Not x) = tt
  operand-of (kind.IsNull x) = tt
  operand-of (kind.IsNotNull x) = tt
  operand-of (kind.IsBetween k x low high) = tt
  operand-of (kind.List ty marked start count) =
      go (not marked && leb (length (map (held ty) (values_from p start count))) 100)
    where
      go : (b : Bool) → OfType t 0 (cond b (AList (map (held ty) (values_from p start count))) Other)
      go true = tt
      go false = tt
  operand-of (kind.IsIn equal x list) = tt

  values_of : (ty : ℕ) (l : List ℕ) → ValuesHave is_symbol (eqb ty 4) (map (held ty) l)
  values_of ty [] = tt
  values_of ty (v ∷ l) = (held-kind ty v, values_of ty l)

  list_of : (x : ℕ) (r : Record) → member_fits x r ≡ true → ListOf t x (operand (held_aexpr p r))
  unfolding member_fits
  list_of x kind.Invalid h = tt
  list_of x (kind.Column c) h = tt
  list_of x (kind.Literal ty v) h = tt
  list_of x (kind.Null ty) h = tt
  list_of x (kind.Binary o a b) h = binary-has (λ e. ListOf t x (operand (map_aexpr (held 0) e))) a.0 b.0 tt (λ b. tt) o
  list_of x (kind.Not a) h = tt
  list_of x (kind.IsNull a) h = tt
  list_of x (kind.IsNotNull a) h = tt
  list_of x (kind.IsBetween k a low high) h = tt
  list_of x (kind.List ty marked start count) h =
      go (not marked && leb (length (map (held ty) (values_from p start count))) 100)
    where
      go : (b : Bool) → ListOf t x (cond b (AList (map (held ty) (values_from p start count))) Other)
      go true = subst (λ y. ValuesHave is_symbol (eqb y 4) (map (held ty) (values_from p start count))) (sym (same-type x ty h))
          (values_of ty (values_from p start count))
      go false = tt
  list_of x (kind.IsIn equal a list) h = tt

-- ---- A checked screen.
module _ (text : ℕ) (t rs p : List ℕ) (used root : ℕ) (ok : CheckedIn text t rs p used root) where
  abbrev R : ℕ → AExpr Held
  R n = held_at rs p used n

  abbrev at : ℕ → Record
  at n = record_at rs (node n)

  by-used : (C : AExpr Held → Type 0) (n : ℕ) → (n < used → C (held_aexpr p (at n))) → C Missing → C (R n)
  unfolding held_at
  by-used C n h m = go (ltb n used) refl
    where
      go : (b : Bool) → ltb n used ≡ b → C (cond b (held_aexpr p (at n)) Missing)
      go true e = h (ltb-true n used e)
      go false e = m

  typed : (x : ℕ) → OfType t (type_at t rs (node x)) (operand (R x))
  unfolding type_at
  typed x = by-used (λ e. OfType t (type_of t (at x)) (operand e)) x (λ h. operand-of t p (at x)) tt

  typed-as : (x y : ℕ) → type_at t rs (node x) ≡ type_at t rs (node y) → OfType t (type_at t rs (node x)) (operand (R y))
  typed-as x y e = subst (λ ty. OfType t ty (operand (R y))) (sym e) (typed y)

  listed : (x list : ℕ) → member_fits (type_at t rs (node x)) (at list) ≡ true →
      ListOf t (type_at t rs (node x)) (operand (R list))
  listed x list h =
      by-used (λ e. ListOf t (type_at t rs (node x)) (operand e)) list
      (λ l. list_of t p (type_at t rs (node x)) (at list) h) tt

  allows : (k : Bool) (l : List Held) → ValuesHave is_symbol k l → ConstraintHas is_symbol k (Allow l)
  allows k l h = h

  negation-has : (n : ℕ) (r : Record) → types_ok t rs r ≡ true → Has t (classify_negation R n (held_aexpr p r))
  unfolding types_ok
  negation-has n kind.Invalid k = tt
  negation-has n (kind.Column c) k = tt
  negation-has n (kind.Literal ty v) k = tt
  negation-has n (kind.Null ty) k = tt
  negation-has n (kind.Binary o x y) k =
      binary-has (λ e. Has t (classify_negation R n (map_aexpr (held 0) e))) x.0 y.0 tt
      (λ b. negated_has t n (type_at t rs x) (negate (operator_of b)) (operand (R x.0)) (operand (R y.0)) (typed x.0)
      (typed-as x.0 y.0 (binary-same o (type_at t rs x) (type_at t rs y) k))) o
  negation-has n (kind.Not x) k = tt
  negation-has n (kind.IsNull x) k = null_has t n NonNull (operand (R x.0))
  negation-has n (kind.IsNotNull x) k = null_has t n required.Null (operand (R x.0))
  negation-has n (kind.IsBetween ends x low high) k = tt
  negation-has n (kind.List ty marked start count) k = tt
  negation-has n (kind.IsIn equal x list) k =
      member-has t n (type_at t rs x) (λ l. Disallow (not equal) l) (λ b l h. h) (operand (R x.0)) (operand (R list.0))
      (typed x.0) (listed x.0 list.0 k)

  record_has : (n : ℕ) (r : Record) → types_ok t rs r ≡ true → Has t (classify_record R n (held_aexpr p r))
  unfolding types_ok between_fits
  record_has n kind.Invalid k = tt
  record_has n (kind.Column c) k = tt
  record_has n (kind.Literal ty v) k = tt
  record_has n (kind.Null ty) k = tt
  record_has n (kind.Binary o x y) k =
      binary-has (λ e. Has t (classify_record R n (map_aexpr (held 0) e))) x.0 y.0 tt
      (λ b. comparison_has t n (type_at t rs x) (operator_of b) (operand (R x.0)) (operand (R y.0)) (typed x.0)
      (typed-as x.0 y.0 (binary-same o (type_at t rs x) (type_at t rs y) k))) o
  record_has n (kind.Not x) k =
      by-used (λ e. Has t (classify_negation R n e)) x.0
      (λ l. negation-has n (at x.0) (ok.records x.0 l).types) tt
  record_has n (kind.IsNull x) k = null_has t n required.Null (operand (R x.0))
  record_has n (kind.IsNotNull x) k = null_has t n NonNull (operand (R x.0))
  record_has n (kind.IsBetween ends x low high) k =
      between-has t n (type_at t rs x) _ _ (operand (R x.0)) (operand (R low.0)) (operand (R high.0)) (typed x.0)
      (typed-as x.0 low.0 (same-type _ _ (and_left (same_type (type_at t rs x) (type_at t rs low)) _ k)))
      (typed-as x.0 high.0 (same-type _ _ (and_right (same_type (type_at t rs x) (type_at t rs low)) _ k)))
  record_has n (kind.List ty marked start count) k = tt
  record_has n (kind.IsIn equal x list) k =
      member-has t n (type_at t rs x) Allow allows (operand (R x.0)) (operand (R list.0)) (typed x.0)
      (listed x.0 list.0 k)

  each-has : (n : ℕ) → Has t (classify R n)
  each-has n = by-used (λ e. Has t (classify_record R n e)) n (λ l. record_has n (at n) (ok.records n l).types) tt

  all_have : (l : List ℕ) → ConjunctsHave is_symbol (kind_at t) (map (classify R) l)
  all_have [] = tt
  all_have (n ∷ l) = (each-has n, all_have l)

  -- what is read of the screen is of the kinds of its columns
  pub conjuncts-have : ConjunctsHave is_symbol (kind_at t) (read_conjuncts R root)
  conjuncts-have = all_have (minterms R root)
