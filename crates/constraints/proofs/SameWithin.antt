-- Columns of one kind: where two instances compare alike only values of the same kind, as the values of one type, every
-- method answers alike of columns whose values are of one kind. For such columns stand columns of those values alone,
-- which the instances compare alike throughout (SameComparisons).
use mathlib.Core.Path.{◌≡◌, refl, sym, ◌∙◌, ap, subst}
use mathlib.Core.List.{List, [], ◌∷◌, map}
use Rattle.constraints.specs.Scalars.{Scalars, scalar_cmp}
use Rattle.constraints.specs.Column.{ColumnConstraints, Constraint, Lower, Upper, Exclude, Allow, Disallow, Require}
use Rattle.constraints.specs.Column.{add_all, merge_from, merge_emitted, merge_any}
use Rattle.constraints.specs.Resolve.{fixed_value, resolve_deferred}
use Rattle.constraints.specs.Comparisons.{collect_column_comparisons}
use Rattle.constraints.specs.Mapped.{map_column, map_constraint, map_comparison}
use Rattle.constraints.proofs.Carried.{Carries, along, add_all-carried, merge_from-carried, merge_emitted-carried}
use Rattle.constraints.proofs.Carried.{merge_any-carried, map_value, fixed_value-carried, resolve_deferred-carried}
use Rattle.constraints.proofs.Carried.{collect-carried}
use Rattle.constraints.proofs.SameComparisons.{SameComparisons, add_all-same, merge_from-same, merge_emitted-same}
use Rattle.constraints.proofs.SameComparisons.{merge_any-same, fixed_value-same, resolve_deferred-same, collect-same}

pub record SameWithin {K K' Val T : Type 0} (kind : Val → T) (S : Scalars K Val) (S' : Scalars K' Val) : Type 0 where
  pub compares : (a b : Val) → kind a ≡ kind b → scalar_cmp S a b ≡ scalar_cmp S' a b
  pub opens : (held excluded : Val) → S.opened held excluded ≡ S'.opened held excluded
  -- what opens a bound is of the excluded value's kind
  pub opened-kind : (held excluded : Val) → kind (S.opened held excluded) ≡ kind excluded

-- The values of kind k; columns and constraints that hold no others.
module _ {Val T : Type 0} (kind : Val → T) (k : T) where
  abbrev pub Of : Type 0
  Of = (v : Val) × (kind v ≡ k)

  abbrev pub value_of : Of → Val
  value_of v = v.0

  abbrev pub ColumnOf : ColumnConstraints Val → Type 0
  ColumnOf q = (r : ColumnConstraints Of) × (map_column value_of r ≡ q)

  abbrev pub ConstraintsOf : List (Constraint Val) → Type 0
  ConstraintsOf l = (m : List (Constraint Of)) × (map (map_constraint value_of) m ≡ l)

  -- every value of a list, of a constraint, of constraints is of the kind
  abbrev pub ValuesHave : List Val → Type 0
  ValuesHave [] = Unit {0}
  ValuesHave (v ∷ l) = (kind v ≡ k) × ValuesHave l

  abbrev pub ConstraintHas : Constraint Val → Type 0
  ConstraintHas (Lower c v) = kind v ≡ k
  ConstraintHas (Upper c v) = kind v ≡ k
  ConstraintHas (Exclude v) = kind v ≡ k
  ConstraintHas (Allow l) = ValuesHave l
  ConstraintHas (Disallow c l) = ValuesHave l
  ConstraintHas (Require n) = Unit {0}

  abbrev pub ConstraintsHave : List (Constraint Val) → Type 0
  ConstraintsHave [] = Unit {0}
  ConstraintsHave (a ∷ l) = ConstraintHas a × ConstraintsHave l

  values_of : (l : List Val) → ValuesHave l → (m : List Of) × (map value_of m ≡ l)
  values_of [] h = ([], refl)
  values_of (v ∷ l) h = let r = values_of l h.1 in ((v, h.0) ∷ r.0, λ i. v ∷ r.1 i)

  constraint-of : (a : Constraint Val) → ConstraintHas a → (b : Constraint Of) × (map_constraint value_of b ≡ a)
  constraint-of (Lower c v) h = (Lower c (v, h), refl)
  constraint-of (Upper c v) h = (Upper c (v, h), refl)
  constraint-of (Exclude v) h = (Exclude (v, h), refl)
  constraint-of (Allow l) h = let r = values_of l h in (Allow r.0, λ i. Allow (r.1 i))
  constraint-of (Disallow c l) h = let r = values_of l h in (Disallow c r.0, λ i. Disallow c (r.1 i))
  constraint-of (Require n) h = (Require n, refl)

  pub constraints-of : (l : List (Constraint Val)) → ConstraintsHave l → ConstraintsOf l
  constraints-of [] h = ([], refl)
  constraints-of (a ∷ l) h =
      let b = constraint-of a h.0 in
      let r = constraints-of l h.1 in (b.0 ∷ r.0, λ i. b.1 i ∷ r.1 i)

module _ {K K' Val T : Type 0} {kind : Val → T} {S : Scalars K Val} {S' : Scalars K' Val} (E : SameWithin kind S S')
    (k : T) where
  abbrev opened_of : Of kind k → Of kind k → Of kind k
  opened_of held excluded = (S.opened held.0 excluded.0, E.opened-kind held.0 excluded.0 ∙ excluded.1)

  abbrev left : Carries S (value_of kind k)
  left =
      record {
        opened = opened_of;
        opened-key = λ held excluded. S.opened-key held.0 excluded.0;
        opens = λ held excluded. refl;
      }

  abbrev right : Carries S' (value_of kind k)
  right =
      record {
        opened = opened_of;
        opened-key = λ held excluded. ap S'.key (E.opens held.0 excluded.0)
            ∙ S'.opened-key held.0 excluded.0;
        opens = λ held excluded. E.opens held.0 excluded.0;
      }

  alike : SameComparisons (along left) (along right)
  alike =
      record {
        compares = λ a b. E.compares a.0 b.0 (a.1 ∙ sym b.1);
        opens = λ held excluded. refl;
      }

  -- what is shown of columns of values of the kind holds of columns that hold no others
  shown : {A : Type 0} (F G : ColumnConstraints Val → A) →
      ((r : ColumnConstraints (Of kind k)) → F (map_column (value_of kind k) r) ≡ G (map_column (value_of kind k) r)) →
      (q : ColumnConstraints Val) → ColumnOf kind k q → F q ≡ G q
  shown F G e q h = subst (λ x. F x ≡ G x) h.1 (e h.0)

  -- ---- a column takes constraints in
  pub add_all-within : (l : List (Constraint Val)) (q : ColumnConstraints Val) → ConstraintsOf kind k l →
      ColumnOf kind k q → add_all S l q ≡ add_all S' l q
  add_all-within l q g = shown (add_all S l) (add_all S' l) (λ r. subst (λ x. add_all S x (map_column (value_of kind k) r) ≡
      add_all S' x (map_column (value_of kind k) r)) g.1 (add_all-carried S (value_of kind k) left g.0 r ∙
      ap (map_column (value_of kind k)) (add_all-same alike g.0 r) ∙
      sym (add_all-carried S' (value_of kind k) right g.0 r))) q

  pub add_all-of : (l : List (Constraint Val)) (q : ColumnConstraints Val) → ConstraintsOf kind k l →
      ColumnOf kind k q → ColumnOf kind k (add_all S l q)
  add_all-of l q g h = (
    add_all (along left) g.0 h.0,
    sym (add_all-carried S (value_of kind k) left g.0 h.0) ∙ (λ i. add_all S (g.1 i) (h.1 i)),
  )

  -- ---- one column into another
  module _ {A : Type 0} (F G : ColumnConstraints Val → ColumnConstraints Val → A) where
    shown-both : ((p r : ColumnConstraints (Of kind k)) →
        F (map_column (value_of kind k) p) (map_column (value_of kind k) r) ≡
        G (map_column (value_of kind k) p) (map_column (value_of kind k) r)) →
        (q o : ColumnConstraints Val) → ColumnOf kind k q → ColumnOf kind k o → F q o ≡ G q o
    shown-both e q o h g = shown (λ x. F x o) (λ x. G x o)
        (λ p. shown (F (map_column (value_of kind k) p)) (G (map_column (value_of kind k) p)) (e p) o g) q h

  pub merge_from-within : (q o : ColumnConstraints Val) → ColumnOf kind k q → ColumnOf kind k o →
      merge_from S q o ≡ merge_from S' q o
  merge_from-within = shown-both (merge_from S) (merge_from S') (λ p r. merge_from-carried S (value_of kind k) left p r ∙
      ap (map_column (value_of kind k)) (merge_from-same alike p r) ∙
      sym (merge_from-carried S' (value_of kind k) right p r))

  pub merge_from-of : (q o : ColumnConstraints Val) → ColumnOf kind k q → ColumnOf kind k o →
      ColumnOf kind k (merge_from S q o)
  merge_from-of q o h g = (
    merge_from (along left) h.0 g.0,
    sym (merge_from-carried S (value_of kind k) left h.0 g.0) ∙ (λ i. merge_from S (h.1 i) (g.1 i)),
  )

  pub merge_emitted-within : (q o : ColumnConstraints Val) → ColumnOf kind k q → ColumnOf kind k o →
      merge_emitted S q o ≡ merge_emitted S' q o
  merge_emitted-within = shown-both (merge_emitted S) (merge_emitted S')
      (λ p r. merge_emitted-carried S (value_of kind k) left p r ∙ merge_emitted-same alike p r ∙
      sym (merge_emitted-carried S' (value_of kind k) right p r))

  pub merge_any-within : (q o : ColumnConstraints Val) → ColumnOf kind k q → ColumnOf kind k o →
      merge_any S q o ≡ merge_any S' q o
  merge_any-within = shown-both (merge_any S) (merge_any S') (λ p r. merge_any-carried S (value_of kind k) left p r ∙
      merge_any-same alike p r ∙ sym (merge_any-carried S' (value_of kind k) right p r))

  -- ---- resolving, and what a column is written out as
  pub resolve_deferred-within : (q : ColumnConstraints Val) → ColumnOf kind k q → resolve_deferred S q ≡ resolve_deferred S' q
  resolve_deferred-within = shown (resolve_deferred S) (resolve_deferred S')
      (λ r. resolve_deferred-carried S (value_of kind k) left r ∙
      ap (map_column (value_of kind k)) (resolve_deferred-same alike r) ∙
      sym (resolve_deferred-carried S' (value_of kind k) right r))

  pub resolve_deferred-of : (q : ColumnConstraints Val) → ColumnOf kind k q → ColumnOf kind k (resolve_deferred S q)
  resolve_deferred-of q h = (
    resolve_deferred (along left) h.0,
    sym (resolve_deferred-carried S (value_of kind k) left h.0) ∙ ap (resolve_deferred S) h.1,
  )

  pub fixed_value-within : (q : ColumnConstraints Val) → ColumnOf kind k q → fixed_value S q ≡ fixed_value S' q
  fixed_value-within = shown (fixed_value S) (fixed_value S') (λ r. fixed_value-carried S (value_of kind k) left r ∙
      ap (map_value S (value_of kind k) left) (fixed_value-same alike r) ∙
      sym (fixed_value-carried S' (value_of kind k) right r))

  pub collect-within : (q : ColumnConstraints Val) → ColumnOf kind k q →
      collect_column_comparisons S q ≡ collect_column_comparisons S' q
  collect-within = shown (collect_column_comparisons S) (collect_column_comparisons S')
      (λ r. collect-carried S (value_of kind k) left r ∙
      ap (map (map_comparison (value_of kind k))) (collect-same alike r) ∙
      sym (collect-carried S' (value_of kind k) right r))
