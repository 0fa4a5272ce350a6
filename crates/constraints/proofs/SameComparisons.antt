-- Columns depend on comparisons alone: two instances that compare all values alike, whatever their keys are, give equal
-- answers everywhere. Each law is its definition, with the laws of what it calls.
use mathlib.Core.Path.{◌≡◌, refl}
use mathlib.Core.Bool.{Bool, true, false, not, ◌&&◌, ◌||◌, cond}
use mathlib.Core.List.{List, [], ◌∷◌, ◌++◌}
use mathlib.Core.Option.{Option, none, some}
use Rattle.truth.specs.Order.{above, is_equal}
use Rattle.constraints.specs.declared.column.ExcludedResolution.{ExcludedResolution}
use Rattle.constraints.specs.declared.column.ExcludedResolution.TheVariants.{Drop, Keep, TightenLower}
use Rattle.constraints.specs.declared.column.ExcludedResolution.TheVariants.{TightenUpper}
use Rattle.constraints.specs.Scalars.{Scalars, opposite, scalar_cmp}
use Rattle.constraints.specs.Bound.{Bound, absent, at, is_change, tighten_by, crosses_by, tighten, crosses, clears}
use Rattle.constraints.specs.Values.{is_empty, contains, insert, extend, retain, subset}
use Rattle.constraints.specs.Column.{ColumnConstraints, Constraint, Lower, Upper, Exclude, Allow, Disallow, Require}
use Rattle.constraints.specs.Column.{column, set_lower, set_upper, set_unsat, common, put, add, add_all, allowed_changes}
use Rattle.constraints.specs.Column.{changes, changes_all, emitted, recorded, merge_from, merge_emitted, merge_any}
use Rattle.constraints.specs.Resolve.{null_conflict, classify_by, Range, classify_upper, classify_at, range_with, open_at}
use Rattle.constraints.specs.Resolve.{resolve_by, resolve_excluded, with_excluded, is_allowed, is_feasible, any_feasible}
use Rattle.constraints.specs.Resolve.{allowed_feasible, fixed_at, fixed_value, fixed_disallowed, with_lists}
use Rattle.constraints.specs.Resolve.{resolve_deferred}
use Rattle.constraints.specs.Comparisons.{collect_by, collect_column_comparisons}

pub record SameComparisons {K K' Val : Type 0} (S : Scalars K Val) (S' : Scalars K' Val) : Type 0 where
  pub compares : (a b : Val) → scalar_cmp S a b ≡ scalar_cmp S' a b
  pub opens : (held excluded : Val) → S.opened held excluded ≡ S'.opened held excluded

abbrev pub opposites : {K K' Val : Type 0} {S : Scalars K Val} {S' : Scalars K' Val} → SameComparisons S S' →
    SameComparisons (opposite S) (opposite S')
opposites E = record { compares = λ a b. E.compares b a; opens = E.opens }

-- ---- bounds
module _ {K K' Val : Type 0} {S : Scalars K Val} {S' : Scalars K' Val} (E : SameComparisons S S') where
  pub tighten-same : (b : Bound Val) (c : Bool) (v : Val) → tighten S b c v ≡ tighten S' b c v
  tighten-same absent c v = refl
  tighten-same (at d w) c v = λ i. tighten_by (E.compares v w i) d w c v

  pub crosses-same : (l u : Bound Val) → crosses S l u ≡ crosses S' l u
  crosses-same absent u = refl
  crosses-same (at c v) absent = refl
  crosses-same (at c v) (at d w) = λ i. crosses_by (E.compares v w i) c d

  pub clears-same : (b : Bound Val) (v : Val) → clears S b (S.key v) ≡ clears S' b (S'.key v)
  clears-same absent v = refl
  clears-same (at c w) v = λ i. above c (E.compares w v i)

module _ {K K' Val : Type 0} {S : Scalars K Val} {S' : Scalars K' Val} (E : SameComparisons S S') where
  -- ---- lists of values
  pub contains-same : (v : Val) (l : List Val) → contains S (S.key v) l ≡ contains S' (S'.key v) l
  contains-same v [] = refl
  contains-same v (w ∷ l) = λ i. is_equal (E.compares v w i) || contains-same v l i

  pub insert-same : (v : Val) (l : List Val) → insert S v l ≡ insert S' v l
  insert-same v l = λ i. cond (contains-same v l i) l (l ++ (v ∷ []))

  pub extend_same : (l m : List Val) → extend S l m ≡ extend S' l m
  extend_same l [] = refl
  extend_same l (v ∷ m) = λ i. extend_same (insert-same v l i) m i

  pub retain-same : (m l : List Val) → retain S m l ≡ retain S' m l
  retain-same m [] = refl
  retain-same m (v ∷ l) = λ i. cond (contains-same v m i) (v ∷ retain-same m l i) (retain-same m l i)

  pub subset-same : (l m : List Val) → subset S l m ≡ subset S' l m
  subset-same [] m = refl
  subset-same (v ∷ l) m = λ i. contains-same v m i && subset-same l m i

  pub common-same : (o : Option (List Val)) (l : List Val) → common S o l ≡ common S' o l
  common-same none l = refl
  common-same (some held) l = retain-same l held

  -- ---- a column takes constraints in
  pub put_same : (a : Constraint Val) (q : ColumnConstraints Val) → put S a q ≡ put S' a q
  put_same (Lower c v) q =
      λ i. let b = (tighten-same E q.lower c v i).bound in set_unsat (crosses-same E b q.upper i) (set_lower b q)
  put_same (Upper c v) q =
      λ i. let b = (tighten-same (opposites E) q.upper c v i).bound in
      set_unsat (crosses-same E q.lower b i) (set_upper b q)
  put_same (Exclude v) q =
      λ i. column q.lower q.upper (insert-same v q.excluded i) q.allowed q.disallowed q.strict q.nullability q.unsat
  put_same (Allow l) q =
      λ i. column q.lower q.upper q.excluded (some (common-same q.allowed l i)) q.disallowed q.strict q.nullability
      q.unsat
  put_same (Disallow c l) q =
      λ i. column q.lower q.upper q.excluded q.allowed (extend_same q.disallowed l i)
      (q.strict || c && not (is_empty l)) q.nullability q.unsat
  put_same (Require n) q = refl

  pub add_same : (a : Constraint Val) (q : ColumnConstraints Val) → add S a q ≡ add S' a q
  add_same a q = λ i. cond q.unsat q (put_same a q i)

  pub add_all-same : (l : List (Constraint Val)) (q : ColumnConstraints Val) → add_all S l q ≡ add_all S' l q
  add_all-same [] q = refl
  add_all-same (a ∷ l) q = λ i. add_all-same l (add_same a q i) i

  -- ---- whether it changed
  pub allowed_changes-same : (o : Option (List Val)) (l : List Val) → allowed_changes S o l ≡ allowed_changes S' o l
  allowed_changes-same none l = refl
  allowed_changes-same (some held) l = λ i. not (subset-same held l i)

  pub changes-same : (a : Constraint Val) (q : ColumnConstraints Val) → changes S a q ≡ changes S' a q
  changes-same (Lower c v) q = λ i. is_change (tighten-same E q.lower c v i).change
  changes-same (Upper c v) q = λ i. is_change (tighten-same (opposites E) q.upper c v i).change
  changes-same (Exclude v) q = λ i. not (contains-same v q.excluded i)
  changes-same (Allow l) q = allowed_changes-same q.allowed l
  changes-same (Disallow true l) q = refl
  changes-same (Disallow false l) q = λ i. not (subset-same l q.disallowed i)
  changes-same (Require n) q = refl

  pub changes_all-same : (l : List (Constraint Val)) (q : ColumnConstraints Val) → changes_all S l q ≡ changes_all S' l q
  changes_all-same [] q = refl
  changes_all-same (a ∷ l) q =
      λ i. (not q.unsat && changes-same a q i) || changes_all-same l (add_same a q i) i

  -- ---- one column into another
  pub merge_from-same : (q r : ColumnConstraints Val) → merge_from S q r ≡ merge_from S' q r
  merge_from-same q r = λ i. add_all-same (recorded r) (add_all-same (emitted r) q i) i

  pub merge_emitted-same : (q r : ColumnConstraints Val) → merge_emitted S q r ≡ merge_emitted S' q r
  merge_emitted-same q r = changes_all-same (emitted r) q

  pub merge_any-same : (q r : ColumnConstraints Val) → merge_any S q r ≡ merge_any S' q r
  merge_any-same q r =
      λ i. changes_all-same (emitted r) q i || changes_all-same (recorded r) (add_all-same (emitted r) q i) i

  -- ---- resolving
  pub classify_upper-same : (u : Bound Val) (v : Val) → classify_upper S u v ≡ classify_upper S' u v
  classify_upper-same absent v = refl
  classify_upper-same (at d w) v = λ i. classify_by (E.compares w v i) d TightenUpper Keep

  pub classify-same : (l u : Bound Val) (v : Val) → classify_at S l u v ≡ classify_at S' l u v
  classify-same absent u v = classify_upper-same u v
  classify-same (at c w) u v = λ i. classify_by (E.compares v w i) c TightenLower (classify_upper-same u v i)

  pub open_same : (b : Bound Val) (v : Val) → open_at S b v ≡ open_at S' b v
  open_same absent v = refl
  open_same (at c w) v = λ i. at false (E.opens w v i)

  pub range_with-same : (l u : Bound Val) (k : List Val) → range_with S l u k ≡ range_with S' l u k
  range_with-same l u k = λ i. record { lower = l; upper = u; kept = k; crossed = crosses-same E l u i }

  pub resolve_by-same : (o : ExcludedResolution) (v : Val) (r : Range Val) → resolve_by S o v r ≡ resolve_by S' o v r
  resolve_by-same Drop v r = range_with-same r.lower r.upper r.kept
  resolve_by-same Keep v r = λ i. range_with-same r.lower r.upper (insert-same v r.kept i) i
  resolve_by-same TightenLower v r = λ i. range_with-same (open_same r.lower v i) r.upper r.kept i
  resolve_by-same TightenUpper v r = λ i. range_with-same r.lower (open_same r.upper v i) r.kept i

  pub resolve_excluded-same : (l : List Val) (r : Range Val) → resolve_excluded S l r ≡ resolve_excluded S' l r
  resolve_excluded-same [] r = refl
  resolve_excluded-same (v ∷ l) r =
      λ i. resolve_excluded-same l (cond r.crossed r (resolve_by-same (classify-same r.lower r.upper v i) v r i)) i

  pub with_excluded-same : (q : ColumnConstraints Val) → with_excluded S q ≡ with_excluded S' q
  with_excluded-same q =
      let start : Range Val = record { lower = q.lower; upper = q.upper; kept = []; crossed = false } in
      λ i. let r = resolve_excluded-same q.excluded start i in
      column r.lower r.upper r.kept q.allowed q.disallowed q.strict q.nullability
      (q.unsat || (null_conflict q || r.crossed))

  pub is_allowed-same : (o : Option (List Val)) (v : Val) → is_allowed S o (S.key v) ≡ is_allowed S' o (S'.key v)
  is_allowed-same none v = refl
  is_allowed-same (some l) v = contains-same v l

  pub feasible_same : (q : ColumnConstraints Val) (v : Val) → is_feasible S q (S.key v) ≡ is_feasible S' q (S'.key v)
  feasible_same q v =
      λ i. (clears-same E q.lower v i
      && (clears-same (opposites E) q.upper v i && not (contains-same v q.excluded i)))
      && (is_allowed-same q.allowed v i && not (contains-same v q.disallowed i))

  pub any_feasible-same : (q : ColumnConstraints Val) (l : List Val) → any_feasible S q l ≡ any_feasible S' q l
  any_feasible-same q [] = refl
  any_feasible-same q (v ∷ l) = λ i. feasible_same q v i || any_feasible-same q l i

  pub allowed_feasible-same : (q : ColumnConstraints Val) (o : Option (List Val)) →
      allowed_feasible S q o ≡ allowed_feasible S' q o
  allowed_feasible-same q none = refl
  allowed_feasible-same q (some l) = any_feasible-same q l

  pub fixed_at-same : (l u : Bound Val) → fixed_at S l u ≡ fixed_at S' l u
  fixed_at-same absent u = refl
  fixed_at-same (at false v) u = refl
  fixed_at-same (at true v) absent = refl
  fixed_at-same (at true v) (at d w) = λ i. cond (d && is_equal (E.compares v w i)) (some v) none

  pub fixed_value-same : (q : ColumnConstraints Val) → fixed_value S q ≡ fixed_value S' q
  fixed_value-same q = fixed_at-same q.lower q.upper

  pub fixed_disallowed-same : (q : ColumnConstraints Val) (o : Option Val) →
      fixed_disallowed S q o ≡ fixed_disallowed S' q o
  fixed_disallowed-same q none = refl
  fixed_disallowed-same q (some v) = contains-same v q.disallowed

  pub with_lists-same : (q : ColumnConstraints Val) → with_lists S q ≡ with_lists S' q
  with_lists-same q =
      λ i. set_unsat (q.unsat || (not (allowed_feasible-same q q.allowed i)
      || fixed_disallowed-same q (fixed_value-same q i) i)) q

  pub resolve_deferred-same : (q : ColumnConstraints Val) → resolve_deferred S q ≡ resolve_deferred S' q
  resolve_deferred-same q = λ i. with_lists-same (with_excluded-same q i) i

  -- ---- what a column is written out as
  pub collect-same : (q : ColumnConstraints Val) → collect_column_comparisons S q ≡ collect_column_comparisons S' q
  collect-same q = λ i. collect_by (fixed_value-same q i) q
