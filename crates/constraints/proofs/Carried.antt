-- Values taken to others of the same keys: every method commutes with it.
use mathlib.Core.Path.{◌≡◌, refl, sym, ◌∙◌, ap}
use mathlib.Core.Bool.{Bool, true, false, not, ◌&&◌, ◌||◌, cond}
use mathlib.Core.List.{List, [], ◌∷◌, ◌++◌, map, map-append}
use mathlib.Core.Option.{Option, none, some}
use Rattle.truth.specs.Order.{is_equal}
use Rattle.std.specs.declared.cmp.Ordering.{Ordering}
use Rattle.std.specs.declared.cmp.Ordering.TheVariants.{Less, Equal, Greater}
use Rattle.constraints.specs.declared.column.ExcludedResolution.{ExcludedResolution}
use Rattle.constraints.specs.declared.column.ExcludedResolution.TheVariants.{Drop, Keep, TightenLower}
use Rattle.constraints.specs.declared.column.ExcludedResolution.TheVariants.{TightenUpper}
use Rattle.constraints.specs.Scalars.{Scalars, opposite, scalar_cmp}
use Rattle.constraints.specs.Bound.{Bound, absent, at, is_absent, of_bound, is_change, Tightened, tightened, tighten_by}
use Rattle.constraints.specs.Bound.{tighten, crosses, clears}
use Rattle.constraints.specs.Values.{is_empty, contains, insert, extend, retain, subset}
use Rattle.constraints.specs.Column.{ColumnConstraints, Constraint, Lower, Upper, Exclude, Allow, Disallow, Require}
use Rattle.constraints.specs.Column.{is_none, set_lower, set_upper, common}
use Rattle.constraints.specs.Column.{put, add, add_all, allowed_changes, changes, changes_all, allowed_of, emitted}
use Rattle.constraints.specs.Column.{recorded, merge_from, merge_emitted, merge_any}
use Rattle.constraints.specs.Resolve.{has_value_constraint, Range, classify_at, open_at}
use Rattle.constraints.specs.Resolve.{resolve_by, resolve_excluded, with_excluded, is_allowed, is_feasible, any_feasible}
use Rattle.constraints.specs.Resolve.{allowed_feasible, fixed_at, fixed_value, fixed_disallowed, with_lists}
use Rattle.constraints.specs.Resolve.{resolve_deferred}
use Rattle.constraints.specs.Comparisons.{IsLower, IsUpper, IsNotEq, collect_by}
use Rattle.constraints.specs.Comparisons.{collect_column_comparisons}
use Rattle.constraints.specs.Payload.{payload}
use Rattle.constraints.specs.Lined.{Lined, opened_lined, lined}
use Rattle.constraints.specs.Mapped.{map_bound, map_allowed, map_column, map_constraint, map_comparison}

-- What opens a bound is taken to what opens it there.
pub record Carries {K A B : Type 0} (S : Scalars K B) (f : A → B) : Type 0 where
  pub opened : A → A → A
  pub opened-key : (held excluded : A) → S.key (f (opened held excluded)) ≡ S.key (f excluded)
  pub opens : (held excluded : A) → f (opened held excluded) ≡ S.opened (f held) (f excluded)

-- Values by the keys of those they are taken to.
abbrev pub along : {K A B : Type 0} {S : Scalars K B} {f : A → B} → Carries S f → Scalars K A
along {S = S} {f = f} C =
    record {
      key = λ a. S.key (f a);
      order = S.order;
      total = S.total;
      opened = C.opened;
      opened-key = C.opened-key;
    }

abbrev pub backwards : {K A B : Type 0} {S : Scalars K B} {f : A → B} → Carries S f → Carries (opposite S) f
backwards C = record { opened = C.opened; opened-key = C.opened-key; opens = C.opens }

module _ {K A B : Type 0} (S : Scalars K B) (f : A → B) (C : Carries S f) where
  -- ---- lists of values
  pub contains-carried : (k : K) (l : List A) → contains S k (map f l) ≡ contains (along C) k l
  contains-carried k [] = refl
  contains-carried k (v ∷ l) = ap (λ b. is_equal (S.order.cmp k (S.key (f v))) || b) (contains-carried k l)

  pub insert-carried : (v : A) (l : List A) → insert S (f v) (map f l) ≡ map f (insert (along C) v l)
  insert-carried v l = rw (contains-carried (S.key (f v)) l) (go (contains (along C) (S.key (f v)) l))
    where
      go : (b : Bool) → cond b (map f l) (map f l ++ (f v ∷ [])) ≡ map f (cond b l (l ++ (v ∷ [])))
      go true = refl
      go false = sym (map-append f l (v ∷ []))

  pub extend-carried : (l m : List A) → extend S (map f l) (map f m) ≡ map f (extend (along C) l m)
  extend-carried l [] = refl
  extend-carried l (v ∷ m) =
      ap (λ x. extend S x (map f m)) (insert-carried v l) ∙ extend-carried (insert (along C) v l) m

  pub retain-carried : (m l : List A) → retain S (map f m) (map f l) ≡ map f (retain (along C) m l)
  retain-carried m [] = refl
  retain-carried m (v ∷ l) =
      rw (contains-carried (S.key (f v)) m, retain-carried m l) (go (contains (along C) (S.key (f v)) m))
    where
      r : List A
      r = retain (along C) m l

      go : (b : Bool) → cond b (f v ∷ map f r) (map f r) ≡ map f (cond b (v ∷ r) r)
      go true = refl
      go false = refl

  pub subset-carried : (l m : List A) → subset S (map f l) (map f m) ≡ subset (along C) l m
  subset-carried [] m = refl
  subset-carried (v ∷ l) m = rw (contains-carried (S.key (f v)) m, subset-carried l m)

  pub empty-carried : (l : List A) → is_empty (map f l) ≡ is_empty l
  empty-carried [] = refl
  empty-carried (v ∷ l) = refl

  pub common-carried : (o : Option (List A)) (l : List A) →
      common S (map_allowed f o) (map f l) ≡ map f (common (along C) o l)
  common-carried none l = refl
  common-carried (some held) l = retain-carried l held

  -- ---- bounds
  abbrev pub map_tightened : Tightened A → Tightened B
  map_tightened x = tightened (map_bound f x.bound) x.change

  pub tighten-carried : (b : Bound A) (c : Bool) (v : A) →
      tighten S (map_bound f b) c (f v) ≡ map_tightened (tighten (along C) b c v)
  tighten-carried absent c v = refl
  tighten-carried (at d w) c v = go (scalar_cmp S (f v) (f w))
    where
      go : (o : Ordering) → tighten_by o d (f w) c (f v) ≡ map_tightened (tighten_by o d w c v)
      go Less = refl
      go Equal = refl
      go Greater = refl

  pub crosses-carried : (l u : Bound A) → crosses S (map_bound f l) (map_bound f u) ≡ crosses (along C) l u
  crosses-carried absent u = refl
  crosses-carried (at c v) absent = refl
  crosses-carried (at c v) (at d w) = refl

  pub clears-carried : (b : Bound A) (k : K) → clears S (map_bound f b) k ≡ clears (along C) b k
  clears-carried absent k = refl
  clears-carried (at c v) k = refl

module _ {K A B : Type 0} (S : Scalars K B) (f : A → B) (C : Carries S f) where
  -- ---- a column takes constraints in
  pub put-carried : (a : Constraint A) (q : ColumnConstraints A) →
      put S (map_constraint f a) (map_column f q) ≡ map_column f (put (along C) a q)
  put-carried (Lower c v) q =
      rw (
        ap (λ x. x.bound) (tighten-carried S f C q.lower c v),
        crosses-carried S f C (tighten (along C) q.lower c v).bound q.upper,
      )
  put-carried (Upper c v) q =
      rw (
        ap (λ x. x.bound) (tighten-carried (opposite S) f (backwards C) q.upper c v),
        crosses-carried S f C q.lower (tighten (opposite (along C)) q.upper c v).bound,
      )
  put-carried (Exclude v) q = rw (insert-carried S f C v q.excluded)
  put-carried (Allow l) q = rw (common-carried S f C q.allowed l)
  put-carried (Disallow c l) q = rw (extend-carried S f C q.disallowed l, empty-carried S f C l)
  put-carried (Require n) q = refl

  pub add-carried : (a : Constraint A) (q : ColumnConstraints A) →
      add S (map_constraint f a) (map_column f q) ≡ map_column f (add (along C) a q)
  add-carried a q = go q.unsat
    where
      go : (b : Bool) → cond b (map_column f q) (put S (map_constraint f a) (map_column f q)) ≡
          map_column f (cond b q (put (along C) a q))
      go true = refl
      go false = put-carried a q

  pub add_all-carried : (l : List (Constraint A)) (q : ColumnConstraints A) →
      add_all S (map (map_constraint f) l) (map_column f q) ≡ map_column f (add_all (along C) l q)
  add_all-carried [] q = refl
  add_all-carried (a ∷ l) q =
      ap (add_all S (map (map_constraint f) l)) (add-carried a q) ∙ add_all-carried l (add (along C) a q)

  -- ---- whether it changed
  pub allowed_changes-carried : (o : Option (List A)) (l : List A) →
      allowed_changes S (map_allowed f o) (map f l) ≡ allowed_changes (along C) o l
  allowed_changes-carried none l = refl
  allowed_changes-carried (some held) l = ap not (subset-carried S f C held l)

  pub changes-carried : (a : Constraint A) (q : ColumnConstraints A) →
      changes S (map_constraint f a) (map_column f q) ≡ changes (along C) a q
  changes-carried (Lower c v) q = ap (λ x. is_change x.change) (tighten-carried S f C q.lower c v)
  changes-carried (Upper c v) q =
      ap (λ x. is_change x.change) (tighten-carried (opposite S) f (backwards C) q.upper c v)
  changes-carried (Exclude v) q = ap not (contains-carried S f C (S.key (f v)) q.excluded)
  changes-carried (Allow l) q = allowed_changes-carried q.allowed l
  changes-carried (Disallow true l) q = refl
  changes-carried (Disallow false l) q = ap not (subset-carried S f C l q.disallowed)
  changes-carried (Require n) q = refl

  pub changes_all-carried : (l : List (Constraint A)) (q : ColumnConstraints A) →
      changes_all S (map (map_constraint f) l) (map_column f q) ≡ changes_all (along C) l q
  changes_all-carried [] q = refl
  changes_all-carried (a ∷ l) q =
      rw (changes-carried a q, add-carried a q, changes_all-carried l (add (along C) a q))

  -- ---- one column into another
  pub emitted-carried : (q : ColumnConstraints A) → emitted (map_column f q) ≡ map (map_constraint f) (emitted q)
  emitted-carried q = go q.lower q.upper
    where
      excludes : (l : List A) → map Exclude (map f l) ≡ map (map_constraint f) (map Exclude l)
      excludes [] = refl
      excludes (v ∷ l) = ap (λ x. Exclude (f v) ∷ x) (excludes l)

      go : (l u : Bound A) → of_bound Lower (map_bound f l) ++
          (of_bound Upper (map_bound f u) ++ map Exclude (map f q.excluded)) ≡
          map (map_constraint f) (of_bound Lower l ++ (of_bound Upper u ++ map Exclude q.excluded))
      go absent absent = excludes q.excluded
      go absent (at d w) = ap (λ x. Upper d (f w) ∷ x) (excludes q.excluded)
      go (at c v) absent = ap (λ x. Lower c (f v) ∷ x) (excludes q.excluded)
      go (at c v) (at d w) = ap (λ x. Lower c (f v) ∷ (Upper d (f w) ∷ x)) (excludes q.excluded)

  pub recorded-carried : (q : ColumnConstraints A) → recorded (map_column f q) ≡ map (map_constraint f) (recorded q)
  recorded-carried q = go q.allowed
    where
      go : (o : Option (List A)) → allowed_of (map_allowed f o) ++ (Disallow false (map f q.disallowed) ∷ []) ≡
          map (map_constraint f) (allowed_of o ++ (Disallow false q.disallowed ∷ []))
      go none = refl
      go (some l) = refl

  pub merge_from-carried : (q r : ColumnConstraints A) →
      merge_from S (map_column f q) (map_column f r) ≡ map_column f (merge_from (along C) q r)
  merge_from-carried q r =
      rw (emitted-carried r, recorded-carried r, add_all-carried (emitted r) q)
      (add_all-carried (recorded r) (add_all (along C) (emitted r) q))

  pub merge_emitted-carried : (q r : ColumnConstraints A) →
      merge_emitted S (map_column f q) (map_column f r) ≡ merge_emitted (along C) q r
  merge_emitted-carried q r = rw (emitted-carried r) (changes_all-carried (emitted r) q)

  pub merge_any-carried : (q r : ColumnConstraints A) →
      merge_any S (map_column f q) (map_column f r) ≡ merge_any (along C) q r
  merge_any-carried q r =
      rw (
        emitted-carried r,
        recorded-carried r,
        add_all-carried (emitted r) q,
        changes_all-carried (emitted r) q,
        changes_all-carried (recorded r) (add_all (along C) (emitted r) q),
      )

module _ {K A B : Type 0} (S : Scalars K B) (f : A → B) (C : Carries S f) where
  -- ---- resolving
  abbrev pub map_range : Range A → Range B
  map_range r =
      record {
        lower = map_bound f r.lower;
        upper = map_bound f r.upper;
        kept = map f r.kept;
        crossed = r.crossed;
      }

  pub classify-carried : (l u : Bound A) (v : A) →
      classify_at S (map_bound f l) (map_bound f u) (f v) ≡ classify_at (along C) l u v
  classify-carried absent absent v = refl
  classify-carried absent (at d w) v = refl
  classify-carried (at c w) absent v = refl
  classify-carried (at c w) (at d x) v = refl

  pub open_carried : (b : Bound A) (v : A) → open_at S (map_bound f b) (f v) ≡ map_bound f (open_at (along C) b v)
  open_carried absent v = refl
  open_carried (at c w) v = ap (at false) (sym (C.opens w v))

  pub resolve_by-carried : (o : ExcludedResolution) (v : A) (r : Range A) →
      resolve_by S o (f v) (map_range r) ≡ map_range (resolve_by (along C) o v r)
  resolve_by-carried Drop v r = rw (crosses-carried S f C r.lower r.upper)
  resolve_by-carried Keep v r = rw (crosses-carried S f C r.lower r.upper, insert-carried S f C v r.kept)
  resolve_by-carried TightenLower v r =
      rw (open_carried r.lower v, crosses-carried S f C (open_at (along C) r.lower v) r.upper)
  resolve_by-carried TightenUpper v r =
      rw (open_carried r.upper v, crosses-carried S f C r.lower (open_at (along C) r.upper v))

  pub resolve_excluded-carried : (l : List A) (r : Range A) →
      resolve_excluded S (map f l) (map_range r) ≡ map_range (resolve_excluded (along C) l r)
  resolve_excluded-carried [] r = refl
  resolve_excluded-carried (v ∷ l) r = ap (resolve_excluded S (map f l)) (go r.crossed) ∙ resolve_excluded-carried l
      (cond r.crossed r (resolve_by (along C) (classify_at (along C) r.lower r.upper v) v r))
    where
      go : (b : Bool) → cond b (map_range r)
          (resolve_by S (classify_at S (map_bound f r.lower) (map_bound f r.upper) (f v)) (f v) (map_range r)) ≡
          map_range (cond b r (resolve_by (along C) (classify_at (along C) r.lower r.upper v) v r))
      go true = refl
      go false = rw (classify-carried r.lower r.upper v)
          (resolve_by-carried (classify_at (along C) r.lower r.upper v) v r)

  pub value_constraint_carried : (q : ColumnConstraints A) → has_value_constraint (map_column f q) ≡ has_value_constraint q
  value_constraint_carried q =
      rw (bound q.lower, bound q.upper, empty-carried S f C q.excluded, list q.allowed)
    where
      bound : (b : Bound A) → is_absent (map_bound f b) ≡ is_absent b
      bound absent = refl
      bound (at c v) = refl

      list : (o : Option (List A)) → is_none (map_allowed f o) ≡ is_none o
      list none = refl
      list (some l) = refl

  pub with_excluded-carried : (q : ColumnConstraints A) →
      with_excluded S (map_column f q) ≡ map_column f (with_excluded (along C) q)
  with_excluded-carried q =
      let start : Range A = record { lower = q.lower; upper = q.upper; kept = []; crossed = false } in
      rw (value_constraint_carried q, resolve_excluded-carried q.excluded start)

  pub feasible_carried : (q : ColumnConstraints A) (k : K) → is_feasible S (map_column f q) k ≡ is_feasible (along C) q k
  feasible_carried q k =
      rw (
        clears-carried S f C q.lower k,
        clears-carried (opposite S) f (backwards C) q.upper k,
        contains-carried S f C k q.excluded,
        contains-carried S f C k q.disallowed,
        list q.allowed,
      )
    where
      list : (o : Option (List A)) → is_allowed S (map_allowed f o) k ≡ is_allowed (along C) o k
      list none = refl
      list (some l) = contains-carried S f C k l

  pub any_feasible-carried : (q : ColumnConstraints A) (l : List A) →
      any_feasible S (map_column f q) (map f l) ≡ any_feasible (along C) q l
  any_feasible-carried q [] = refl
  any_feasible-carried q (v ∷ l) = rw (feasible_carried q (S.key (f v)), any_feasible-carried q l)

  pub allowed_feasible-carried : (q : ColumnConstraints A) (o : Option (List A)) →
      allowed_feasible S (map_column f q) (map_allowed f o) ≡ allowed_feasible (along C) q o
  allowed_feasible-carried q none = refl
  allowed_feasible-carried q (some l) = any_feasible-carried q l

  abbrev pub map_value : Option A → Option B
  map_value none = none
  map_value (some v) = some (f v)

  pub fixed_at-carried : (l u : Bound A) → fixed_at S (map_bound f l) (map_bound f u) ≡ map_value (fixed_at (along C) l u)
  fixed_at-carried absent u = refl
  fixed_at-carried (at false v) u = refl
  fixed_at-carried (at true v) absent = refl
  fixed_at-carried (at true v) (at d w) = go (d && is_equal (scalar_cmp S (f v) (f w)))
    where
      go : (b : Bool) → cond b (some (f v)) none ≡ map_value (cond b (some v) none)
      go true = refl
      go false = refl

  pub fixed_value-carried : (q : ColumnConstraints A) →
      fixed_value S (map_column f q) ≡ map_value (fixed_value (along C) q)
  fixed_value-carried q = fixed_at-carried q.lower q.upper

  pub fixed_disallowed-carried : (q : ColumnConstraints A) (o : Option A) →
      fixed_disallowed S (map_column f q) (map_value o) ≡ fixed_disallowed (along C) q o
  fixed_disallowed-carried q none = refl
  fixed_disallowed-carried q (some v) = contains-carried S f C (S.key (f v)) q.disallowed

  pub with_lists-carried : (q : ColumnConstraints A) → with_lists S (map_column f q) ≡ map_column f (with_lists (along C) q)
  with_lists-carried q =
      rw (allowed_feasible-carried q q.allowed, fixed_value-carried q, fixed_disallowed-carried q (fixed_value (along C) q))

  pub resolve_deferred-carried : (q : ColumnConstraints A) →
      resolve_deferred S (map_column f q) ≡ map_column f (resolve_deferred (along C) q)
  resolve_deferred-carried q = ap (with_lists S) (with_excluded-carried q) ∙ with_lists-carried (with_excluded (along C) q)

  -- ---- what a column is written out as
  pub collect-carried : (q : ColumnConstraints A) → collect_column_comparisons S (map_column f q) ≡
      map (map_comparison f) (collect_column_comparisons (along C) q)
  collect-carried q = rw (fixed_value-carried q) (go (fixed_value (along C) q) q.lower q.upper)
    where
      excludes : (l : List A) → map IsNotEq (map f l) ≡ map (map_comparison f) (map IsNotEq l)
      excludes [] = refl
      excludes (v ∷ l) = ap (λ x. IsNotEq (f v) ∷ x) (excludes l)

      go : (o : Option A) (l u : Bound A) →
          collect_by (map_value o) (set_lower (map_bound f l) (set_upper (map_bound f u) (map_column f q))) ≡
          map (map_comparison f) (collect_by o (set_lower l (set_upper u q)))
      go (some v) l u = refl
      go none absent absent = excludes q.excluded
      go none absent (at d w) = ap (λ x. IsUpper d (f w) ∷ x) (excludes q.excluded)
      go none (at c v) absent = ap (λ x. IsLower c (f v) ∷ x) (excludes q.excluded)
      go none (at c v) (at d w) = ap (λ x. IsLower c (f v) ∷ (IsUpper d (f w) ∷ x)) (excludes q.excluded)

-- ---- values with their lines are those without
abbrev pub lines-carry : Carries payload (λ (v : Lined). v.bits)
unfolding payload
lines-carry =
    record {
      opened = opened_lined;
      opened-key = λ held excluded. refl;
      opens = λ held excluded. refl;
    }

pub lined-along : lined ≡ along lines-carry
unfolding lined payload
lined-along = refl
