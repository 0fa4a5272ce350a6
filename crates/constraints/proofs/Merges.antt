-- Merging one column's constraints into another's.
use mathlib.Core.Path.{◌≡◌, refl, sym, ◌∙◌, subst}
use mathlib.Core.Bool.{Bool, true, false, not, ◌&&◌, ◌||◌, and-true, and_assoc, true≢false, or-false}
use mathlib.Core.List.{List, [], ◌∷◌, ◌++◌, map}
use mathlib.Core.Option.{Option, none, some}
use Rattle.records.proofs.Laws.{and_left}
use Rattle.truth.specs.Order.{is_equal}
use Rattle.constraints.proofs.Bounds.{tighten-changes_nothing, tightens_from}
use Rattle.constraints.proofs.Columns.{add-live, add-put, add_all-emitted, add_all-is_intersection, add_all-live}
use Rattle.constraints.proofs.Columns.{add_all-recorded, admits, admits_emitted, admits_recorded, not-or}
use Rattle.constraints.proofs.Columns.{obeys_all, obeys_emitted, obeys_emitted_all, obeys_recorded}
use Rattle.constraints.proofs.Columns.{obeys_recorded_all, swap_mid}
use Rattle.constraints.proofs.Sets.{extend-subset, retain-subset}
use Rattle.constraints.specs.Bound.{Bound, absent, at, clears, of_bound}
use Rattle.constraints.specs.Column.{Allow, ColumnConstraints, Constraint, Disallow, Exclude, Lower, Require}
use Rattle.constraints.specs.Column.{Upper, add, add_all, allowed_changes, allowed_of, changes, changes_all}
use Rattle.constraints.specs.Column.{common, emitted, merge_any, merge_from, put}
use Rattle.constraints.specs.Column.{recorded}
use Rattle.constraints.specs.Resolve.{is_allowed}
use Rattle.constraints.specs.Scalars.{Scalars, opposite}
use Rattle.constraints.specs.Values.{contains, subset}

pub or_no : (a b : Bool) → (a || b) ≡ false → (a ≡ false) × (b ≡ false)
or_no true b e = absurd (true≢false e)
or_no false b e = (refl, e)

pub not-no : (b : Bool) → not b ≡ false → b ≡ true
not-no true e = refl
not-no false e = absurd (true≢false e)

module _ {K Val : Type 0} (S : Scalars K Val) where
  -- what changes nothing leaves the column as it is
  still-common : (o : Option (List Val)) (l : List Val) → allowed_changes S o l ≡ false → some (common S o l) ≡ o
  still-common none l e = absurd (true≢false e)
  still-common (some m) l e = rw (retain-subset S l m (not-no (subset S m l) e))

  put-changes_nothing : (a : Constraint Val) (q : ColumnConstraints Val) → q.unsat ≡ false → (put S a q).unsat ≡
      false → changes S a q ≡ false → put S a q ≡ q
  put-changes_nothing (Lower c v) q s f e =
      λ i. record {
        lower = tighten-changes_nothing S q.lower c v e i;
        upper = q.upper;
        excluded =
            q.excluded;
        allowed = q.allowed;
        disallowed = q.disallowed;
        strict = q.strict;
        nullability =
            q.nullability;
        unsat = (f ∙ sym s) i;
      }
  put-changes_nothing (Upper c v) q s f e =
      λ i. record {
        lower = q.lower;
        upper = tighten-changes_nothing (opposite S) q.upper c v e i;
        excluded =
            q.excluded;
        allowed = q.allowed;
        disallowed = q.disallowed;
        strict = q.strict;
        nullability =
            q.nullability;
        unsat = (f ∙ sym s) i;
      }
  put-changes_nothing (Exclude v) q s f e = rw (not-no (contains S (S.key v) q.excluded) e)
  put-changes_nothing (Allow l) q s f e = rw (still-common q.allowed l e)
  put-changes_nothing (Disallow true l) q s f e = absurd (true≢false e)
  put-changes_nothing (Disallow false l) q s f e =
      rw (extend-subset S q.disallowed l (not-no (subset S l q.disallowed) e), or-false)
  put-changes_nothing (Require n) q s f e = absurd (true≢false e)

  -- none of the additions changes the column
  abbrev pub Quiet : List (Constraint Val) → ColumnConstraints Val → Type 0
  Quiet [] q = Unit {0}
  Quiet (a ∷ l) q = (changes S a q ≡ false) × Quiet l q

  pub add_all-changes_nothing : (l : List (Constraint Val)) (q : ColumnConstraints Val) → changes_all S l q ≡ false →
      (add_all S l q).unsat ≡ false → (add_all S l q ≡ q) × Quiet l q
  add_all-changes_nothing [] q e f = (refl, tt)
  add_all-changes_nothing (a ∷ l) q e f =
      let s : q.unsat ≡ false = add-live S a q (add_all-live S l (add S a q) f) in
      let t = add-put S a q (add_all-live S l (add S a q) f) in
      let n = or_no (not q.unsat && changes S a q) (changes_all S l (add S a q)) e in
      let c : changes S a q ≡ false = subst (λ b. (not b && changes S a q) ≡ false) s n.0 in
      let p : add S a q ≡ q = t.0 ∙ put-changes_nothing a q s t.1 c in
      let r = add_all-changes_nothing l (add S a q) n.1 f in
      (r.0 ∙ p, (c, subst (Quiet l) p r.1))

  -- the first column has all that the second says
  pub record Implies (q r : ColumnConstraints Val) : Type 0 where
    pub lo : tightens_from S q.lower r.lower ≡ false
    pub hi : tightens_from (opposite S) q.upper r.upper ≡ false
    pub ex : subset S r.excluded q.excluded ≡ true
    pub al : Quiet (allowed_of r.allowed) q
    pub di : subset S r.disallowed q.disallowed ≡ true

  pub merge_live : (q r : ColumnConstraints Val) → (merge_from S q r).unsat ≡ false → q.unsat ≡ false
  merge_live q r f = add_all-live S (emitted r) q (add_all-live S (recorded r) (add_all S (emitted r) q) f)

  quiet-split : (l m : List (Constraint Val)) (q : ColumnConstraints Val) → Quiet (l ++ m) q → Quiet l q × Quiet m q
  quiet-split [] m q h = (tt, h)
  quiet-split (a ∷ l) m q h = let r = quiet-split l m q h.1 in ((h.0, r.0), r.1)

  quiet-lo : (b : Bound Val) (q : ColumnConstraints Val) → Quiet (of_bound Lower b) q → tightens_from S q.lower b ≡
      false
  quiet-lo absent q h = refl
  quiet-lo (at c v) q h = h.0

  quiet-hi : (b : Bound Val) (q : ColumnConstraints Val) → Quiet (of_bound Upper b) q →
      tightens_from (opposite S) q.upper
      b ≡ false
  quiet-hi absent q h = refl
  quiet-hi (at c v) q h = h.0

  quiet-ex : (l : List Val) (q : ColumnConstraints Val) → Quiet (map Exclude l) q → subset S l q.excluded ≡ true
  quiet-ex [] q h = refl
  quiet-ex (v ∷ l) q h = rw (not-no (contains S (S.key v) q.excluded) h.0) (quiet-ex l q h.1)

  -- a merge that reports no change made none, and there was nothing to add
  pub merge_changes_nothing : (q r : ColumnConstraints Val) → merge_any S q r ≡ false → (merge_from S q r).unsat ≡
      false → (merge_from S q r ≡ q) × Implies q r
  merge_changes_nothing q r e f =
      let n = or_no (changes_all S (emitted r) q) (changes_all S (recorded r) (add_all S (emitted r) q)) e in
      let g = add_all-live S (recorded r) (add_all S (emitted r) q) f in
      let a = add_all-changes_nothing (emitted r) q n.0 g in
      let b = add_all-changes_nothing (recorded r) (add_all S (emitted r) q) n.1 f in
      let o = quiet-split (of_bound Lower r.lower) (of_bound Upper r.upper ++ map Exclude r.excluded) q a.1 in
      let u = quiet-split (of_bound Upper r.upper) (map Exclude r.excluded) q o.1 in
      let m = quiet-split (allowed_of r.allowed) (Disallow false r.disallowed ∷ []) q
      (subst (Quiet (recorded r)) a.0 b.1) in (
        b.0 ∙ a.0,
        record {
          lo = quiet-lo r.lower q o.0;
          hi = quiet-hi r.upper q u.0;
          ex =
              quiet-ex r.excluded q u.1;
          al = m.0;
          di = not-no (subset S r.disallowed q.disallowed) m.1.0;
        },
      )

  -- ---- what a merge says of a value
  emitted-append : (l m : List (Constraint Val)) (x : Option K) → obeys_emitted_all S (l ++ m) x ≡
      (obeys_emitted_all S l x && obeys_emitted_all S m x)
  emitted-append [] m x = refl
  emitted-append (a ∷ l) m x = rw (emitted-append l m x)
      (sym (and_assoc (obeys_emitted S a x) (obeys_emitted_all S l x) (obeys_emitted_all S m x)))

  recorded-append : (l m : List (Constraint Val)) (x : Option K) → obeys_recorded_all S (l ++ m) x ≡
      (obeys_recorded_all S l x && obeys_recorded_all S m x)
  recorded-append [] m x = refl
  recorded-append (a ∷ l) m x = rw (recorded-append l m x)
      (sym (and_assoc (obeys_recorded S a x) (obeys_recorded_all S l x) (obeys_recorded_all S m x)))

  pub obeys_all_lem : (l : List (Constraint Val)) (x : Option K) → obeys_all S l x ≡
      (obeys_emitted_all S l x && obeys_recorded_all S l x)
  obeys_all_lem [] x = refl
  obeys_all_lem (a ∷ l) x = rw (obeys_all_lem l x)
      (swap_mid (obeys_emitted S a x) (obeys_recorded S a x) (obeys_emitted_all S l x) (obeys_recorded_all S l x))

  lower-at : (b : Bound Val) (k : K) → obeys_emitted_all S (of_bound Lower b) (some k) ≡ clears S b k
  lower-at absent k = refl
  lower-at (at c v) k = and-true (clears S (at c v) k)

  upper-at : (b : Bound Val) (k : K) → obeys_emitted_all S (of_bound Upper b) (some k) ≡ clears (opposite S) b k
  upper-at absent k = refl
  upper-at (at c v) k = and-true (clears (opposite S) (at c v) k)

  excluded-at : (l : List Val) (k : K) → obeys_emitted_all S (map Exclude l) (some k) ≡ not (contains S k l)
  excluded-at [] k = refl
  excluded-at (v ∷ l) k = rw (excluded-at l k) (sym (not-or (is_equal (S.order.cmp k (S.key v))) (contains S k l)))

  pub emitted-at : (r : ColumnConstraints Val) (k : K) → obeys_emitted_all S (emitted r) (some k) ≡
      admits_emitted S r (some k)
  emitted-at r k = rw (
    emitted-append (of_bound Lower r.lower) (of_bound Upper r.upper ++ map Exclude r.excluded) (some k),
    emitted-append (of_bound Upper r.upper) (map Exclude r.excluded) (some k),
    lower-at r.lower k,
    upper-at r.upper k,
    excluded-at r.excluded k,
  )

  lower-recorded : (b : Bound Val) (x : Option K) → obeys_recorded_all S (of_bound Lower b) x ≡ true
  lower-recorded absent x = refl
  lower-recorded (at c v) x = refl

  upper-recorded : (b : Bound Val) (x : Option K) → obeys_recorded_all S (of_bound Upper b) x ≡ true
  upper-recorded absent x = refl
  upper-recorded (at c v) x = refl

  excluded-recorded : (l : List Val) (x : Option K) → obeys_recorded_all S (map Exclude l) x ≡ true
  excluded-recorded [] x = refl
  excluded-recorded (v ∷ l) x = excluded-recorded l x

  emitted-recorded : (r : ColumnConstraints Val) (x : Option K) → obeys_recorded_all S (emitted r) x ≡ true
  emitted-recorded r x = rw (
    recorded-append (of_bound Lower r.lower) (of_bound Upper r.upper ++ map Exclude r.excluded) x,
    recorded-append (of_bound Upper r.upper) (map Exclude r.excluded) x,
    lower-recorded r.lower x,
    upper-recorded r.upper x,
    excluded-recorded r.excluded x,
  )

  allowed_at : (o : Option (List Val)) (k : K) → obeys_recorded_all S (allowed_of o) (some k) ≡ is_allowed S o k
  allowed_at none k = refl
  allowed_at (some l) k = and-true (contains S k l)

  allowed-emitted : (o : Option (List Val)) (x : Option K) → obeys_emitted_all S (allowed_of o) x ≡ true
  allowed-emitted none x = refl
  allowed-emitted (some l) x = refl

  recorded-emitted : (r : ColumnConstraints Val) (x : Option K) → obeys_emitted_all S (recorded r) x ≡ true
  recorded-emitted r x = rw (
    emitted-append (allowed_of r.allowed) (Disallow false r.disallowed ∷ []) x,
    allowed-emitted r.allowed x,
  )

  recorded-at : (r : ColumnConstraints Val) (k : K) → obeys_recorded_all S (recorded r) (some k) ≡
      (is_allowed S r.allowed k && not (contains S k r.disallowed))
  recorded-at r k = rw (
    recorded-append (allowed_of r.allowed) (Disallow false r.disallowed ∷ []) (some k),
    allowed_at r.allowed k,
    and-true,
  )

  -- at a value that both take, so does the merged one
  pub merge_is_intersection : (q r : ColumnConstraints Val) (k : K) → admits S (merge_from S q r) (some k) ≡
      (admits S q (some k) && (admits_emitted S r (some k) &&
      (is_allowed S r.allowed k && not (contains S k r.disallowed))))
  merge_is_intersection q r k = rw (
    add_all-is_intersection S (recorded r) (add_all S (emitted r) q) (some k),
    add_all-is_intersection S (emitted r) q (some k),
    obeys_all_lem (recorded r) (some k),
    obeys_all_lem (emitted r)
        (some k),
    recorded-emitted r (some k),
    recorded-at r k,
    emitted-recorded r (some k),
    emitted-at r k,
    and-true,
  )
      (and_assoc (admits S q (some k)) (admits_emitted S r (some k))
      (is_allowed S r.allowed k && not (contains S k r.disallowed)))

  -- what a merged column shows or minds, the column before showed or minded
  pub merge_emitted_lem : (q r : ColumnConstraints Val) (x : Option K) → (merge_from S q r).unsat ≡ false →
      admits_emitted S (merge_from S q r) x ≡ true → admits_emitted S q x ≡ true
  merge_emitted_lem q r x f e =
      let p = add_all-emitted S (recorded r) (add_all S (emitted r) q) x f in
      let p' = add_all-emitted S (emitted r) q x (add_all-live S (recorded r) (add_all S (emitted r) q) f) in
      and_left (admits_emitted S q x) (obeys_emitted_all S (emitted r) x)
      (sym p' ∙ and_left (admits_emitted S (add_all S (emitted r) q) x) (obeys_emitted_all S (recorded r) x) (sym p ∙ e))

  pub merge_recorded : (q r : ColumnConstraints Val) (x : Option K) → (merge_from S q r).unsat ≡ false →
      admits_recorded S (merge_from S q r) x ≡ true → admits_recorded S q x ≡ true
  merge_recorded q r x f e =
      let p = add_all-recorded S (recorded r) (add_all S (emitted r) q) x f in
      let p' = add_all-recorded S (emitted r) q x (add_all-live S (recorded r) (add_all S (emitted r) q) f) in
      and_left (admits_recorded S q x) (obeys_recorded_all S (emitted r) x)
      (sym p' ∙ and_left (admits_recorded S (add_all S (emitted r) q) x) (obeys_recorded_all S (recorded r) x) (sym p ∙ e))
