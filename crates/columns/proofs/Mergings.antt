-- The numbers of one column put into another, and the definition of merging. Assumes nothing.
use Rattle.constraints.specs.Bound.{of_bound}
use mathlib.Core.Path.{◌≡◌, refl, sym, ◌∙◌, ap}
use mathlib.Core.Bool.{Bool, true, false, not, cond, ◌&&◌, ◌||◌, or-true, or-false, and-true, and_assoc, or_assoc}
use mathlib.Core.List.{List, [], ◌∷◌, ◌++◌, map}
use mathlib.Core.Option.{Option, none, some}
use Prim.Native.Nat.{ℕ, zero, suc, ◌+◌}
use native.Mathlib.Omega.{arith}
use native.Mathlib.Numerals.{add-one}
use lib.ListN.{get_or}
use borrow.Author.Tests.{ne_eqb}
use Rattle.constraints.specs.Values.{contains, insert, extend, retain, subset}
use Rattle.constraints.specs.Column as q
use Rattle.constraints.specs.Lined.{Lined, lined}
use Rattle.constraints.specs.Scalars.{opposite}
use Rattle.constraints.specs.declared.column.BoundChange.TheVariants.{NoChange}
use Rattle.column_constraints.specs.Abstraction.{Conjuncts, column_of, bound_of, gather, of_kind, values_of, excluded_by}
use Rattle.column_constraints.specs.Abstraction.{literal_at}
use Rattle.column_constraints.specs.Abstraction.{allowed_by, disallowed_by}
use Rattle.column_constraints.specs.Abstraction.{Numbered}
use Rattle.constraints.proofs.Sets.{contains-extend, contains-retain, subset-contains, extend-subset}
use Rattle.constraints.proofs.Sets.{retain-subset}
use Rattle.constraints.specs.Bound as b
use Rattle.column_constraints.specs.Steps.{Merging, changes_in, emitting, recording, take_lower, take_upper, take_mark, take_marks}
use Rattle.constraints.proofs.Columns.{swap_mid}
use Rattle.column_constraints.proofs.Pigeon.{Eq, yes, no, eq-view}

abbrev has : Lined → List Lined → Bool
has v l = contains lined (lined.key v) l

pub union_snoc : (d l : List Lined) (v : Lined) → extend lined d (l ++ (v ∷ [])) ≡ insert lined v (extend lined d l)
union_snoc d [] v = refl
union_snoc d (w ∷ l) v = union_snoc (insert lined w d) l v

pub union_ins : (d x : List Lined) (v : Lined) → extend lined d (insert lined v x) ≡ insert lined v (extend lined d x)
union_ins d x v = go (contains lined (lined.key v) x) refl
  where
    go : (b : Bool) → contains lined (lined.key v) x ≡ b → extend lined d (cond b x (x ++ (v ∷ []))) ≡
        insert lined v (extend lined d x)
    go true h = rw (contains-extend lined (lined.key v) d x, h, or-true (contains lined (lined.key v) d))
    go false h = union_snoc d x v

pub union_union : (d x l : List Lined) → extend lined d (extend lined x l) ≡ extend lined (extend lined d x) l
union_union d x [] = refl
union_union d x (v ∷ l) = union_union d (insert lined v x) l ∙ ap (λ y. extend lined y l) (union_ins d x v)

pub keep-keep : (l m x : List Lined) → retain lined (retain lined l m) x ≡ retain lined l (retain lined m x)
keep-keep l m [] = refl
keep-keep l m (v ∷ x) = rw (contains-retain lined (lined.key v) l m)
    (go (contains lined (lined.key v) m) (contains lined (lined.key v) l) refl (keep-keep l m x))
  where
    go : (a b : Bool) → contains lined (lined.key v) l ≡ b → retain lined (retain lined l m) x ≡
        retain lined l (retain lined m x) → cond (a && b) (v ∷ (retain lined (retain lined l m) x))
        (retain lined (retain lined l m) x) ≡
        retain lined l (cond a (v ∷ (retain lined m x)) (retain lined m x))
    go true true e h = rw (e, h)
    go true false e h = rw e h
    go false b e h = h

abbrev pub join : Option (List Lined) → Option (List Lined) → Option (List Lined)
join o none = o
join o (some m) = some (q.common lined o m)

pub join_more : (o p : Option (List Lined)) (l : List Lined) → join o (some (q.common lined p l)) ≡
    some (q.common lined (join o p) l)
join_more o none l = refl
join_more none (some m) l = refl
join_more (some x) (some m) l = ap some (keep-keep l m x)

-- a column with more excluded values, allowed lists, disallowed values
abbrev pub joined : q.ColumnConstraints Lined → List Lined → Option (List Lined) → List Lined → q.ColumnConstraints Lined
joined c e o d = record {
  lower = c.lower;
  upper = c.upper;
  excluded = extend lined c.excluded e;
  allowed =
      join c.allowed o;
  disallowed = extend lined c.disallowed d;
  strict = c.strict;
  nullability =
      c.nullability;
  unsat = c.unsat;
}

-- ---- what is new among values
subset-snoc : (e x : List Lined) (v : Lined) → subset lined (e ++ (v ∷ [])) x ≡ (subset lined e x && has v x)
subset-snoc [] x v = and-true (has v x)
subset-snoc (w ∷ e) x v = rw (subset-snoc e x v) (sym (and_assoc (has w x) (subset lined e x) (has v x)))

subset-retain : (x l m : List Lined) → subset lined x (retain lined l m) ≡ (subset lined x m && subset lined x l)
subset-retain [] l m = refl
subset-retain (v ∷ x) l m = rw (contains-retain lined (lined.key v) l m, subset-retain x l m)
    (swap_mid (has v m) (has v l) (subset lined x m) (subset lined x l))

subset-insert : (d x : List Lined) (v : Lined) → subset lined (insert lined v d) x ≡ (subset lined d x && has v x)
subset-insert d x v = go (has v d) refl
  where
    own : has v d ≡ true → (b : Bool) → subset lined d x ≡ b → b ≡ (b && has v x)
    own h true s = sym (subset-contains lined (lined.key v) d x s h)
    own h false s = refl

    go : (b : Bool) → has v d ≡ b → subset lined (cond b d (d ++ (v ∷ []))) x ≡ (subset lined d x && has v x)
    go true h = own h (subset lined d x) refl
    go false h = subset-snoc d x v

subset-extend : (d l x : List Lined) → subset lined (extend lined d l) x ≡ (subset lined d x && subset lined l x)
subset-extend d [] x = sym (and-true (subset lined d x))
subset-extend d (v ∷ l) x = subset-extend (insert lined v d) l x ∙
    rw (subset-insert d x v) (and_assoc (subset lined d x) (has v x) (subset lined l x))

new-excluded : (e x : List Lined) (v : Lined) → (not (subset lined e x) || not (has v (extend lined x e))) ≡
    not (subset lined (e ++ (v ∷ [])) x)
new-excluded e x v = rw (subset-snoc e x v) (go (subset lined e x) refl)
  where
    go : (b : Bool) → subset lined e x ≡ b → (not b || not (has v (extend lined x e))) ≡ not (b && has v x)
    go true s = rw (extend-subset lined x e s)
    go false s = refl

new-disallowed : (d l x : List Lined) → (not (subset lined d x) || not (subset lined l (extend lined x d))) ≡
    not (subset lined (extend lined d l) x)
new-disallowed d l x = rw (subset-extend d l x) (go (subset lined d x) refl)
  where
    go : (b : Bool) → subset lined d x ≡ b → (not b || not (subset lined l (extend lined x d))) ≡
        not (b && subset lined l x)
    go true s = rw (extend-subset lined x d s)
    go false s = refl

abbrev pub new_allowed : Option (List Lined) → Option (List Lined) → Bool
new_allowed o none = false
new_allowed o (some m) = q.allowed_changes lined o m

new-allowed : (o p : Option (List Lined)) (l : List Lined) → (new_allowed o p || q.allowed_changes lined (join o p) l) ≡
    new_allowed o (some (q.common lined p l))
new-allowed none none l = refl
new-allowed none (some m) l = refl
new-allowed (some x) none l = refl
new-allowed (some x) (some m) l = rw (subset-retain x l m) (go (subset lined x m) refl)
  where
    go : (b : Bool) → subset lined x m ≡ b → (not b || not (subset lined (retain lined m x) l)) ≡
        not (b && subset lined x l)
    go true s = rw (retain-subset lined m x s)
    go false s = refl

-- ---- a column that is not impossible, after some numbers
abbrev pub taken : Merging → List Lined → Option (List Lined) → List Lined → Merging
taken m e o d =
    record {
      column = joined m.column e o d;
      emitted = m.emitted || not (subset lined e m.column.excluded);
      any = m.any || (new_allowed m.column.allowed o || not (subset lined d m.column.disallowed));
    }

abbrev at_mark : Conjuncts → List Lined → Option (List Lined) → List Lined → ℕ → Merging → Merging
at_mark t e o d j m =
    taken m (cond (of_kind t.kinds 0 j) (e ++ (literal_at t.values j ∷ [])) e)
    (cond (of_kind t.kinds 1 j) (some (q.common lined o (values_of t.starts t.counts t.pool j))) o)
    (cond (of_kind t.kinds 2 j) (extend lined d (values_of t.starts t.counts t.pool j)) d)

shuffle-1 : (n a d x : Bool) → ((n || (a || d)) || x) ≡ (n || ((a || x) || d))
shuffle-1 true a d x = refl
shuffle-1 false true d x = refl
shuffle-1 false false true true = refl
shuffle-1 false false true false = refl
shuffle-1 false false false true = refl
shuffle-1 false false false false = refl

shuffle-2 : (n a d x : Bool) → ((n || (a || d)) || x) ≡ (n || (a || (d || x)))
shuffle-2 true a d x = refl
shuffle-2 false true d x = refl
shuffle-2 false false d x = refl

take-exclude : (m : Merging) (e : List Lined) (o : Option (List Lined)) (d : List Lined) (v : Lined) → m.column.unsat ≡ false →
    emitting (q.Exclude v) (taken m e o d) ≡ taken m (e ++ (v ∷ [])) o d
take-exclude m e o d v u = rw (
  u,
  union_snoc m.column.excluded e v,
  or_assoc m.emitted
      (not (subset lined e m.column.excluded)) (not (has v (extend lined m.column.excluded e))),
  new-excluded e m.column.excluded v,
)

take-allow : (m : Merging) (e : List Lined) (o : Option (List Lined)) (d l : List Lined) → m.column.unsat ≡ false →
    recording (q.Allow l) (taken m e o d) ≡ taken m e (some (q.common lined o l)) d
take-allow m e o d l u = rw (
  u,
  join_more m.column.allowed o l,
  shuffle-1 m.any
      (new_allowed m.column.allowed o) (not (subset lined d m.column.disallowed))
      (q.allowed_changes lined (join m.column.allowed o) l),
  new-allowed m.column.allowed o l,
)

take-disallow : (m : Merging) (e : List Lined) (o : Option (List Lined)) (d l : List Lined) → m.column.unsat ≡ false →
    recording (q.Disallow false l) (taken m e o d) ≡ taken m e o (extend lined d l)
take-disallow m e o d l u = rw (
  u,
  union_union m.column.disallowed d l,
  or-false m.column.strict,
  shuffle-2 m.any (new_allowed m.column.allowed o) (not (subset lined d m.column.disallowed))
      (not (subset lined l (extend lined m.column.disallowed d))),
  new-disallowed d l m.column.disallowed,
)

mark_taken : (t : Conjuncts) (j : ℕ) (m : Merging) (e : List Lined) (o : Option (List Lined)) (d : List Lined) →
    m.column.unsat ≡ false → take_mark t j (taken m e o d) ≡ at_mark t e o d j m
unfolding take_mark
mark_taken t j m e o d u = go (eq-view (get_or t.kinds j 0) 0) (eq-view (get_or t.kinds j 0) 1)
    (eq-view (get_or t.kinds j 0) 2)
  where
    go : {x y z : Bool} → Eq (get_or t.kinds j 0) 0 x → Eq (get_or t.kinds j 0) 1 y → Eq (get_or t.kinds j 0) 2 z →
        cond x (emitting (q.Exclude (literal_at t.values j)) (taken m e o d))
        (cond y (recording (q.Allow (values_of t.starts t.counts t.pool j)) (taken m e o d))
        (cond z (recording (q.Disallow false (values_of t.starts t.counts t.pool j)) (taken m e o d))
        (taken m e o d))) ≡
        taken m (cond x (e ++ (literal_at t.values j ∷ [])) e)
        (cond y (some (q.common lined o (values_of t.starts t.counts t.pool j))) o)
        (cond z (extend lined d (values_of t.starts t.counts t.pool j)) d)
    go (yes p) (yes r) s = absurd (omega (arith, p, r))
    go (yes p) (no r) (yes s) = absurd (omega (arith, p, s))
    go (yes p) (no r) (no s) = take-exclude m e o d (literal_at t.values j) u
    go (no p) (yes r) (yes s) = absurd (omega (arith, r, s))
    go (no p) (yes r) (no s) = take-allow m e o d (values_of t.starts t.counts t.pool j) u
    go (no p) (no r) (yes s) = take-disallow m e o d (values_of t.starts t.counts t.pool j) u
    go (no p) (no r) (no s) = refl

start-taken : (m : Merging) → taken m [] none [] ≡ m
start-taken m = rw (or-false m.emitted, or-false m.any)

pub marks-taken : (t : Conjuncts) (a : List ℕ) (n : ℕ) (m : Merging) → m.column.unsat ≡ false →
    take_marks t a n m ≡ taken m (excluded_by t.kinds t.values a n)
    (allowed_by t.kinds t.starts t.counts t.pool a n)
    (disallowed_by t.kinds t.starts t.counts t.pool a n)
unfolding take_marks excluded_by allowed_by disallowed_by gather
marks-taken t a zero m u = sym (start-taken m)
marks-taken t a (suc n) m u = ap (λ y. take_mark t (get_or a n 0) y) (marks-taken t a n m u) ∙
    mark_taken t (get_or a n 0) m (excluded_by t.kinds t.values a n)
    (allowed_by t.kinds t.starts t.counts t.pool a n)
    (disallowed_by t.kinds t.starts t.counts t.pool a n) u

-- ---- an impossible column takes nothing
dead : (x : q.Constraint Lined) (c : q.ColumnConstraints Lined) → c.unsat ≡ true → q.add lined x c ≡ c
dead x c u = ap (λ b. cond b c (q.put lined x c)) u

dead-all : (l : List (q.Constraint Lined)) (c : q.ColumnConstraints Lined) → c.unsat ≡ true → q.add_all lined l c ≡ c
dead-all [] c u = refl
dead-all (x ∷ l) c u = ap (λ y. q.add_all lined l y) (dead x c u) ∙ dead-all l c u

dead-still : (l : List (q.Constraint Lined)) (c : q.ColumnConstraints Lined) → c.unsat ≡ true → q.changes_all lined l c ≡
    false
dead-still [] c u = refl
dead-still (x ∷ l) c u = ap (λ b. (not b && q.changes lined x c) || q.changes_all lined l (q.add lined x c)) u ∙
    ap (λ y. q.changes_all lined l y) (dead x c u) ∙ dead-still l c u

dead-emitting : (x : q.Constraint Lined) (m : Merging) → m.column.unsat ≡ true → emitting x m ≡ m
dead-emitting x m u = ap (λ b. record {
  column = cond b m.column (q.put lined x m.column);
  emitted =
      m.emitted || (not b && q.changes lined x m.column);
  any = m.any;
}) u ∙ rw (or-false m.emitted)

dead-recording : (x : q.Constraint Lined) (m : Merging) → m.column.unsat ≡ true → recording x m ≡ m
dead-recording x m u = ap (λ b. record {
  column = cond b m.column (q.put lined x m.column);
  emitted = m.emitted;
  any =
      m.any || (not b && q.changes lined x m.column);
}) u ∙ rw (or-false m.any)

pub dead-mark : (t : Conjuncts) (j : ℕ) (m : Merging) → m.column.unsat ≡ true → take_mark t j m ≡ m
unfolding take_mark
dead-mark t j m u = go (of_kind t.kinds 0 j) (of_kind t.kinds 1 j) (of_kind t.kinds 2 j)
  where
    go : (x y z : Bool) → cond x (emitting (q.Exclude (literal_at t.values j)) m)
        (cond y (recording (q.Allow (values_of t.starts t.counts t.pool j)) m)
        (cond z (recording (q.Disallow false (values_of t.starts t.counts t.pool j)) m) m)) ≡ m
    go true y z = dead-emitting (q.Exclude (literal_at t.values j)) m u
    go false true z = dead-recording (q.Allow (values_of t.starts t.counts t.pool j)) m u
    go false false true = dead-recording (q.Disallow false (values_of t.starts t.counts t.pool j)) m u
    go false false false = refl

pub dead-marks : (t : Conjuncts) (a : List ℕ) (n : ℕ) (m : Merging) → m.column.unsat ≡ true → take_marks t a n m ≡ m
unfolding take_marks
dead-marks t a zero m u = refl
dead-marks t a (suc n) m u = ap (λ y. take_mark t (get_or a n 0) y) (dead-marks t a n m u) ∙ dead-mark t (get_or a n 0) m u

-- ---- the definition's way: all excluded values, then the allowed list, then the disallowed values
excluded-joined : (l : List Lined) (c : q.ColumnConstraints Lined) → c.unsat ≡ false → q.add_all lined (map q.Exclude l) c ≡
    joined c l none []
excluded-joined [] c u = refl
excluded-joined (v ∷ l) c u = ap (λ b. q.add_all lined (map q.Exclude l) (cond b c (q.put lined (q.Exclude v) c)))
    u ∙
    excluded-joined l (q.put lined (q.Exclude v) c) u

recorded-joined : (o : Option (List Lined)) (d l : List Lined) (c : q.ColumnConstraints Lined) → c.unsat ≡ false →
    q.add_all lined (q.allowed_of o ++ (q.Disallow false d ∷ [])) (joined c l none []) ≡ joined c l o d
recorded-joined none d l c u = rw (u, or-false c.strict)
recorded-joined (some m) d l c u = rw (u, or-false c.strict)

excluded-new : (l : List Lined) (c : q.ColumnConstraints Lined) → c.unsat ≡ false → q.changes_all lined (map q.Exclude l) c ≡
    not (subset lined l c.excluded)
excluded-new [] c u = refl
excluded-new (v ∷ l) c u = ap (λ b. (not b && q.changes lined (q.Exclude v) c) ||
    q.changes_all lined (map q.Exclude l)
    (cond b c (q.put lined (q.Exclude v) c))) u
    ∙ ap (λ b. not (has v c.excluded) || b) (excluded-new l (q.put lined (q.Exclude v) c) u) ∙
    go (has v c.excluded) refl
  where
    go : (b : Bool) → has v c.excluded ≡ b → (not b || not
        (subset lined l (cond b c.excluded (c.excluded ++ (v ∷ []))))) ≡
        not (b && subset lined l c.excluded)
    go true h = refl
    go false h = refl

recorded-new : (o : Option (List Lined)) (d l : List Lined) (c : q.ColumnConstraints Lined) → c.unsat ≡ false →
    q.changes_all lined (q.allowed_of o ++ (q.Disallow false d ∷ [])) (joined c l none []) ≡
    (new_allowed c.allowed o || not (subset lined d c.disallowed))
recorded-new none d l c u = rw (u, or-false (not (subset lined d c.disallowed)))
recorded-new (some m) d l c u = rw (u, or-false (not (subset lined d c.disallowed)))

all_append : (l m : List (q.Constraint Lined)) (c : q.ColumnConstraints Lined) → q.add_all lined (l ++ m) c ≡
    q.add_all lined m (q.add_all lined l c)
all_append [] m c = refl
all_append (x ∷ l) m c = all_append l m (q.add lined x c)

changes-append : (l m : List (q.Constraint Lined)) (c : q.ColumnConstraints Lined) → q.changes_all lined (l ++ m) c ≡
    (q.changes_all lined l c || q.changes_all lined m (q.add_all lined l c))
changes-append [] m c = refl
changes-append (x ∷ l) m c = rw (changes-append l m (q.add lined x c))
    (sym (or_assoc (not c.unsat && q.changes lined x c) (q.changes_all lined l (q.add lined x c))
    (q.changes_all lined m (q.add_all lined l (q.add lined x c)))))

-- what the definition makes of the values e, o, d, after the bounds
abbrev told : Merging → List Lined → Option (List Lined) → List Lined → Merging
told m e o d =
    record {
      column = q.add_all lined (q.allowed_of o ++ (q.Disallow false d ∷ []))
          (q.add_all lined (map q.Exclude e) m.column);
      emitted = m.emitted || q.changes_all lined (map q.Exclude e) m.column;
      any = m.any || q.changes_all lined (q.allowed_of o ++ (q.Disallow false d ∷ []))
          (q.add_all lined (map q.Exclude e) m.column);
    }

live_told : (m : Merging) (e : List Lined) (o : Option (List Lined)) (d : List Lined) → m.column.unsat ≡ false → told m e o d ≡
    taken m e o d
live_told m e o d u =
    ap (λ y. record {
      column = q.add_all lined (q.allowed_of o ++ (q.Disallow false d ∷ [])) y;
      emitted =
          m.emitted || q.changes_all lined (map q.Exclude e) m.column;
      any =
          m.any || q.changes_all lined (q.allowed_of o ++ (q.Disallow false d ∷ [])) y;
    })
    (excluded-joined e m.column u)
    ∙ ap (λ y. record {
      column = y;
      emitted = m.emitted || q.changes_all lined (map q.Exclude e) m.column;
      any =
          m.any || q.changes_all lined (q.allowed_of o ++ (q.Disallow false d ∷ [])) (joined m.column e none []);
    })
    (recorded-joined o d e m.column u)
    ∙ ap (λ y. record {
      column = joined m.column e o d;
      emitted = m.emitted || y;
      any =
          m.any || q.changes_all lined (q.allowed_of o ++ (q.Disallow false d ∷ [])) (joined m.column e none []);
    })
    (excluded-new e m.column u)
    ∙ ap (λ y. record {
      column = joined m.column e o d;
      emitted =
          m.emitted || not (subset lined e m.column.excluded);
      any = m.any || y;
    })
    (recorded-new o d e m.column u)

dead-told : (m : Merging) (e : List Lined) (o : Option (List Lined)) (d : List Lined) → m.column.unsat ≡ true → told m e o d ≡ m
dead-told m e o d u =
    ap (λ y. record {
      column = q.add_all lined (q.allowed_of o ++ (q.Disallow false d ∷ [])) y;
      emitted =
          m.emitted || q.changes_all lined (map q.Exclude e) m.column;
      any =
          m.any || q.changes_all lined (q.allowed_of o ++ (q.Disallow false d ∷ [])) y;
    })
    (dead-all (map q.Exclude e) m.column u)
    ∙ ap (λ y. record {
      column = y;
      emitted = m.emitted || q.changes_all lined (map q.Exclude e) m.column;
      any =
          m.any || q.changes_all lined (q.allowed_of o ++ (q.Disallow false d ∷ [])) m.column;
    })
    (dead-all (q.allowed_of o ++ (q.Disallow false d ∷ [])) m.column u)
    ∙ rw (
      dead-still (map q.Exclude e) m.column u,
      dead-still (q.allowed_of o ++ (q.Disallow false d ∷ []))
          m.column u,
      or-false m.emitted,
      or-false m.any,
    )

marks-told : (t : Conjuncts) (d : Numbered) (m : Merging) → take_marks t d.marks d.len m ≡
    told m (column_of t d).excluded (column_of t d).allowed (column_of t d).disallowed
marks-told t d m = go m.column.unsat refl
  where
    go : (b : Bool) → m.column.unsat ≡ b → take_marks t d.marks d.len m ≡
        told m (column_of t d).excluded (column_of t d).allowed (column_of t d).disallowed
    go true u = dead-marks t d.marks d.len m u ∙
        sym (dead-told m (column_of t d).excluded (column_of t d).allowed (column_of t d).disallowed u)
    go false u = marks-taken t d.marks d.len m u ∙
        sym (live_told m (column_of t d).excluded (column_of t d).allowed (column_of t d).disallowed u)

-- ---- the bounds
abbrev at_lower : b.Bound Lined → Merging → Merging
at_lower l m = record {
  column = q.add_all lined (of_bound q.Lower l) m.column;
  emitted =
      m.emitted || q.changes_all lined (of_bound q.Lower l) m.column;
  any = m.any;
}

lower-told : (l : b.Bound Lined) (m : Merging) → take_lower l m ≡ at_lower l m
lower-told b.absent m = rw (or-false m.emitted)
lower-told (b.at i v) m = rw (or-false (not m.column.unsat && q.changes lined (q.Lower i v) m.column))

abbrev at_upper : b.Bound Lined → Merging → Merging
at_upper u m = record {
  column = q.add_all lined (of_bound q.Upper u) m.column;
  emitted =
      m.emitted || q.changes_all lined (of_bound q.Upper u) m.column;
  any = m.any;
}

upper-told : (u : b.Bound Lined) (m : Merging) → take_upper u m ≡ at_upper u m
upper-told b.absent m = rw (or-false m.emitted)
upper-told (b.at i v) m = rw (or-false (not m.column.unsat && q.changes lined (q.Upper i v) m.column))

-- the two bounds first, then the numbers: that is merging
abbrev merge_start : q.ColumnConstraints Lined → Merging
merge_start c = record { column = c; emitted = false; any = false }

abbrev wholly : q.ColumnConstraints Lined → q.ColumnConstraints Lined → Merging
wholly c d = record {
  column = q.merge_from lined c d;
  emitted = q.merge_emitted lined c d;
  any =
      q.changes_all lined (q.recorded d) (q.add_all lined (q.emitted d) c);
}

append-3 : (l u e : List (q.Constraint Lined)) (c : q.ColumnConstraints Lined) → q.add_all lined (l ++ (u ++ e)) c ≡
    q.add_all lined e (q.add_all lined u (q.add_all lined l c))
append-3 l u e c = all_append l (u ++ e) c ∙ all_append u e (q.add_all lined l c)

changes-3 : (l u e : List (q.Constraint Lined)) (c : q.ColumnConstraints Lined) → q.changes_all lined (l ++ (u ++ e)) c ≡
    ((q.changes_all lined l c || q.changes_all lined u (q.add_all lined l c)) || q.changes_all lined e
    (q.add_all lined u (q.add_all lined l c)))
changes-3 l u e c = changes-append l (u ++ e) c ∙ ap (λ b. q.changes_all lined l c || b)
    (changes-append u e (q.add_all lined l c)) ∙
    sym (or_assoc (q.changes_all lined l c) (q.changes_all lined u (q.add_all lined l c))
    (q.changes_all lined e (q.add_all lined u (q.add_all lined l c))))

told-whole : (c d : q.ColumnConstraints Lined) → told (at_upper d.upper (at_lower d.lower (merge_start c)))
    d.excluded d.allowed d.disallowed ≡ wholly c d
told-whole c d = sym (
    ap (λ y. record {
      column = q.add_all lined (q.recorded d) y;
      emitted = q.merge_emitted lined c d;
      any =
          q.changes_all lined (q.recorded d) y;
    })
    (append-3 (of_bound q.Lower d.lower) (of_bound q.Upper d.upper) (map q.Exclude d.excluded) c)
    ∙ ap (λ y. record {
      column = q.add_all lined (q.recorded d)
          (q.add_all lined (map q.Exclude d.excluded)
          (q.add_all lined (of_bound q.Upper d.upper) (q.add_all lined (of_bound q.Lower d.lower) c)));
      emitted = y;
      any =
          q.changes_all lined (q.recorded d)
          (q.add_all lined (map q.Exclude d.excluded)
          (q.add_all lined (of_bound q.Upper d.upper) (q.add_all lined (of_bound q.Lower d.lower) c)));
    })
    (changes-3 (of_bound q.Lower d.lower) (of_bound q.Upper d.upper) (map q.Exclude d.excluded) c))

pub merge_law : (t : Conjuncts) (c : q.ColumnConstraints Lined) (d : Numbered) →
    take_marks t d.marks d.len (take_upper (bound_of d.upper) (take_lower (bound_of d.lower) (merge_start c))) ≡
    wholly c (column_of t d)
merge_law t c d = marks-told t d (take_upper (bound_of d.upper) (take_lower (bound_of d.lower) (merge_start c)))
    ∙ ap (λ y. told y (column_of t d).excluded (column_of t d).allowed (column_of t d).disallowed)
    (upper-told (bound_of d.upper) (take_lower (bound_of d.lower) (merge_start c)) ∙
    ap (λ y. at_upper (bound_of d.upper) y) (lower-told (bound_of d.lower) (merge_start c)))
    ∙ told-whole c (column_of t d)

-- ---- the numbers one by one
pub marks-none : (t : Conjuncts) (a : List ℕ) (m : Merging) → m ≡ take_marks t a 0 m
unfolding take_marks
marks-none t a m = refl

pub marks-more : (t : Conjuncts) (a : List ℕ) (i : ℕ) (m : Merging) → take_marks t a (i + 1) m ≡
    take_mark t (get_or a i 0) (take_marks t a i m)
unfolding take_marks
marks-more t a i m = rw add-one

pub mark-0 : (t : Conjuncts) (j : ℕ) (m : Merging) → get_or t.kinds j 0 ≡ 0 →
    emitting (q.Exclude (literal_at t.values j)) m ≡ take_mark t j m
unfolding take_mark
mark-0 t j m k = rw k

pub mark-1 : (t : Conjuncts) (j : ℕ) (m : Merging) → get_or t.kinds j 0 ≡ 1 →
    recording (q.Allow (values_of t.starts t.counts t.pool j)) m ≡ take_mark t j m
unfolding take_mark
mark-1 t j m k = rw k

pub mark-2 : (t : Conjuncts) (j : ℕ) (m : Merging) → get_or t.kinds j 0 ≡ 2 →
    recording (q.Disallow false (values_of t.starts t.counts t.pool j)) m ≡ take_mark t j m
unfolding take_mark
mark-2 t j m k = rw k

pub mark_else : (t : Conjuncts) (j : ℕ) (m : Merging) (k : ℕ) → get_or t.kinds j 0 ≡ k → (k ≡ 0 → ⊥) → (k ≡ 1 → ⊥) →
    (k ≡ 2 → ⊥) → m ≡ take_mark t j m
unfolding take_mark
mark_else t j m k e x y z = rw (e, ne_eqb k 0 x, ne_eqb k 1 y, ne_eqb k 2 z)

-- What became of a bound, and whether the column changed.
pub lower-moved : (v : Lined) (i : Bool) (cc : q.ColumnConstraints Lined) →
    b.is_change (q.lower_change lined v i cc) ≡ changes_in (q.Lower i v) cc
lower-moved v i cc = go cc.unsat
  where
    go : (x : Bool) → b.is_change (cond x NoChange (b.tighten lined cc.lower i v).change) ≡
        (not x && b.is_change (b.tighten lined cc.lower i v).change)
    go true = refl
    go false = refl

pub upper-moved : (v : Lined) (i : Bool) (cc : q.ColumnConstraints Lined) →
    b.is_change (q.upper_change lined v i cc) ≡ changes_in (q.Upper i v) cc
upper-moved v i cc = go cc.unsat
  where
    go : (x : Bool) → b.is_change (cond x NoChange (b.tighten (opposite lined) cc.upper i v).change) ≡
        (not x && b.is_change (b.tighten (opposite lined) cc.upper i v).change)
    go true = refl
    go false = refl
