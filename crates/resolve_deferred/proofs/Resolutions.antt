-- The walk of `resolve_deferred` over a column's numbers, and the definition. Assumes nothing.
use Rattle.constraints.proofs.Resolves.{resolve_if, range_of}
use mathlib.Core.Path.{◌≡◌, refl, sym, ◌∙◌, ap}
use mathlib.Core.Bool.{Bool, true, false, not, cond, ◌||◌, or-false}
use mathlib.Core.List.{List, [], ◌∷◌, ◌++◌}
use mathlib.Core.Option.{Option, some}
use Prim.Native.Nat.{ℕ, zero, suc, ◌+◌}
use native.Mathlib.Omega.{arith}
use native.Mathlib.Numerals.{add-one}
use lib.ListN.{get_or}
use borrow.Author.Tests.{ne_eqb}
use Rattle.constraints.specs.Values.{extend}
use Rattle.constraints.specs.Column as q
use Rattle.constraints.specs.Lined.{Lined, lined}
use Rattle.column_constraints.specs.Abstraction.{Conjuncts, column_of, gather, of_kind, values_of, excluded_by, allowed_by}
use Rattle.column_constraints.specs.Abstraction.{literal_at, disallowed_by}
use Rattle.column_constraints.specs.Abstraction.{Numbered}
use Rattle.constraints.specs.Bound as b
use Rattle.constraints.specs.Resolve as z
use Rattle.column_constraints.specs.Steps.{consistent, apply_by, apply_excluded, step_excluded, step_mark, step_marks}
use Rattle.column_constraints.specs.Steps.{begun}
use Rattle.constraints.specs.declared.column.ExcludedResolution.{ExcludedResolution}
use Rattle.constraints.specs.declared.column.ExcludedResolution.TheVariants.{Drop, Keep, TightenLower}
use Rattle.constraints.specs.declared.column.ExcludedResolution.TheVariants.{TightenUpper}
use Rattle.column_constraints.proofs.Pigeon.{Eq, yes, no, eq-view}

-- ---- one excluded value
pub applied : (g f : ExcludedResolution) (x cc : q.ColumnConstraints Lined) (v w : Lined) → f ≡
    z.classify_at lined cc.lower cc.upper w → w ≡ v → f ≡ g → x ≡ apply_by g v cc → x ≡ apply_excluded v cc
applied g f x cc v w e p k h = h ∙
    ap (λ r. apply_by r v cc) (sym k ∙ e ∙ ap (λ u. z.classify_at lined cc.lower cc.upper u) p)

pub stepped : (x y cc : q.ColumnConstraints Lined) (v : Lined) → cc.unsat ≡ false → y ≡ apply_excluded v cc → x ≡
    consistent y → x ≡ step_excluded v cc
stepped x y cc v u e h = h ∙ ap (λ a. consistent a) e ∙ sym (ap (λ s. cond s cc (consistent (apply_excluded v cc))) u)

pub stopped : (cc : q.ColumnConstraints Lined) (v : Lined) → cc.unsat ≡ true → cc ≡ step_excluded v cc
stopped cc v u = sym (ap (λ s. cond s cc (consistent (apply_excluded v cc))) u)

abbrev walked : q.ColumnConstraints Lined → z.Range Lined → Option (List Lined) → List Lined → q.ColumnConstraints Lined
walked cc r o d = record {
  lower = r.lower;
  upper = r.upper;
  excluded = r.kept;
  allowed = o;
  disallowed =
      d;
  strict = cc.strict;
  nullability = cc.nullability;
  unsat = r.crossed;
}

by-walked : (f : ExcludedResolution) (cc : q.ColumnConstraints Lined) (r : z.Range Lined) (o : Option (List Lined)) (d : List Lined)
    (v : Lined) → r.crossed ≡ false → consistent (apply_by f v (walked cc r o d)) ≡ walked cc (z.resolve_by lined f v r)
    o d
by-walked Drop cc r o d v u = rw u
by-walked Keep cc r o d v u = rw u
by-walked TightenLower cc r o d v u = rw u
by-walked TightenUpper cc r o d v u = rw u

step-walked : (cc : q.ColumnConstraints Lined) (r : z.Range Lined) (o : Option (List Lined)) (d : List Lined) (v : Lined) →
    step_excluded v (walked cc r o d) ≡ walked cc (resolve_if lined r.crossed v r) o d
step-walked cc r o d v = go r.crossed refl
  where
    go : (x : Bool) → r.crossed ≡ x → cond x (walked cc r o d) (consistent (apply_excluded v (walked cc r o d))) ≡
        walked cc (resolve_if lined x v r) o d
    go true u = refl
    go false u = by-walked (z.classify_at lined r.lower r.upper v) cc r o d v u

resolve_snoc : (l : List Lined) (v : Lined) (r : z.Range Lined) → z.resolve_excluded lined (l ++ (v ∷ [])) r ≡
    resolve_if lined (z.resolve_excluded lined l r).crossed v (z.resolve_excluded lined l r)
resolve_snoc [] v r = refl
resolve_snoc (w ∷ l) v r = resolve_snoc l v (resolve_if lined r.crossed w r)

-- ---- one number
abbrev ranged : q.ColumnConstraints Lined → List Lined → Option (List Lined) → List Lined → q.ColumnConstraints Lined
ranged cc e o d = walked cc (z.resolve_excluded lined e (range_of cc)) o d

mark_walked : (t : Conjuncts) (j : ℕ) (cc : q.ColumnConstraints Lined) (e : List Lined) (o : Option (List Lined)) (d : List Lined) →
    step_mark t j (ranged cc e o d) ≡
    ranged cc (cond (of_kind t.kinds 0 j) (e ++ (literal_at t.values j ∷ [])) e)
    (cond (of_kind t.kinds 1 j) (some (q.common lined o (values_of t.starts t.counts t.pool j))) o)
    (cond (of_kind t.kinds 2 j) (extend lined d (values_of t.starts t.counts t.pool j)) d)
unfolding step_mark
mark_walked t j cc e o d = go (eq-view (get_or t.kinds j 0) 0) (eq-view (get_or t.kinds j 0) 1)
    (eq-view (get_or t.kinds j 0) 2)
  where
    go : {x y w : Bool} → Eq (get_or t.kinds j 0) 0 x → Eq (get_or t.kinds j 0) 1 y → Eq (get_or t.kinds j 0) 2 w →
        cond x (step_excluded (literal_at t.values j) (ranged cc e o d))
        (cond y (q.put lined (q.Allow (values_of t.starts t.counts t.pool j)) (ranged cc e o d))
        (cond w (q.put lined (q.Disallow false (values_of t.starts t.counts t.pool j)) (ranged cc e o d))
        (ranged cc e o d))) ≡
        ranged cc (cond x (e ++ (literal_at t.values j ∷ [])) e)
        (cond y (some (q.common lined o (values_of t.starts t.counts t.pool j))) o)
        (cond w (extend lined d (values_of t.starts t.counts t.pool j)) d)
    go (yes p) (yes r) s = absurd (omega (arith, p, r))
    go (yes p) (no r) (yes s) = absurd (omega (arith, p, s))
    go (yes p) (no r) (no s) = step-walked cc (z.resolve_excluded lined e (range_of cc)) o d (literal_at t.values j)
        ∙ ap (λ y. walked cc y o d) (sym (resolve_snoc e (literal_at t.values j) (range_of cc)))
    go (no p) (yes r) (yes s) = absurd (omega (arith, r, s))
    go (no p) (yes r) (no s) = refl
    go (no p) (no r) (yes s) = rw (or-false cc.strict)
    go (no p) (no r) (no s) = refl

marks-walked : (t : Conjuncts) (a : List ℕ) (n : ℕ) (cc : q.ColumnConstraints Lined) → step_marks t a n (begun cc) ≡
    ranged cc (excluded_by t.kinds t.values a n) (allowed_by t.kinds t.starts t.counts t.pool a n)
    (disallowed_by t.kinds t.starts t.counts t.pool a n)
unfolding step_marks excluded_by allowed_by disallowed_by gather
marks-walked t a zero cc = refl
marks-walked t a (suc n) cc = ap (λ y. step_mark t (get_or a n 0) y) (marks-walked t a n cc) ∙
    mark_walked t (get_or a n 0) cc (excluded_by t.kinds t.values a n)
    (allowed_by t.kinds t.starts t.counts t.pool a n)
    (disallowed_by t.kinds t.starts t.counts t.pool a n)

-- ---- the whole
abbrev pub with_unsat : q.ColumnConstraints Lined → Bool → q.ColumnConstraints Lined
with_unsat cc u = record {
  lower = cc.lower;
  upper = cc.upper;
  excluded = cc.excluded;
  allowed =
      cc.allowed;
  disallowed = cc.disallowed;
  strict = cc.strict;
  nullability = cc.nullability;
  unsat = u;
}

pub walk-law : (t : Conjuncts) (c : Numbered) (d : q.ColumnConstraints Lined) (x : Bool) → d ≡
    step_marks t c.marks c.len (begun (column_of t c)) → x ≡ z.null_conflict (column_of t c) →
    with_unsat d (c.unsat || (x || d.unsat)) ≡ z.with_excluded lined (column_of t c)
walk-law t c d x e k =
    ap (λ y. with_unsat y (c.unsat || (x || y.unsat))) (e ∙ marks-walked t c.marks c.len (column_of t c))
    ∙ ap (λ y. with_unsat (ranged (column_of t c) (column_of t c).excluded (column_of t c).allowed
    (column_of t c).disallowed) (c.unsat ||
    (y || (z.resolve_excluded lined (column_of t c).excluded (range_of (column_of t c))).crossed))) k

pub lists-law : (cc : q.ColumnConstraints Lined) (a p : Bool) → cc.unsat ≡ false → a ≡
    z.allowed_feasible lined cc cc.allowed → p ≡ z.fixed_disallowed lined cc (z.fixed_value lined cc) →
    with_unsat cc (not a || p) ≡ z.with_lists lined cc
lists-law cc a p u e f =
    ap (λ x. with_unsat cc (not x || p)) e ∙
    ap (λ x. with_unsat cc (not (z.allowed_feasible lined cc cc.allowed) || x)) f
    ∙ sym (ap (λ x. with_unsat cc (x || (not (z.allowed_feasible lined cc cc.allowed) || z.fixed_disallowed lined
    cc (z.fixed_value lined cc)))) u)

pub lists-dead : (cc : q.ColumnConstraints Lined) → cc.unsat ≡ true → cc ≡ z.with_lists lined cc
lists-dead cc u = ap (λ x. with_unsat cc x)
    (u ∙ sym (ap (λ x. x || (not (z.allowed_feasible lined cc cc.allowed) || z.fixed_disallowed lined cc
    (z.fixed_value lined cc))) u))

-- ---- the numbers one by one
pub steps_none : (t : Conjuncts) (a : List ℕ) (cc : q.ColumnConstraints Lined) → cc ≡ step_marks t a 0 cc
unfolding step_marks
steps_none t a cc = refl

pub steps_more : (t : Conjuncts) (a : List ℕ) (i : ℕ) (cc : q.ColumnConstraints Lined) → step_marks t a (i + 1) cc ≡
    step_mark t (get_or a i 0) (step_marks t a i cc)
unfolding step_marks
steps_more t a i cc = rw add-one

pub step-0 : (t : Conjuncts) (vs : List ℕ) (j : ℕ) (cc : q.ColumnConstraints Lined) → t.values ≡ vs →
    get_or t.kinds j 0 ≡ 0 → step_excluded (literal_at vs j) cc ≡ step_mark t j cc
unfolding step_mark
step-0 t vs j cc f k = rw (← f, k)

pub step-1 : (t : Conjuncts) (j : ℕ) (cc : q.ColumnConstraints Lined) → get_or t.kinds j 0 ≡ 1 →
    q.put lined (q.Allow (values_of t.starts t.counts t.pool j)) cc ≡ step_mark t j cc
unfolding step_mark
step-1 t j cc k = rw k

pub step-2 : (t : Conjuncts) (j : ℕ) (cc : q.ColumnConstraints Lined) → get_or t.kinds j 0 ≡ 2 →
    q.put lined (q.Disallow false (values_of t.starts t.counts t.pool j)) cc ≡ step_mark t j cc
unfolding step_mark
step-2 t j cc k = rw k

pub step-else : (t : Conjuncts) (j : ℕ) (cc : q.ColumnConstraints Lined) (k : ℕ) → get_or t.kinds j 0 ≡ k → (k ≡ 0 → ⊥) →
    (k ≡ 1 → ⊥) → (k ≡ 2 → ⊥) → cc ≡ step_mark t j cc
unfolding step_mark
step-else t j cc k e x y w = rw (e, ne_eqb k 0 x, ne_eqb k 1 y, ne_eqb k 2 w)
