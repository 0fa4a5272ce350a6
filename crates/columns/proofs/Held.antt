-- A number that a column holds changes nothing in it, also after others have been taken. Assumes nothing.
use mathlib.Core.Path.{◌≡◌, refl, sym, ◌∙◌, ap}
use mathlib.Core.Bool.{Bool, true, false, cond, or-false}
use mathlib.Core.List.{List}
use mathlib.Core.Option.{Option, none, some}
use Prim.Native.Nat.{ℕ, ◌+◌}
use lib.ListN.{get_or}
use Rattle.constraints.specs.Values.{contains, extend, subset}
use Rattle.constraints.specs.Column as q
use Rattle.constraints.specs.Payload.{payload}
use Rattle.constraints.specs.Lined.{Lined, lined}
use Rattle.constraints.proofs.Sets.{contains-extend, subset-contains, extend-subset}
use Rattle.column_constraints.specs.Abstraction.{Conjuncts, Numbered, column_of, literal_at, values_of, marked}
use Rattle.column_constraints.specs.Abstraction.{excluded_by, allowed_by, disallowed_by}
use Rattle.column_constraints.specs.Steps.{Merging, emitting, recording, take_mark, take_marks}
use Rattle.column_constraints.proofs.Pigeon.{Eq, yes, no, eq-view}
use Rattle.column_sets.proofs.Insertions.{within, within_more, within_same, all_within, any-within, all_sub}
use Rattle.column_sets.proofs.Insertions.{marked-has}
use Rattle.column_sets.proofs.Lists.{within-still}
use Rattle.columns.proofs.Mergings.{join, taken, marks-taken, marks-more, dead-mark, dead-marks}

abbrev has : Lined → List Lined → Bool
has v l = contains lined (lined.key v) l

-- ---- what is known already
same-exclude : (m : Merging) (v : Lined) → m.column.unsat ≡ false → has v m.column.excluded ≡ true →
    emitting (q.Exclude v) m ≡ m
same-exclude m v u h = rw (u, h, or-false m.emitted)

same-allow : (m : Merging) (l : List Lined) → m.column.unsat ≡ false → within m.column.allowed l ≡ true →
    recording (q.Allow l) m ≡ m
same-allow m l u h = rw (u, within_same m.column.allowed l h, within-still m.column.allowed l h, or-false m.any)

same-disallow : (m : Merging) (l : List Lined) → m.column.unsat ≡ false → subset lined l m.column.disallowed ≡ true →
    recording (q.Disallow false l) m ≡ m
same-disallow m l u h = rw (
  u,
  extend-subset lined m.column.disallowed l h,
  h,
  or-false m.column.strict,
  or-false m.any,
)

-- ---- and stays known
still-excluded : (v : Lined) (l e : List Lined) → has v l ≡ true → has v (extend lined l e) ≡ true
still-excluded v l e h = contains-extend lined (lined.key v) l e ∙ rw h

still-within : (o p : Option (List Lined)) (l : List Lined) → within o l ≡ true → within (join o p) l ≡ true
still-within o none l h = h
still-within o (some m) l h = within_more o m l h

still-disallowed : (l m d : List Lined) → subset lined l m ≡ true → subset lined l (extend lined m d) ≡ true
still-disallowed l m d s = all_sub l (extend lined m d) (λ x h. contains-extend lined x m d ∙
    rw (subset-contains lined x l m s h))

abbrev pub begun : Conjuncts → Numbered → Bool → Bool → Merging
begun t c e y = record { column = column_of t c; emitted = e; any = y }

held-taken : (t : Conjuncts) (c : Numbered) (e y : Bool) (j : ℕ) → c.unsat ≡ false →
    marked c.marks c.len j ≡ true → (x : List Lined) (o : Option (List Lined)) (d : List Lined) →
    take_mark t j (taken (begun t c e y) x o d) ≡ taken (begun t c e y) x o d
unfolding take_mark lined payload
held-taken t c e y j u h x o d = go (eq-view (get_or t.kinds j 0) 0) (eq-view (get_or t.kinds j 0) 1)
    (eq-view (get_or t.kinds j 0) 2)
  where
    go : {r s w : Bool} → Eq (get_or t.kinds j 0) 0 r → Eq (get_or t.kinds j 0) 1 s → Eq (get_or t.kinds j 0) 2 w →
        cond r (emitting (q.Exclude (literal_at t.values j)) (taken (begun t c e y) x o d))
        (cond s (recording (q.Allow (values_of t.starts t.counts t.pool j)) (taken (begun t c e y) x o d))
        (cond w (recording (q.Disallow false (values_of t.starts t.counts t.pool j)) (taken (begun t c e y) x o d))
        (taken (begun t c e y) x o d))) ≡ taken (begun t c e y) x o d
    go (yes p) s w = same-exclude (taken (begun t c e y) x o d) (literal_at t.values j) u
        (still-excluded (literal_at t.values j) (column_of t c).excluded x
        (marked-has t.kinds t.values c.marks c.len j h p))
    go (no r) (yes p) w = same-allow (taken (begun t c e y) x o d) (values_of t.starts t.counts t.pool j) u
        (still-within (column_of t c).allowed o (values_of t.starts t.counts t.pool j)
        (all_within t.kinds t.starts t.counts t.pool c.marks c.len j h p))
    go (no r) (no s) (yes p) = same-disallow (taken (begun t c e y) x o d) (values_of t.starts t.counts t.pool j) u
        (still-disallowed (values_of t.starts t.counts t.pool j) (column_of t c).disallowed d
        (any-within t.kinds t.starts t.counts t.pool c.marks c.len j h p))
    go (no r) (no s) (no w) = refl

held-skip : (t : Conjuncts) (a : List ℕ) (i : ℕ) (c : Numbered) (e y : Bool) (j : ℕ) →
    marked c.marks c.len j ≡ true →
    take_mark t j (take_marks t a i (begun t c e y)) ≡ take_marks t a i (begun t c e y)
held-skip t a i c e y j h = go c.unsat refl
  where
    go : (b : Bool) → c.unsat ≡ b →
        take_mark t j (take_marks t a i (begun t c e y)) ≡ take_marks t a i (begun t c e y)
    go true u =
        let d = dead-marks t a i (begun t c e y) u in
        ap (take_mark t j) d ∙ dead-mark t j (begun t c e y) u ∙ sym d
    go false u =
        let d = marks-taken t a i (begun t c e y) u in
        ap (take_mark t j) d ∙ held-taken t c e y j u h
        (excluded_by t.kinds t.values a i) (allowed_by t.kinds t.starts t.counts t.pool a i)
        (disallowed_by t.kinds t.starts t.counts t.pool a i) ∙ sym d

-- such a number passed over
pub marks-skip : (t : Conjuncts) (a : List ℕ) (i : ℕ) (c : Numbered) (e y : Bool) (j : ℕ) → j ≡ get_or a i 0 →
    marked c.marks c.len j ≡ true → take_marks t a i (begun t c e y) ≡ take_marks t a (i + 1) (begun t c e y)
marks-skip t a i c e y j is h = sym (marks-more t a i (begun t c e y) ∙
    ap (λ (x : ℕ). take_mark t x (take_marks t a i (begun t c e y))) (sym is) ∙ held-skip t a i c e y j h)
