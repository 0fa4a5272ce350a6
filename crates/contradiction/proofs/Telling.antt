-- Lines told to a table by their columns' labels: a column of it is impossible exactly if the merging says that nothing passes.
use mathlib.Core.Path.{◌≡◌, refl, sym, ◌∙◌, ap, subst}
use mathlib.Core.Bool.{Bool, true, false, ◌&&◌, ◌||◌, cond, true≢false, and-eq-true_iff}
use mathlib.Core.List.{List, [], ◌∷◌, ◌++◌}
use mathlib.Core.Option.{Option, none, some}
use Prim.Native.Nat.{ℕ, ◌<◌}
use lib.Dec.{eqb}
use Rattle.constraints.specs.Column.{ColumnConstraints, Constraint, Require, add, add_all, empty}
use Rattle.constraints.specs.Resolve.{resolve_deferred}
use Rattle.constraints.specs.Scalars.{Scalars}
use Rattle.constraints.specs.declared.column.Nullability.TheVariants.{NonNull}
use Rattle.constraints.proofs.Columns.{admits, admits_emitted, admits_recorded, obeys, obeys_all, obeys_recorded_all}
use Rattle.constraints.proofs.Columns.{add-is_intersection, add_all-is_intersection}
use Rattle.constraints.proofs.Merges.{or_no}
use Rattle.constraints.proofs.Resolved.{Consistent, add-consistent, add_all-consistent}
use Rattle.constraints.proofs.Resolves.{resolve_is_exact}
use Rattle.merge.specs.Classify.{Conjunct, Bounds, Normalized, Equality, Recorded, NonNullPair, Opaque}
use Rattle.merge.specs.Collect.{Table, Collected, update, add_to, require_non_null, begin, collect}
use Rattle.merge.specs.Emit.{any_unsat}
use Rattle.merge.proofs.Complete.{Fits, FitsAll, collect-consistent, collect-fits, conclude-full, witness_row}
use Rattle.merge.proofs.Passes.{In, eqb-path}
use Rattle.merge.proofs.Sound.{Fair, FairAll, Holds, HoldsAll, and_both, collect-in, held-alive, live_of, unsat-none}
use Rattle.merge.proofs.Sound.{upd_ind, upd_self}
use Rattle.merge.proofs.Spread.{AdmitsAll}
use Rattle.merge.proofs.Witness.{HalfPoints, row_value, row_value-admitted}
use Rattle.contradiction.specs.Labels.{OneAt, AllAtOne, tell_one, tell_all, told, dead}

-- The columns of a conjunct have a place in the table.
abbrev pub Placed : {Val : Type 0} → Conjunct Val → Type 0
Placed (Bounds c l) = c < 64
Placed (Normalized c l) = c < 64
Placed (Equality a b n) = (a < 64) × (b < 64)
Placed (Recorded z n c l) = c < 64
Placed (NonNullPair n a b) = (a < 64) × (b < 64)
Placed (Opaque n) = Unit {0}

abbrev pub All : {A : Type 0} → (A → Type 0) → List A → Type 0
All P [] = Unit {0}
All P (x ∷ l) = P x × All P l

pub all_snoc : {A : Type 0} (P : A → Type 0) (l : List A) (x : A) → All P l → P x → All P (l ++ (x ∷ []))
all_snoc P [] x h k = (k, tt)
all_snoc P (y ∷ l) x h k = (h.0, all_snoc P l x h.1 k)

all_front : {A : Type 0} (P : A → Type 0) (l m : List A) → All P (l ++ m) → All P l
all_front P [] m h = tt
all_front P (x ∷ l) m h = (h.0, all_front P l m h.1)

pub same_truth : (a b : Bool) → (a ≡ false → b ≡ false) → (b ≡ false → a ≡ false) → a ≡ b
same_truth true true h k = refl
same_truth true false h k = k refl
same_truth false true h k = sym (h refl)
same_truth false false h k = refl

module _ {K Val : Type 0} (S : Scalars K Val) where
  abbrev Present : Option K → Type 0
  Present x = obeys S (Require NonNull) x ≡ true

  present_some : (x : Option K) → Present x → (k : K) × (x ≡ some k)
  present_some none h = absurd (true≢false (sym h))
  present_some (some k) h = (k, refl)

  -- ---- What lines say of a row's values at the labels.
  module _ (ρ : ℕ → Option K) (f : ℕ → ℕ) where
    abbrev Said : Conjunct Val → Type 0
    Said (Bounds c l) = obeys_all S l (ρ (f c)) ≡ true
    Said (Normalized c l) = obeys_all S l (ρ (f c)) ≡ true
    Said (Equality a b n) = Present (ρ (f a)) × Present (ρ (f b))
    Said (Recorded z n c l) = obeys_all S l (ρ (f c)) ≡ true
    Said (NonNullPair n a b) = Present (ρ (f a)) × Present (ρ (f b))
    Said (Opaque n) = Unit {0}

    update-admits : (t : Table Val) (d : ℕ) (q : ColumnConstraints Val) (b : Bool)
        → admits S q (ρ d) ≡ (admits S (t d) (ρ d) && b) → b ≡ true → AdmitsAll S ρ t → AdmitsAll S ρ (update t d q)
    update-admits t d q b e p h =
        upd_ind S (λ c r. admits S r (ρ c) ≡ true) t d q h (e ∙ and_both (admits S (t d) (ρ d)) b (h d) p)

    add-admits : (d : ℕ) (l : List (Constraint Val)) (t : Table Val) → obeys_all S l (ρ d) ≡ true → AdmitsAll S ρ t
        → AdmitsAll S ρ (add_to S d l t)
    add-admits d l t =
        update-admits t d (add_all S l (t d)) (obeys_all S l (ρ d)) (add_all-is_intersection S l (t d) (ρ d))

    require_admits : (d : ℕ) (t : Table Val) → Present (ρ d) → AdmitsAll S ρ t → AdmitsAll S ρ (require_non_null S d t)
    require_admits d t =
        update-admits t d (add S (Require NonNull) (t d)) (obeys S (Require NonNull) (ρ d))
        (add-is_intersection S (Require NonNull) (t d) (ρ d))

    tell_admits : (x : Conjunct Val) (t : Table Val) → Said x → AdmitsAll S ρ t → AdmitsAll S ρ (tell_one S f x t)
    tell_admits (Bounds c l) t s h = add-admits (f c) l t s h
    tell_admits (Normalized c l) t s h = add-admits (f c) l t s h
    tell_admits (Equality a b n) t s h =
        require_admits (f b) (require_non_null S (f a) t) s.1 (require_admits (f a) t s.0 h)
    tell_admits (Recorded z n c l) t s h = add-admits (f c) l t s h
    tell_admits (NonNullPair n a b) t s h =
        require_admits (f b) (require_non_null S (f a) t) s.1 (require_admits (f a) t s.0 h)
    tell_admits (Opaque n) t s h = h

    tells-admit : (l : List (Conjunct Val)) (t : Table Val) → All Said l → AdmitsAll S ρ t → AdmitsAll S ρ (tell_all S f l t)
    tells-admit [] t s h = h
    tells-admit (x ∷ l) t s h = tells-admit l (tell_one S f x t) s.1 (tell_admits x t s.0 h)

    -- ---- Back, on the columns of the table.
    abbrev Below : Table Val → Type 0
    Below t = (c : ℕ) → c < 64 → admits S (t c) (ρ c) ≡ true

    update-back : (t : Table Val) (d : ℕ) (q : ColumnConstraints Val) (b : Bool) → d < 64
        → admits S q (ρ d) ≡ (admits S (t d) (ρ d) && b) → Below (update t d q) → Below t × (b ≡ true)
    update-back t d q b k e h = ((λ c l. go c (eqb d c) refl (h c l)), both.1)
      where
        both : (admits S (t d) (ρ d) ≡ true) × (b ≡ true)
        both =
            (and-eq-true_iff (admits S (t d) (ρ d)) b).0
            (sym e ∙ ap (λ r. admits S r (ρ d)) (sym (upd_self S t d q)) ∙ h d k)

        go : (c : ℕ) (o : Bool) → eqb d c ≡ o → admits S (cond o q (t c)) (ρ c) ≡ true → admits S (t c) (ρ c) ≡ true
        go c true p g = subst (λ y. admits S (t y) (ρ y) ≡ true) (eqb-path d c p) both.0
        go c false p g = g

    add_back : (d : ℕ) (l : List (Constraint Val)) (t : Table Val) → d < 64 → Below (add_to S d l t)
        → Below t × (obeys_all S l (ρ d) ≡ true)
    add_back d l t k =
        update-back t d (add_all S l (t d)) (obeys_all S l (ρ d)) k (add_all-is_intersection S l (t d) (ρ d))

    require_back : (d : ℕ) (t : Table Val) → d < 64 → Below (require_non_null S d t) → Below t × Present (ρ d)
    require_back d t k =
        update-back t d (add S (Require NonNull) (t d)) (obeys S (Require NonNull) (ρ d)) k
        (add-is_intersection S (Require NonNull) (t d) (ρ d))

    module _ (low : (c : ℕ) → f c < 64) where
      both-back : (a b : ℕ) (t : Table Val) → Below (require_non_null S (f b) (require_non_null S (f a) t))
          → Below t × (Present (ρ (f a)) × Present (ρ (f b)))
      both-back a b t h =
          let r = require_back (f b) (require_non_null S (f a) t) (low b) h in
          let s = require_back (f a) t (low a) r.0 in (s.0, (s.1, r.1))

      tell_back : (x : Conjunct Val) (t : Table Val) → Below (tell_one S f x t) → Below t × Said x
      tell_back (Bounds c l) t h = add_back (f c) l t (low c) h
      tell_back (Normalized c l) t h = add_back (f c) l t (low c) h
      tell_back (Equality a b n) t h = both-back a b t h
      tell_back (Recorded z n c l) t h = add_back (f c) l t (low c) h
      tell_back (NonNullPair n a b) t h = both-back a b t h
      tell_back (Opaque n) t h = (h, tt)

      tells-back : (l : List (Conjunct Val)) (t : Table Val) → Below (tell_all S f l t) → Below t × All Said l
      tells-back [] t h = (h, tt)
      tells-back (x ∷ l) t h =
          let r = tells-back l (tell_one S f x t) h in
          let s = tell_back x t r.0 in (s.0, (s.1, r.1))

    empty-admits : AdmitsAll S ρ (λ c. empty)
    empty-admits c = go (ρ c)
      where
        go : (x : Option K) → admits S empty x ≡ true
        go none = refl
        go (some k) = refl

  -- ---- Bounds of a column that is not impossible do not cross.
  module _ (f : ℕ → ℕ) where
    abbrev Sane : Table Val → Type 0
    Sane t = (c : ℕ) → Consistent S (t c)

    add-sane : (d : ℕ) (l : List (Constraint Val)) (t : Table Val) → Sane t → Sane (add_to S d l t)
    add-sane d l t h =
        upd_ind S (λ c r. Consistent S r) t d (add_all S l (t d)) h (add_all-consistent S l (t d) (h d))

    require_sane : (d : ℕ) (t : Table Val) → Sane t → Sane (require_non_null S d t)
    require_sane d t h =
        upd_ind S (λ c r. Consistent S r) t d (add S (Require NonNull) (t d)) h
        (add-consistent S (Require NonNull) (t d) (h d))

    tell_sane : (x : Conjunct Val) (t : Table Val) → Sane t → Sane (tell_one S f x t)
    tell_sane (Bounds c l) t h = add-sane (f c) l t h
    tell_sane (Normalized c l) t h = add-sane (f c) l t h
    tell_sane (Equality a b n) t h = require_sane (f b) (require_non_null S (f a) t) (require_sane (f a) t h)
    tell_sane (Recorded z n c l) t h = add-sane (f c) l t h
    tell_sane (NonNullPair n a b) t h = require_sane (f b) (require_non_null S (f a) t) (require_sane (f a) t h)
    tell_sane (Opaque n) t h = h

    tells-sane : (l : List (Conjunct Val)) (t : Table Val) → Sane t → Sane (tell_all S f l t)
    tells-sane [] t h = h
    tells-sane (x ∷ l) t h = tells-sane l (tell_one S f x t) (tell_sane x t h)

  unsat-all : (cs : List ℕ) (t : Table Val) → ((c : ℕ) → (t c).unsat ≡ false) → any_unsat cs t ≡ false
  unsat-all [] t h = refl
  unsat-all (c ∷ cs) t h = ap (λ b. b || any_unsat cs t) (h c) ∙ unsat-all cs t h

  alive : (q : ColumnConstraints Val) (x : Option K) → admits S q x ≡ true → q.unsat ≡ false
  alive q x h = (live_of q.unsat (admits_emitted S q x && admits_recorded S q x) h).0

-- Bounds tell nothing that is only kept in mind.
abbrev pub BoundsOnly : {K Val : Type 0} → Scalars K Val → Conjunct Val → Type 0
BoundsOnly {K} S (Bounds c l) = (x : Option K) → obeys_recorded_all S l x ≡ true
BoundsOnly {K} S (Normalized c l) = (x : Option K) → obeys_recorded_all S l x ≡ true
BoundsOnly S (Equality a b n) = Unit {0}
BoundsOnly S (Recorded z n c l) = Unit {0}
BoundsOnly S (NonNullPair n a b) = Unit {0}
BoundsOnly S (Opaque n) = Unit {0}

-- ---- Lines l, and labels f by their equalities.
module _ {K Val : Type 0} (S : Scalars K Val) (H : HalfPoints S) (f : ℕ → ℕ) (low : (c : ℕ) → f c < 64)
    (l : List (Conjunct Val)) (read : All (BoundsOnly S) l) (placed : All Placed l) (one : AllAtOne f l)
    (same : (row : ℕ → Option K) → AllAtOne row l → (c : ℕ) → c < 64 → row (f c) ≡ row c) where
  abbrev N : ℕ → Bool
  N n = true

  -- Where no column is impossible, a row fits every line: at a column the value that is left at its label.
  module _ (h : (c : ℕ) → c < 64 → (resolve_deferred S (told S f l c)).unsat ≡ false) where
    abbrev value : ℕ → Option K
    value c = row_value S H (resolve_deferred S (told S f l c))

    abbrev row : ℕ → Option K
    row c = value (f c)

    said : All (Said S value f) l
    unfolding told
    said =
        (tells-back S value f low l (λ c. empty)
        (λ c k. sym (resolve_is_exact S (told S f l c) (value c))
        ∙ row_value-admitted S H (told S f l c) (tells-sane S f l (λ c. empty) (λ c e. refl) c) (h c k))).1

    linked : (a b : ℕ) → f a ≡ f b → Present S (value (f a)) → (k : K) × (row a ≡ some k) × (row b ≡ some k)
    linked a b e p = let r = present_some S (value (f a)) p in (r.0, r.1, ap value (sym e) ∙ r.1)

    fair : (x : Conjunct Val) → Said S value f x → OneAt f x → BoundsOnly S x → Fair S row N x
    fair (Bounds c m) s o r = r
    fair (Normalized c m) s o r = r
    fair (Equality a b n) s o r = ((λ e. linked a b o s.0), (λ e. refl))
    fair (Recorded z n c m) s o r = λ e. s
    fair (NonNullPair n a b) s o r =
        λ e. (present_some S (value (f a)) s.0, present_some S (value (f b)) s.1)
    fair (Opaque n) s o r = tt

    holds : (x : Conjunct Val) → Said S value f x → Holds S row N x
    holds (Bounds c m) s = s
    holds (Normalized c m) s = s
    holds (Equality a b n) s = refl
    holds (Recorded z n c m) s = refl
    holds (NonNullPair n a b) s = refl
    holds (Opaque n) s = refl

    fair_all : (m : List (Conjunct Val)) → All (Said S value f) m → AllAtOne f m → All (BoundsOnly S) m → FairAll S row N m
    fair_all [] s o r = tt
    fair_all (x ∷ m) s o r = (fair x s.0 o.0 r.0, fair_all m s.1 o.1 r.1)

    holds-all : (m : List (Conjunct Val)) → All (Said S value f) m → HoldsAll S row N m
    holds-all [] s = tt
    holds-all (x ∷ m) s = (holds x s.0, holds-all m s.1)

    none-dead : dead S (collect S l begin) ≡ false
    none-dead = held-alive S row N l (fair_all l said one read) (holds-all l said)

  -- Where the merging leaves a row, it is admitted by all that the front of the lines told.
  module _ (h : dead S (collect S l begin) ≡ false) (m r : List (Conjunct Val)) (front : l ≡ (m ++ r)) where
    abbrev s : Collected Val
    s = collect S l begin

    abbrev left : ℕ → Option K
    left = witness_row S H s

    fits : FitsAll S H left N l
    fits =
        let d = or_no s.unsat _ h in
        collect-fits S H left N l begin d.0
        (conclude-full S H s N (collect-in S l begin tt) (collect-consistent S H l begin (λ c e. refl)) d.1)

    at_one : (x : Conjunct Val) → Fits S H left N x → OneAt left x
    at_one (Bounds c k) g = tt
    at_one (Normalized c k) g = tt
    at_one (Equality a b n) g = g.1 ∙ sym g.2
    at_one (Recorded z n c k) g = tt
    at_one (NonNullPair n a b) g = tt
    at_one (Opaque n) g = tt

    all_at_one : (k : List (Conjunct Val)) → FitsAll S H left N k → AllAtOne left k
    all_at_one [] g = tt
    all_at_one (x ∷ k) g = (at_one x g.0, all_at_one k g.1)

    by-label : (c : ℕ) → c < 64 → left (f c) ≡ left c
    by-label = same left (all_at_one l fits)

    says : (x : Conjunct Val) → Placed x → Fits S H left N x → Said S left f x
    says (Bounds c k) p g = ap (obeys_all S k) (by-label c p) ∙ g
    says (Normalized c k) p g = ap (obeys_all S k) (by-label c p) ∙ g
    says (Equality a b n) p g = (
      ap (obeys S (Require NonNull)) (by-label a p.0 ∙ g.1),
      ap (obeys S (Require NonNull)) (by-label b p.1 ∙ g.2),
    )
    says (Recorded z n c k) p g = ap (obeys_all S k) (by-label c p) ∙ g
    says (NonNullPair n a b) p g = (
      ap (obeys S (Require NonNull)) (by-label a p.0 ∙ g.0.1),
      ap (obeys S (Require NonNull)) (by-label b p.1 ∙ g.1.1),
    )
    says (Opaque n) p g = tt

    says_all : (k : List (Conjunct Val)) → All Placed k → FitsAll S H left N k → All (Said S left f) k
    says_all [] p g = tt
    says_all (x ∷ k) p g = (says x p.0 g.0, says_all k p.1 g.1)

    front-admits : AdmitsAll S left (told S f m)
    unfolding told
    front-admits =
        tells-admit S left f m (λ c. empty)
        (all_front (Said S left f) m r (subst (All (Said S left f)) front (says_all l placed fits)))
        (empty-admits S left f)

    front-alive : (c : ℕ) → (told S f m c).unsat ≡ false
    front-alive c = alive S (told S f m c) (left c) (front-admits c)

    front-resolved : (c : ℕ) → (resolve_deferred S (told S f m c)).unsat ≡ false
    front-resolved c =
        alive S (resolve_deferred S (told S f m c)) (left c)
        (resolve_is_exact S (told S f m c) (left c) ∙ front-admits c)

  -- A front of the lines made a column impossible.
  pub told-stopped : (m r : List (Conjunct Val)) → l ≡ (m ++ r) → (c : ℕ) → (told S f m c).unsat ≡ true
      → dead S (collect S l begin) ≡ true
  told-stopped m r e c u = go (dead S (collect S l begin)) refl
    where
      go : (b : Bool) → dead S (collect S l begin) ≡ b → b ≡ true
      go true p = refl
      go false p = absurd (true≢false (sym u ∙ front-alive p m r e c))

  -- Each column resolved: one of cs, which has every place, is impossible or none is.
  pub told-resolved : (cs : List ℕ) → ((c : ℕ) → c < 64 → In S c cs) → l ≡ (l ++ [])
      → any_unsat cs (λ c. resolve_deferred S (told S f l c)) ≡ dead S (collect S l begin)
  told-resolved cs i e =
      same_truth (any_unsat cs (λ c. resolve_deferred S (told S f l c))) (dead S (collect S l begin))
      (λ h. none-dead (λ c k. unsat-none S (λ c. none) N cs (λ c. resolve_deferred S (told S f l c)) h c (i c k)))
      (λ h. unsat-all S cs (λ c. resolve_deferred S (told S f l c)) (front-resolved h l [] e))
