-- What holds of every column with a literal that is read with it (P c v) holds of every column and value of the answer.
-- An equality must carry it both ways, for the values of one side reach the other.
use Rattle.constraints.proofs.Resolves.{resolve_if, range_of}
use Rattle.truth.specs.Order.{is_equal}
use mathlib.Core.Bool.{Bool, true, false, ◌||◌, cond}
use mathlib.Core.List.{List, [], ◌∷◌, ◌++◌, map}
use mathlib.Core.Option.{Option, none, some}
use Prim.Native.Nat.{ℕ, zero, suc}
use lib.Dec.{eqb}
use lib.ListN.{length}
use Rattle.std.specs.declared.cmp.Ordering.{Ordering}
use Rattle.std.specs.declared.cmp.Ordering.TheVariants.{Equal, Greater, Less}
use Rattle.constraints.specs.Bound.{Bound, absent, at, tighten, tighten_by, of_bound}
use Rattle.constraints.specs.Column.{Allow, ColumnConstraints, Constraint, Disallow, Exclude, Lower, Require, Upper}
use Rattle.constraints.specs.Column.{add, add_all, allowed_of, emitted, merge_from, put}
use Rattle.constraints.specs.Column.{recorded}
use Rattle.constraints.specs.Comparisons.{ColumnComparison, collect_by, collect_column_comparisons, IsLower, IsUpper}
use Rattle.constraints.specs.Comparisons.{IsNotEq}
use Rattle.constraints.specs.Resolve.{Range, classify_at, fixed_at, open_at, resolve_deferred}
use Rattle.constraints.specs.Resolve.{resolve_excluded, resolve_by}
use Rattle.constraints.specs.Scalars.{Scalars, opposite}
use Rattle.constraints.specs.Values.{contains, insert}
use Rattle.constraints.specs.declared.column.ExcludedResolution.{ExcludedResolution}
use Rattle.constraints.specs.declared.column.ExcludedResolution.TheVariants.{Drop, Keep, TightenLower, TightenUpper}
use Rattle.constraints.specs.declared.column.Nullability.TheVariants.{NonNull}
use Rattle.merge.proofs.Passes.{edge-ind}
use Rattle.merge.proofs.Sound.{upd_ind}
use Rattle.merge.specs.Classify.{Bounds, Conjunct, Equality, NonNullPair, Normalized, Opaque, Recorded}
use Rattle.merge.specs.Collect.{Collected, Table, add_to, begin, collect, collect_one}
use Rattle.merge.specs.Collect.{require_non_null}
use Rattle.merge.specs.Emit.{NothingPasses, Outcome, Rebuilt, Unchanged, any_unsat, comparisons, conclude}
use Rattle.merge.specs.Emit.{kept_equalities, merge_filter_constraints, of_column, rewrites}
use Rattle.merge.specs.Emit.{propagated, resolved}
use Rattle.merge.specs.Propagate.{merge_edge, merged_right, pass, pass_any, propagate}
use Rattle.merge.specs.Rebuild.{value_of}

module _ {Val : Type 0} (P : Val → Type 0) where
  abbrev BoundP : Bound Val → Type 0
  BoundP absent = Unit {0}
  BoundP (at c v) = P v

  abbrev ListP : List Val → Type 0
  ListP [] = Unit {0}
  ListP (v ∷ l) = P v × ListP l

  abbrev ColumnP : ColumnConstraints Val → Type 0
  ColumnP q = BoundP q.lower × BoundP q.upper × ListP q.excluded

  abbrev ConstraintP : Constraint Val → Type 0
  ConstraintP (Lower c v) = P v
  ConstraintP (Upper c v) = P v
  ConstraintP (Exclude v) = P v
  ConstraintP (Allow l) = Unit {0}
  ConstraintP (Disallow h l) = Unit {0}
  ConstraintP (Require n) = Unit {0}

  abbrev pub ConstraintsP : List (Constraint Val) → Type 0
  ConstraintsP [] = Unit {0}
  ConstraintsP (a ∷ l) = ConstraintP a × ConstraintsP l

  list-snoc : (l : List Val) (v : Val) → ListP l → P v → ListP (l ++ (v ∷ []))
  list-snoc [] v h p = (p, tt)
  list-snoc (w ∷ l) v h p = (h.0, list-snoc l v h.1 p)

  adds_app : (l m : List (Constraint Val)) → ConstraintsP l → ConstraintsP m → ConstraintsP (l ++ m)
  adds_app [] m h k = k
  adds_app (a ∷ l) m h k = (h.0, adds_app l m h.1 k)

module _ {Val : Type 0} (P P' : Val → Type 0) (f : (v : Val) → P v → P' v) where
  bound_map : (b : Bound Val) → BoundP P b → BoundP P' b
  bound_map absent h = tt
  bound_map (at c v) h = f v h

  list-map : (l : List Val) → ListP P l → ListP P' l
  list-map [] h = tt
  list-map (v ∷ l) h = (f v h.0, list-map l h.1)

  column-map : (q : ColumnConstraints Val) → ColumnP P q → ColumnP P' q
  column-map q h = (bound_map q.lower h.0, bound_map q.upper h.1, list-map q.excluded h.2)

module _ {K Val : Type 0} (P : Val → Type 0) where
  tighten-p : (S : Scalars K Val) (b : Bound Val) (c : Bool) (v : Val) → BoundP P b → P v → BoundP P (tighten S b c v).bound
  tighten-p S absent c v h p = p
  tighten-p S (at d w) c v h p = go (S.order.cmp (S.key v) (S.key w))
    where
      go : (o : Ordering) → BoundP P (tighten_by o d w c v).bound
      go Less = h
      go Equal = h
      go Greater = p

-- ---- one column
module _ {K Val : Type 0} (S : Scalars K Val) (P : Val → Type 0) (opens : (w e : Val) → P w → P e → P (S.opened w e))
  where
    ins_p : (v : Val) (l : List Val) → P v → ListP P l → ListP P (insert S v l)
    ins_p v l p h = go (contains S (S.key v) l)
      where
        go : (b : Bool) → ListP P (cond b l (l ++ (v ∷ [])))
        go true = h
        go false = list-snoc P l v h p

    put-p : (a : Constraint Val) (q : ColumnConstraints Val) → ConstraintP P a → ColumnP P q → ColumnP P (put S a q)
    put-p (Lower c v) q p h = (tighten-p P S q.lower c v h.0 p, h.1, h.2)
    put-p (Upper c v) q p h = (h.0, tighten-p P (opposite S) q.upper c v h.1 p, h.2)
    put-p (Exclude v) q p h = (h.0, h.1, ins_p v q.excluded p h.2)
    put-p (Allow l) q p h = h
    put-p (Disallow b l) q p h = h
    put-p (Require n) q p h = h

    add_all-p : (l : List (Constraint Val)) (q : ColumnConstraints Val) → ConstraintsP P l → ColumnP P q →
        ColumnP P (add_all S l q)
    add_all-p [] q p h = h
    add_all-p (a ∷ l) q p h = add_all-p l (add S a q) p.1 (go q.unsat)
      where
        go : (b : Bool) → ColumnP P (cond b q (put S a q))
        go true = h
        go false = put-p a q p.0 h

    lows_p : (b : Bound Val) → BoundP P b → ConstraintsP P (of_bound Lower b)
    lows_p absent h = tt
    lows_p (at c v) h = (h, tt)

    ups_p : (b : Bound Val) → BoundP P b → ConstraintsP P (of_bound Upper b)
    ups_p absent h = tt
    ups_p (at c v) h = (h, tt)

    excs_p : (l : List Val) → ListP P l → ConstraintsP P (map Exclude l)
    excs_p [] h = tt
    excs_p (v ∷ l) h = (h.0, excs_p l h.1)

    allows_p : (o : Option (List Val)) → ConstraintsP P (allowed_of o)
    allows_p none = tt
    allows_p (some l) = (tt, tt)

    merge_from-p : (q r : ColumnConstraints Val) → ColumnP P q → ColumnP P r → ColumnP P (merge_from S q r)
    merge_from-p q r h k = add_all-p (recorded r) (add_all S (emitted r) q)
        (adds_app P (allowed_of r.allowed) (Disallow false r.disallowed ∷ []) (allows_p r.allowed) (tt, tt))
        (add_all-p (emitted r) q (adds_app P (of_bound Lower r.lower)
        (of_bound Upper r.upper ++ map Exclude r.excluded)
        (lows_p r.lower k.0) (adds_app P (of_bound Upper r.upper) (map Exclude r.excluded)
        (ups_p r.upper k.1)
        (excs_p r.excluded k.2))) h)

    -- ---- resolving
    abbrev RngP : Range Val → Type 0
    RngP r = BoundP P r.lower × BoundP P r.upper × ListP P r.kept

    open_p : (b : Bound Val) (e : Val) → BoundP P b → P e → BoundP P (open_at S b e)
    open_p absent e h p = p
    open_p (at c w) e h p = opens w e h p

    walk-p : (l : List Val) (r : Range Val) → ListP P l → RngP r → RngP (resolve_excluded S l r)
    walk-p [] r p h = h
    walk-p (e ∷ l) r p h = walk-p l (resolve_if S r.crossed e r) p.1 (go r.crossed)
      where
        fated : (f : ExcludedResolution) → RngP (resolve_by S f e r)
        fated Drop = h
        fated Keep = (h.0, h.1, ins_p e r.kept p.0 h.2)
        fated TightenLower = (open_p r.lower e h.0 p.0, h.1, h.2)
        fated TightenUpper = (h.0, open_p r.upper e h.1 p.0, h.2)

        go : (b : Bool) → RngP (resolve_if S b e r)
        go true = h
        go false = fated (classify_at S r.lower r.upper e)

    resolve_p : (q : ColumnConstraints Val) → ColumnP P q → ColumnP P (resolve_deferred S q)
    resolve_p q h = walk-p q.excluded (range_of q) h.2 (h.0, h.1, tt)

    -- ---- what is written
    abbrev ComparisonsP : List (ColumnComparison Val) → Type 0
    ComparisonsP [] = Unit {0}
    ComparisonsP (x ∷ l) = P (value_of x) × ComparisonsP l

    comps_app : (l m : List (ColumnComparison Val)) → ComparisonsP l → ComparisonsP m → ComparisonsP (l ++ m)
    comps_app [] m h k = k
    comps_app (x ∷ l) m h k = (h.0, comps_app l m h.1 k)

    lo_p : (b : Bound Val) → BoundP P b → ComparisonsP (of_bound IsLower b)
    lo_p absent h = tt
    lo_p (at c v) h = (h, tt)

    hi_p : (b : Bound Val) → BoundP P b → ComparisonsP (of_bound IsUpper b)
    hi_p absent h = tt
    hi_p (at c v) h = (h, tt)

    ne_p : (l : List Val) → ListP P l → ComparisonsP (map IsNotEq l)
    ne_p [] h = tt
    ne_p (v ∷ l) h = (h.0, ne_p l h.1)

    abbrev PinP : Option Val → Type 0
    PinP none = Unit {0}
    PinP (some v) = P v

    pin_p : (b u : Bound Val) → BoundP P b → PinP (fixed_at S b u)
    pin_p absent u h = tt
    pin_p (at false v) u h = tt
    pin_p (at true v) absent h = tt
    pin_p (at true v) (at false w) h = tt
    pin_p (at true v) (at true w) h = go (S.order.cmp (S.key v) (S.key w))
      where
        go : (o : Ordering) → PinP (cond (is_equal o) (some v) none)
        go Less = tt
        go Equal = h
        go Greater = tt

    comps_p : (q : ColumnConstraints Val) → ColumnP P q → ComparisonsP (collect_column_comparisons S q)
    comps_p q h = go (fixed_at S q.lower q.upper) (pin_p q.lower q.upper h.0)
      where
        go : (o : Option Val) → PinP o → ComparisonsP (collect_by o q)
        go (some v) p = (p, tt)
        go none p = comps_app (of_bound IsLower q.lower)
            (of_bound IsUpper q.upper ++ map IsNotEq q.excluded) (lo_p q.lower h.0)
            (comps_app (of_bound IsUpper q.upper) (map IsNotEq q.excluded) (hi_p q.upper h.1)
            (ne_p q.excluded h.2))

-- ---- all columns
module _ {K Val : Type 0} (S : Scalars K Val) (P : ℕ → Val → Type 0)
    (opens : (c : ℕ) (w e : Val) → P c w → P c e → P c (S.opened w e)) where
  -- two columns of which the same is asked
  abbrev pub Alike : ℕ → ℕ → Type 0
  Alike a b = ((v : Val) → P a v → P b v) × ((v : Val) → P b v → P a v)

  abbrev EdgesAlike : List (ℕ × ℕ × ℕ) → Type 0
  EdgesAlike [] = Unit {0}
  EdgesAlike (e ∷ es) = Alike e.0 e.1 × EdgesAlike es

  alike-snoc : (es : List (ℕ × ℕ × ℕ)) (e : ℕ × ℕ × ℕ) → EdgesAlike es → Alike e.0 e.1 → EdgesAlike (es ++ (e ∷ []))
  alike-snoc [] e h k = (k, tt)
  alike-snoc (d ∷ es) e h k = (h.0, alike-snoc es e h.1 k)

  abbrev TabP : Table Val → Type 0
  TabP t = (c : ℕ) → ColumnP (P c) (t c)

  pass-p : (es : List (ℕ × ℕ × ℕ)) (t : Table Val) → EdgesAlike es → TabP t → TabP (pass S es t)
  pass-p [] t k h = h
  pass-p (e ∷ es) t k h =
      let b : ColumnP (P e.1) (merged_right S e.0 e.1 t) =
      merge_from-p S (P e.1) (opens e.1) (t e.1) (t e.0) (h e.1)
      (column-map (P e.0) (P e.1) k.0.0 (t e.0) (h e.0)) in
      pass-p es (merge_edge S e.0 e.1 t) k.1
      (edge-ind S (λ c q. ColumnP (P c) q) e.0 e.1 t h b
      (merge_from-p S (P e.0) (opens e.0) (t e.0) (merged_right S e.0 e.1 t) (h e.0)
      (column-map (P e.1) (P e.0) k.0.1 (merged_right S e.0 e.1 t) b)) (eqb e.0 e.1))

  run_p : (n : ℕ) (es : List (ℕ × ℕ × ℕ)) (t : Table Val) → EdgesAlike es → TabP t → TabP (propagate S n es t)
  run_p zero es t k h = h
  run_p (suc n) es t k h = go (pass_any S es t) (run_p n es (pass S es t) k (pass-p es t k h))
    where
      go : (b : Bool) → TabP (propagate S n es (pass S es t)) →
          TabP (cond b (propagate S n es (pass S es t)) (pass S es t))
      go true k' = k'
      go false k' = pass-p es t k h

  -- ---- what is written
  abbrev pub WrittenP : List (ℕ × ColumnComparison Val) → Type 0
  WrittenP [] = Unit {0}
  WrittenP (x ∷ l) = P x.0 (value_of x.1) × WrittenP l

  written-app : (l m : List (ℕ × ColumnComparison Val)) → WrittenP l → WrittenP m → WrittenP (l ++ m)
  written-app [] m h k = k
  written-app (x ∷ l) m h k = (h.0, written-app l m h.1 k)

  tag_p : (c : ℕ) (l : List (ColumnComparison Val)) → ComparisonsP S (P c) (opens c) l → WrittenP (of_column c l)
  tag_p c [] h = tt
  tag_p c (x ∷ l) h = (h.0, tag_p c l h.1)

  written-p : (cs : List ℕ) (t : Table Val) → TabP t → WrittenP (comparisons S cs t)
  written-p [] t h = tt
  written-p (c ∷ cs) t h = written-app (of_column c (collect_column_comparisons S (t c))) (comparisons S cs t)
      (tag_p c (collect_column_comparisons S (t c)) (comps_p S (P c) (opens c) (t c) (h c))) (written-p cs t h)

  -- ---- reading
  abbrev pub ConjunctP : Conjunct Val → Type 0
  ConjunctP (Bounds c l) = ConstraintsP (P c) l
  ConjunctP (Normalized c l) = ConstraintsP (P c) l
  ConjunctP (Equality a b m) = Alike a b
  ConjunctP (Recorded z m c l) = ConstraintsP (P c) l
  ConjunctP (NonNullPair m a b) = Unit {0}
  ConjunctP (Opaque m) = Unit {0}

  abbrev pub ConjunctsP : List (Conjunct Val) → Type 0
  ConjunctsP [] = Unit {0}
  ConjunctsP (c ∷ l) = ConjunctP c × ConjunctsP l

  abbrev StP : Collected Val → Type 0
  StP s = TabP s.constraints × EdgesAlike s.edges

  told-p : (c : ℕ) (l : List (Constraint Val)) (t : Table Val) → ConstraintsP (P c) l → TabP t →
      TabP (add_to S c l t)
  told-p c l t p h =
      upd_ind S (λ d q. ColumnP (P d) q) t c (add_all S l (t c)) h (add_all-p S (P c) (opens c) l (t c) p (h c))

  pair_p : (a b : ℕ) (t : Table Val) → TabP t → TabP (require_non_null S b (require_non_null S a t))
  pair_p a b t h =
      told-p b (Require NonNull ∷ []) (require_non_null S a t) (tt, tt) (told-p a (Require NonNull ∷ []) t (tt, tt) h)

  read_p : (x : Conjunct Val) (s : Collected Val) → ConjunctP x → StP s → StP (collect_one S x s)
  read_p (Bounds c l) s p h = (told-p c l s.constraints p h.0, h.1)
  read_p (Normalized c l) s p h = (told-p c l s.constraints p h.0, h.1)
  read_p (Equality a b m) s p h = (pair_p a b s.constraints h.0, alike-snoc s.edges (a, b, m) h.1 p)
  read_p (Recorded z m c l) s p h = (told-p c l s.constraints p h.0, h.1)
  read_p (NonNullPair m a b) s p h = (pair_p a b s.constraints h.0, h.1)
  read_p (Opaque m) s p h = h

  read_all_p : (l : List (Conjunct Val)) (s : Collected Val) → ConjunctsP l → StP s → StP (collect S l s)
  read_all_p [] s p h = h
  read_all_p (x ∷ l) s p h = read_all_p l (cond s.unsat s (collect_one S x s)) p.1 (go s.unsat)
    where
      go : (b : Bool) → StP (cond b s (collect_one S x s))
      go true = h
      go false = read_p x s p.0 h

  abbrev pub OutcomeP : Outcome Val → Type 0
  OutcomeP Unchanged = Unit {0}
  OutcomeP NothingPasses = Unit {0}
  OutcomeP (Rebuilt ns cs) = WrittenP cs

  finish_p : (s : Collected Val) → StP s → OutcomeP (conclude S s)
  finish_p s h = go (s.unsat || any_unsat s.order (resolved S s)) (rewrites S s)
    where
      go : (b d : Bool) → OutcomeP (cond b NothingPasses (cond d
          (Rebuilt (s.opaque ++ kept_equalities S (propagated S s) s.edges)
          (comparisons S s.order (resolved S s))) Unchanged))
      go true d = tt
      go false true = written-p s.order (resolved S s)
          (λ c. resolve_p S (P c) (opens c) (propagated S s c)
          (run_p (length s.order) s.edges s.constraints h.1 h.0 c))
      go false false = tt

  -- every column and value of the answer is one of those read
  pub merge_p : (l : List (Conjunct Val)) → ConjunctsP l → OutcomeP (merge_filter_constraints S l)
  merge_p l p = finish_p (collect S l (begin)) (read_all_p l (begin) p (λ c. (tt, tt, tt), tt))
