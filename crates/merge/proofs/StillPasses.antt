-- Passes over equalities whose ends agree on bounds and excluded values: nothing that is written out moves. Allowed and
-- disallowed lists may travel.
use mathlib.Core.Path.{◌≡◌, refl, sym, ◌∙◌, ap, subst}
use mathlib.Core.Bool.{Bool, true, false, not, ◌&&◌, ◌||◌, true≢false, cond, or-true, and-false}
use mathlib.Core.List.{List, [], ◌∷◌, ◌++◌, map}
use mathlib.Core.Option.{Option, none, some}
use mathlib.Core.Logic.{◌⊎◌, inl, inr}
use Prim.Native.Nat.{ℕ, zero, suc}
use lib.Dec.{eqb}
use Rattle.truth.proofs.Orders.{cmp-eq, cmp-refl}
use Rattle.truth.specs.Order.{is_equal}
use Rattle.constraints.proofs.Bounds.{SameBound, tighten-changes_nothing, tightens}
use Rattle.constraints.specs.Bound.{Bound, absent, at, crosses, is_change, of_bound, opened_by, tighten}
use Rattle.constraints.specs.Column.{Allow, ColumnConstraints, Constraint, Disallow, Exclude, Lower, Upper}
use Rattle.constraints.specs.Column.{add, add_all, allowed_of, changes, changes_all, column, emitted, merge_emitted}
use Rattle.constraints.specs.Column.{merge_from, put}
use Rattle.constraints.specs.Scalars.{Scalars, opposite}
use Rattle.constraints.specs.Values.{contains}
use Rattle.merge.specs.Collect.{Table}
use Rattle.merge.specs.Propagate.{merge_edge, merged_right, pass, pass_any, pass_emitted}
use Rattle.merge.specs.Propagate.{propagate, propagate_emitted}
use Rattle.merge.proofs.Passes.{edge-ind, edge_emitted_if, merge_edge_if, eqb-self}
use Rattle.merge.proofs.Complete.{AllE}
use Rattle.merge.proofs.Settled.{Agree, agree_flip}

-- The same bounds and excluded values, and possible.
pub record SameEmitted {Val : Type 0} (q m : ColumnConstraints Val) : Type 0 where
  pub low : q.lower ≡ m.lower
  pub up : q.upper ≡ m.upper
  pub exc : q.excluded ≡ m.excluded
  pub live : q.unsat ≡ false

module _ {K Val : Type 0} (S : Scalars K Val) where
  abbrev Uncrossed : ColumnConstraints Val → Type 0
  Uncrossed q = crosses S q.lower q.upper ≡ false

  opened-self : (c : Bool) → is_change (opened_by c c) ≡ false
  opened-self true = refl
  opened-self false = refl

  same-tightens : (P : Scalars K Val) (c : Bool) (v : Val) (d : Bool) (w : Val) → P.key v ≡ P.key w → c ≡ d →
      tightens P (at c v) d w ≡ false
  same-tightens P c v d w e f = rw (cmp-eq P.total (sym e), f) (opened-self d)

  -- ---- adding what is there already
  put-lower : (q : ColumnConstraints Val) (c : Bool) (v : Val) → tightens S q.lower c v ≡ false → Uncrossed q →
      q.unsat ≡ false → put S (Lower c v) q ≡ q
  put-lower q c v t x s =
      let e : (tighten S q.lower c v).bound ≡ q.lower = tighten-changes_nothing S q.lower c v t in
      let u : crosses S (tighten S q.lower c v).bound q.upper ≡ q.unsat =
      ap (λ b. crosses S b q.upper) e ∙ x ∙ sym s in
      λ i. column (e i) q.upper q.excluded q.allowed q.disallowed q.strict q.nullability (u i)

  put-upper : (q : ColumnConstraints Val) (c : Bool) (v : Val) → tightens (opposite S) q.upper c v ≡ false →
      Uncrossed q → q.unsat ≡ false → put S (Upper c v) q ≡ q
  put-upper q c v t x s =
      let e : (tighten (opposite S) q.upper c v).bound ≡ q.upper = tighten-changes_nothing (opposite S) q.upper c v t in
      let u : crosses S q.lower (tighten (opposite S) q.upper c v).bound ≡ q.unsat =
      ap (crosses S q.lower) e ∙ x ∙ sym s in
      λ i. column q.lower (e i) q.excluded q.allowed q.disallowed q.strict q.nullability (u i)

  -- nothing changes, and nothing is reported
  abbrev Idle : List (Constraint Val) → ColumnConstraints Val → Type 0
  Idle l q = (add_all S l q ≡ q) × (changes_all S l q ≡ false)

  idle_cons : (a : Constraint Val) (l : List (Constraint Val)) (q : ColumnConstraints Val) → q.unsat ≡ false →
      changes S a q ≡ false → put S a q ≡ q → Idle l q → Idle (a ∷ l) q
  idle_cons a l q s c p h =
      let e : add S a q ≡ q = ap (λ b. cond b q (put S a q)) s ∙ p in (
        ap (add_all S l) e ∙ h.0,
        ap (λ b. (not q.unsat && b) || changes_all S l (add S a q)) c
            ∙ ap (λ b. b || changes_all S l (add S a q)) (and-false (not q.unsat))
            ∙ ap (changes_all S l) e ∙ h.1,
      )

  lower-idle : (b : Bound Val) (l : List (Constraint Val)) (q : ColumnConstraints Val) → q.unsat ≡ false →
      Uncrossed q → SameBound S q.lower b → Idle l q → Idle (of_bound Lower b ++ l) q
  lower-idle absent l q s x e h = h
  lower-idle (at d w) l q s x e h = let t = go q.lower e in
      idle_cons (Lower d w) l q s t (put-lower q d w t x s) h
    where
      go : (a : Bound Val) → SameBound S a (at d w) → tightens S a d w ≡ false
      go absent e = absurd e
      go (at c v) e = same-tightens S c v d w e.0 e.1

  upper-idle : (b : Bound Val) (l : List (Constraint Val)) (q : ColumnConstraints Val) → q.unsat ≡ false →
      Uncrossed q → SameBound (opposite S) q.upper b → Idle l q → Idle (of_bound Upper b ++ l) q
  upper-idle absent l q s x e h = h
  upper-idle (at d w) l q s x e h = let t = go q.upper e in
      idle_cons (Upper d w) l q s t (put-upper q d w t x s) h
    where
      go : (a : Bound Val) → SameBound (opposite S) a (at d w) → tightens (opposite S) a d w ≡ false
      go absent e = absurd e
      go (at c v) e = same-tightens (opposite S) c v d w e.0 e.1

  excludes_idle : (l : List Val) (q : ColumnConstraints Val) → q.unsat ≡ false →
      ((k : K) → contains S k l ≡ true → contains S k q.excluded ≡ true) → Idle (map Exclude l) q
  excludes_idle [] q s h = (refl, refl)
  excludes_idle (v ∷ l) q s h =
      let c : contains S (S.key v) q.excluded ≡ true = h (S.key v) (rw (cmp-refl S.total (S.key v))) in
      idle_cons (Exclude v) (map Exclude l) q s (ap not c)
      (ap (λ b. column q.lower q.upper (cond b q.excluded (q.excluded ++ (v ∷ []))) q.allowed
      q.disallowed q.strict q.nullability q.unsat) c)
      (excludes_idle l q s (λ k e. h k (rw e (or-true (is_equal (S.order.cmp k (S.key v)))))))

  -- what an agreeing column says is there already
  pub agree_idle : (q r : ColumnConstraints Val) → q.unsat ≡ false → Uncrossed q → Agree S q r → Idle (emitted r) q
  agree_idle q r s x g =
      lower-idle r.lower (of_bound Upper r.upper ++ map Exclude r.excluded) q s x g.low
      (upper-idle r.upper (map Exclude r.excluded) q s x g.up
      (excludes_idle r.excluded q s (λ k e. g.exc k ∙ e)))

  -- ---- lists leave bounds and excluded values alone
  same-trans : (p q m : ColumnConstraints Val) → p.lower ≡ q.lower → p.upper ≡ q.upper →
      p.excluded ≡ q.excluded → p.unsat ≡ q.unsat → SameEmitted q m → SameEmitted p m
  same-trans p q m a b c d h =
      record { low = a ∙ h.low; up = b ∙ h.up; exc = c ∙ h.exc; live = d ∙ h.live }

  allow_same : (l : List Val) (q m : ColumnConstraints Val) → SameEmitted q m → SameEmitted (add S (Allow l) q) m
  allow_same l q m h = go q.unsat
    where
      go : (b : Bool) → SameEmitted (cond b q (put S (Allow l) q)) m
      go true = h
      go false = same-trans (put S (Allow l) q) q m refl refl refl refl h

  disallow_same : (c : Bool) (l : List Val) (q m : ColumnConstraints Val) → SameEmitted q m →
      SameEmitted (add S (Disallow c l) q) m
  disallow_same c l q m h = go q.unsat
    where
      go : (b : Bool) → SameEmitted (cond b q (put S (Disallow c l) q)) m
      go true = h
      go false = same-trans (put S (Disallow c l) q) q m refl refl refl refl h

  recorded-same : (o : Option (List Val)) (d : List Val) (q m : ColumnConstraints Val) → SameEmitted q m →
      SameEmitted (add_all S (allowed_of o ++ (Disallow false d ∷ [])) q) m
  recorded-same none d q m h = disallow_same false d q m h
  recorded-same (some l) d q m h = disallow_same false d (add S (Allow l) q) m (allow_same l q m h)

  pub merge_same : (q r m : ColumnConstraints Val) → SameEmitted q m → Uncrossed q → Agree S q r →
      SameEmitted (merge_from S q r) m × (merge_emitted S q r ≡ false)
  merge_same q r m h x g =
      let i = agree_idle q r h.live x g in (
        recorded-same r.allowed r.disallowed (add_all S (emitted r) q) m
            (subst (λ p. SameEmitted p m) (sym i.0) h),
        i.1,
      )

  -- ---- a table with the bounds and excluded values of another, whose ends agree
  module _ (T : Table Val) (straight : (c : ℕ) → Uncrossed (T c)) where
    abbrev pub AllSame : Table Val → Type 0
    AllSame t = (c : ℕ) → SameEmitted (t c) (T c)

    abbrev pub Meeting : ℕ → ℕ → Type 0
    Meeting a b = (a ≡ b) ⊎ Agree S (T a) (T b)

    abbrev pub AllMeeting : List (ℕ × ℕ × ℕ) → Type 0
    AllMeeting es = AllE (λ e. Meeting e.0 e.1) es

    agree_of : (q r m n : ColumnConstraints Val) → SameEmitted q m → SameEmitted r n → Agree S m n → Agree S q r
    agree_of q r m n h k g =
        record {
          low = subst (λ b. SameBound S b r.lower) (sym h.low) (subst (SameBound S m.lower) (sym k.low)
              g.low);
          up = subst (λ b. SameBound (opposite S) b r.upper) (sym h.up)
              (subst (SameBound (opposite S) m.upper) (sym k.up) g.up);
          exc = λ j. ap (contains S j) h.exc ∙ g.exc j ∙ sym (ap (contains S j) k.exc);
        }

    uncrossed_of : (c : ℕ) (q : ColumnConstraints Val) → SameEmitted q (T c) → Uncrossed q
    uncrossed_of c q h = ap (λ l. crosses S l q.upper) h.low ∙ ap (crosses S (T c).lower) h.up ∙ straight c

    edge_same : (a b : ℕ) (t : Table Val) → AllSame t → (o : Bool) → eqb a b ≡ o → Meeting a b →
        AllSame (merge_edge_if S o a b t) × (edge_emitted_if S o a b t ≡ false)
    edge_same a b t h true e g = (h, refl)
    edge_same a b t h false e (inl p) = absurd (true≢false (sym (eqb-self a) ∙ ap (eqb a) p ∙ e))
    edge_same a b t h false e (inr g) =
        let r = merge_same (t b) (t a) (T b) (h b) (uncrossed_of b (t b) (h b))
        (agree_of (t b) (t a) (T b) (T a) (h b) (h a) (agree_flip S (T a) (T b) g)) in
        let l = merge_same (t a) (merged_right S a b t) (T a) (h a) (uncrossed_of a (t a) (h a))
        (agree_of (t a) (merged_right S a b t) (T a) (T b) (h a) r.0 g) in (
          edge-ind S (λ c q. SameEmitted q (T c)) a b t h r.0 l.0 false,
          ap (λ x. x || merge_emitted S (t a) (merged_right S a b t)) r.1 ∙ l.1,
        )

    pub pass_same : (es : List (ℕ × ℕ × ℕ)) (t : Table Val) → AllMeeting es → AllSame t →
        AllSame (pass S es t) × (pass_emitted S es t ≡ false)
    pass_same [] t g h = (h, refl)
    pass_same (e ∷ es) t g h =
        let s = edge_same e.0 e.1 t h (eqb e.0 e.1) refl g.0 in
        let r = pass_same es (merge_edge S e.0 e.1 t) g.1 s.0 in
        (r.0, ap (λ x. x || pass_emitted S es (merge_edge S e.0 e.1 t)) s.1 ∙ r.1)

    -- nothing that is written out moves
    pub propagate-same : (n : ℕ) (es : List (ℕ × ℕ × ℕ)) (t : Table Val) → AllMeeting es → AllSame t →
        AllSame (propagate S n es t) × (propagate_emitted S n es t ≡ false)
    propagate-same zero es t g h = (h, refl)
    propagate-same (suc n) es t g h =
        let p = pass_same es t g h in
        let r = propagate-same n es (pass S es t) g p.0 in
        (go (pass_any S es t) r.0 p.0, ap (λ x. x || rest (pass_any S es t)) p.1 ∙ quiet (pass_any S es t) r.1)
      where
        go : (b : Bool) → AllSame (propagate S n es (pass S es t)) → AllSame (pass S es t) →
            AllSame (cond b (propagate S n es (pass S es t)) (pass S es t))
        go true x y = x
        go false x y = y

        rest : Bool → Bool
        rest b = cond b (propagate_emitted S n es (pass S es t)) false

        quiet : (b : Bool) → propagate_emitted S n es (pass S es t) ≡ false → rest b ≡ false
        quiet true x = x
        quiet false x = refl
