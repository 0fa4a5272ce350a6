-- What the passes over the equalities do to a row's values, and the table that they end in.
use Rattle.merge.specs.Passes.{pass_times}
use mathlib.Core.Path.{◌≡◌, refl, sym, ◌∙◌, ap, subst, fun_ext}
use mathlib.Core.Bool.{Bool, true, false, not, ◌&&◌, true≢false}
use mathlib.Core.List.{List, [], ◌∷◌}
use mathlib.Core.Option.{Option, some}
use mathlib.Core.Logic.{◌⊎◌, inl, inr}
use Prim.Native.Nat.{ℕ, zero, suc}
use lib.Dec.{eqb}
use Rattle.constraints.proofs.Columns.{admits, admits_emitted, admits_recorded, value_fits}
use Rattle.constraints.proofs.Merges.{Implies, merge_changes_nothing, merge_emitted_lem, merge_is_intersection}
use Rattle.constraints.proofs.Merges.{merge_recorded, or_no}
use Rattle.constraints.specs.Column.{ColumnConstraints, merge_any, merge_from}
use Rattle.constraints.specs.Resolve.{is_allowed}
use Rattle.constraints.specs.Scalars.{Scalars}
use Rattle.constraints.specs.Values.{contains}
use Rattle.merge.proofs.Passes.{EdgesIn, In, at_a, at_b, edge-ind, eqb-path, pass-unsat, merge_edge_if, edge_any_if}
use Rattle.merge.specs.Collect.{Table}
use Rattle.merge.specs.Propagate.{edge_any, merge_edge, merged_left, merged_right, pass, pass_any}

module _ {K Val : Type 0} (S : Scalars K Val) where
  -- both ends of each edge hold one value
  abbrev pub Linked : (ℕ → Option K) → ℕ → ℕ → Type 0
  Linked ρ a b = (k : K) × (ρ a ≡ some k) × (ρ b ≡ some k)

  abbrev pub Links : (ℕ → Option K) → List (ℕ × ℕ × ℕ) → Type 0
  Links ρ [] = Unit {0}
  Links ρ (e ∷ es) = Linked ρ e.0 e.1 × Links ρ es

  abbrev pub AdmitsAll : (ℕ → Option K) → Table Val → Type 0
  AdmitsAll ρ t = (c : ℕ) → admits S (t c) (ρ c) ≡ true

  merge_true : (q r : ColumnConstraints Val) (k : K) → admits S q (some k) ≡ true → admits S r (some k) ≡ true →
      admits S (merge_from S q r) (some k) ≡ true
  merge_true q r k h g = merge_is_intersection S q r k ∙
      ap (λ b. b && (admits_emitted S r (some k) &&
      (is_allowed S r.allowed k && not (contains S k r.disallowed)))) h ∙
      five (not r.unsat) (admits_emitted S r (some k)) (is_allowed S r.allowed k)
      (not (contains S k r.disallowed)) (value_fits r.nullability) g
    where
      five : (l s a d n : Bool) → (l && (s && (a && (d && n)))) ≡ true → (s && (a && d)) ≡ true
      five true true true true n h = refl
      five true true true false n h = h
      five true true false d n h = h
      five true false a d n h = h
      five false s a d n h = absurd (true≢false (sym h))

  pub pass-admits : (ρ : ℕ → Option K) (es : List (ℕ × ℕ × ℕ)) (t : Table Val) → Links ρ es → AdmitsAll ρ t →
      AdmitsAll ρ (pass S es t)
  pass-admits ρ [] t l h = h
  pass-admits ρ (e ∷ es) t l h = pass-admits ρ es (merge_edge S e.0 e.1 t) l.1
      (edge-ind S (λ c q. admits S q (ρ c) ≡ true) e.0 e.1 t h hb ha (eqb e.0 e.1))
    where
      k : K
      k = l.0.0

      at-k : (c : ℕ) (q : ColumnConstraints Val) → ρ c ≡ some k → admits S q (ρ c) ≡ true → admits S q (some k) ≡ true
      at-k c q p x = subst (λ y. admits S q y ≡ true) p x

      hb : admits S (merged_right S e.0 e.1 t) (ρ e.1) ≡ true
      hb = subst (λ y. admits S (merged_right S e.0 e.1 t) y ≡ true) (sym l.0.2)
          (merge_true (t e.1) (t e.0) k (at-k e.1 (t e.1) l.0.2 (h e.1))
          (at-k e.0 (t e.0) l.0.1 (h e.0)))

      ha : admits S (merged_left S e.0 e.1 t) (ρ e.0) ≡ true
      ha = subst (λ y. admits S (merged_left S e.0 e.1 t) y ≡ true) (sym l.0.1)
          (merge_true (t e.0) (merged_right S e.0 e.1 t) k (at-k e.0 (t e.0) l.0.1 (h e.0))
          (at-k e.1 (merged_right S e.0 e.1 t) l.0.2 hb))

  pub pass_times-admits : (ρ : ℕ → Option K) (n : ℕ) (es : List (ℕ × ℕ × ℕ)) (t : Table Val) → Links ρ es →
      AdmitsAll ρ t → AdmitsAll ρ (pass_times S n es t)
  pass_times-admits ρ zero es t l h = h
  pass_times-admits ρ (suc n) es t l h = pass_times-admits ρ n es (pass S es t) l (pass-admits ρ es t l h)

  -- ---- what a column shows and minds after the passes it did before
  alive : (x y : Bool) → (x ≡ true → y ≡ true) → y ≡ false → x ≡ false
  alive true y h e = sym (h refl) ∙ e
  alive false y h e = refl

  pub pass-live : (es : List (ℕ × ℕ × ℕ)) (t : Table Val) (c : ℕ) → (pass S es t c).unsat ≡ false → (t c).unsat ≡ false
  pass-live es t c = alive (t c).unsat (pass S es t c).unsat (pass-unsat S es t c)

  abbrev Tells : Option K → ColumnConstraints Val → Type 0
  Tells x q = (admits_emitted S q x ≡ true) × (admits_recorded S q x ≡ true)

  pub pass-emitted : (es : List (ℕ × ℕ × ℕ)) (t : Table Val) (c : ℕ) (x : Option K) → (pass S es t c).unsat ≡ false →
      admits_emitted S (pass S es t c) x ≡ true → admits_emitted S (t c) x ≡ true
  pass-emitted [] t c x f h = h
  pass-emitted (e ∷ es) t c x f h = edge-ind S (λ c q. q.unsat ≡ false → admits_emitted S q x ≡ true →
      admits_emitted S (t c) x ≡ true) e.0 e.1 t (λ c f h. h)
      (λ f h. merge_emitted_lem S (t e.1) (t e.0) x f h)
      (λ f h. merge_emitted_lem S (t e.0) (merged_right S e.0 e.1 t) x f h) (eqb e.0 e.1) c
      (pass-live es u c f) (pass-emitted es u c x f h)
    where
      u : Table Val
      u = merge_edge S e.0 e.1 t

  pub pass-recorded : (es : List (ℕ × ℕ × ℕ)) (t : Table Val) (c : ℕ) (x : Option K) → (pass S es t c).unsat ≡ false →
      admits_recorded S (pass S es t c) x ≡ true → admits_recorded S (t c) x ≡ true
  pass-recorded [] t c x f h = h
  pass-recorded (e ∷ es) t c x f h = edge-ind S (λ c q. q.unsat ≡ false → admits_recorded S q x ≡ true →
      admits_recorded S (t c) x ≡ true) e.0 e.1 t (λ c f h. h)
      (λ f h. merge_recorded S (t e.1) (t e.0) x f h)
      (λ f h. merge_recorded S (t e.0) (merged_right S e.0 e.1 t) x f h) (eqb e.0 e.1) c
      (pass-live es u c f) (pass-recorded es u c x f h)
    where
      u : Table Val
      u = merge_edge S e.0 e.1 t

  pub pass_times-live : (n : ℕ) (es : List (ℕ × ℕ × ℕ)) (t : Table Val) (c : ℕ) → (pass_times S n es t c).unsat ≡ false →
      (t c).unsat ≡ false
  pass_times-live zero es t c f = f
  pass_times-live (suc n) es t c f = pass-live es t c (pass_times-live n es (pass S es t) c f)

  pub pass_times-emitted : (n : ℕ) (es : List (ℕ × ℕ × ℕ)) (t : Table Val) (c : ℕ) (x : Option K) →
      (pass_times S n es t c).unsat ≡ false → admits_emitted S (pass_times S n es t c) x ≡ true →
      admits_emitted S (t c) x ≡ true
  pass_times-emitted zero es t c x f h = h
  pass_times-emitted (suc n) es t c x f h = pass-emitted es t c x (pass_times-live n es (pass S es t) c f)
      (pass_times-emitted n es (pass S es t) c x f h)

  pub pass_times-recorded : (n : ℕ) (es : List (ℕ × ℕ × ℕ)) (t : Table Val) (c : ℕ) (x : Option K) →
      (pass_times S n es t c).unsat ≡ false → admits_recorded S (pass_times S n es t c) x ≡ true →
      admits_recorded S (t c) x ≡ true
  pass_times-recorded zero es t c x f h = h
  pass_times-recorded (suc n) es t c x f h = pass-recorded es t c x (pass_times-live n es (pass S es t) c f)
      (pass_times-recorded n es (pass S es t) c x f h)

  -- ---- the quiet table
  abbrev pub EndsAgree : ℕ → ℕ → Table Val → Type 0
  EndsAgree a b t = (a ≡ b) ⊎ (Implies S (t a) (t b) × Implies S (t b) (t a))

  abbrev pub AllEndsAgree : List (ℕ × ℕ × ℕ) → Table Val → Type 0
  AllEndsAgree [] t = Unit {0}
  AllEndsAgree (e ∷ es) t = EndsAgree e.0 e.1 t × AllEndsAgree es t

  step-fix : (a b : ℕ) (t : Table Val) (o : Bool) → eqb a b ≡ o → edge_any_if S o a b t ≡ false →
      (merge_edge_if S o a b t a).unsat ≡ false → (merge_edge_if S o a b t b).unsat ≡ false →
      (merge_edge_if S o a b t ≡ t) × EndsAgree a b t
  step-fix a b t true e m fa fb = (refl, inl (eqb-path a b e))
  step-fix a b t false e m fa fb =
      let n = or_no (merge_any S (t b) (t a)) (merge_any S (t a) (merged_right S a b t)) m in
      let lb : (merged_right S a b t).unsat ≡ false = subst (λ q. q.unsat ≡ false) (at_b S a b t e) fb in
      let la : (merged_left S a b t).unsat ≡ false = subst (λ q. q.unsat ≡ false) (at_a S a b t) fa in
      let sb = merge_changes_nothing S (t b) (t a) n.0 lb in
      let sa = merge_changes_nothing S (t a) (merged_right S a b t) n.1 la in (
        fun_ext (edge-ind S (λ c q. q ≡ t c) a b t (λ c. refl) sb.0 sa.0 false),
        inr (subst (Implies S (t a)) sb.0 sa.1, sb.1),
      )

  pub pass-fix : (cs : List ℕ) (es : List (ℕ × ℕ × ℕ)) (t : Table Val) → EdgesIn S cs es → pass_any S es t ≡ false →
      ((c : ℕ) → In S c cs → (pass S es t c).unsat ≡ false) → (pass S es t ≡ t) × AllEndsAgree es t
  pass-fix cs [] t i m f = (refl, tt)
  pass-fix cs (e ∷ es) t i m f =
      let u : Table Val = merge_edge S e.0 e.1 t in
      let n = or_no (edge_any S e.0 e.1 t) (pass_any S es u) m in
      let s = step-fix e.0 e.1 t (eqb e.0 e.1) refl n.0 (pass-live es u e.0 (f e.0 i.0.0))
      (pass-live es u e.1 (f e.1 i.0.1)) in
      let r = pass-fix cs es u i.1 n.1 f in
      (r.0 ∙ s.0, (s.1, subst (AllEndsAgree es) s.0 r.1))
