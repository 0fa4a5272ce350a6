-- Passes over the equalities, and why they end.
use Rattle.merge.specs.Passes.{pass_times, pass_count}
use mathlib.Core.Path.{◌≡◌, refl, sym, ◌∙◌, ap, subst}
use mathlib.Core.Bool.{Bool, true, false, not, ◌||◌, cond, true≢false, or-true, ◌&&◌}
use mathlib.Core.List.{List, [], ◌∷◌}
use mathlib.Core.Logic.{◌⊎◌, inl, inr}
use Prim.Native.Nat.{ℕ, zero, suc, ◌+◌, ◌≤◌, ◌<◌}
use native.Mathlib.Omega.{arith}
use native.Mathlib.Decide.{dec_le}
use lib.Dec.{T, eqb, eqb→eq, eqb_refl}
use lib.ListN.{length}
use Rattle.constraints.proofs.Facts.{Fact, Newly, has, merge_from_lem, merge_has, merge_keeps, merge_new}
use Rattle.constraints.specs.Column.{ColumnConstraints, Constraint, add_all, emitted, merge_any, merge_from, put}
use Rattle.constraints.specs.Column.{merge_emitted}
use Rattle.constraints.specs.Column.{recorded}
use Rattle.constraints.specs.Scalars.{Scalars}
use Rattle.merge.specs.Collect.{Table, update}
use Rattle.merge.specs.Propagate.{edge_any, merge_edge, merged_left, merged_right, pass, pass_any}
use Rattle.merge.specs.Propagate.{propagate}

pub eqb-path : (a c : ℕ) → eqb a c ≡ true → a ≡ c
eqb-path a c e = eqb→eq a c (subst T (sym e) tt)

pub eqb-self : (a : ℕ) → eqb a a ≡ true
eqb-self a = go (eqb a a) (eqb_refl a)
  where
    go : (b : Bool) → T b → b ≡ true
    go true h = refl
    go false h = absurd h

module _ {K Val : Type 0} (S : Scalars K Val) where
  -- An edge, by whether its columns are the same.
  abbrev pub merge_edge_if : Bool → ℕ → ℕ → Table Val → Table Val
  merge_edge_if o a b t = cond o t (update (update t b (merged_right S a b t)) a (merged_left S a b t))

  abbrev pub edge_any_if : Bool → ℕ → ℕ → Table Val → Bool
  edge_any_if o a b t = not o && (merge_any S (t b) (t a) || merge_any S (t a) (merged_right S a b t))

  abbrev pub edge_emitted_if : Bool → ℕ → ℕ → Table Val → Bool
  edge_emitted_if o a b t = not o && (merge_emitted S (t b) (t a) || merge_emitted S (t a) (merged_right S a b t))

module _ {K Val : Type 0} (S : Scalars K Val) where
  -- ---- an impossible column stays as it is
  add_all-unsat : (l : List (Constraint Val)) (q : ColumnConstraints Val) → q.unsat ≡ true → add_all S l q ≡ q
  add_all-unsat [] q h = refl
  add_all-unsat (a ∷ l) q h = subst (λ b. add_all S l (cond b q (put S a q)) ≡ q) (sym h) (add_all-unsat l q h)

  pub merge_unsat : (q r : ColumnConstraints Val) → q.unsat ≡ true → merge_from S q r ≡ q
  merge_unsat q r h = ap (add_all S (recorded r)) (add_all-unsat (emitted r) q h) ∙ add_all-unsat (recorded r) q h

  -- a property of the two merged columns holds of the table after the edge
  pub edge-ind : (P : ℕ → ColumnConstraints Val → Type 0) (a b : ℕ) (t : Table Val) → ((c : ℕ) → P c (t c)) →
      P b (merged_right S a b t) → P a (merged_left S a b t) → (o : Bool) (c : ℕ) → P c (merge_edge_if S o a b t c)
  edge-ind P a b t h hb ha true c = h c
  edge-ind P a b t h hb ha false c = go_a (eqb a c) refl
    where
      go_b : (y : Bool) → eqb b c ≡ y → P c (cond y (merged_right S a b t) (t c))
      go_b true e = subst (λ d. P d (merged_right S a b t)) (eqb-path b c e) hb
      go_b false e = h c

      go_a : (x : Bool) → eqb a c ≡ x → P c (cond x (merged_left S a b t) (cond (eqb b c) (merged_right S a b t) (t c)))
      go_a true e = subst (λ d. P d (merged_left S a b t)) (eqb-path a c e) ha
      go_a false e = go_b (eqb b c) refl

  pub edge-unsat : (a b : ℕ) (t : Table Val) (o : Bool) (c : ℕ) → (t c).unsat ≡ true → (merge_edge_if S o a b t c).unsat ≡
      true
  edge-unsat a b t = edge-ind (λ c q. (t c).unsat ≡ true → q.unsat ≡ true) a b t (λ c h. h)
      (λ h. ap (λ q. q.unsat) (merge_unsat (t b) (t a) h) ∙ h)
      (λ h. ap (λ q. q.unsat) (merge_unsat (t a) (merged_right S a b t) h) ∙ h)

  pub pass-unsat : (es : List (ℕ × ℕ × ℕ)) (t : Table Val) (c : ℕ) → (t c).unsat ≡ true → (pass S es t c).unsat ≡ true
  pass-unsat [] t c h = h
  pass-unsat (e ∷ es) t c h = pass-unsat es (merge_edge S e.0 e.1 t) c
      (edge-unsat e.0 e.1 t (eqb e.0 e.1) c h)

  abbrev pub In : ℕ → List ℕ → Type 0
  In c [] = ⊥
  In c (d ∷ cs) = (c ≡ d) ⊎ In c cs

  abbrev pub EdgesIn : List ℕ → List (ℕ × ℕ × ℕ) → Type 0
  EdgesIn cs [] = Unit {0}
  EdgesIn cs (e ∷ es) = (In e.0 cs × In e.1 cs) × EdgesIn cs es

  pub at_a : (a b : ℕ) (t : Table Val) → merge_edge_if S false a b t a ≡ merged_left S a b t
  at_a a b t = ap (λ x. cond x (merged_left S a b t) (update t b (merged_right S a b t) a)) (eqb-self a)

  pub at_b : (a b : ℕ) (t : Table Val) → eqb a b ≡ false → merge_edge_if S false a b t b ≡ merged_right S a b t
  at_b a b t e = ap (λ x. cond x (merged_left S a b t) (update t b (merged_right S a b t) b)) e ∙
      ap (λ x. cond x (merged_right S a b t) (t b)) (eqb-self b)

  module _ (f : Fact K Val) where
    step_keeps : (a b : ℕ) (t : Table Val) (o : Bool) (c : ℕ) → has S f (t c) ≡ true →
        has S f (merge_edge_if S o a b t c) ≡ true
    step_keeps a b t = edge-ind (λ c q. has S f (t c) ≡ true → has S f q ≡ true) a b t (λ c h. h)
        (λ h. merge_keeps S f (t b) (t a) h) (λ h. merge_keeps S f (t a) (merged_right S a b t) h)

    pass-keeps : (es : List (ℕ × ℕ × ℕ)) (t : Table Val) (c : ℕ) → has S f (t c) ≡ true → has S f (pass S es t c) ≡
        true
    pass-keeps [] t c h = h
    pass-keeps (e ∷ es) t c h = pass-keeps es (merge_edge S e.0 e.1 t) c
        (step_keeps e.0 e.1 t (eqb e.0 e.1) c h)

    -- ---- an edge whose ends agree on the fact, or whose end that lacks it is impossible
    abbrev Settled : ℕ → ℕ → Table Val → Type 0
    Settled a b t = (has S f (t a) ≡ true → (has S f (t b) ≡ true) ⊎ ((t b).unsat ≡ true)) ×
        (has S f (t b) ≡ true → (has S f (t a) ≡ true) ⊎ ((t a).unsat ≡ true))

    abbrev AllSettled : List (ℕ × ℕ × ℕ) → Table Val → Type 0
    AllSettled [] t = Unit {0}
    AllSettled (e ∷ es) t = Settled e.0 e.1 t × AllSettled es t

    -- the merged column has the fact as the column before had
    merge_same : (q r : ColumnConstraints Val) → (has S f r ≡ true → (has S f q ≡ true) ⊎ (q.unsat ≡ true)) →
        has S f (merge_from S q r) ≡ has S f q
    merge_same q r h = go (has S f q) refl (has S f r) refl
      where
        dead : (has S f q ≡ true) ⊎ (q.unsat ≡ true) → has S f q ≡ false → has S f (merge_from S q r) ≡ false
        dead (inl x) e = absurd (true≢false (sym x ∙ e))
        dead (inr x) e = ap (has S f) (merge_unsat q r x) ∙ e

        go : (x : Bool) → has S f q ≡ x → (y : Bool) → has S f r ≡ y → has S f (merge_from S q r) ≡ x
        go true e y g = merge_keeps S f q r e
        go false e true g = dead (h g) e
        go false e false g = merge_from_lem S f q r e g

    settled_still : (a b : ℕ) (t : Table Val) → Settled a b t → (o : Bool) (c : ℕ) → has S f (merge_edge_if S o a b t c) ≡
        has S f (t c)
    settled_still a b t s = edge-ind (λ c q. has S f q ≡ has S f (t c)) a b t (λ c. refl) hb
        (merge_same (t a) (merged_right S a b t) (λ h. s.1 (sym hb ∙ h)))
      where
        hb : has S f (merged_right S a b t) ≡ has S f (t b)
        hb = merge_same (t b) (t a) s.0

    persist : (a b : ℕ) (t u : Table Val) → ((c : ℕ) → has S f (u c) ≡ has S f (t c)) →
        ((c : ℕ) → (t c).unsat ≡ true → (u c).unsat ≡ true) → Settled a b t → Settled a b u
    persist a b t u h d s = (λ e. side b (s.0 (sym (h a) ∙ e)), λ e. side a (s.1 (sym (h b) ∙ e)))
      where
        side : (c : ℕ) → (has S f (t c) ≡ true) ⊎ ((t c).unsat ≡ true) → (has S f (u c) ≡ true) ⊎ ((u c).unsat ≡ true)
        side c (inl x) = inl (h c ∙ x)
        side c (inr x) = inr (d c x)

    persist_all : (es : List (ℕ × ℕ × ℕ)) (t u : Table Val) → ((c : ℕ) → has S f (u c) ≡ has S f (t c)) →
        ((c : ℕ) → (t c).unsat ≡ true → (u c).unsat ≡ true) → AllSettled es t → AllSettled es u
    persist_all [] t u h d s = tt
    persist_all (e ∷ es) t u h d s = (persist e.0 e.1 t u h d s.0, persist_all es t u h d s.1)

    -- a pass over settled edges moves the fact nowhere
    settled_pass : (es : List (ℕ × ℕ × ℕ)) (t : Table Val) → AllSettled es t → (c : ℕ) → has S f (pass S es t c) ≡
        has S f (t c)
    settled_pass [] t s c = refl
    settled_pass (e ∷ es) t s c =
        let u : Table Val = merge_edge S e.0 e.1 t in
        let h : (c : ℕ) → has S f (u c) ≡ has S f (t c) = settled_still e.0 e.1 t s.0 (eqb e.0 e.1) in
        settled_pass es u (persist_all es t u h (edge-unsat e.0 e.1 t (eqb e.0 e.1)) s.1) c ∙ h c

    settled_iter : (k : ℕ) (es : List (ℕ × ℕ × ℕ)) (t : Table Val) → AllSettled es t →
        AllSettled es (pass_times S k es t)
    settled_iter zero es t s = s
    settled_iter (suc k) es t s = settled_iter k es (pass S es t)
        (persist_all es t (pass S es t) (settled_pass es t s) (pass-unsat es t) s)

    -- ---- counting the columns that have the fact
    abbrev bit : Bool → ℕ
    bit true = 1
    bit false = 0

    abbrev cnt : List ℕ → Table Val → ℕ
    cnt [] t = 0
    cnt (c ∷ cs) t = bit (has S f (t c)) + cnt cs t

    bit_le : (x y : Bool) → (x ≡ true → y ≡ true) → bit x ≤ bit y
    bit_le true true h = omega arith
    bit_le true false h = absurd (true≢false (sym (h refl)))
    bit_le false y h = omega arith

    bit-one : (x : Bool) → bit x ≤ 1
    bit-one true = omega arith
    bit-one false = omega arith

    cnt_le : (cs : List ℕ) (t u : Table Val) → ((c : ℕ) → has S f (t c) ≡ true → has S f (u c) ≡ true) →
        cnt cs t ≤ cnt cs u
    cnt_le [] t u h = omega arith
    cnt_le (c ∷ cs) t u h = omega (arith, bit_le (has S f (t c)) (has S f (u c)) (h c), cnt_le cs t u h)

    cnt_all : (cs : List ℕ) (t : Table Val) → cnt cs t ≤ length cs
    cnt_all [] t = omega arith
    cnt_all (c ∷ cs) t = omega (arith, bit-one (has S f (t c)), cnt_all cs t)

    bit-same : (x y : Bool) → (x ≡ true → y ≡ true) → bit y ≤ bit x → y ≡ x
    bit-same true y h l = h refl
    bit-same false true h l = absurd (omega arith)
    bit-same false false h l = refl

    cnt_same : (cs : List ℕ) (t u : Table Val) → ((c : ℕ) → has S f (t c) ≡ true → has S f (u c) ≡ true) →
        cnt cs u ≤ cnt cs t → (c : ℕ) → In c cs → has S f (u c) ≡ has S f (t c)
    cnt_same [] t u h l c i = absurd i
    cnt_same (d ∷ cs) t u h l c i =
        go i (cnt_same cs t u h (omega (arith, bit_le (has S f (t d)) (has S f (u d)) (h d))))
      where
        here : has S f (u d) ≡ has S f (t d)
        here = bit-same (has S f (t d)) (has S f (u d)) (h d) (omega (arith, cnt_le cs t u h))

        go : (c ≡ d) ⊎ In c cs → ((c : ℕ) → In c cs → has S f (u c) ≡ has S f (t c)) → has S f (u c) ≡ has S f (t c)
        go (inl e) ih = subst (λ x. has S f (u x) ≡ has S f (t x)) (sym e) here
        go (inr i) ih = ih c i

    cnt_pos : (cs : List ℕ) (t : Table Val) (c : ℕ) → In c cs → has S f (t c) ≡ true → 1 ≤ cnt cs t
    cnt_pos [] t c i h = absurd i
    cnt_pos (d ∷ cs) t c (inl e) h = omega (arith, ap bit (ap (λ x. has S f (t x)) (sym e) ∙ h))
    cnt_pos (d ∷ cs) t c (inr i) h = omega (arith, cnt_pos cs t c i h)

    -- ---- after an edge was passed, it is settled
    takes : (q r : ColumnConstraints Val) → has S f r ≡ true → (has S f (merge_from S q r) ≡ true) ⊎
        ((merge_from S q r).unsat ≡ true)
    takes q r h = go (merge_from S q r).unsat refl
      where
        go : (b : Bool) → (merge_from S q r).unsat ≡ b → (has S f (merge_from S q r) ≡ true) ⊎
            ((merge_from S q r).unsat ≡ true)
        go true e = inr e
        go false e = inl (merge_has S f q r e ∙ ap (λ x. has S f q || x) h ∙ or-true (has S f q))

    step-settles : (a b : ℕ) (t : Table Val) (o : Bool) → eqb a b ≡ o → Settled a b (merge_edge_if S o a b t)
    step-settles a b t true e = (
      λ h. inl (subst (λ x. has S f (t x) ≡ true) (eqb-path a b e) h),
      λ h. inl (subst (λ x. has S f (t x) ≡ true) (sym (eqb-path a b e)) h),
    )
    step-settles a b t false e = (
      λ h. to_b (ap (has S f) (sym (at_a a b t)) ∙ h),
      λ h. to_a (ap (has S f) (sym (at_b a b t e)) ∙ h),
    )
      where
        wrap_b : (has S f (merged_right S a b t) ≡ true) ⊎ ((merged_right S a b t).unsat ≡ true) →
            (has S f (merge_edge_if S false a b t b) ≡ true) ⊎ ((merge_edge_if S false a b t b).unsat ≡ true)
        wrap_b x = subst (λ q. (has S f q ≡ true) ⊎ (q.unsat ≡ true)) (sym (at_b a b t e)) x

        to_b : has S f (merged_left S a b t) ≡ true → (has S f (merge_edge_if S false a b t b) ≡ true) ⊎
            ((merge_edge_if S false a b t b).unsat ≡ true)
        to_b h = go (has S f (merged_right S a b t)) refl (has S f (t a)) refl
          where
            go : (x : Bool) → has S f (merged_right S a b t) ≡ x → (y : Bool) → has S f (t a) ≡ y →
                (has S f (merge_edge_if S false a b t b) ≡ true) ⊎ ((merge_edge_if S false a b t b).unsat ≡ true)
            go true p y q = wrap_b (inl p)
            go false p true q = wrap_b (takes (t b) (t a) q)
            go false p false q = absurd (true≢false (sym h ∙ merge_from_lem S f (t a) (merged_right S a b t) q p))

        to_a : has S f (merged_right S a b t) ≡ true → (has S f (merge_edge_if S false a b t a) ≡ true) ⊎
            ((merge_edge_if S false a b t a).unsat ≡ true)
        to_a h = subst (λ q. (has S f q ≡ true) ⊎ (q.unsat ≡ true)) (sym (at_a a b t))
            (takes (t a) (merged_right S a b t) h)

    persist2 : (a b : ℕ) (t u : Table Val) → has S f (u a) ≡ has S f (t a) → has S f (u b) ≡ has S f (t b) →
        ((c : ℕ) → (t c).unsat ≡ true → (u c).unsat ≡ true) → Settled a b t → Settled a b u
    persist2 a b t u ha hb d s = (λ e. side b hb (s.0 (sym ha ∙ e)), λ e. side a ha (s.1 (sym hb ∙ e)))
      where
        side : (c : ℕ) → has S f (u c) ≡ has S f (t c) → (has S f (t c) ≡ true) ⊎ ((t c).unsat ≡ true) →
            (has S f (u c) ≡ true) ⊎ ((u c).unsat ≡ true)
        side c h (inl x) = inl (h ∙ x)
        side c h (inr x) = inr (d c x)

    between : (x y z : Bool) → (x ≡ true → y ≡ true) → (y ≡ true → z ≡ true) → z ≡ x → z ≡ y
    between true y z h k e = e ∙ sym (h refl)
    between false true z h k e = k refl
    between false false z h k e = e

    -- a pass that moves the fact nowhere leaves every edge settled
    pass-settles : (cs : List ℕ) (es : List (ℕ × ℕ × ℕ)) (t : Table Val) → EdgesIn cs es →
        ((c : ℕ) → In c cs → has S f (pass S es t c) ≡ has S f (t c)) → AllSettled es (pass S es t)
    pass-settles cs [] t i h = tt
    pass-settles cs (e ∷ es) t i h =
        let u : Table Val = merge_edge S e.0 e.1 t in
        let g : (c : ℕ) → In c cs → has S f (pass S es u c) ≡ has S f (u c) =
        λ c j. between (has S f (t c)) (has S f (u c)) (has S f (pass S es u c))
        (step_keeps e.0 e.1 t (eqb e.0 e.1) c) (pass-keeps es u c) (h c j) in (
          persist2 e.0 e.1 u (pass S es u) (g e.0 i.0.0) (g e.1 i.0.1) (pass-unsat es u)
              (step-settles e.0 e.1 t (eqb e.0 e.1) refl),
          pass-settles cs es u i.1 g,
        )

    -- a fact that no column has comes from nowhere
    none_pass : (cs : List ℕ) (es : List (ℕ × ℕ × ℕ)) (t : Table Val) → EdgesIn cs es →
        ((c : ℕ) → In c cs → has S f (t c) ≡ false) → (c : ℕ) → In c cs → has S f (pass S es t c) ≡ false
    none_pass cs [] t i h = h
    none_pass cs (e ∷ es) t i h = none_pass cs es (merge_edge S e.0 e.1 t) i.1
        (edge-ind (λ c q. In c cs → has S f q ≡ false) e.0 e.1 t h (λ j. b)
        (λ j. merge_from_lem S f (t e.0) (merged_right S e.0 e.1 t) (h e.0 i.0.0) b) (eqb e.0 e.1))
      where
        b : has S f (merged_right S e.0 e.1 t) ≡ false
        b = merge_from_lem S f (t e.1) (t e.0) (h e.1 i.0.1) (h e.0 i.0.0)

    none-iter : (cs : List ℕ) (k : ℕ) (es : List (ℕ × ℕ × ℕ)) (t : Table Val) → EdgesIn cs es →
        ((c : ℕ) → In c cs → has S f (t c) ≡ false) → (c : ℕ) → In c cs → has S f (pass_times S k es t c) ≡ false
    none-iter cs zero es t i h = h
    none-iter cs (suc k) es t i h = none-iter cs k es (pass S es t) i (none_pass cs es t i h)

    cnt_zero : (cs : List ℕ) (t : Table Val) → cnt cs t ≤ 0 → (c : ℕ) → In c cs → has S f (t c) ≡ false
    cnt_zero cs t l c i = go (has S f (t c)) refl
      where
        go : (b : Bool) → has S f (t c) ≡ b → b ≡ false
        go true e = absurd (omega (arith, cnt_pos cs t c i e))
        go false e = refl

    -- each pass before one that moves the fact moved it too
    grows : (cs : List ℕ) (k : ℕ) (es : List (ℕ × ℕ × ℕ)) (t : Table Val) → EdgesIn cs es → (c : ℕ) → In c cs →
        has S f (pass_times S k es t c) ≡ false → has S f (pass S es (pass_times S k es t) c) ≡ true →
        suc k + cnt cs t ≤ cnt cs (pass S es (pass_times S k es t))
    grows cs zero es t i c j e g = go (dec_le (cnt cs (pass S es t)) (cnt cs t))
      where
        go : Dec (cnt cs (pass S es t) ≤ cnt cs t) → 1 + cnt cs t ≤ cnt cs (pass S es t)
        go (yes l) = absurd (true≢false (sym g ∙ cnt_same cs t (pass S es t) (pass-keeps es t) l c j ∙ e))
        go (no n) = omega arith
    grows cs (suc k) es t i c j e g = go (dec_le (cnt cs (pass S es t)) (cnt cs t))
        (grows cs k es (pass S es t) i c j e g)
      where
        go : Dec (cnt cs (pass S es t) ≤ cnt cs t) → suc k + cnt cs (pass S es t) ≤ cnt cs
            (pass S es (pass_times S k es (pass S es t))) →
            suc (suc k) + cnt cs t ≤ cnt cs (pass S es (pass_times S k es (pass S es t)))
        go (yes l) ih = absurd (true≢false
            (sym g ∙ settled_pass es (pass_times S k es (pass S es t))
            (settled_iter k es (pass S es t)
            (pass-settles cs es t i (cnt_same cs t (pass S es t) (pass-keeps es t) l))) c ∙ e))
        go (no n) ih = omega arith

    bounded : (cs : List ℕ) (k : ℕ) (es : List (ℕ × ℕ × ℕ)) (t : Table Val) → EdgesIn cs es → (c : ℕ) → In c cs →
        has S f (pass_times S k es t c) ≡ false → has S f (pass S es (pass_times S k es t) c) ≡ true →
        suc (suc k) ≤ length cs
    bounded cs k es t i c j e g = go (dec_le (cnt cs t) 0)
      where
        go : Dec (cnt cs t ≤ 0) → suc (suc k) ≤ length cs
        go (yes l) = absurd (true≢false
            (sym g ∙ none_pass cs es (pass_times S k es t) i (none-iter cs k es t i (cnt_zero cs t l)) c j))
        go (no n) = omega (arith, grows cs k es t i c j e g, cnt_all cs (pass S es (pass_times S k es t)))

  -- ---- a pass that reports a change moves a fact
  pass-new : (cs : List ℕ) (es : List (ℕ × ℕ × ℕ)) (t : Table Val) → EdgesIn cs es → pass_any S es t ≡ true →
      (f : Fact K Val) × (c : ℕ) × In c cs × (has S f (t c) ≡ false) × (has S f (pass S es t c) ≡ true)
  pass-new cs [] t i h = absurd (true≢false (sym h))
  pass-new cs (e ∷ es) t i h = go (eqb a b) refl (edge_any S a b t) refl h (pass-new cs es u i.1)
    where
      a : ℕ
      a = e.0

      b : ℕ
      b = e.1

      u : Table Val
      u = merge_edge S a b t

      Out : Type 0
      Out = (f : Fact K Val) × (c : ℕ) × In c cs × (has S f (t c) ≡ false) × (has S f (pass S es u c) ≡ true)

      later : ((f : Fact K Val) × (c : ℕ) × In c cs × (has S f (u c) ≡ false) × (has S f (pass S es u c) ≡ true)) →
          Out
      later r = (r.0, r.1, r.2, before (has S r.0 (t r.1)) refl, r.4)
        where
          before : (x : Bool) → has S r.0 (t r.1) ≡ x → x ≡ false
          before true p = sym (step_keeps r.0 a b t (eqb a b) r.1 p) ∙ r.3
          before false p = refl

      now : (c : ℕ) (q : ColumnConstraints Val) → In c cs → u c ≡ q → Newly S (t c) q → Out
      now c q j p n = (n.0, c, j, n.1, pass-keeps n.0 es u c (ap (has S n.0) p ∙ n.2))

      merged : eqb a b ≡ false → (x : Bool) → merge_any S (t b) (t a) ≡ x →
          (x || merge_any S (t a) (merged_right S a b t)) ≡ true → Out
      merged p true m h = now b (merged_right S a b t) i.0.1 (ap (λ o. merge_edge_if S o a b t b) p ∙ at_b a b t p)
          (merge_new S (t b) (t a) m)
      merged p false m h = now a (merged_left S a b t) i.0.0 (ap (λ o. merge_edge_if S o a b t a) p ∙ at_a a b t)
          (merge_new S (t a) (merged_right S a b t) h)

      go : (o : Bool) → eqb a b ≡ o → (m : Bool) → edge_any_if S o a b t ≡ m → (m || pass_any S es u) ≡ true →
          (pass_any S es u ≡ true → (f : Fact K Val) × (c : ℕ) × In c cs × (has S f (u c) ≡ false) ×
          (has S f (pass S es u c) ≡ true)) → Out
      go o p false m h ih = later (ih h)
      go true p true m h ih = absurd (true≢false (sym m))
      go false p true m h ih = merged p (merge_any S (t b) (t a)) refl m

  -- the last of as many passes as there are columns changes nothing
  pub quiet_by : (cs : List ℕ) (es : List (ℕ × ℕ × ℕ)) (t : Table Val) (k : ℕ) → EdgesIn cs es → length cs ≤ suc k →
      pass_any S es (pass_times S k es t) ≡ false
  quiet_by cs es t k i l = go (pass_any S es (pass_times S k es t)) refl
    where
      go : (b : Bool) → pass_any S es (pass_times S k es t) ≡ b → b ≡ false
      go true e = let n = pass-new cs es (pass_times S k es t) i e in
          absurd (omega (arith, bounded n.0 cs k es t i n.1 n.2 n.3 n.4))
      go false e = refl

  pub propagate-ends : (n : ℕ) (es : List (ℕ × ℕ × ℕ)) (t : Table Val) (j : ℕ) → j < n →
      pass_any S es (pass_times S j es t) ≡ false → (k : ℕ) × (propagate S n es t ≡ pass S es (pass_times S k es t)) ×
      (pass_any S es (pass_times S k es t) ≡ false)
  propagate-ends zero es t j l q = absurd (omega arith)
  propagate-ends (suc n) es t j l q = go (pass_any S es t) refl (λ i. propagate-ends n es (pass S es t) i) j l q
    where
      Out : Bool → Type 0
      Out b = (k : ℕ) × (cond b (propagate S n es (pass S es t)) (pass S es t)
          ≡ pass S es (pass_times S k es t)) × (pass_any S es (pass_times S k es t) ≡ false)

      go : (b : Bool) → pass_any S es t ≡ b → ((i : ℕ) → i < n → pass_any S es (pass_times S i es (pass S es t)) ≡
          false → (k : ℕ) × (propagate S n es (pass S es t) ≡ pass S es (pass_times S k es (pass S es t))) ×
          (pass_any S es (pass_times S k es (pass S es t)) ≡ false)) → (j : ℕ) → j < suc n →
          pass_any S es (pass_times S j es t) ≡ false → Out b
      go false e ih j l q = (zero, refl, e)
      go true e ih zero l q = absurd (true≢false (sym e ∙ q))
      go true e ih (suc j) l q = let r = ih j (omega arith) q in (suc r.0, r.1, r.2)

  -- the passes end: what is left is a table that the last pass did not change
  pub propagate-quiet : (cs : List ℕ) (es : List (ℕ × ℕ × ℕ)) (t : Table Val) → EdgesIn cs es → 1 ≤ length cs →
      (k : ℕ) × (propagate S (length cs) es t ≡ pass S es (pass_times S k es t)) × (pass_any S es (pass_times S k es t) ≡
      false)
  propagate-quiet cs es t i l = go (length cs) refl l
    where
      go : (n : ℕ) → length cs ≡ n → 1 ≤ n → (k : ℕ) × (propagate S n es t ≡ pass S es (pass_times S k es t)) ×
          (pass_any S es (pass_times S k es t) ≡ false)
      go zero e l = absurd (omega arith)
      go (suc n) e l = propagate-ends (suc n) es t n (omega arith) (quiet_by cs es t n i (omega arith))

  pass_count-by : (n : ℕ) (es : List (ℕ × ℕ × ℕ)) (t : Table Val) (j : ℕ) → pass_any S es (pass_times S j es t) ≡ false →
      pass_count S n es t ≤ suc j
  pass_count-by zero es t j q = omega arith
  pass_count-by (suc n) es t j q = go (pass_any S es t) refl j q (λ i. pass_count-by n es (pass S es t) i)
    where
      go : (b : Bool) → pass_any S es t ≡ b → (j : ℕ) → pass_any S es (pass_times S j es t) ≡ false →
          ((i : ℕ) → pass_any S es (pass_times S i es (pass S es t)) ≡ false → pass_count S n es (pass S es t) ≤ suc i) →
          suc (cond b (pass_count S n es (pass S es t)) 0) ≤ suc j
      go false e j q ih = omega arith
      go true e zero q ih = absurd (true≢false (sym e ∙ q))
      go true e (suc j) q ih = omega (arith, ih j q)

  -- whatever the fuel, at most as many passes as different columns in the equalities
  pub pass_count-le : (cs : List ℕ) (n : ℕ) (es : List (ℕ × ℕ × ℕ)) (t : Table Val) → EdgesIn cs es → 1 ≤ length cs →
      pass_count S n es t ≤ length cs
  pass_count-le cs n es t i l = go (length cs) refl l
    where
      go : (m : ℕ) → length cs ≡ m → 1 ≤ m → pass_count S n es t ≤ m
      go zero e l = absurd (omega arith)
      go (suc m) e l = pass_count-by n es t m (quiet_by cs es t m i (omega arith))
