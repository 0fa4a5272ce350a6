-- The passes over a chain of equalities listed from its far end, where the first columns have a bound: each pass carries
-- it one column further, and the last is quiet.
use mathlib.Core.Path.{◌≡◌, refl, sym, ◌∙◌, ap, subst}
use mathlib.Core.Bool.{Bool, true, false, not, cond, ◌&&◌, ◌||◌, true≢false, or-true}
use mathlib.Core.List.{List, [], ◌∷◌}
use Prim.Native.Nat.{ℕ, zero, suc, ◌+◌, ◌≤◌, ◌<◌}
use native.Mathlib.Omega.{arith}
use native.Mathlib.Decide.{dec_le}
use lib.Dec.{eqb}
use borrow.Author.Tests.{eq-eqb, ne_eqb, eqb-true, eqb-false}
use Rattle.constraints.specs.declared.column.Nullability.TheVariants.{NonNull}
use Rattle.constraints.specs.Column.{ColumnConstraints, Constraint, Lower, Require, empty, add, add_all, merge_from}
use Rattle.constraints.specs.Column.{merge_any, merge_emitted}
use Rattle.constraints.specs.Payload.{payload}
use Rattle.merge.specs.Collect.{Table, update}
use Rattle.merge.specs.Propagate.{merged_right, merged_left, merge_edge, edge_any, edge_emitted, pass, pass_any, pass_emitted}
use Rattle.merge.specs.Propagate.{propagate, propagate_emitted}
use Rattle.merge.specs.Passes.{pass_count}

-- The equalities of the columns 0 to k, from the far end; f k is the node of the one of k and suc k.
abbrev pub edges_down : (ℕ → ℕ) → ℕ → List (ℕ × ℕ × ℕ)
edges_down f zero = []
edges_down f (suc k) = (k, suc k, f k) ∷ edges_down f k

-- A column over 0.
abbrev pub over : List (Constraint ℕ)
over = Lower false 0 ∷ []

-- A column that is not null, and one that is over 0 besides.
abbrev pub bare : ColumnConstraints ℕ
bare = add payload (Require NonNull) empty

abbrev pub full : ColumnConstraints ℕ
full = add_all payload over bare

-- ---- What a merge of two such columns does.
bare_full : merge_from payload bare full ≡ full
unfolding payload
bare_full = refl

full-full : merge_from payload full full ≡ full
unfolding payload
full-full = refl

bare_bare : merge_from payload bare bare ≡ bare
unfolding payload
bare_bare = refl

any-full : merge_any payload full full ≡ false
unfolding payload
any-full = refl

any-bare : merge_any payload bare bare ≡ false
unfolding payload
any-bare = refl

any-moves : merge_any payload bare full ≡ true
unfolding payload
any-moves = refl

emitted-moves : merge_emitted payload bare full ≡ true
unfolding payload
emitted-moves = refl

-- ---- One edge, over columns x and y.
pub ne_suc : (k : ℕ) → eqb k (suc k) ≡ false
ne_suc k = ne_eqb k (suc k) (λ (e : k ≡ suc k). omega (arith, e))

module _ (k : ℕ) (T : Table ℕ) (x y : ColumnConstraints ℕ) (ex : T k ≡ x) (ey : T (suc k) ≡ y) where
  edge_at : (c : ℕ) →
      merge_edge payload k (suc k) T c ≡
      cond (eqb k c) (merge_from payload x (merge_from payload y x)) (cond (eqb (suc k) c) (merge_from payload y x) (T c))
  edge_at c =
      ap (λ b. cond b T (update (update T (suc k) (merged_right payload k (suc k) T)) k (merged_left payload k (suc k) T)) c)
      (ne_suc k)
      ∙ ap (λ q. cond (eqb k c) (merge_from payload q (merge_from payload (T (suc k)) q))
      (cond (eqb (suc k) c) (merge_from payload (T (suc k)) q) (T c))) ex
      ∙ ap (λ q. cond (eqb k c) (merge_from payload x (merge_from payload q x))
      (cond (eqb (suc k) c) (merge_from payload q x) (T c))) ey

  edge-any : edge_any payload k (suc k) T ≡ (merge_any payload y x || merge_any payload x (merge_from payload y x))
  edge-any =
      ap (λ b. not b && (merge_any payload (T (suc k)) (T k) || merge_any payload (T k) (merged_right payload k (suc k) T)))
      (ne_suc k)
      ∙ ap (λ q. merge_any payload (T (suc k)) q || merge_any payload q (merge_from payload (T (suc k)) q)) ex
      ∙ ap (λ q. merge_any payload q x || merge_any payload x (merge_from payload q x)) ey

  edge-emitted :
      edge_emitted payload k (suc k) T ≡ (merge_emitted payload y x || merge_emitted payload x (merge_from payload y x))
  edge-emitted =
      ap (λ b. not b
      && (merge_emitted payload (T (suc k)) (T k) || merge_emitted payload (T k) (merged_right payload k (suc k) T)))
      (ne_suc k)
      ∙ ap (λ q. merge_emitted payload (T (suc k)) q || merge_emitted payload q (merge_from payload (T (suc k)) q)) ex
      ∙ ap (λ q. merge_emitted payload q x || merge_emitted payload x (merge_from payload q x)) ey

-- Two columns that say the same change nothing.
module _ (x : ColumnConstraints ℕ) (same : merge_from payload x x ≡ x) (quiet : merge_any payload x x ≡ false) (k : ℕ)
    (T : Table ℕ) (ex : T k ≡ x) (ey : T (suc k) ≡ x) where
  twin_at : (c : ℕ) → merge_edge payload k (suc k) T c ≡ T c
  twin_at c =
      edge_at k T x x ex ey c
      ∙ ap (λ q. cond (eqb k c) (merge_from payload x q) (cond (eqb (suc k) c) q (T c))) same
      ∙ ap (λ q. cond (eqb k c) q (cond (eqb (suc k) c) x (T c))) same
      ∙ pick (eqb k c) (eqb (suc k) c) (λ e. sym ex ∙ ap T (eqb-true k c e)) (λ e. sym ey ∙ ap T (eqb-true (suc k) c e))
    where
      pick : (a b : Bool) → (a ≡ true → x ≡ T c) → (b ≡ true → x ≡ T c) → cond a x (cond b x (T c)) ≡ T c
      pick true b f g = f refl
      pick false true f g = g refl
      pick false false f g = refl

  twin_any : edge_any payload k (suc k) T ≡ false
  twin_any =
      edge-any k T x x ex ey
      ∙ ap (λ q. merge_any payload x x || merge_any payload x q) same
      ∙ ap (λ b. b || b) quiet

-- The bound moves one column on.
module _ (k : ℕ) (T : Table ℕ) (ex : T k ≡ full) (ey : T (suc k) ≡ bare) where
  move_at : (c : ℕ) → merge_edge payload k (suc k) T c ≡ cond (eqb k c) full (cond (eqb (suc k) c) full (T c))
  move_at c =
      edge_at k T full bare ex ey c
      ∙ ap (λ q. cond (eqb k c) (merge_from payload full q) (cond (eqb (suc k) c) q (T c))) bare_full
      ∙ ap (λ q. cond (eqb k c) q (cond (eqb (suc k) c) full (T c))) full-full

  move-any : edge_any payload k (suc k) T ≡ true
  move-any =
      edge-any k T full bare ex ey
      ∙ ap (λ b. b || merge_any payload full (merge_from payload bare full)) any-moves

  move-emitted : edge_emitted payload k (suc k) T ≡ true
  move-emitted =
      edge-emitted k T full bare ex ey
      ∙ ap (λ b. b || merge_emitted payload full (merge_from payload bare full)) emitted-moves

  move-low : (c : ℕ) → c ≤ k → T c ≡ full → merge_edge payload k (suc k) T c ≡ full
  move-low c h e = move_at c ∙ pick (eqb k c) (eqb (suc k) c)
    where
      pick : (a b : Bool) → cond a full (cond b full (T c)) ≡ full
      pick true b = refl
      pick false true = refl
      pick false false = e

  move-next : merge_edge payload k (suc k) T (suc k) ≡ full
  move-next = move_at (suc k) ∙ pick (eqb k (suc k)) (eqb (suc k) (suc k)) (eq-eqb (suc k) (suc k) refl)
    where
      pick : (a b : Bool) → b ≡ true → cond a full (cond b full (T (suc k))) ≡ full
      pick true b e = refl
      pick false true e = refl
      pick false false e = absurd (true≢false (sym e))

  move-far : (c : ℕ) → suc k < c → merge_edge payload k (suc k) T c ≡ T c
  move-far c h =
      move_at c ∙ ap (λ b. cond b full (cond (eqb (suc k) c) full (T c))) (ne_eqb k c (λ (e : k ≡ c). omega (arith, e, h)))
      ∙ ap (λ b. cond b full (T c)) (ne_eqb (suc k) c (λ (e : suc k ≡ c). omega (arith, e, h)))

-- ---- A pass over columns that all have the bound changes nothing.
module _ (f : ℕ → ℕ) where
  quiet_pass : (k : ℕ) (T : Table ℕ) → ((c : ℕ) → c ≤ k → T c ≡ full)
      → ((c : ℕ) → pass payload (edges_down f k) T c ≡ T c) × (pass_any payload (edges_down f k) T ≡ false)
  quiet_pass zero T h = ((λ c. refl), refl)
  quiet_pass (suc k) T h =
      let U : Table ℕ = merge_edge payload k (suc k) T in
      let ex : T k ≡ full = h k (omega arith) in
      let ey : T (suc k) ≡ full = h (suc k) (omega arith) in
      let same : ((c : ℕ) → U c ≡ T c) = twin_at full full-full any-full k T ex ey in
      let r = quiet_pass k U (λ c l. same c ∙ h c (omega arith)) in (
        (λ c. r.0 c ∙ same c),
        ap (λ b. b || pass_any payload (edges_down f k) U) (twin_any full full-full any-full k T ex ey) ∙ r.1,
      )

  -- The columns up to j have the bound, those behind up to k not yet.
  abbrev pub Reached : ℕ → ℕ → Table ℕ → Type 0
  Reached j k T = ((c : ℕ) → c ≤ j → T c ≡ full) × ((c : ℕ) → j < c → c ≤ k → T c ≡ bare)

  -- A pass carries it to the next column.
  pub record Moved (j k : ℕ) (T : Table ℕ) : Type 0 where
    pub reached : Reached (suc j) k (pass payload (edges_down f k) T)
    pub beyond : (c : ℕ) → k < c → pass payload (edges_down f k) T c ≡ T c
    pub any : pass_any payload (edges_down f k) T ≡ true
    pub emitted : pass_emitted payload (edges_down f k) T ≡ true

  pub moving_pass : (j k : ℕ) (T : Table ℕ) → j < k → Reached j k T → Moved j k T
  moving_pass j zero T l h = absurd (omega (arith, l))
  moving_pass j (suc k) T l h = go (dec_le k j) (λ i r. moving_pass j k (merge_edge payload k (suc k) T) i r)
    where
      U : Table ℕ
      U = merge_edge payload k (suc k) T

      -- the bound stands at k: it moves, and the rest of the pass is quiet
      last : k ≡ j → Moved j (suc k) T
      last e =
          let ex : T k ≡ full = h.0 k (omega (arith, e)) in
          let ey : T (suc k) ≡ bare = h.1 (suc k) (omega (arith, e)) (omega arith) in
          let low : ((c : ℕ) → c ≤ k → U c ≡ full) = (λ c i. move-low k T ex ey c i (h.0 c (omega (arith, e, i)))) in
          let r = quiet_pass k U low in
          record {
            reached = (
              (λ c i. r.0 c ∙ upto c (dec_le c k) i e low (move-next k T ex ey)),
              λ c i m. absurd (omega (arith, i, m, e)),
            );
            beyond = λ c i. r.0 c ∙ move-far k T ex ey c i;
            any = ap (λ b. b || pass_any payload (edges_down f k) U) (move-any k T ex ey);
            emitted = ap (λ b. b || pass_emitted payload (edges_down f k) U) (move-emitted k T ex ey);
          }
        where
          upto : (c : ℕ) → Dec (c ≤ k) → c ≤ suc j → k ≡ j → ((c : ℕ) → c ≤ k → U c ≡ full) → U (suc k) ≡ full
              → U c ≡ full
          upto c (yes m) i e low next = low c m
          upto c (no m) i e low next =
              let q : suc k ≡ c = omega (arith, m, i, e) in subst (λ d. U d ≡ full) q next

      -- it stands further down: this edge is quiet
      later : j < k → (j < k → Reached j k U → Moved j k U) → Moved j (suc k) T
      later i next =
          let ex : T k ≡ bare = h.1 k i (omega arith) in
          let ey : T (suc k) ≡ bare = h.1 (suc k) (omega arith) (omega arith) in
          let same : ((c : ℕ) → U c ≡ T c) = twin_at bare bare_bare any-bare k T ex ey in
          let r = next i
          ((λ c m. same c ∙ h.0 c m), λ c m n. same c ∙ h.1 c m (omega (arith, n))) in
          record {
            reached = (r.reached.0, λ c m n. behind c (dec_le c k) m n r (same (suc k) ∙ ey));
            beyond = λ c m. r.beyond c (omega (arith, m)) ∙ same c;
            any = ap (λ b. edge_any payload k (suc k) T || b) r.any ∙ or-true (edge_any payload k (suc k) T);
            emitted =
                ap (λ b. edge_emitted payload k (suc k) T || b) r.emitted ∙ or-true (edge_emitted payload k (suc k) T);
          }
        where
          behind : (c : ℕ) → Dec (c ≤ k) → suc j < c → c ≤ suc k → Moved j k U → U (suc k) ≡ bare
              → pass payload (edges_down f k) U c ≡ bare
          behind c (yes m) i n r e = r.reached.1 c i m
          behind c (no m) i n r e =
              let q : suc k ≡ c = omega (arith, m, n) in
              subst (λ d. pass payload (edges_down f k) U d ≡ bare) q (r.beyond (suc k) (omega arith) ∙ e)

      go : Dec (k ≤ j) → (j < k → Reached j k U → Moved j k U) → Moved j (suc k) T
      go (yes m) next = last (omega (arith, m, l))
      go (no m) next = later (omega (arith, m)) next

  -- ---- All passes: as many as columns behind the bound, and the quiet one.
  pub record Spread (d k n : ℕ) (T : Table ℕ) : Type 0 where
    pub count : pass_count payload n (edges_down f k) T ≡ suc d
    pub all : (c : ℕ) → c ≤ k → propagate payload n (edges_down f k) T c ≡ full

  pub spreads : (d j k n : ℕ) (T : Table ℕ) → j + d ≡ k → d < n → Reached j k T → Spread d k n T
  spreads d j k zero T e l h = absurd (omega (arith, l))
  spreads zero j k (suc n) T e l h =
      let r = quiet_pass k T (λ c i. h.0 c (omega (arith, e, i))) in
      record {
        count =
            ap (λ b. suc (cond b (pass_count payload n (edges_down f k) (pass payload (edges_down f k) T)) 0)) r.1;
        all = λ c i.
            ap (λ b. cond b (propagate payload n (edges_down f k) (pass payload (edges_down f k) T))
            (pass payload (edges_down f k) T) c) r.1
            ∙ r.0 c ∙ h.0 c (omega (arith, e, i));
      }
  spreads (suc d) j k (suc n) T e l h =
      let m = moving_pass j k T (omega (arith, e)) h in
      let r = spreads d (suc j) k n (pass payload (edges_down f k) T) (omega (arith, e)) (omega (arith, l)) m.reached in
      record {
        count =
            ap (λ b. suc (cond b (pass_count payload n (edges_down f k) (pass payload (edges_down f k) T)) 0)) m.any
            ∙ ap suc r.count;
        all = λ c i.
            ap (λ b. cond b (propagate payload n (edges_down f k) (pass payload (edges_down f k) T))
            (pass payload (edges_down f k) T) c) m.any
            ∙ r.all c i;
      }

  -- Something that is written out was propagated.
  pub spreads_emitted : (j k n : ℕ) (T : Table ℕ) → j < k → 0 < n → Reached j k T
      → propagate_emitted payload n (edges_down f k) T ≡ true
  spreads_emitted j k zero T i l h = absurd (omega (arith, l))
  spreads_emitted j k (suc n) T i l h =
      ap (λ b. b || cond (pass_any payload (edges_down f k) T)
      (propagate_emitted payload n (edges_down f k) (pass payload (edges_down f k) T)) false)
      (moving_pass j k T i h).emitted
