-- What is collected of a bound on the first column behind a chain of equalities, listed from its far end.
use mathlib.Core.Path.{◌≡◌, refl, sym, ◌∙◌, ap, subst}
use mathlib.Core.Bool.{Bool, true, false, cond, ◌||◌, true≢false, or-false, or-true}
use mathlib.Core.List.{List, [], ◌∷◌, ◌++◌, append_assoc, append-nil}
use Prim.Native.Nat.{ℕ, zero, suc, ◌+◌, ◌≤◌, ◌<◌}
use native.Mathlib.Omega.{arith}
use native.Mathlib.Decide.{dec_le}
use lib.Dec.{eqb}
use lib.ListN.{length, length-append}
use borrow.Author.Tests.{eq-eqb, ne_eqb, eqb-true}
use Rattle.constraints.specs.declared.column.Nullability.TheVariants.{NonNull}
use Rattle.constraints.specs.Column.{ColumnConstraints, Require, empty, add, add_all}
use Rattle.constraints.specs.Payload.{payload}
use Rattle.merge.specs.Classify.{Conjunct, Bounds, Equality}
use Rattle.merge.specs.Collect.{Table, Collected, update, is_in, enter, begin, require_non_null, collect_one, collect}
use Rattle.merge.specs.Passes.{pass_count, passes_made, passes_of, merge_passes}
use Rattle.merge.proofs.Chains.{Every, every-app}
use Rattle.slowest.proofs.Chain.{edges_down, over, bare, full, ne_suc, Reached, spreads}

-- The chain's conjuncts; f k is the node of the equality of k and suc k.
abbrev pub conjuncts_down : (ℕ → ℕ) → ℕ → List (Conjunct ℕ)
conjuncts_down f zero = Bounds 0 over ∷ []
conjuncts_down f (suc k) = Equality k (suc k) (f k) ∷ conjuncts_down f k

-- Not null.
abbrev required : ColumnConstraints ℕ → ColumnConstraints ℕ
required q = add payload (Require NonNull) q

required_bare : required bare ≡ bare
unfolding payload
required_bare = refl

full-possible : full.unsat ≡ false
unfolding payload
full-possible = refl

-- ---- The columns of an equality.
module _ (k : ℕ) (T : Table ℕ) (ex : required (T k) ≡ bare) (ey : required (T (suc k)) ≡ bare) where
  abbrev both : Table ℕ
  both = require_non_null payload (suc k) (require_non_null payload k T)

  both_at : (c : ℕ) → both c ≡ cond (eqb (suc k) c) bare (cond (eqb k c) bare (T c))
  both_at c =
      ap (λ b. cond (eqb (suc k) c) (required (cond b (required (T k)) (T (suc k)))) (cond (eqb k c) (required (T k)) (T c)))
      (ne_suc k)
      ∙ ap (λ q. cond (eqb (suc k) c) q (cond (eqb k c) (required (T k)) (T c))) ey
      ∙ ap (λ q. cond (eqb (suc k) c) bare (cond (eqb k c) q (T c))) ex

  both-next : both (suc k) ≡ bare
  both-next = both_at (suc k) ∙ ap (λ b. cond b bare (cond (eqb k (suc k)) bare (T (suc k)))) (eq-eqb (suc k) (suc k) refl)

  both-here : both k ≡ bare
  both-here =
      both_at k ∙ ap (λ b. cond (eqb (suc k) k) bare (cond b bare (T k))) (eq-eqb k k refl) ∙ pick (eqb (suc k) k)
    where
      pick : (b : Bool) → cond b bare bare ≡ bare
      pick true = refl
      pick false = refl

  both-far : (c : ℕ) → suc k < c → both c ≡ T c
  both-far c h =
      both_at c
      ∙ ap (λ b. cond b bare (cond (eqb k c) bare (T c))) (ne_eqb (suc k) c (λ (e : suc k ≡ c). omega (arith, e, h)))
      ∙ ap (λ b. cond b bare (T c)) (ne_eqb k c (λ (e : k ≡ c). omega (arith, e, h)))

  both-required : (c : ℕ) → required (T c) ≡ bare → required (both c) ≡ bare
  both-required c h = ap required (both_at c) ∙ pick (eqb (suc k) c) (eqb k c)
    where
      pick : (a b : Bool) → required (cond a bare (cond b bare (T c))) ≡ bare
      pick true b = required_bare
      pick false true = required_bare
      pick false false = h

-- ---- The columns in their order.
is_in-append_one : (c d : ℕ) (l : List ℕ) → is_in c (l ++ (d ∷ [])) ≡ (is_in c l || eqb c d)
is_in-append_one c d [] = or-false (eqb c d)
is_in-append_one c d (x ∷ l) = go (eqb c x) (is_in-append_one c d l)
  where
    go : (b : Bool) → is_in c (l ++ (d ∷ [])) ≡ (is_in c l || eqb c d) →
        (b || is_in c (l ++ (d ∷ []))) ≡ ((b || is_in c l) || eqb c d)
    go true e = refl
    go false e = e

-- The near column enters, the far one is there.
enters : (k : ℕ) (o : List ℕ) → is_in (suc k) o ≡ true → is_in k o ≡ false → enter (suc k) (enter k o) ≡ o ++ (k ∷ [])
enters k o there new =
    ap (λ b. enter (suc k) (cond b o (o ++ (k ∷ [])))) new
    ∙ ap (λ b. cond b (o ++ (k ∷ [])) ((o ++ (k ∷ [])) ++ (suc k ∷ [])))
    (is_in-append_one (suc k) k o ∙ ap (λ b. b || eqb (suc k) k) there)

-- ---- From the equality of k - 1 and k on, where the one of k and k + 1 has been read.
pub record Down (f : ℕ → ℕ) (k top : ℕ) (s r : Collected ℕ) : Type 0 where
  pub edges : r.edges ≡ s.edges ++ edges_down f k
  pub possible : r.unsat ≡ false
  pub first : r.constraints 0 ≡ full
  pub low : (c : ℕ) → 0 < c → c ≤ k → r.constraints c ≡ bare
  pub high : (c : ℕ) → k < c → r.constraints c ≡ s.constraints c
  pub none_kept : r.opaque ≡ s.opaque
  pub counted : length r.order ≡ length s.order + k
  pub within : Every (λ c. c ≤ top) r.order

module _ (f : ℕ → ℕ) (top : ℕ) where
  down : (k : ℕ) (s : Collected ℕ) → s.unsat ≡ false → ((c : ℕ) → c ≤ k → required (s.constraints c) ≡ bare)
      → s.constraints k ≡ bare → is_in k s.order ≡ true → ((c : ℕ) → c < k → is_in c s.order ≡ false)
      → Every (λ c. c ≤ top) s.order → k ≤ top → Down f k top s (collect payload (conjuncts_down f k) s)
  down zero s live asked here there new within l =
      subst (λ b. Down f zero top s (cond b s (collect_one payload (Bounds 0 over) s))) (sym live)
      (record {
        edges = sym (append-nil s.edges);
        possible = ap (λ q. (add_all payload over q).unsat) here ∙ full-possible;
        first = ap (add_all payload over) here;
        low = λ c h i. absurd (omega (arith, h, i));
        high = λ c h.
            ap (λ b. cond b (add_all payload over (s.constraints 0)) (s.constraints c))
            (ne_eqb 0 c (λ (e : 0 ≡ c). omega (arith, e, h)));
        none_kept = refl;
        counted = ap length entered ∙ plus (length s.order);
        within = subst (Every (λ c. c ≤ top)) (sym entered) within;
      })
    where
      entered : enter 0 s.order ≡ s.order
      entered = ap (λ b. cond b s.order (s.order ++ (0 ∷ []))) there

      plus : (n : ℕ) → n ≡ n + 0
      plus n = omega arith
  down (suc k) s live asked here there new within l =
      subst (λ b. Down f (suc k) top s (collect payload (conjuncts_down f k) (cond b s t))) (sym live)
      (above (down k t refl (λ c h. both-required k T ex ey c (asked c (omega (arith, h)))) (both-here k T ex ey)
      (ap (is_in k) order_is ∙ is_in-append_one k k s.order ∙ ap (λ b. is_in k s.order || b) (eq-eqb k k refl)
      ∙ or-true (is_in k s.order))
      (λ c h. ap (is_in c) order_is ∙ is_in-append_one c k s.order ∙ ap (λ b. b || eqb c k) (new c (omega (arith, h)))
      ∙ ne_eqb c k (λ (e : c ≡ k). omega (arith, e, h)))
      (subst (Every (λ c. c ≤ top)) (sym order_is)
      (every-app (λ c. c ≤ top) s.order (k ∷ []) within (omega (arith, l), tt))) (omega (arith, l))))
    where
      T : Table ℕ
      T = s.constraints

      t : Collected ℕ
      t = collect_one payload (Equality k (suc k) (f k)) s

      ex : required (T k) ≡ bare
      ex = asked k (omega arith)

      ey : required (T (suc k)) ≡ bare
      ey = asked (suc k) (omega arith)

      order_is : t.order ≡ s.order ++ (k ∷ [])
      order_is = enters k s.order there (new k (omega arith))

      above : {r : Collected ℕ} → Down f k top t r → Down f (suc k) top s r
      above {r} d =
          let n : length t.order ≡ length s.order + 1 = ap length order_is ∙ length-append s.order (k ∷ []) in
          let m : length r.order ≡ length t.order + k = d.counted in
          record {
            edges = d.edges ∙ append_assoc s.edges ((k, suc k, f k) ∷ []) (edges_down f k);
            possible = d.possible;
            first = d.first;
            low = λ c h i. part c (dec_le c k) h i;
            high = λ c h. d.high c (omega (arith, h)) ∙ both-far k T ex ey c h;
            none_kept = d.none_kept;
            counted = omega (arith, n, m);
            within = d.within;
          }
        where
          part : (c : ℕ) → Dec (c ≤ k) → 0 < c → c ≤ suc k → r.constraints c ≡ bare
          part c (yes g) h i = d.low c h g
          part c (no g) h i =
              let q : suc k ≡ c = omega (arith, g, i) in
              subst (λ x. r.constraints x ≡ bare) q (d.high (suc k) (omega arith) ∙ both-next k T ex ey)

-- ---- The whole chain of m + 2 columns.
pub record Chained (f : ℕ → ℕ) (m : ℕ) (r : Collected ℕ) : Type 0 where
  pub edges : r.edges ≡ edges_down f (suc m)
  pub possible : r.unsat ≡ false
  pub reached : Reached f 0 (suc m) r.constraints
  pub none_kept : r.opaque ≡ []
  pub counted : length r.order ≡ suc (suc m)
  pub within : Every (λ c. c ≤ suc m) r.order

pub chained : (f : ℕ → ℕ) (m : ℕ) → Chained f m (collect payload (conjuncts_down f (suc m)) begin)
chained f m = finish (down f (suc m) m s refl (λ c h. both-required m (λ c. empty) refl refl c refl)
    (both-here m (λ c. empty) refl refl)
    (ap (is_in m) order_is ∙ ap (λ b. b || (eqb m (suc m) || false)) (eq-eqb m m refl))
    (λ c h. ap (is_in c) order_is
    ∙ ap (λ b. b || (eqb c (suc m) || false)) (ne_eqb c m (λ (e : c ≡ m). omega (arith, e, h)))
    ∙ ap (λ b. b || false) (ne_eqb c (suc m) (λ (e : c ≡ suc m). omega (arith, e, h))))
    (subst (Every (λ c. c ≤ suc m)) (sym order_is) (omega arith, (omega arith, tt))) (omega arith))
  where
    s : Collected ℕ
    s = collect_one payload (Equality m (suc m) (f m)) begin

    order_is : s.order ≡ m ∷ suc m ∷ []
    order_is =
        ap (λ b. cond (b || false) (m ∷ []) (m ∷ suc m ∷ [])) (ne_eqb (suc m) m (λ (e : suc m ≡ m). omega (arith, e)))

    finish : {r : Collected ℕ} → Down f m (suc m) s r → Chained f m r
    finish {r} d =
        let n : length s.order ≡ 2 = ap length order_is in
        let k : length r.order ≡ length s.order + m = d.counted in
        record {
          edges = d.edges;
          possible = d.possible;
          reached = (λ c h. start c h, λ c h i. part c (dec_le c m) h i);
          none_kept = d.none_kept;
          counted = omega (arith, n, k);
          within = d.within;
        }
      where
        start : (c : ℕ) → c ≤ 0 → r.constraints c ≡ full
        start c h = let q : 0 ≡ c = omega (arith, h) in subst (λ x. r.constraints x ≡ full) q d.first

        part : (c : ℕ) → Dec (c ≤ m) → 0 < c → c ≤ suc m → r.constraints c ≡ bare
        part c (yes g) h i = d.low c h g
        part c (no g) h i =
            let q : suc m ≡ c = omega (arith, g, i) in
            subst (λ x. r.constraints x ≡ bare) q
            (d.high (suc m) (omega arith) ∙ both-next m (λ c. empty) refl refl)

-- It takes as many passes as columns.
pub chain-passes : (f : ℕ → ℕ) (m : ℕ) → merge_passes payload (conjuncts_down f (suc m)) ≡ suc (suc m)
chain-passes f m = go (collect payload (conjuncts_down f (suc m)) begin) (chained f m)
  where
    go : (r : Collected ℕ) → Chained f m r → passes_of payload r ≡ suc (suc m)
    go r h =
        let n : length r.order ≡ suc (suc m) = h.counted in
        ap (λ b. cond b 0 (passes_made payload (length r.order) r.edges r.constraints)) h.possible
        ∙ ap (λ es. passes_made payload (length r.order) es r.constraints) h.edges
        ∙ (spreads f (suc m) 0 (suc m) (length r.order) r.constraints (omega arith) (omega (arith, n)) h.reached).count
