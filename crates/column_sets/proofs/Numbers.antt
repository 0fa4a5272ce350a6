-- Walks over the numbers of a column, and an array that gets one more. Assumes nothing.
use mathlib.Core.Path.{◌≡◌, refl, sym, ◌∙◌, ap, subst}
use mathlib.Core.Bool.{Bool, true, false, cond, ◌&&◌, ◌||◌, or-true, or-false}
use mathlib.Core.List.{List, [], ◌∷◌, ◌++◌}
use mathlib.Core.Logic.{⊎_elim}
use Prim.Native.Nat.{ℕ, zero, suc, ◌+◌, ◌≤◌, ◌<◌}
use native.Mathlib.Omega.{arith}
use native.Mathlib.Nat.{le_of_suc-le-suc, not-suc-le-zero, eq-or-lt_of_le, le_antisymm}
use native.Mathlib.Numerals.{add-one}
use lib.ListN.{length, get_or, set}
use lib.Seq.{get_or-set_same, get_or-set_other}
use lib.Dec.{eqb}
use Rattle.truth.specs.Order.{is_equal}
use Rattle.constraints.specs.Scalars.{scalar_cmp}
use Rattle.constraints.specs.Values.{contains}
use Rattle.constraints.specs.Payload.{payload}
use Rattle.constraints.specs.Lined.{Lined, lined}
use Rattle.column_constraints.specs.Abstraction.{gather, of_kind, literal_at, excluded_by, marked, Fine}
use Rattle.constraints.proofs.Sets.{contains-append}
use Rattle.column_constraints.proofs.Pigeon.{Eq, yes, no, eq-view}

abbrev has : ℕ → List Lined → Bool
has v l = contains lined (payload.key v) l

-- ---- a walk: w n says whether p holds somewhere below n
pub more : (w p : ℕ → Bool) → ((n : ℕ) → w (suc n) ≡ (w n || p n)) → (i : ℕ) → w i ≡ false → p i ≡ false → w (i + 1) ≡
    false
more w p s i h e = rw (add-one, s i, h, e)

finds : (w p : ℕ → Bool) → ((n : ℕ) → w (suc n) ≡ (w n || p n)) → (i n : ℕ) → i < n → p i ≡ true → w n ≡ true
finds w p s i zero l e = absurd (not-suc-le-zero l)
finds w p s i (suc n) l e = s n ∙ ⊎_elim (λ q. rw (← q, e) (or-true (w i))) (λ k. rw (finds w p s i n k e))
    (eq-or-lt_of_le (le_of_suc-le-suc l))

pub found : (w p : ℕ → Bool) → ((n : ℕ) → w (suc n) ≡ (w n || p n)) → (i n : ℕ) → i < n → p i ≡ true → true ≡ w n
found w p s i n l e = sym (finds w p s i n l e)

pub done : (w : ℕ → Bool) (i n : ℕ) → i ≤ n → n ≤ i → w i ≡ false → false ≡ w n
done w i n l g h = subst (λ (k : ℕ). false ≡ w k) (le_antisymm l g) (sym h)

-- the three walks
pub marked_step : (a : List ℕ) (j n : ℕ) → marked a (suc n) j ≡ (marked a n j || eqb (get_or a n 0) j)
unfolding marked
marked_step a j n = refl

pub marked-none : (a : List ℕ) (j : ℕ) → marked a 0 j ≡ false
unfolding marked
marked-none a j = refl

pub excl_step : (ks vs a : List ℕ) (v n : ℕ) → has v (excluded_by ks vs a (suc n)) ≡
    (has v (excluded_by ks vs a n) ||
    (of_kind ks 0 (get_or a n 0) && is_equal (scalar_cmp payload v (get_or vs (get_or a n 0) 0))))
unfolding excluded_by gather lined payload
excl_step ks vs a v n = go (of_kind ks 0 (get_or a n 0))
  where
    go : (x : Bool) → has v (cond x (excluded_by ks vs a n ++ (literal_at vs (get_or a n 0) ∷ [])) (excluded_by ks vs a n)) ≡
        (has v (excluded_by ks vs a n) || (x && is_equal (scalar_cmp payload v (get_or vs (get_or a n 0) 0))))
    go true = contains-append lined (payload.key v) (excluded_by ks vs a n) (literal_at vs (get_or a n 0) ∷ []) ∙
        ap (λ b. has v (excluded_by ks vs a n) || b)
        (or-false (is_equal (scalar_cmp payload v (get_or vs (get_or a n 0) 0))))
    go false = sym (or-false (has v (excluded_by ks vs a n)))

pub excl_none : (ks vs a : List ℕ) (v : ℕ) → has v (excluded_by ks vs a 0) ≡ false
unfolding excluded_by gather
excl_none ks vs a v = refl

pub mk_more : (a : List ℕ) (j : ℕ) (i : ℕ) → marked a i j ≡ false → eqb (get_or a i 0) j ≡ false → marked a (i + 1) j ≡
    false
mk_more a j i h e = more (λ n. marked a n j) (λ n. eqb (get_or a n 0) j) (marked_step a j) i h e

pub mk_found : (a : List ℕ) (j : ℕ) (i n : ℕ) → i < n → eqb (get_or a i 0) j ≡ true → true ≡ marked a n j
mk_found a j i n l e = found (λ n. marked a n j) (λ n. eqb (get_or a n 0) j) (marked_step a j) i n l e

pub mk_done : (a : List ℕ) (j : ℕ) (i n : ℕ) → i ≤ n → n ≤ i → marked a i j ≡ false → false ≡ marked a n j
mk_done a j i n l g h = done (λ n. marked a n j) i n l g h

pub ex-more : (ks vs a : List ℕ) (v : ℕ) (i : ℕ) → has v (excluded_by ks vs a i) ≡ false →
    (of_kind ks 0 (get_or a i 0) && is_equal (scalar_cmp payload v (get_or vs (get_or a i 0) 0))) ≡ false →
    has v (excluded_by ks vs a (i + 1)) ≡ false
ex-more ks vs a v i h e = more (λ n. has v (excluded_by ks vs a n))
    (λ n. (of_kind ks 0 (get_or a n 0) && is_equal (scalar_cmp payload v (get_or vs (get_or a n 0) 0)))) (excl_step ks vs a v)
    i h e

pub ex-found : (ks vs a : List ℕ) (v : ℕ) (i n : ℕ) → i < n →
    (of_kind ks 0 (get_or a i 0) && is_equal (scalar_cmp payload v (get_or vs (get_or a i 0) 0))) ≡ true → true ≡
    has v (excluded_by ks vs a n)
ex-found ks vs a v i n l e = found (λ n. has v (excluded_by ks vs a n))
    (λ n. (of_kind ks 0 (get_or a n 0) && is_equal (scalar_cmp payload v (get_or vs (get_or a n 0) 0)))) (excl_step ks vs a v)
    i n l e

pub ex-done : (ks vs a : List ℕ) (v : ℕ) (i n : ℕ) → i ≤ n → n ≤ i → has v (excluded_by ks vs a i) ≡ false → false ≡
    has v (excluded_by ks vs a n)
ex-done ks vs a v i n l g h = done (λ n. has v (excluded_by ks vs a n)) i n l g h

-- ---- an array of numbers that gets one more
pub gather-same : {A : Type 0} (p : ℕ → Bool) (f : A → ℕ → A) (z : A) (a b : List ℕ) (n : ℕ) →
    ((i : ℕ) → i < n → get_or a i 0 ≡ get_or b i 0) → gather p f z a n ≡ gather p f z b n
unfolding gather
gather-same p f z a b zero h = refl
gather-same p f z a b (suc n) h = rw (gather-same p f z a b n (λ i l. h i (omega arith)), h n (omega arith))

pub gather-push : {A : Type 0} (p : ℕ → Bool) (f : A → ℕ → A) (z : A) (a : List ℕ) (n j : ℕ) → n < length a →
    gather p f z (set a n j) (n + 1) ≡ cond (p j) (f (gather p f z a n) j) (gather p f z a n)
unfolding gather
gather-push p f z a n j l = rw (
  add-one,
  get_or-set_same a n j 0 l,
  gather-same p f z (set a n j) a n
      (λ i k. get_or-set_other a n i j 0 (λ e. omega arith)),
)

pub marked-same : (a b : List ℕ) (n j : ℕ) → ((i : ℕ) → i < n → get_or a i 0 ≡ get_or b i 0) → marked a n j ≡ marked b n j
unfolding marked
marked-same a b zero j h = refl
marked-same a b (suc n) j h = rw (marked-same a b n j (λ i l. h i (omega arith)), h n (omega arith))

pub fine-push : (m : ℕ) (a : List ℕ) (n j : ℕ) → n < length a → Fine m a n → j < m → marked a n j ≡ false →
    Fine m (set a n j) (n + 1)
fine-push m a n j l h k e i q = go (eq-view i n)
  where
    old : (i : ℕ) → i < n → get_or (set a n j) i 0 ≡ get_or a i 0
    old i p = get_or-set_other a n i j 0 (λ e. omega arith)

    go : {x : Bool} → Eq i n x → (get_or (set a n j) i 0 < m) × (marked (set a n j) i (get_or (set a n j) i 0) ≡ false)
    go (yes p) = rw (p, get_or-set_same a n j 0 l) (k, marked-same (set a n j) a n j old ∙ e)
    go (no p) =
        let w : i < n = omega (arith, p, q) in
        rw (old i w, marked-same (set a n j) a i (get_or a i 0) (λ x y. old x (omega arith))) (h i w)

pub fine-zero : (m : ℕ) (a : List ℕ) (n : ℕ) → n ≡ 0 → Fine m a n
fine-zero m a n e i l = absurd (omega (arith, e, l))
