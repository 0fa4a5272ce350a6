-- Making the index: each rising value has one set, and each list's conjunct is in the sets of its values. Assumes nothing.
use mathlib.Core.Path.{◌≡◌, refl, sym, ◌∙◌, ap}
use mathlib.Core.Bool.{Bool, true, false, ◌&&◌, ◌||◌, or-true, or-false, and-false}
use mathlib.Core.List.{List, [], ◌∷◌}
use mathlib.Core.Logic.{◌⊎◌, inl, inr, ⊎_elim}
use Prim.Native.Nat.{ℕ, ◌+◌, ◌-◌, ◌*◌, ◌/◌, ◌%◌, ◌^◌, ◌<◌, ◌≤◌}
use native.Mathlib.Omega.{arith}
use native.Mathlib.Numerals.{add-one}
use lib.ListN.{length, get_or, set}
use lib.Seq.{get_or-set_same, get_or-set_other}
use lib.Dec.{eqb, ltb}
use borrow.Author.Tests.{eqb-true, eqb-false, eq-eqb, ne_eqb, lt-ltb, le-ltb}
use Rattle.records.proofs.Laws.{by-test}
use Rattle.records.specs.Bytes.{value_at}
use Rattle.checking.specs.Columns.{bit}
use Rattle.checking.proofs.Bits.{bit-zero, lt-or_le}
use Rattle.truth.specs.FromBytes.{values_from}
use Rattle.truth.specs.Order.{is_equal}
use Rattle.truth.specs.Halves.{bias_of}
use Rattle.truth.proofs.Orders.{cmp-refl}
use Rattle.truth.proofs.Keys.{says_less, says-greater}
use Rattle.constraints.specs.Scalars.{scalar_cmp}
use Rattle.constraints.specs.Payload.{payload}
use Rattle.constraints.proofs.Sets.{contains-append}
use Rattle.sorted.specs.Rising.{Rising, Found}
use Rattle.sorted.specs.BitSets.{member, Put}
use Rattle.column_constraints.specs.Abstraction.{list_of, starts_in, counts_in}
use Rattle.column_sets.specs.Index.{riser_in, Indexed, Sets, ValuePut}
use Rattle.column_constraints.proofs.Pigeon.{Eq, yes, no, eq-view}
use Rattle.column_sets.proofs.Lists.{values-snoc}

-- ---- equal values
abbrev half : ℕ
half = 9223372036854775808

bias_low : (a : ℕ) → a < half → bias_of a ≡ a + half
unfolding bias_of
bias_low a h = rw (lt-ltb a half h)

bias_high : (a : ℕ) → half ≤ a → bias_of a ≡ a - half
unfolding bias_of
bias_high a h = rw (le-ltb a half h)

bias_same : (a b : ℕ) → a < 2 ^ 64 → b < 2 ^ 64 → bias_of a ≡ bias_of b → a ≡ b
bias_same a b ha hb h =
    ⊎_elim
    (λ (p : a < half). ⊎_elim
    (λ (q : b < half). let k : a + half ≡ b + half = rw (bias_low a p, bias_low b q) at h in omega arith)
    (λ (q : half ≤ b). let k : a + half ≡ b - half = rw (bias_low a p, bias_high b q) at h in omega arith)
    (lt-or_le b half))
    (λ (p : half ≤ a). ⊎_elim
    (λ (q : b < half). let k : a - half ≡ b + half = rw (bias_high a p, bias_low b q) at h in omega arith)
    (λ (q : half ≤ b). let k : a - half ≡ b - half = rw (bias_high a p, bias_high b q) at h in omega arith)
    (lt-or_le b half))
    (lt-or_le a half)

same-value : (v w : ℕ) → v < 2 ^ 64 → w < 2 ^ 64 → is_equal (scalar_cmp payload v w) ≡ eqb v w
unfolding payload
same-value v w hv hw = by-test (eqb v w) equal other
  where
    equal : eqb v w ≡ true → is_equal (scalar_cmp payload v w) ≡ eqb v w
    equal t = rw (t, eqb-true v w t) (ap is_equal (cmp-refl payload.total (payload.key w)))

    other : eqb v w ≡ false → is_equal (scalar_cmp payload v w) ≡ eqb v w
    other t = ⊎_elim
        (λ (l : bias_of v < bias_of w).
        ap is_equal (sym (says_less (bias_of v) (bias_of w) v w hv hw refl refl l)) ∙ sym t)
        (λ (l : bias_of w ≤ bias_of v).
        ap is_equal (sym (says-greater (bias_of v) (bias_of w) v w hv hw refl refl l
        (λ e. eqb-false v w t (bias_same v w hv hw e)))) ∙ sym t)
        (lt-or_le (bias_of v) (bias_of w))

-- a number stands at one place only of a rising list
once : {sorted : List ℕ} {k : ℕ} → Rising sorted 0 k → (p q : ℕ) → p < k → q < k →
    get_or sorted p 0 ≡ get_or sorted q 0 → p ≡ q
once rising p q h i e =
    ⊎_elim (λ (l : p < q). let w = rising.rises p q (omega arith) l i in absurd (omega arith))
    (λ (l : q ≤ p).
    ⊎_elim (λ (g : q < p). let w = rising.rises q p (omega arith) g h in absurd (omega arith))
    (λ (g : p ≤ q). omega arith)
    (lt-or_le q p))
    (lt-or_le p q)

-- ---- a value put into its set
pub put-past : (before after : List ℕ) (m p r j : ℕ) → Put before after (m + 2 * r) j → ValuePut before after m p r j
put-past before after m p r j u = record {
  set = u.put;
  others = λ q l h. u.kept q h;
  places = λ q l. inl (u.kept q (λ e. omega (arith, e, l)));
}

pub put-placed : (before mid : List ℕ) (m p r j : ℕ) → p < m → p < length mid → Put before mid (m + 2 * r) j →
    ValuePut before (set mid p (m + 2 * r)) m p r j
put-placed before mid m p r j low room u = record {
  set = λ i. ap (λ (x : ℕ). bit x (i % 64))
      (get_or-set_other mid p (m + 2 * r + i / 64) (m + 2 * r) 0 (λ e. omega (arith, e, low))) ∙ u.put i;
  others = λ q l h. get_or-set_other mid p q (m + 2 * r) 0 (λ e. omega (arith, e, low, l)) ∙ u.kept q h;
  places = λ q l. go q l (eq-view q p);
}
  where
    go : (q : ℕ) → q < m → {x : Bool} → Eq q p x →
        (get_or (set mid p (m + 2 * r)) q 0 ≡ get_or before q 0) ⊎ ((q ≡ p) × (get_or (set mid p (m + 2 * r)) q 0 ≡ m + 2 * r))
    go q l (yes e) = inr (e, rw e (get_or-set_same mid p (m + 2 * r) 0 room))
    go q l (no e) = inl (get_or-set_other mid p q (m + 2 * r) 0 (λ i. e i) ∙ u.kept q (λ i. omega (arith, i, l)))

-- ---- one value more
riser_more : (pool sorted : List ℕ) (r s i v : ℕ) → get_or sorted r 0 < 2 ^ 64 → v < 2 ^ 64 → v ≡ value_at pool (s + i) →
    riser_in sorted r (values_from pool s (i + 1)) ≡ (riser_in sorted r (values_from pool s i) || eqb (get_or sorted r 0) v)
riser_more pool sorted r s i v hr hv is = rw (add-one, values-snoc pool s i, ← is)
    (contains-append payload (payload.key (get_or sorted r 0)) (values_from pool s i) (v ∷ []) ∙
    ap (λ (b : Bool). riser_in sorted r (values_from pool s i) || b)
    (or-false (is_equal (scalar_cmp payload (get_or sorted r 0) v)) ∙ same-value (get_or sorted r 0) v hr hv))

no_riser : (pool sorted : List ℕ) (r s : ℕ) → riser_in sorted r (values_from pool s 0) ≡ false
unfolding values_from
no_riser pool sorted r s = refl

put-here : (m e v : Bool) → ((m || (e && v)) || e) ≡ (m || (e && (v || true)))
put-here true e v = refl
put-here false true v = or-true v ∙ sym (or-true v)
put-here false false v = refl

apart : (m r a n j : ℕ) → (r ≡ a → ⊥) → n < 128 → j < 128 → m + 2 * r + n / 64 ≡ m + 2 * a + j / 64 → ⊥
apart m r a n j h ln lj e = h (omega (arith, e, ln, lj))

pub value-more : (ss cs pool sorted before after : List ℕ) (k m j s i p v a : ℕ) → Rising sorted 0 k → j < 128 →
    p ≡ s + i → v ≡ value_at pool p → v < 2 ^ 64 → Found sorted k v a → a < k → ValuePut before after m p a j →
    Sets ss cs pool sorted before k m j s i → Sets ss cs pool sorted after k m j s (i + 1)
value-more ss cs pool sorted before after k m j s i p v a rising low at is fits found below U S = record {
  places = λ q l h. ⊎_elim
      (λ (e : get_or after q 0 ≡ get_or before q 0). rw e (S.places q l (rw e at h)))
      (λ (e : (q ≡ p) × (get_or after q 0 ≡ m + 2 * a)).
      record {
        rank = a;
        below = below;
        stands = found.there below ∙ is ∙ ap (value_at pool) (sym e.0);
        fits = rw (e.0, ← is) fits;
        is = e.1;
      })
      (U.places q l);
  sets = λ r n lr hr ln. rw (riser_more pool sorted r s i v hr fits (is ∙ ap (value_at pool) at))
      (go r n lr hr ln (eq-view r a));
}
  where
    go : (r n : ℕ) → r < k → get_or sorted r 0 < 2 ^ 64 → n < 128 → {x : Bool} → Eq r a x →
        member after (m + 2 * r) n ≡
        ((ltb n j && riser_in sorted r (list_of ss cs pool n)) ||
        (eqb j n && (riser_in sorted r (values_from pool s i) || eqb (get_or sorted r 0) v)))
    go r n lr hr ln (yes e) =
        let t : eqb (get_or sorted r 0) v ≡ true = eq-eqb (get_or sorted r 0) v (rw e (found.there below)) in
        rw t (ap (λ (y : ℕ). member after (m + 2 * y) n) e ∙ U.set n ∙
        ap (λ (y : ℕ). member before (m + 2 * y) n || eqb j n) (sym e) ∙
        ap (λ (b : Bool). b || eqb j n) (S.sets r n lr hr ln) ∙
        put-here (ltb n j && riser_in sorted r (list_of ss cs pool n)) (eqb j n) (riser_in sorted r (values_from pool s i)))
    go r n lr hr ln (no e) =
        let t : eqb (get_or sorted r 0) v ≡ false =
        ne_eqb (get_or sorted r 0) v (λ x. e (once rising r a lr below (x ∙ sym (found.there below)))) in
        rw (t, or-false (riser_in sorted r (values_from pool s i)))
        (ap (λ (y : ℕ). bit y (n % 64)) (U.others (m + 2 * r + n / 64) (omega arith) (apart m r a n j e ln low)) ∙
        S.sets r n lr hr ln)

pub value-skipped : (ss cs pool sorted index : List ℕ) (k m j s i p v a : ℕ) → p ≡ s + i → v ≡ value_at pool p → v < 2 ^ 64 →
    Found sorted k v a → k ≤ a → Sets ss cs pool sorted index k m j s i → Sets ss cs pool sorted index k m j s (i + 1)
value-skipped ss cs pool sorted index k m j s i p v a at is fits found past S = record {
  places = S.places;
  sets = λ r n lr hr ln.
      let w = found.within in
      let t : eqb (get_or sorted r 0) v ≡ false = ne_eqb (get_or sorted r 0) v
      (λ x. found.absent (omega arith) (record { place = r; from = omega arith; below = lr; holds = x })) in
      rw (
        riser_more pool sorted r s i v hr fits (is ∙ ap (value_at pool) at),
        t,
        or-false (riser_in sorted r (values_from pool s i)),
      ) (S.sets r n lr hr ln);
}

-- ---- all lists
pub sets-none : (ss cs pool sorted index : List ℕ) (k m s : ℕ) → ((q : ℕ) → get_or index q 0 ≡ 0) →
    Sets ss cs pool sorted index k m 0 s 0
sets-none ss cs pool sorted index k m s h = record {
  places = λ p l g. absurd (let e = h p in omega arith);
  sets = λ r j lr hr lj. rw (no_riser pool sorted r s, le-ltb j 0 (omega arith), and-false (eqb 0 j))
      (ap (λ (x : ℕ). bit x (j % 64)) (h (m + 2 * r + j / 64)) ∙ bit-zero (j % 64));
}

pub sets-next : (ss cs pool sorted index : List ℕ) (k m n s c next : ℕ) → s ≡ get_or ss n 0 → c ≡ get_or cs n 0 →
    Sets ss cs pool sorted index k m n s c → Sets ss cs pool sorted index k m (n + 1) next 0
unfolding list_of
sets-next ss cs pool sorted index k m n s c next es ec S = record {
  places = S.places;
  sets = λ r j lr hr lj. rw (no_riser pool sorted r next, and-false (eqb (n + 1) j))
      (S.sets r j lr hr lj ∙ go r j (eq-view n j));
}
  where
    go : (r j : ℕ) → {x : Bool} → Eq n j x →
        ((ltb j n && riser_in sorted r (values_from pool (get_or ss j 0) (get_or cs j 0))) ||
        (x && riser_in sorted r (values_from pool s c))) ≡
        ((ltb j (n + 1) && riser_in sorted r (values_from pool (get_or ss j 0) (get_or cs j 0))) || false)
    go r j (yes e) = rw (
      ← e,
      es,
      ec,
      le-ltb n n (omega arith),
      lt-ltb n (n + 1) (omega arith),
      or-false (riser_in sorted r (values_from pool (get_or ss n 0) (get_or cs n 0))),
    )
    go r j (no e) = ⊎_elim
        (λ (h : j < n). rw (lt-ltb j n h, lt-ltb j (n + 1) (omega arith)))
        (λ (h : n ≤ j). rw (le-ltb j n h, le-ltb j (n + 1) (omega (arith, e))))
        (lt-or_le j n)

pub indexed : (told pool sorted index : List ℕ) (k m : ℕ) → 0 < length index → m + 4096 ≡ length index / 2 →
    m + 2 * k ≤ length index → Sets (starts_in told) (counts_in told) pool sorted index k m 128 0 0 → Indexed told pool index
indexed told pool sorted index k m some half room S = record {
  some = some;
  room = λ p l. ⊎_elim
      (λ (h : 0 < get_or index p 0). let P = S.places p (omega arith) h in
      let e = P.is in let b = P.below in omega arith)
      (λ (h : get_or index p 0 ≤ 0). omega arith)
      (lt-or_le 0 (get_or index p 0));
  lists = λ p j l h lj.
      let P = S.places p (omega arith) h in
      let hr : get_or sorted P.rank 0 < 2 ^ 64 = rw P.stands P.fits in
      rw (P.is, ← P.stands) (S.sets P.rank j P.below hr lj ∙ only P.rank j lj);
}
  where
    only : (r j : ℕ) → j < 128 →
        ((ltb j 128 && riser_in sorted r (list_of (starts_in told) (counts_in told) pool j)) || (eqb 128 j && riser_in sorted r (values_from pool 0 0))) ≡
        riser_in sorted r (list_of (starts_in told) (counts_in told) pool j)
    only r j l = rw (lt-ltb j 128 l, no_riser pool sorted r 0, and-false (eqb 128 j))
        (or-false (riser_in sorted r (list_of (starts_in told) (counts_in told) pool j)))
