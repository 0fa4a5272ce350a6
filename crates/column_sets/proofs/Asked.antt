-- Sets of numbers, and the lists of a column asked for a value all at once. Assumes nothing.
use mathlib.Core.Path.{◌≡◌, refl, sym, ◌∙◌, ap}
use mathlib.Core.Bool.{Bool, true, false, not, ◌&&◌, ◌||◌, true≢false, or-true, or-false, and-false}
use mathlib.Core.List.{List, [], ◌∷◌}
use mathlib.Core.Option.{Option, none, some}
use Prim.Native.Nat.{ℕ, zero, suc, ◌+◌, ◌/◌, ◌%◌, ◌≤◌, ◌<◌}
use native.Mathlib.Omega.{arith}
use native.Mathlib.Numerals.{add-one}
use lib.ListN.{length, get_or}
use lib.Dec.{eqb, ltb}
use borrow.Author.Tests.{eqb-true, eq-eqb, ne_eqb, ltb-true}
use Rattle.records.proofs.Laws.{and_left, and_right}
use Rattle.checking.specs.Columns.{bit}
use Rattle.checking.proofs.Bits.{bit-zero}
use Rattle.constraints.specs.Values.{contains}
use Rattle.constraints.specs.Payload.{payload}
use Rattle.constraints.specs.Lined.{Lined, lined}
use Rattle.constraints.specs.Resolve.{is_allowed}
use Rattle.constraints.proofs.Sets.{subset-contains}
use Rattle.sorted.specs.BitSets.{member, Put, Common, Missing, Meets, Within}
use Rattle.column_constraints.specs.Abstraction.{of_kind, list_of, values_of, allowed_by, disallowed_by, marked, Fine}
use Rattle.column_sets.specs.Index.{Low, NumberSet, KindSet}
use Rattle.column_constraints.proofs.Lines.{contains-values}
use Rattle.column_sets.proofs.Numbers.{marked_step, marked-none, mk_found}
use Rattle.column_sets.proofs.Insertions.{within, all_within, any-within, all_none, all_more, any_none, any-more}

abbrev has : ℕ → List Lined → Bool
has v l = contains lined (payload.key v) l

abbrev given : ℕ → List ℕ → Bool
given v l = contains payload (payload.key v) l

-- ---- sets of numbers
zero_word : (q : ℕ) → ◌≡◌ {A = ℕ} (get_or (0 ∷ 0 ∷ []) q 0) 0
zero_word zero = refl
zero_word (suc zero) = refl
zero_word (suc (suc q)) = refl

zero-set : (j : ℕ) → member (0 ∷ 0 ∷ []) 0 j ≡ false
zero-set j = ap (λ (x : ℕ). bit x (j % 64)) (zero_word (0 + j / 64)) ∙ bit-zero (j % 64)

pub number-none : (a : List ℕ) → NumberSet a 0 (0 ∷ 0 ∷ [])
number-none a = record { size = refl; has = λ j l. zero-set j ∙ sym (marked-none a j) }

pub number_more : (a : List ℕ) (i : ℕ) (set after : List ℕ) (m : ℕ) → m ≡ get_or a i 0 → NumberSet a i set →
    length after ≡ length set → Put set after 0 m → NumberSet a (i + 1) after
number_more a i set after m is s e u = record {
  size = e ∙ s.size;
  has = λ j l. u.put j ∙ rw (s.has j l, is, add-one) (sym (marked_step a j i));
}

pub set-none : (ks : List ℕ) (k : ℕ) (a : List ℕ) → KindSet ks k a 0 (0 ∷ 0 ∷ [])
set-none ks k a = record {
  size = refl;
  has = λ j l. zero-set j ∙ ap (λ (b : Bool). b && of_kind ks k j) (sym (marked-none a j));
}

new-kind : (m d x : Bool) → (x ≡ true → d ≡ true) → ((m && d) || x) ≡ ((m || x) && d)
new-kind m true true h = or-true (m && true) ∙ ap (λ (b : Bool). b && true) (sym (or-true m))
new-kind m false true h = absurd (true≢false (sym (h refl)))
new-kind true d false h = or-false d
new-kind false d false h = refl

old_kind : (m d x : Bool) → (x ≡ true → d ≡ false) → (m && d) ≡ ((m || x) && d)
old_kind m true true h = absurd (true≢false (h refl))
old_kind m false true h = and-false m ∙ sym (and-false (m || true))
old_kind true d false h = refl
old_kind false d false h = refl

pub kind-more : (ks : List ℕ) (k : ℕ) (a : List ℕ) (i : ℕ) (set after : List ℕ) (m : ℕ) → m ≡ get_or a i 0 →
    KindSet ks k a i set → length after ≡ length set → get_or ks m 0 ≡ k → Put set after 0 m → KindSet ks k a (i + 1) after
kind-more ks k a i set after m is s e h u = record {
  size = e ∙ s.size;
  has = λ j l. u.put j ∙ rw (s.has j l, add-one, marked_step a j i, ← is)
      (new-kind (marked a i j) (of_kind ks k j) (eqb m j)
      (λ t. eq-eqb (get_or ks j 0) k (ap (λ (x : ℕ). get_or ks x 0) (sym (eqb-true m j t)) ∙ h)));
}

pub kind-skip : (ks : List ℕ) (k : ℕ) (a : List ℕ) (i : ℕ) (set : List ℕ) (m : ℕ) → m ≡ get_or a i 0 →
    KindSet ks k a i set → (get_or ks m 0 ≡ k → ⊥) → KindSet ks k a (i + 1) set
kind-skip ks k a i set m is s h = record {
  size = s.size;
  has = λ j l. s.has j l ∙ rw (add-one, marked_step a j i, ← is)
      (old_kind (marked a i j) (of_kind ks k j) (eqb m j)
      (λ t. ne_eqb (get_or ks j 0) k (λ e. h (ap (λ (x : ℕ). get_or ks x 0) (eqb-true m j t) ∙ e))));
}

-- a column's numbers are members
pub low-row : (m : ℕ) (a : List ℕ) (n : ℕ) → Fine m a n → m ≤ 128 → Low a n
low-row m a n f h i l = let b = (f i l).0 in omega arith

-- ---- a value that every allowed list has
all_each : (ks ss cs ps a : List ℕ) (v n : ℕ) →
    ((i : ℕ) → i < n → (of_kind ks 1 (get_or a i 0) && not (given v (list_of ss cs ps (get_or a i 0)))) ≡ false) →
    is_allowed lined (allowed_by ks ss cs ps a n) (payload.key v) ≡ true
all_each ks ss cs ps a v zero h = all_none ks ss cs ps a v
all_each ks ss cs ps a v (suc n) h =
    let e : n + 1 ≡ suc n = omega arith in
    rw e at (all_more ks ss cs ps a v n (all_each ks ss cs ps a v n (λ i l. h i (omega arith))) (h n (omega arith)))

not-all : (ks ss cs ps a : List ℕ) (v n j : ℕ) → marked a n j ≡ true → get_or ks j 0 ≡ 1 →
    given v (list_of ss cs ps j) ≡ false → is_allowed lined (allowed_by ks ss cs ps a n) (payload.key v) ≡ false
not-all ks ss cs ps a v n j m k h = go (allowed_by ks ss cs ps a n) (all_within ks ss cs ps a n j m k)
  where
    test : (x : List Lined) → within (some x) (values_of ss cs ps j) ≡ true → (b : Bool) → has v x ≡ b → b ≡ false
    test x s true e =
        absurd (true≢false (sym (subset-contains lined (payload.key v) x (values_of ss cs ps j) s e) ∙
        contains-values (payload.key v) ss cs ps j ∙ h))
    test x s false e = refl

    go : (o : Option (List Lined)) → within o (values_of ss cs ps j) ≡ true → is_allowed lined o (payload.key v) ≡ false
    go none s = absurd (true≢false (sym s))
    go (some x) s = test x s (has v x) refl

-- ---- a value that no disallowed list has
none_each : (ks ss cs ps a : List ℕ) (v n : ℕ) →
    ((i : ℕ) → i < n → (of_kind ks 2 (get_or a i 0) && given v (list_of ss cs ps (get_or a i 0))) ≡ false) →
    has v (disallowed_by ks ss cs ps a n) ≡ false
none_each ks ss cs ps a v zero h = any_none ks ss cs ps a v
none_each ks ss cs ps a v (suc n) h =
    let e : n + 1 ≡ suc n = omega arith in
    rw e at (any-more ks ss cs ps a v n (none_each ks ss cs ps a v n (λ i l. h i (omega arith))) (h n (omega arith)))

-- ---- the sets of numbers against the set of the lists that have v
module _ (ks ss cs ps a : List ℕ) (n v : ℕ) (index : List ℕ) (at : ℕ) (low : Low a n)
    (lists : (j : ℕ) → j < 128 → member index at j ≡ given v (list_of ss cs ps j)) where
  own : (k : ℕ) (set : List ℕ) → KindSet ks k a n set → (i : ℕ) → i < n → of_kind ks k (get_or a i 0) ≡ true →
      member set 0 (get_or a i 0) ≡ true
  own k set s i l d =
      s.has (get_or a i 0) (low i l) ∙ rw (d, ← mk_found a (get_or a i 0) i n l (eq-eqb (get_or a i 0) (get_or a i 0) refl))

  pub allowed-asked : (set : List ℕ) (r : Bool) → KindSet ks 1 a n set → Within set 0 index at r →
      r ≡ is_allowed lined (allowed_by ks ss cs ps a n) (payload.key v)
  allowed-asked set r s w = go r w
    where
      each : Within set 0 index at true → (i : ℕ) → i < n → (d : Bool) → of_kind ks 1 (get_or a i 0) ≡ d →
          (d && not (given v (list_of ss cs ps (get_or a i 0)))) ≡ false
      each w i l true d = ap not (sym (lists (get_or a i 0) (low i l)) ∙
          w.every refl (get_or a i 0) (low i l) (own 1 set s i l d))
      each w i l false d = refl

      lost : Missing set 0 index at → is_allowed lined (allowed_by ks ss cs ps a n) (payload.key v) ≡ false
      lost g =
          let e = sym (s.has g.place g.below) ∙ g.here in
          not-all ks ss cs ps a v n g.place (and_left (marked a n g.place) (of_kind ks 1 g.place) e)
          (eqb-true (get_or ks g.place 0) 1 (and_right (marked a n g.place) (of_kind ks 1 g.place) e))
          (sym (lists g.place g.below) ∙ g.lacks)

      go : (r : Bool) → Within set 0 index at r → r ≡ is_allowed lined (allowed_by ks ss cs ps a n) (payload.key v)
      go true w = sym (all_each ks ss cs ps a v n (λ i l. each w i l (of_kind ks 1 (get_or a i 0)) refl))
      go false w = sym (lost (w.some refl))

  pub disallowed-asked : (set : List ℕ) (r : Bool) → KindSet ks 2 a n set → Meets set 0 index at r →
      r ≡ has v (disallowed_by ks ss cs ps a n)
  disallowed-asked set r s w = go r w
    where
      each : Meets set 0 index at false → (i : ℕ) → i < n → (d : Bool) → of_kind ks 2 (get_or a i 0) ≡ d →
          (d && given v (list_of ss cs ps (get_or a i 0))) ≡ false
      each w i l true d = sym (lists (get_or a i 0) (low i l)) ∙
          w.none refl (get_or a i 0) (low i l) (own 2 set s i l d)
      each w i l false d = refl

      met : Common set 0 index at → has v (disallowed_by ks ss cs ps a n) ≡ true
      met g =
          let e = sym (s.has g.place g.below) ∙ g.here in
          subset-contains lined (payload.key v) (values_of ss cs ps g.place) (disallowed_by ks ss cs ps a n)
          (any-within ks ss cs ps a n g.place (and_left (marked a n g.place) (of_kind ks 2 g.place) e)
          (eqb-true (get_or ks g.place 0) 2 (and_right (marked a n g.place) (of_kind ks 2 g.place) e)))
          (contains-values (payload.key v) ss cs ps g.place ∙ sym (lists g.place g.below) ∙ g.there)

      go : (r : Bool) → Meets set 0 index at r → r ≡ has v (disallowed_by ks ss cs ps a n)
      go true w = sym (met (w.some refl))
      go false w = sym (none_each ks ss cs ps a v n (λ i l. each w i l (of_kind ks 2 (get_or a i 0)) refl))

-- ---- a place that the index covers
pub record Covered (index : List ℕ) (p at : ℕ) : Type 0 where
  pub within : p + 4096 < length index / 2
  pub is : at ≡ get_or index p 0
  pub some : 0 < get_or index p 0

pub covered : (index : List ℕ) (p at : ℕ) → (ltb (p + 4096) (length index / 2) && ltb 0 at) ≡ true →
    (p < length index → at ≡ get_or index p 0) → Covered index p at
covered index p at t e =
    let h : p + 4096 < length index / 2 = ltb-true _ _ (and_left (ltb (p + 4096) (length index / 2)) (ltb 0 at) t) in
    let g : 0 < at = ltb-true _ _ (and_right (ltb (p + 4096) (length index / 2)) (ltb 0 at) t) in
    let i : at ≡ get_or index p 0 = e (omega arith) in
    record { within = h; is = i; some = omega arith }
