-- Two strings compared byte by byte from the front: what is left of both decides, once the bytes before are equal.
use mathlib.Core.Path.{◌≡◌, refl, sym, ◌∙◌, ap, subst}
use mathlib.Core.Bool.{Bool, true, false, cond}
use mathlib.Core.List.{List, [], ◌∷◌}
use mathlib.Core.Logic.{◌⊎◌, inl, inr, ⊎_elim}
use Prim.Native.Nat.{ℕ, suc, ◌+◌, ◌-◌, ◌*◌, ◌<◌, ◌≤◌, compare, min}
use native.Mathlib.Omega.{arith}
use lib.Dec.{leb, ltb, eqb}
use lib.ListN.{get_or}
use borrow.Author.Tests.{leb-true, ltb-true, ltb-false, eqb-true, eqb-false}
use Rattle.std.proofs.Common.{nat_cmp}
use Rattle.records.proofs.Laws.{and_left, and_right}
use Rattle.checking.proofs.Bits.{lt-or_le}
use Rattle.records.specs.Bytes.{word}
use Rattle.truth.specs.Order.{View, less_view, equal_view, greater_view}
use Rattle.truth.specs.Halves.{ordering}
use Rattle.std.specs.declared.cmp.Ordering.{Ordering}
use Rattle.std.specs.declared.cmp.Ordering.TheVariants.{Less, Equal, Greater}
use Rattle.records.specs.Shape.{start_of, length_of, in_pool}
use Rattle.symbols.specs.Symbol.{bytes_from, cmp_bytes, or_else, Rest}
use Rattle.symbols.proofs.Orders.{less_n, view_n}

pub number-less : (m n : ℕ) → m < n → ordering (compare m n) ≡ Less
number-less m n h = go (view_n m n)
  where
    go : {o : Ordering} → View less_n m n o → o ≡ Less
    go (less_view k) = refl
    go (equal_view e) = absurd (omega (arith, h, e))
    go (greater_view k) = absurd (omega (arith, h, k))

pub number-equal : (m n : ℕ) → m ≡ n → ordering (compare m n) ≡ Equal
number-equal m n h = go (view_n m n)
  where
    go : {o : Ordering} → View less_n m n o → o ≡ Equal
    go (less_view k) = absurd (omega (arith, h, k))
    go (equal_view e) = refl
    go (greater_view k) = absurd (omega (arith, h, k))

pub number-greater : (m n : ℕ) → n < m → ordering (compare m n) ≡ Greater
number-greater m n h = go (view_n m n)
  where
    go : {o : Ordering} → View less_n m n o → o ≡ Greater
    go (less_view k) = absurd (omega (arith, h, k))
    go (equal_view e) = absurd (omega (arith, h, e))
    go (greater_view k) = refl

-- core's comparison of two counts
count_tests : (m n : ℕ) (s t : Bool) → ltb m n ≡ s → eqb m n ≡ t
    → cond s Less (cond t Equal Greater) ≡ ordering (compare m n)
count_tests m n true t e f = sym (number-less m n (ltb-true m n e))
count_tests m n false true e f = sym (number-equal m n (eqb-true m n f))
count_tests m n false false e f = sym (number-greater m n (omega (arith, ltb-false m n e, eqb-false m n f)))

pub count-order : (m n : ℕ) → nat_cmp m n ≡ ordering (compare m n)
count-order m n = count_tests m n (ltb m n) (eqb m n) refl refl

bytes-more : (text : List ℕ) (s n m : ℕ) → n ≡ suc m → bytes_from text s n ≡ get_or text s 0 ∷ bytes_from text (suc s) m
unfolding bytes_from
bytes-more text s n m e = ap (bytes_from text s) e

bytes-none : (text : List ℕ) (s n : ℕ) → n ≡ 0 → bytes_from text s n ≡ []
unfolding bytes_from
bytes-none text s n e = ap (bytes_from text s) e

-- Four digits to the base 256.
digits : (a b c d x y z w : ℕ) → a < 256 → b < 256 → c < 256 → d < 256 → x < 256 → y < 256 → z < 256 → w < 256
    → a + 256 * b + 65536 * c + 16777216 * d ≡ x + 256 * y + 65536 * z + 16777216 * w
    → (a ≡ x) × (b ≡ y) × (c ≡ z) × (d ≡ w)
digits a b c d x y z w ha hb hc hd hx hy hz hw e = (omega arith, omega arith, omega arith, omega arith)

module _ (text : List ℕ) (i m j n : ℕ) where
  -- What is left at place k.
  abbrev pub left_at : ℕ → Ordering
  left_at k = cmp_bytes (bytes_from text (i + k) (m - k)) (bytes_from text (j + k) (n - k))

  module _ (k : ℕ) (hm : k < m) (hn : k < n) where
    abbrev x : ℕ
    x = get_or text (i + k) 0

    abbrev y : ℕ
    y = get_or text (j + k) 0

    abbrev rest : List ℕ → List ℕ → Ordering
    rest l s = or_else (ordering (compare x y)) (cmp_bytes l s)

    at : left_at k ≡ or_else (ordering (compare x y)) (left_at (k + 1))
    at =
        let a : m - k ≡ suc (m - (k + 1)) = omega (arith, hm) in
        let b : n - k ≡ suc (n - (k + 1)) = omega (arith, hn) in
        let f : suc (i + k) ≡ i + (k + 1) = omega arith in
        let g : suc (j + k) ≡ j + (k + 1) = omega arith in
        ap (λ l. cmp_bytes l (bytes_from text (j + k) (n - k))) (bytes-more text (i + k) (m - k) (m - (k + 1)) a)
        ∙ ap (λ l. cmp_bytes (x ∷ bytes_from text (suc (i + k)) (m - (k + 1))) l)
        (bytes-more text (j + k) (n - k) (n - (k + 1)) b)
        ∙ ap (λ s. rest (bytes_from text s (m - (k + 1))) (bytes_from text (suc (j + k)) (n - (k + 1)))) f
        ∙ ap (λ s. rest (bytes_from text (i + (k + 1)) (m - (k + 1))) (bytes_from text s (n - (k + 1)))) g

    pub left_less : x < y → left_at k ≡ Less
    left_less h = at ∙ ap (λ o. or_else o (left_at (k + 1))) (number-less x y h)

    pub left-greater : y < x → left_at k ≡ Greater
    left-greater h = at ∙ ap (λ o. or_else o (left_at (k + 1))) (number-greater x y h)

    pub left-next : x ≡ y → left_at k ≡ left_at (k + 1)
    left-next h = at ∙ ap (λ o. or_else o (left_at (k + 1))) (number-equal x y h)

  -- Four bytes that are equal as one word.
  pub left-four : ((q : ℕ) → get_or text q 0 < 256) → (k : ℕ) → k + 4 ≤ m → k + 4 ≤ n
      → word text (i + k) ≡ word text (j + k) → left_at k ≡ left_at (k + 4)
  unfolding word
  left-four below k hm hn e =
      let d = digits (get_or text (i + k) 0) (get_or text (i + k + 1) 0) (get_or text (i + k + 2) 0) (get_or text (i + k + 3) 0)
      (get_or text (j + k) 0) (get_or text (j + k + 1) 0) (get_or text (j + k + 2) 0) (get_or text (j + k + 3) 0)
      (below (i + k)) (below (i + k + 1)) (below (i + k + 2)) (below (i + k + 3))
      (below (j + k)) (below (j + k + 1)) (below (j + k + 2)) (below (j + k + 3)) e in
      left-next k (omega (arith, hm)) (omega (arith, hn)) d.0 ∙ step 1 2 refl (omega arith) d.1
      ∙ step 2 3 refl (omega arith) d.2 ∙ step 3 4 refl (omega arith) d.3
    where
      step : (c q : ℕ) → q ≡ c + 1 → c < 4 → get_or text (i + k + c) 0 ≡ get_or text (j + k + c) 0
          → left_at (k + c) ≡ left_at (k + q)
      step c q f l h =
          let a : i + (k + c) ≡ i + k + c = omega arith in
          let b : j + (k + c) ≡ j + k + c = omega arith in
          let g : k + c + 1 ≡ k + q = omega arith in
          subst (λ z. left_at (k + c) ≡ left_at z) g
          (left-next (k + c) (omega (arith, hm, l)) (omega (arith, hn, l)) (rw (a, b) h))

  -- One of them has ended: the longer one is greater.
  pub left_ended : (k : ℕ) → k ≤ m → k ≤ n → (m ≤ k) ⊎ (n ≤ k) → left_at k ≡ ordering (compare m n)
  left_ended k a b h = go (view_n m n)
    where
      some : (s r c : ℕ) → r ≡ suc c → (l : List ℕ) → l ≡ bytes_from text s r → cmp_bytes [] l ≡ Less
      some s r c e l q = ap (cmp_bytes []) (q ∙ bytes-more text s r c e)

      some_left : (s r c : ℕ) → r ≡ suc c → (l : List ℕ) → l ≡ bytes_from text s r → cmp_bytes l [] ≡ Greater
      some_left s r c e l q = ap (λ w. cmp_bytes w []) (q ∙ bytes-more text s r c e)

      go : {o : Ordering} → View less_n m n o → left_at k ≡ o
      go (less_view q) =
          let z : m - k ≡ 0 = ended m n k a b q h in
          let c : n - k ≡ suc (n - k - 1) = omega (arith, z, q, a) in
          ap (λ l. cmp_bytes l (bytes_from text (j + k) (n - k))) (bytes-none text (i + k) (m - k) z)
          ∙ some (j + k) (n - k) (n - k - 1) c (bytes_from text (j + k) (n - k)) refl
        where
          ended : (m n k : ℕ) → k ≤ m → k ≤ n → m < n → (m ≤ k) ⊎ (n ≤ k) → m - k ≡ 0
          ended m n k a b q (inl h) = omega (arith, a, b, q, h)
          ended m n k a b q (inr h) = omega (arith, a, b, q, h)
      go (equal_view e) =
          let z : m - k ≡ 0 = ended m n k a b e h in
          let w : n - k ≡ 0 = omega (arith, z, e) in
          ap (λ l. cmp_bytes l (bytes_from text (j + k) (n - k))) (bytes-none text (i + k) (m - k) z)
          ∙ ap (cmp_bytes []) (bytes-none text (j + k) (n - k) w)
        where
          ended : (m n k : ℕ) → k ≤ m → k ≤ n → m ≡ n → (m ≤ k) ⊎ (n ≤ k) → m - k ≡ 0
          ended m n k a b q (inl h) = omega (arith, a, b, q, h)
          ended m n k a b q (inr h) = omega (arith, a, b, q, h)
      go (greater_view q) =
          let z : n - k ≡ 0 = ended m n k a b q h in
          let c : m - k ≡ suc (m - k - 1) = omega (arith, z, q, a) in
          ap (cmp_bytes (bytes_from text (i + k) (m - k))) (bytes-none text (j + k) (n - k) z)
          ∙ some_left (i + k) (m - k) (m - k - 1) c (bytes_from text (i + k) (m - k)) refl
        where
          ended : (m n k : ℕ) → k ≤ m → k ≤ n → n < m → (m ≤ k) ⊎ (n ≤ k) → n - k ≡ 0
          ended m n k a b q (inl h) = omega (arith, a, b, q, h)
          ended m n k a b q (inr h) = omega (arith, a, b, q, h)

  -- Before the first byte.
  pub left-whole : cmp_bytes (bytes_from text i m) (bytes_from text j n) ≡ left_at 0
  left-whole =
      let a : i ≡ i + 0 = omega arith in
      let b : j ≡ j + 0 = omega arith in
      let c : m ≡ m - 0 = omega arith in
      let d : n ≡ n - 0 = omega arith in
      ap (λ s. cmp_bytes (bytes_from text s m) (bytes_from text j n)) a
      ∙ ap (λ s. cmp_bytes (bytes_from text (i + 0) m) (bytes_from text s n)) b
      ∙ ap (λ s. cmp_bytes (bytes_from text (i + 0) s) (bytes_from text (j + 0) n)) c
      ∙ ap (λ s. cmp_bytes (bytes_from text (i + 0) (m - 0)) (bytes_from text (j + 0) s)) d

pub rest-none : (text : List ℕ) (i m j n : ℕ) → Rest text i m j n 0
rest-none text i m j n = record { left = omega arith; right = omega arith; same = left-whole text i m j n }

-- At place k, with what is before it left out.
module _ {text : List ℕ} {i m j n k : ℕ} (r : Rest text i m j n k) where
  pub rest-less : k < m → k < n → get_or text (i + k) 0 < get_or text (j + k) 0
      → Less ≡ cmp_bytes (bytes_from text i m) (bytes_from text j n)
  rest-less hm hn h = sym (r.same ∙ left_less text i m j n k hm hn h)

  pub rest-greater : k < m → k < n → get_or text (j + k) 0 < get_or text (i + k) 0
      → Greater ≡ cmp_bytes (bytes_from text i m) (bytes_from text j n)
  rest-greater hm hn h = sym (r.same ∙ left-greater text i m j n k hm hn h)

  pub rest-next : k < m → k < n → get_or text (i + k) 0 ≡ get_or text (j + k) 0 → Rest text i m j n (k + 1)
  rest-next hm hn h = record {
    left = omega arith;
    right = omega arith;
    same = r.same ∙ left-next text i m j n k hm hn h;
  }

  pub rest-four : ((q : ℕ) → get_or text q 0 < 256) → k + 4 ≤ m → k + 4 ≤ n → word text (i + k) ≡ word text (j + k)
      → Rest text i m j n (k + 4)
  rest-four below hm hn h = record { left = hm; right = hn; same = r.same ∙ left-four text i m j n below k hm hn h }

  pub rest_ended : min m n ≤ k → ordering (compare m n) ≡ cmp_bytes (bytes_from text i m) (bytes_from text j n)
  rest_ended h = sym (r.same ∙ left_ended text i m j n k r.left r.right over)
    where
      over : (m ≤ k) ⊎ (n ≤ k)
      over = ⊎_elim (λ (l : m < n). inl (omega arith)) (λ (l : n ≤ m). inr (omega arith)) (lt-or_le m n)

pub in_bounds : (size v : ℕ) → in_pool size v ≡ true → start_of v + length_of v ≤ size
unfolding in_pool
in_bounds size v e = leb-true _ size (and_left (leb (start_of v + length_of v) size) _ e)

pub short : (size v : ℕ) → in_pool size v ≡ true → length_of v ≤ 16
unfolding in_pool
short size v e = leb-true _ 16 (and_right (leb (start_of v + length_of v) size) _ e)
