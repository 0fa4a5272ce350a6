-- One block: as it is written it reads back, and one without a fault is the one that is written for what it holds.
-- Assumes nothing.
use Prim.Native.Nat.{ℕ, zero, suc, ◌+◌, ◌-◌, ◌*◌, ◌/◌, ◌%◌, ◌≤◌, ◌<◌}
use mathlib.Core.Path.{◌≡◌, refl, sym, ◌∙◌, ap, ap₂}
use mathlib.Core.Bool.{Bool, true, ◌&&◌, ◌||◌}
use mathlib.Core.List.{List, [], ◌∷◌, ◌++◌}
use native.Mathlib.Nat.{div-one}
use native.Mathlib.Omega.{arith}
use lib.Dec.{ltb, leb, eqb}
use lib.ListN.{length, get_or, take, drop, replicate, length-drop, take-append-drop, length-replicate}
use lib.Seq.{take_at, get_or-drop, get_or-append-add, drop-cons, drop-drop, ext_get_or}
use borrow.Author.Tests.{eq-eqb, le-leb, eqb-true}
use Rattle.records.specs.Bytes.{all}
use Rattle.records.proofs.Laws.{and_left, and_right}
use Rattle.records.proofs.Loops.{all_true, all_holds}
use Rattle.checksum.specs.Checksum.{checksum, cleared}
use Rattle.file_blocks.specs.Format.{item_size, capacity, sealed, unsealed, block}
use Rattle.file_structure.specs.Read.{kind_of, count_of, content_size, content_of, checksum_ok, number_ok, kind_ok, count_ok, zeros_from}
use Rattle.file_structure.specs.Read.{unused_ok, block_ok, taken}
use Rattle.file_structure.proofs.Sizes.{by_kind, kind-low, kind-high}
use Rattle.files.proofs.Contents.{length-content, ok_checksum, ok_number, ok_kind, ok_unused, block-fits}

zeros_read : (n i : ℕ) → get_or (replicate {A = ℕ} n 0) i 0 ≡ 0
zeros_read zero i = refl
zeros_read (suc n) zero = refl
zeros_read (suc n) (suc i) = zeros_read n i

-- a list that reads 0 everywhere
zeros_list : (l : List ℕ) (n : ℕ) → length l ≡ n → ((i : ℕ) → i < n → get_or l i 0 ≡ 0) → l ≡ replicate n 0
zeros_list l n e h =
    ext_get_or 0 l (replicate n 0) (e ∙ sym (length-replicate n 0))
    (λ i g. h i (omega (arith, e, g)) ∙ sym (zeros_read n i))

split-sum : (s : ℕ) → eqb (256 * (s / 256) + s % 256) s ≡ true
split-sum s = eq-eqb (256 * (s / 256) + s % 256) s (omega arith)

digits : (n : ℕ) → n % 256 + 256 * (n / 256) ≡ n
digits n = omega arith

split-number : (n : ℕ) → eqb (n % 256 + 256 * (n / 256)) n ≡ true
split-number n = eq-eqb (n % 256 + 256 * (n / 256)) n (digits n)

-- ---- written, then read

module _ (n k : ℕ) (c : List ℕ) where
  pub block-kind : kind_of (block n k c) ≡ k
  unfolding block sealed unsealed kind_of
  block-kind = refl

  pub block-count : count_of (block n k c) ≡ length c / item_size k
  unfolding block sealed unsealed count_of
  block-count = digits (length c / item_size k)

  block-behind : drop 16 (block n k c) ≡ c ++ replicate (496 - length c) 0
  unfolding block sealed unsealed
  block-behind = refl

  -- whole columns, records or values
  module _ (whole : item_size k * (length c / item_size k) ≡ length c) where
    pub block_size : content_size (block n k c) ≡ length c
    unfolding content_size
    block_size = ap₂ (λ (x y : ℕ). item_size x * y) block-kind block-count ∙ whole

    pub block-content : content_of (block n k c) ≡ c
    unfolding content_of
    block-content =
        ap₂ (λ (m : ℕ) (l : List ℕ). take m l) block_size block-behind
        ∙ take_at c (replicate (496 - length c) 0) (length c) refl

    unused-behind : zeros_from (block n k c) (16 + content_size (block n k c)) (496 - content_size (block n k c)) ≡ true
    unfolding zeros_from
    unused-behind =
        rw block_size
        (all_true (λ j. eqb (get_or (block n k c) (16 + length c + j) 0) 0)
        (λ j. eq-eqb (get_or (block n k c) (16 + length c + j) 0) 0 (behind j)) (496 - length c))
      where
        behind : (j : ℕ) → get_or (block n k c) (16 + length c + j) 0 ≡ 0
        behind j =
            let e : 16 + length c + j ≡ 16 + (length c + j) = omega arith in
            ap (λ (m : ℕ). get_or (block n k c) m 0) e
            ∙ sym (get_or-drop 16 (block n k c) (length c + j) 0)
            ∙ ap (λ (l : List ℕ). get_or l (length c + j) 0) block-behind
            ∙ get_or-append-add c (replicate (496 - length c) 0) j 0
            ∙ zeros_read (496 - length c) j

    header_unused : zeros_from (block n k c) 7 9 ≡ true
    unfolding zeros_from all block sealed unsealed
    header_unused = refl

    sum_ok : checksum_ok (block n k c) ≡ true
    unfolding checksum_ok block sealed unsealed cleared
    sum_ok = split-sum (checksum (cleared (unsealed n k c)))

    number_ok_lem : number_ok (block n k c) n ≡ true
    unfolding number_ok block sealed unsealed
    number_ok_lem = split-number n

    unused-ok : unused_ok (block n k c) ≡ true
    unfolding unused_ok
    unused-ok = rw (header_unused, unused-behind)

    pub block-ok : 1 ≤ k → k ≤ 5 → (eqb k 1 || ltb 0 (length c / item_size k)) ≡ true
        → length c / item_size k ≤ capacity k → block_ok (block n k c) n ≡ true
    unfolding block_ok kind_ok count_ok
    block-ok low high some most =
        rw (
          sum_ok,
          number_ok_lem,
          block-kind,
          block-count,
          le-leb 1 k low,
          le-leb k 5 high,
          some,
          le-leb (length c / item_size k) (capacity k) most,
          unused-ok,
        )

    pub block-taken : (j : ℕ) → taken j (block n k c) ≡ mathlib.Core.Bool.cond (eqb k j) c []
    unfolding taken
    block-taken j = rw (block-kind, block-content)

-- ---- read, then written

items_back : (k n : ℕ) → 1 ≤ k → k ≤ 5 → (item_size k * n) / item_size k ≡ n
unfolding item_size
items_back k n low high =
    by_kind (λ k. (item_size k * n) / item_size k ≡ n) (omega arith) (omega arith) (omega arith) (omega arith) (omega arith) k low
    high

module _ (b : List ℕ) (i : ℕ) (long : length b ≡ 512) (bytes : (j : ℕ) → get_or b j 0 < 256) (e : block_ok b i ≡ true) where
  head_split : b ≡ get_or b 0 0 ∷ get_or b 1 0 ∷ drop 2 b
  head_split = drop-cons b 0 0 (omega arith) ∙ ap (λ (l : List ℕ). get_or b 0 0 ∷ l) (drop-cons b 1 0 (omega arith))

  header_split :
      drop 2 b
      ≡ get_or b 2 0 ∷ get_or b 3 0 ∷ get_or b 4 0 ∷ get_or b 5 0 ∷ get_or b 6 0 ∷ get_or b 7 0 ∷ get_or b 8 0 ∷ get_or b 9 0
      ∷ get_or b 10 0 ∷ get_or b 11 0 ∷ get_or b 12 0 ∷ get_or b 13 0 ∷ get_or b 14 0 ∷ get_or b 15 0 ∷ drop 16 b
  header_split =
      rw (
        drop-cons b 2 0 (omega arith),
        drop-cons b 3 0 (omega arith),
        drop-cons b 4 0 (omega arith),
        drop-cons b 5 0 (omega arith),
        drop-cons b 6 0 (omega arith),
        drop-cons b 7 0 (omega arith),
        drop-cons b 8 0 (omega arith),
        drop-cons b 9 0 (omega arith),
        drop-cons b 10 0 (omega arith),
        drop-cons b 11 0 (omega arith),
        drop-cons b 12 0 (omega arith),
        drop-cons b 13 0 (omega arith),
        drop-cons b 14 0 (omega arith),
        drop-cons b 15 0 (omega arith),
      )

  head_zero : (j : ℕ) → j < 9 → get_or b (7 + j) 0 ≡ 0
  unfolding unused_ok zeros_from
  head_zero j h =
      eqb-true (get_or b (7 + j) 0) 0
      (all_holds (λ j. eqb (get_or b (7 + j) 0) 0) j 9 h (and_left (zeros_from b 7 9)
      (zeros_from b (16 + content_size b) (496 - content_size b)) (ok_unused b i e)))

  tail_zero : (j : ℕ) → j < 496 - content_size b → get_or b (16 + content_size b + j) 0 ≡ 0
  unfolding unused_ok zeros_from
  tail_zero j h =
      eqb-true (get_or b (16 + content_size b + j) 0) 0
      (all_holds (λ j. eqb (get_or b (16 + content_size b + j) 0) 0) j (496 - content_size b) h
      (and_right (zeros_from b 7 9) (zeros_from b (16 + content_size b) (496 - content_size b)) (ok_unused b i e)))

  fits : content_size b ≤ 496
  fits = block-fits b i e

  content_split : drop 16 b ≡ content_of b ++ replicate (496 - content_size b) 0
  unfolding content_of
  content_split =
      sym (take-append-drop (content_size b) (drop 16 b))
      ∙ ap (λ (l : List ℕ). take (content_size b) (drop 16 b) ++ l)
      (zeros_list (drop (content_size b) (drop 16 b)) (496 - content_size b)
      (let x = length-drop (content_size b) (drop 16 b) in let y = length-drop 16 b in omega (arith, x, y, long))
      (λ j h. get_or-drop (content_size b) (drop 16 b) j 0
      ∙ get_or-drop 16 b (content_size b + j) 0
      ∙ (let q : 16 + (content_size b + j) ≡ 16 + content_size b + j = omega arith in rw q (tail_zero j h))))

  count-back : length (content_of b) / item_size (kind_of b) ≡ count_of b
  unfolding content_size
  count-back =
      ap (λ (n : ℕ). n / item_size (kind_of b)) (length-content b long fits)
      ∙ items_back (kind_of b) (count_of b) (kind-low b (ok_kind b i e)) (kind-high b (ok_kind b i e))

  count_low : length (content_of b) / item_size (kind_of b) % 256 ≡ get_or b 5 0
  unfolding count_of
  count_low = let s = bytes 5 in ap (λ (n : ℕ). n % 256) count-back ∙ omega (arith, s)

  count-high : length (content_of b) / item_size (kind_of b) / 256 ≡ get_or b 6 0
  unfolding count_of
  count-high = let s = bytes 5 in ap (λ (n : ℕ). n / 256) count-back ∙ omega (arith, s)

  number_is : get_or b 2 0 + 256 * get_or b 3 0 ≡ i
  unfolding number_ok
  number_is = eqb-true (get_or b 2 0 + 256 * get_or b 3 0) i (ok_number b i e)

  unsealed-is : unsealed i (kind_of b) (content_of b) ≡ cleared b
  unfolding unsealed cleared kind_of
  unsealed-is =
      let n = number_is in
      let s = bytes 2 in
      let n2 : i % 256 ≡ get_or b 2 0 = omega (arith, n, s) in
      let n3 : i / 256 ≡ get_or b 3 0 = omega (arith, n, s) in
      rw (
        count_low,
        count-high,
        length-content b long fits,
        n2,
        n3,
        header_split,
        content_split,
        head_zero 0 (omega arith),
        head_zero 1 (omega arith),
        head_zero 2 (omega arith),
        head_zero 3 (omega arith),
        head_zero 4 (omega arith),
        head_zero 5 (omega arith),
        head_zero 6 (omega arith),
        head_zero 7 (omega arith),
        head_zero 8 (omega arith),
      )

  resealed : sealed (cleared b) ≡ b
  unfolding sealed cleared checksum_ok
  resealed =
      let s = eqb-true (256 * get_or b 0 0 + get_or b 1 0) (checksum (cleared b)) (ok_checksum b i e) in
      let l = bytes 1 in
      let h0 : checksum (cleared b) / 256 ≡ get_or b 0 0 = omega (arith, s, l) in
      let h1 : checksum (cleared b) % 256 ≡ get_or b 1 0 = omega (arith, s, l) in
      ap₂ (λ (x y : ℕ). x ∷ y ∷ drop 2 b) h0 h1 ∙ sym head_split

  -- a block without a fault is the one that is written for what it holds
  pub is_block : b ≡ block i (kind_of b) (content_of b)
  unfolding block
  is_block = sym (ap sealed unsealed-is ∙ resealed)
