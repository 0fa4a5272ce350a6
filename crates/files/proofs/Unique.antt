-- "Each accepted file is the one the writer would produce": block by block, a file without a fault is what is written for
-- what it holds.
-- Assumes nothing.
use Prim.Native.Nat.{ℕ, zero, suc, ◌+◌, ◌-◌, ◌*◌, ◌/◌, ◌%◌, ◌≤◌, ◌<◌}
use mathlib.Core.Path.{◌≡◌, refl, sym, ◌∙◌, ap, ap₂, subst}
use mathlib.Core.Bool.{Bool, true, false, cond, true≢false, ◌&&◌, ◌||◌}
use mathlib.Core.Logic.{◌⊎◌, inl, inr, ⊎_elim}
use mathlib.Core.List.{List, [], ◌∷◌, ◌++◌, append_assoc, append-nil}
use native.Mathlib.Nat.{add-zero, le_of_lt, div-div-eq-div-mul}
use native.Mathlib.Numerals.{add-one}
use native.Mathlib.Omega.{arith}
use lib.Dec.{ltb, leb, eqb}
use lib.ListN.{length, get_or, take, drop, length-append, get_or-eq_default}
use lib.Seq.{take_all, drop-cons, take-suc}
use borrow.Author.Tests.{eqb-true, eqb-false, ltb-true, eq-eqb, ne_eqb}
use Rattle.records.specs.Bytes.{word, all}
use Rattle.records.proofs.Laws.{and_left, and_right, by-test, or_no}
use Rattle.records.proofs.Loops.{all_holds}
use Rattle.checking.proofs.Bits.{lt-or_le}
use Rattle.file_blocks.specs.Format.{item_size, capacity, repeats, place, block, blocks_for, blocks_to, word_bytes}
use Rattle.file_blocks.specs.Format.{file_blocks, file_of}
use Rattle.file_structure.specs.Read.{block_at, blocks_in, kind_of, count_of, content_size, content_of, taken, held_to, held, total}
use Rattle.file_structure.specs.Read.{kind_ok, count_ok, block_ok, follows_ok, order_ok, end_of, ends_ok, used_ok, root_of, structure_ok}
use Rattle.files.specs.RoundTrip.{FilesAreWritten}
use Rattle.file_structure.proofs.Parts.{block-byte, length-block}
use Rattle.file_structure.proofs.Sizes.{by_kind, kind-low, kind-high, count-high}
use Rattle.files.proofs.Contents.{taken_none, taken-some, length-content, ok_kind, ok_count, block-fits, block-is_ok}
use Rattle.files.proofs.Loading.{ok_blocks, ok_order, ok_ends, ok_used, ok_length, ok_multiple, within, records-held}
use Rattle.files.proofs.OneBlock.{is_block}
use Rattle.files.proofs.Sections.{places, take-block, count-more, blocks-snoc}

-- ---- what is written for a table, records, a pool, a text pool s and an end, none of them whole yet

abbrev written : List ℕ → List ℕ → List ℕ → List ℕ → List ℕ → List ℕ
written t r p s e =
    block 0 1 t
    ++ (blocks_to 1 2 r (blocks_for r)
    ++ (blocks_to (1 + blocks_for r) 3 p (blocks_for p)
    ++ (blocks_to (1 + blocks_for r + blocks_for p) 5 s (blocks_for s)
    ++ blocks_to (1 + blocks_for r + blocks_for p + blocks_for s) 4 e (blocks_for e))))

abbrev block_count : List ℕ → List ℕ → List ℕ → List ℕ → ℕ
block_count r p s e = 1 + blocks_for r + blocks_for p + blocks_for s + blocks_for e

none-for : blocks_for [] ≡ 0
unfolding blocks_for
none-for = refl

-- no bytes, no block
blocks-none : (n k : ℕ) → blocks_to n k [] (blocks_for []) ≡ []
unfolding blocks_to
blocks-none n k = rw none-for

pub blocks-one : (n k : ℕ) (c : List ℕ) → 0 < length c → length c ≤ 496 → blocks_to n k c (blocks_for c) ≡ block n k c
blocks-one n k c g h =
    blocks-snoc n k [] c none-full g h
    ∙ ap₂ (λ (x : List ℕ) (m : ℕ). x ++ block m k c) (blocks-none n k) (ap (λ (m : ℕ). n + m) none-for ∙ add-zero n)
  where
    none-full : length {A = ℕ} [] ≡ 496 * blocks_for []
    none-full = sym (ap (λ (m : ℕ). 496 * m) none-for)

more_records : (t r x : List ℕ) → length r ≡ 496 * blocks_for r → 0 < length x → length x ≤ 496
    → written t (r ++ x) [] [] [] ≡ written t r [] [] [] ++ block (1 + blocks_for r) 2 x
more_records t r x f g h =
    rw (
      blocks-none (1 + blocks_for (r ++ x)) 3,
      blocks-none (1 + blocks_for (r ++ x) + blocks_for []) 5,
      blocks-none (1 + blocks_for (r ++ x) + blocks_for [] + blocks_for []) 4,
      blocks-none (1 + blocks_for r) 3,
      blocks-none (1 + blocks_for r + blocks_for []) 5,
      blocks-none (1 + blocks_for r + blocks_for [] + blocks_for []) 4,
      blocks-snoc 1 2 r x f g h,
    )
    (simp (append_assoc, append-nil))

more_pool : (t r p x : List ℕ) → length p ≡ 496 * blocks_for p → 0 < length x → length x ≤ 496
    → written t r (p ++ x) [] [] ≡ written t r p [] [] ++ block (1 + blocks_for r + blocks_for p) 3 x
more_pool t r p x f g h =
    rw (
      blocks-none (1 + blocks_for r + blocks_for (p ++ x)) 5,
      blocks-none (1 + blocks_for r + blocks_for (p ++ x) + blocks_for []) 4,
      blocks-none (1 + blocks_for r + blocks_for p) 5,
      blocks-none (1 + blocks_for r + blocks_for p + blocks_for []) 4,
      blocks-snoc (1 + blocks_for r) 3 p x f g h,
    )
    (simp (append_assoc, append-nil))

more_text : (t r p s x : List ℕ) → length s ≡ 496 * blocks_for s → 0 < length x → length x ≤ 496
    → written t r p (s ++ x) [] ≡ written t r p s [] ++ block (1 + blocks_for r + blocks_for p + blocks_for s) 5 x
more_text t r p s x f g h =
    rw (
      blocks-none (1 + blocks_for r + blocks_for p + blocks_for (s ++ x)) 4,
      blocks-none (1 + blocks_for r + blocks_for p + blocks_for s) 4,
      blocks-snoc (1 + blocks_for r + blocks_for p) 5 s x f g h,
    )
    (simp (append_assoc, append-nil))

the_end : (t r p s x : List ℕ) → 0 < length x → length x ≤ 496
    → written t r p s x ≡ written t r p s [] ++ block (1 + blocks_for r + blocks_for p + blocks_for s) 4 x
the_end t r p s x g h =
    rw (
      blocks-one (1 + blocks_for r + blocks_for p + blocks_for s) 4 x g h,
      blocks-none (1 + blocks_for r + blocks_for p + blocks_for s) 4,
    )
    (simp (append_assoc, append-nil))

-- ---- the order of kinds

place-low : (k : ℕ) → 1 ≤ k → k ≤ 5 → 1 ≤ place k
unfolding place
place-low k low high =
    by_kind (λ k. 1 ≤ place k) (omega arith) (omega arith) (omega arith) (omega arith) (omega arith) k low high

behind-table : (j : ℕ) → 1 < place j → 1 < j
unfolding place
behind-table zero h = absurd (omega (arith, h))
behind-table (suc zero) h = absurd (omega (arith, h))
behind-table (suc (suc j)) h = omega arith

-- ---- a block of a kind that is never empty

items_some : (k n : ℕ) → 1 ≤ k → k ≤ 5 → 0 < n → 0 < item_size k * n
unfolding item_size
items_some k n low high h =
    by_kind (λ k. 0 < item_size k * n) (omega arith) (omega arith) (omega arith) (omega arith) (omega arith) k low high

content_some : (b : List ℕ) (i : ℕ) → length b ≡ 512 → block_ok b i ≡ true → 2 ≤ kind_of b → 0 < length (content_of b)
unfolding count_ok content_size
content_some b i l e h =
    let c = ltb-true 0 (count_of b)
    (sym (or_no (eqb (kind_of b) 1) (ltb 0 (count_of b)) (ne_eqb (kind_of b) 1 (λ q. omega (arith, q, h))))
    ∙ and_left (eqb (kind_of b) 1 || ltb 0 (count_of b)) (leb (count_of b) (capacity (kind_of b))) (ok_count b i e)) in
    let s = items_some (kind_of b) (count_of b) (kind-low b (ok_kind b i e)) (kind-high b (ok_kind b i e)) c in
    let n = length-content b l (block-fits b i e) in omega (arith, s, n)

-- ---- the end's eight bytes

word_first : (x a b c d : ℕ) → x ≡ a + 256 * b + 65536 * c + 16777216 * d → a < 256 → b < 256 → c < 256 → d < 256
    → (x % 256 ≡ a) × (x / 256 % 256 ≡ b) × (x / 65536 % 256 ≡ c) × (x / 16777216 % 256 ≡ d)
word_first x a b c d e ha hb hc hd =
    let p : x / 256 ≡ b + 256 * c + 65536 * d = omega arith in
    let q : x / 65536 ≡ c + 256 * d = omega arith in
    let r : x / 16777216 ≡ d = omega arith in
    (omega arith, omega (arith, p), omega (arith, q), omega (arith, r))

word-again : (b : List ℕ) (at : ℕ) → ((j : ℕ) → get_or b j 0 < 256)
    → word_bytes (word b at) ≡ get_or b at 0 ∷ get_or b (at + 1) 0 ∷ get_or b (at + 2) 0 ∷ get_or b (at + 3) 0 ∷ []
unfolding word_bytes word
word-again b at bytes =
    let w = word_first (word b at) (get_or b at 0) (get_or b (at + 1) 0) (get_or b (at + 2) 0) (get_or b (at + 3) 0) refl
    (bytes at) (bytes (at + 1)) (bytes (at + 2)) (bytes (at + 3)) in
    rw (w.0, w.1, w.2, w.3)

eight_bytes : (b : List ℕ) → length b ≡ 512
    → take 8 (drop 16 b)
    ≡ get_or b 16 0 ∷ get_or b 17 0 ∷ get_or b 18 0 ∷ get_or b 19 0 ∷ get_or b 20 0 ∷ get_or b 21 0 ∷ get_or b 22 0 ∷ get_or b 23 0 ∷ []
eight_bytes b h =
    rw (
      drop-cons b 16 0 (omega arith),
      drop-cons b 17 0 (omega arith),
      drop-cons b 18 0 (omega arith),
      drop-cons b 19 0 (omega arith),
      drop-cons b 20 0 (omega arith),
      drop-cons b 21 0 (omega arith),
      drop-cons b 22 0 (omega arith),
      drop-cons b 23 0 (omega arith),
    )

one-counted : (b : List ℕ) (i : ℕ) → block_ok b i ≡ true → kind_of b ≡ 4 → count_of b ≡ 1
unfolding count_ok capacity
one-counted b i e k =
    let c = subst (λ (m : ℕ). count_of b ≤ capacity m) k (count-high b (ok_count b i e)) in
    let d = ltb-true 0 (count_of b)
    (sym (or_no (eqb (kind_of b) 1) (ltb 0 (count_of b)) (ne_eqb (kind_of b) 1 (λ q. omega (arith, q, k))))
    ∙ and_left (eqb (kind_of b) 1 || ltb 0 (count_of b)) (leb (count_of b) (capacity (kind_of b))) (ok_count b i e)) in
    omega (arith, c, d)

end-bytes : (b : List ℕ) (i : ℕ) → length b ≡ 512 → ((j : ℕ) → get_or b j 0 < 256) → block_ok b i ≡ true → kind_of b ≡ 4
    → content_of b ≡ word_bytes (word b 16) ++ word_bytes (word b 20)
unfolding content_of content_size item_size count_ok capacity
end-bytes b i l bytes e k =
    let n : count_of b ≡ 1 = one-counted b i e k in
    rw (k, n, word-again b 16 bytes, word-again b 20 bytes) (eight_bytes b l)

eight : (used root : ℕ) → (0 < length (word_bytes used ++ word_bytes root)) × (length (word_bytes used ++ word_bytes root) ≤ 496)
unfolding word_bytes
eight used root = (omega arith, omega arith)

one_block : (c : List ℕ) → 0 < length c → length c ≤ 496 → blocks_for c ≡ 1
unfolding blocks_for
one_block c g h = omega arith

-- ---- the blocks of a file, one after the other

module _ (f : List ℕ) (bytes : (i : ℕ) → get_or f i 0 < 256) (e : structure_ok f ≡ true) where
  ok : (i : ℕ) → i < blocks_in f → block_ok (block_at f i) i ≡ true
  ok i h = block-is_ok f i (ok_blocks f e) h

  long : (i : ℕ) → i < blocks_in f → length (block_at f i) ≡ 512
  long i h = length-block f i (within f i h)

  block-bytes : (i : ℕ) → i < blocks_in f → (j : ℕ) → get_or (block_at f i) j 0 < 256
  block-bytes i h j =
      ⊎_elim (λ (l : j < 512). rw (block-byte f i j l) (bytes (512 * i + j)))
      (λ (g : 512 ≤ j). rw (get_or-eq_default (block_at f i) 0 {n = j} (let n = long i h in omega (arith, n, g))) (omega arith))
      (lt-or_le j 512)

  is_written : (i : ℕ) → i < blocks_in f → block_at f i ≡ block i (kind_of (block_at f i)) (content_of (block_at f i))
  is_written i h = is_block (block_at f i) i (long i h) (block-bytes i h) (ok i h)

  follows : (i : ℕ) → suc i < blocks_in f → follows_ok (block_at f i) (block_at f (suc i)) ≡ true
  unfolding order_ok
  follows i h =
      rw add-one at (all_holds (λ (j : ℕ). follows_ok (block_at f j) (block_at f (j + 1))) i (blocks_in f - 1) (omega arith)
      (ok_order f e))

  low : (i : ℕ) → i < blocks_in f → 1 ≤ kind_of (block_at f i)
  low i h = kind-low (block_at f i) (ok_kind (block_at f i) i (ok i h))

  high : (i : ℕ) → i < blocks_in f → kind_of (block_at f i) ≤ 5
  high i h = kind-high (block_at f i) (ok_kind (block_at f i) i (ok i h))

  held-other : (i j : ℕ) → (kind_of (block_at f i) ≡ j → ⊥) → held_to j f (suc i) ≡ held_to j f i
  unfolding held_to
  held-other i j h =
      ap (λ (l : List ℕ). held_to j f i ++ l) (taken_none j (block_at f i) h) ∙ append-nil (held_to j f i)

  held-own : (i k : ℕ) → kind_of (block_at f i) ≡ k → held_to k f (suc i) ≡ held_to k f i ++ content_of (block_at f i)
  unfolding held_to
  held-own i k h = ap (λ (l : List ℕ). held_to k f i ++ l) (taken-some k (block_at f i) h)

  -- The first m + 1 blocks are what is written for what they hold; nothing is held of the kinds behind that of block m; and
  -- if block m is full, so are all of its kind.
  record Built (m : ℕ) : Type 0 where
    pub same : take (512 * suc m) f
        ≡ written (held_to 1 f (suc m)) (held_to 2 f (suc m)) (held_to 3 f (suc m)) (held_to 5 f (suc m)) (held_to 4 f (suc m))
    pub count : block_count (held_to 2 f (suc m)) (held_to 3 f (suc m)) (held_to 5 f (suc m)) (held_to 4 f (suc m)) ≡ suc m
    pub above : (j : ℕ) → place (kind_of (block_at f m)) < place j → held_to j f (suc m) ≡ []
    pub full : repeats (kind_of (block_at f m)) ≡ true → count_of (block_at f m) ≡ capacity (kind_of (block_at f m))
        → length (held_to (kind_of (block_at f m)) f (suc m)) ≡ 496 * blocks_for (held_to (kind_of (block_at f m)) f (suc m))
    pub end : kind_of (block_at f m) ≡ 4 → held_to 4 f (suc m) ≡ content_of (block_at f m)

  first_kind : kind_of (block_at f 0) ≡ 1
  unfolding ends_ok
  first_kind =
      eqb-true (kind_of (block_at f 0)) 1 (and_left (eqb (kind_of (block_at f 0)) 1) (eqb (kind_of (end_of f)) 4) (ok_ends f e))

  some_block : 0 < blocks_in f
  unfolding blocks_in
  some_block = let h = ok_length f e in omega (arith, h)

  none_first : (j : ℕ) → 1 < j → held_to j f 1 ≡ []
  unfolding held_to
  none_first j h = taken_none j (block_at f 0) (λ q. let k = first_kind in omega (arith, q, k, h))

  table-first : held_to 1 f 1 ≡ content_of (block_at f 0)
  unfolding held_to
  table-first = taken-some 1 (block_at f 0) first_kind

  first_block : take 512 f ≡ block 0 1 (content_of (block_at f 0))
  unfolding block_at
  first_block = is_written 0 some_block ∙ ap (λ (k : ℕ). block 0 k (content_of (block_at f 0))) first_kind

  not-again : repeats 1 ≡ false
  unfolding repeats
  not-again = refl

  no_end_again : repeats 4 ≡ false
  unfolding repeats
  no_end_again = refl

  built_first : Built 0
  built_first =
      let n2 = none_first 2 (omega arith) in
      let n3 = none_first 3 (omega arith) in
      let n5 = none_first 5 (omega arith) in
      let n4 = none_first 4 (omega arith) in
      record {
        same =
            first_block
            ∙ rw (
              n2,
              n3,
              n5,
              n4,
              table-first,
              blocks-none 1 2,
              blocks-none (1 + blocks_for []) 3,
              blocks-none (1 + blocks_for [] + blocks_for []) 5,
              blocks-none (1 + blocks_for [] + blocks_for [] + blocks_for []) 4,
            )
            (sym (append-nil (block 0 1 (content_of (block_at f 0)))));
        count = rw (n2, n3, n5, n4, none-for);
        above =
            λ j h. none_first j (behind-table j (let k = ap place first_kind in let p = places.0 in omega (arith, k, p, h)));
        full = λ r c. absurd (true≢false (sym r ∙ rw first_kind not-again));
        end = λ k. absurd (let q = first_kind in omega (arith, q, k));
      }

  -- ---- one block more

  module _ (m : ℕ) (h : suc m < blocks_in f) (built : Built m) where
    abbrev last : List ℕ
    last = block_at f m

    abbrev next : List ℕ
    next = block_at f (suc m)

    ready : (k : ℕ) → kind_of next ≡ k
        → (length (held_to k f (suc m)) ≡ 496 * blocks_for (held_to k f (suc m)))
        × ((j : ℕ) → place k < place j → held_to j f (suc m) ≡ [])
        × (((kind_of last ≡ k) × (repeats k ≡ true)) ⊎ ((place (kind_of last) < place k) × (held_to k f (suc m) ≡ [])))
    unfolding follows_ok
    ready k q =
        by-test (eqb (kind_of last) (kind_of next))
        (λ y. let s : kind_of last ≡ k = eqb-true (kind_of last) (kind_of next) y ∙ q in
        let t : (repeats (kind_of last) && eqb (count_of last) (capacity (kind_of last))) ≡ true = rw y at (follows m h) in
        let r = and_left (repeats (kind_of last)) (eqb (count_of last) (capacity (kind_of last))) t in
        let c = eqb-true (count_of last) (capacity (kind_of last))
        (and_right (repeats (kind_of last)) (eqb (count_of last) (capacity (kind_of last))) t) in (
          subst (λ (k : ℕ). length (held_to k f (suc m)) ≡ 496 * blocks_for (held_to k f (suc m))) s (built.full r c),
          (λ j l. built.above j (subst (λ (k : ℕ). place k < place j) (sym s) l)),
          inl (s, subst (λ (k : ℕ). repeats k ≡ true) s r),
        ))
        (λ n. let t : place (kind_of last) < place (kind_of next) =
        ltb-true (place (kind_of last)) (place (kind_of next)) (rw n at (follows m h)) in
        let s : place (kind_of last) < place k = subst (λ (k : ℕ). place (kind_of last) < place k) q t in
        let z = built.above k s in (
          rw (z, none-for),
          (λ j l. built.above j (omega (arith, s, l))),
          inr (s, z),
        ))

    abbrev content : List ℕ
    content = content_of next

    size : length content ≤ 496
    size =
        let n = length-content next (long (suc m) h) (block-fits next (suc m) (ok (suc m) h)) in
        let b = block-fits next (suc m) (ok (suc m) h) in omega (arith, n, b)

    -- block m + 1 behind the first m + 1, which are written as w
    behind : (k : ℕ) (w : List ℕ) → kind_of next ≡ k → take (512 * suc m) f ≡ w
        → take (512 * suc (suc m)) f ≡ w ++ block (suc m) k content
    behind k w q s =
        take-block f (suc m)
        ∙ ap₂ (λ (a b : List ℕ). a ++ b) s (is_written (suc m) h ∙ ap (λ (k : ℕ). block (suc m) k content) q)

    full_size : (k : ℕ) → 1 ≤ k → k ≤ 5 → repeats k ≡ true → item_size k * capacity k ≡ 496
    unfolding repeats item_size capacity
    full_size k l g =
        by_kind (λ k. repeats k ≡ true → item_size k * capacity k ≡ 496) (λ r. absurd (true≢false (sym r))) (λ r. refl)
        (λ r. refl) (λ r. absurd (true≢false (sym r))) (λ r. refl) k l g

    full-content : (k : ℕ) → kind_of next ≡ k → repeats k ≡ true → count_of next ≡ capacity k → length content ≡ 496
    unfolding content_size
    full-content k q r c =
        length-content next (long (suc m) h) (block-fits next (suc m) (ok (suc m) h))
        ∙ ap₂ (λ (a b : ℕ). item_size a * b) q c
        ∙ full_size k (rw q at (low (suc m) h)) (rw q at (high (suc m) h)) r

    grow : (k : ℕ) → kind_of next ≡ k → 2 ≤ k
        → take (512 * suc (suc m)) f
        ≡ written (held_to 1 f (suc (suc m))) (held_to 2 f (suc (suc m))) (held_to 3 f (suc (suc m))) (held_to 5 f (suc (suc m)))
        (held_to 4 f (suc (suc m)))
        → block_count (held_to 2 f (suc (suc m))) (held_to 3 f (suc (suc m))) (held_to 5 f (suc (suc m))) (held_to 4 f (suc (suc m)))
        ≡ suc (suc m)
        → Built (suc m)
    grow k q g same count =
        let some = content_some next (suc m) (long (suc m) h) (ok (suc m) h) (omega (arith, q, g)) in
        let r = ready k q in
        let own = held-own (suc m) k q in
        record {
          same = same;
          count = count;
          above =
              λ j l. held-other (suc m) j (λ z. let y = ap place z in omega (arith, y, l))
              ∙ r.1 j (subst (λ (k : ℕ). place k < place j) q l);
          full =
              λ rep c. subst (λ (k : ℕ). length (held_to k f (suc (suc m))) ≡ 496 * blocks_for (held_to k f (suc (suc m)))) (sym q)
              (let rk : repeats k ≡ true = rw q at rep in
              let ck : count_of next ≡ capacity k = rw q at c in
              let x = full-content k q rk ck in
              let a = length-append (held_to k f (suc m)) content in
              let b = count-more (held_to k f (suc m)) content r.0 some size in
              let u = r.0 in
              rw own (omega (arith, x, a, b, u)));
          end =
              λ z. subst (λ (k : ℕ). held_to k f (suc (suc m)) ≡ content) (sym q ∙ z)
              (own ∙ ap (λ (l : List ℕ). l ++ content) (no_more (sym q ∙ z) r.2));
        }
      where
        no_more : k ≡ 4
            → (((kind_of last ≡ k) × (repeats k ≡ true)) ⊎ ((place (kind_of last) < place k) × (held_to k f (suc m) ≡ [])))
            → held_to k f (suc m) ≡ []
        no_more z (inl p) = absurd (true≢false (sym p.1 ∙ ap repeats z ∙ no_end_again))
        no_more z (inr p) = p.1

    written_same : (t t' r r' p p' s s' x x' : List ℕ) → t ≡ t' → r ≡ r' → p ≡ p' → s ≡ s' → x ≡ x'
        → written t r p s x ≡ written t' r' p' s' x'
    written_same t t' r r' p p' s s' x x' a b c d e = rw (a, b, c, d, e)

    -- what is held of kind j does not grow
    other : (j k : ℕ) → kind_of next ≡ k → (k ≡ j → ⊥) → held_to j f (suc (suc m)) ≡ held_to j f (suc m)
    other j k q d = held-other (suc m) j (λ z. d (sym q ∙ z))

    no_blocks : (j : ℕ) → held_to j f (suc m) ≡ [] → blocks_for (held_to j f (suc m)) ≡ 0
    no_blocks j n = ap blocks_for n ∙ none-for

    grow_records : kind_of next ≡ 2 → Built (suc m)
    grow_records q =
        let r = ready 2 q in
        let some = content_some next (suc m) (long (suc m) h) (ok (suc m) h) (omega (arith, q)) in
        let n3 = r.1 3 (omega (arith, places.1, places.2)) in
        let n5 = r.1 5 (omega (arith, places.1, places.3)) in
        let n4 = r.1 4 (omega (arith, places.1, places.4)) in
        let c = built.count in
        let i : suc m ≡ 1 + blocks_for (held_to 2 f (suc m)) =
        omega (arith, c, no_blocks 3 n3, no_blocks 5 n5, no_blocks 4 n4) in
        let o1 = other 1 2 q (λ z. omega (arith, z)) in
        let o2 = held-own (suc m) 2 q in
        let o3 = other 3 2 q (λ z. omega (arith, z)) ∙ n3 in
        let o5 = other 5 2 q (λ z. omega (arith, z)) ∙ n5 in
        let o4 = other 4 2 q (λ z. omega (arith, z)) ∙ n4 in
        let s = built.same ∙ written_same _ _ _ _ _ _ _ _ _ _ refl refl n3 n5 n4 in
        let b = count-more (held_to 2 f (suc m)) content r.0 some size in
        grow 2 q (omega arith)
        (behind 2 (written (held_to 1 f (suc m)) (held_to 2 f (suc m)) [] [] []) q s
        ∙ ap (λ (n : ℕ). written (held_to 1 f (suc m)) (held_to 2 f (suc m)) [] [] [] ++ block n 2 content) i
        ∙ sym (more_records (held_to 1 f (suc m)) (held_to 2 f (suc m)) content r.0 some size)
        ∙ sym (written_same _ _ _ _ _ _ _ _ _ _ o1 o2 o3 o5 o4))
        (rw (o2, o3, o5, o4, b, none-for) (omega (arith, i)))

    grow_pool : kind_of next ≡ 3 → Built (suc m)
    grow_pool q =
        let r = ready 3 q in
        let some = content_some next (suc m) (long (suc m) h) (ok (suc m) h) (omega (arith, q)) in
        let n5 = r.1 5 (omega (arith, places.2, places.3)) in
        let n4 = r.1 4 (omega (arith, places.2, places.4)) in
        let c = built.count in
        let i : suc m ≡ 1 + blocks_for (held_to 2 f (suc m)) + blocks_for (held_to 3 f (suc m)) =
        omega (arith, c, no_blocks 5 n5, no_blocks 4 n4) in
        let o1 = other 1 3 q (λ z. omega (arith, z)) in
        let o2 = other 2 3 q (λ z. omega (arith, z)) in
        let o3 = held-own (suc m) 3 q in
        let o5 = other 5 3 q (λ z. omega (arith, z)) ∙ n5 in
        let o4 = other 4 3 q (λ z. omega (arith, z)) ∙ n4 in
        let s = built.same ∙ written_same _ _ _ _ _ _ _ _ _ _ refl refl refl n5 n4 in
        let b = count-more (held_to 3 f (suc m)) content r.0 some size in
        grow 3 q (omega arith)
        (behind 3 (written (held_to 1 f (suc m)) (held_to 2 f (suc m)) (held_to 3 f (suc m)) [] []) q s
        ∙ ap (λ (n : ℕ). written (held_to 1 f (suc m)) (held_to 2 f (suc m)) (held_to 3 f (suc m)) [] [] ++ block n 3 content) i
        ∙ sym (more_pool (held_to 1 f (suc m)) (held_to 2 f (suc m)) (held_to 3 f (suc m)) content r.0 some size)
        ∙ sym (written_same _ _ _ _ _ _ _ _ _ _ o1 o2 o3 o5 o4))
        (rw (o2, o3, o5, o4, b, none-for) (omega (arith, i)))

    grow_text : kind_of next ≡ 5 → Built (suc m)
    grow_text q =
        let r = ready 5 q in
        let some = content_some next (suc m) (long (suc m) h) (ok (suc m) h) (omega (arith, q)) in
        let n4 = r.1 4 (omega (arith, places.3, places.4)) in
        let c = built.count in
        let i : suc m ≡ 1 + blocks_for (held_to 2 f (suc m)) + blocks_for (held_to 3 f (suc m)) + blocks_for (held_to 5 f (suc m)) =
        omega (arith, c, no_blocks 4 n4) in
        let o1 = other 1 5 q (λ z. omega (arith, z)) in
        let o2 = other 2 5 q (λ z. omega (arith, z)) in
        let o3 = other 3 5 q (λ z. omega (arith, z)) in
        let o5 = held-own (suc m) 5 q in
        let o4 = other 4 5 q (λ z. omega (arith, z)) ∙ n4 in
        let s = built.same ∙ written_same _ _ _ _ _ _ _ _ _ _ refl refl refl refl n4 in
        let b = count-more (held_to 5 f (suc m)) content r.0 some size in
        grow 5 q (omega arith)
        (behind 5 (written (held_to 1 f (suc m)) (held_to 2 f (suc m)) (held_to 3 f (suc m)) (held_to 5 f (suc m)) []) q s
        ∙ ap (λ (n : ℕ). written (held_to 1 f (suc m)) (held_to 2 f (suc m)) (held_to 3 f (suc m)) (held_to 5 f (suc m)) []
        ++ block n 5 content) i
        ∙ sym (more_text (held_to 1 f (suc m)) (held_to 2 f (suc m)) (held_to 3 f (suc m)) (held_to 5 f (suc m)) content r.0 some
        size)
        ∙ sym (written_same _ _ _ _ _ _ _ _ _ _ o1 o2 o3 o5 o4))
        (rw (o2, o3, o5, o4, b, none-for) (omega (arith, i)))

    grow_end : kind_of next ≡ 4 → Built (suc m)
    grow_end q =
        let some = content_some next (suc m) (long (suc m) h) (ok (suc m) h) (omega (arith, q)) in
        let n4 = none_yet (ready 4 q).2 in
        let c = built.count in
        let i : suc m ≡ 1 + blocks_for (held_to 2 f (suc m)) + blocks_for (held_to 3 f (suc m)) + blocks_for (held_to 5 f (suc m)) =
        omega (arith, c, no_blocks 4 n4) in
        let o1 = other 1 4 q (λ z. omega (arith, z)) in
        let o2 = other 2 4 q (λ z. omega (arith, z)) in
        let o3 = other 3 4 q (λ z. omega (arith, z)) in
        let o5 = other 5 4 q (λ z. omega (arith, z)) in
        let o4 : held_to 4 f (suc (suc m)) ≡ content = held-own (suc m) 4 q ∙ ap (λ (l : List ℕ). l ++ content) n4 in
        let s = built.same ∙ written_same _ _ _ _ _ _ _ _ _ _ refl refl refl refl n4 in
        let b : blocks_for content ≡ 1 = one_block content some size in
        grow 4 q (omega arith)
        (behind 4 (written (held_to 1 f (suc m)) (held_to 2 f (suc m)) (held_to 3 f (suc m)) (held_to 5 f (suc m)) []) q s
        ∙ ap (λ (n : ℕ). written (held_to 1 f (suc m)) (held_to 2 f (suc m)) (held_to 3 f (suc m)) (held_to 5 f (suc m)) []
        ++ block n 4 content) i
        ∙ sym (the_end (held_to 1 f (suc m)) (held_to 2 f (suc m)) (held_to 3 f (suc m)) (held_to 5 f (suc m)) content some size)
        ∙ sym (written_same _ _ _ _ _ _ _ _ _ _ o1 o2 o3 o5 o4))
        (rw (o2, o3, o5, o4, b) (omega (arith, i)))
      where
        none_yet : (((kind_of last ≡ 4) × (repeats 4 ≡ true)) ⊎ ((place (kind_of last) < place 4) × (held_to 4 f (suc m) ≡ [])))
            → held_to 4 f (suc m) ≡ []
        none_yet (inl p) = absurd (true≢false (sym p.1 ∙ no_end_again))
        none_yet (inr p) = p.1

    grow_table : kind_of next ≡ 1 → Built (suc m)
    grow_table q = no_table (ready 1 q).2
      where
        no_table : (((kind_of last ≡ 1) × (repeats 1 ≡ true)) ⊎ ((place (kind_of last) < place 1) × (held_to 1 f (suc m) ≡ [])))
            → Built (suc m)
        no_table (inl p) = absurd (true≢false (sym p.1 ∙ not-again))
        no_table (inr p) =
            absurd (let l = place-low (kind_of last) (low m (le_of_lt h)) (high m (le_of_lt h)) in
            let s = p.0 in let z = places.0 in omega (arith, l, s, z))

    built_next : Built (suc m)
    built_next =
        by_kind (λ k. kind_of next ≡ k → Built (suc m)) grow_table grow_records grow_pool grow_end grow_text (kind_of next)
        (low (suc m) h) (high (suc m) h) refl

  built_to : (m : ℕ) → m < blocks_in f → Built m
  built_to zero h = built_first
  built_to (suc m) h = built_next m h (built_to m (le_of_lt h))

  -- ---- the whole file

  whole_length : length f ≡ 512 * blocks_in f
  unfolding blocks_in
  whole_length = let z = ok_multiple f e in omega (arith, z)

  last_kind : kind_of (end_of f) ≡ 4
  unfolding ends_ok
  last_kind =
      eqb-true (kind_of (end_of f)) 4 (and_right (eqb (kind_of (block_at f 0)) 1) (eqb (kind_of (end_of f)) 4) (ok_ends f e))

  used-is : word (end_of f) 16 ≡ total 2 f
  unfolding used_ok
  used-is = eqb-true (word (end_of f) 16) (total 2 f) (ok_used f e)

  -- the last block is number m
  module _ (m : ℕ) (q : blocks_in f ≡ suc m) where
    end_is : end_of f ≡ block_at f m
    unfolding end_of
    end_is = ap (block_at f) (let z : blocks_in f - 1 ≡ m = omega (arith, q) in z)

    in_file : m < blocks_in f
    in_file = omega (arith, q)

    end-held : held_to 4 f (suc m) ≡ word_bytes (total 2 f) ++ word_bytes (root_of f)
    unfolding root_of
    end-held =
        let k : kind_of (block_at f m) ≡ 4 = ap kind_of (sym end_is) ∙ last_kind in
        (built_to m in_file).end k
        ∙ end-bytes (block_at f m) m (long m in_file) (block-bytes m in_file) (ok m in_file) k
        ∙ ap₂ (λ (x y : ℕ). word_bytes x ++ word_bytes y) (ap (λ (b : List ℕ). word b 16) (sym end_is) ∙ used-is)
        (ap (λ (b : List ℕ). word b 20) (sym end_is))

    all_records : take (16 * total 2 f) (held 2 f) ≡ held 2 f
    all_records = take_all (16 * total 2 f) (held 2 f) (let n = records-held f e in omega (arith, n))

    whole-file : f ≡ file_of (held 1 f) (held 2 f) (held 3 f) (held 5 f) (total 2 f) (root_of f)
    unfolding file_of file_blocks held
    whole-file =
        let x = word_bytes (total 2 f) ++ word_bytes (root_of f) in
        let l = whole_length in
        sym (take_all (512 * suc m) f (omega (arith, l, q)))
        ∙ (built_to m in_file).same
        ∙ rw (all_records, q, end-held)
        (ap (λ (l : List ℕ). block 0 1 (held_to 1 f (suc m)) ++ (blocks_to 1 2 (held_to 2 f (suc m)) (blocks_for (held_to 2 f (suc m)))
        ++ (blocks_to (1 + blocks_for (held_to 2 f (suc m))) 3 (held_to 3 f (suc m)) (blocks_for (held_to 3 f (suc m)))
        ++ (blocks_to (1 + blocks_for (held_to 2 f (suc m)) + blocks_for (held_to 3 f (suc m))) 5 (held_to 5 f (suc m))
        (blocks_for (held_to 5 f (suc m))) ++ l))))
        (blocks-one (1 + blocks_for (held_to 2 f (suc m)) + blocks_for (held_to 3 f (suc m)) + blocks_for (held_to 5 f (suc m))) 4 x
        (eight (total 2 f) (root_of f)).0 (eight (total 2 f) (root_of f)).1))

pub files_are_written : FilesAreWritten
files_are_written f bytes e = from (blocks_in f) refl
  where
    from : (n : ℕ) → blocks_in f ≡ n → f ≡ file_of (held 1 f) (held 2 f) (held 3 f) (held 5 f) (total 2 f) (root_of f)
    from zero q = absurd (let s = some_block f bytes e in omega (arith, s, q))
    from (suc m) q = whole-file f bytes e m q
