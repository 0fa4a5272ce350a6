-- "A checked screen survives saving and loading": the blocks written for it, one after the other, have no fault and hold it.
-- Assumes nothing.
use Prim.Native.Nat.{ℕ, zero, suc, ◌+◌, ◌-◌, ◌*◌, ◌/◌, ◌%◌, ◌≤◌, ◌<◌}
use mathlib.Core.Path.{◌≡◌, refl, sym, ◌∙◌, ap, ap₂, subst}
use mathlib.Core.Bool.{Bool, true, false, cond, true≢false, ◌&&◌, ◌||◌}
use mathlib.Core.List.{List, [], ◌∷◌, ◌++◌, append_assoc, append-nil}
use native.Mathlib.Nat.{le_of_lt, le_refl, div-div-eq-div-mul}
use native.Mathlib.Numerals.{add-one}
use native.Mathlib.Omega.{arith}
use lib.Dec.{ltb, leb, eqb}
use lib.ListN.{length, get_or, take, drop, length-append, length-take, length-drop, drop_of_length-le}
use lib.Seq.{take_all, take-add, length-take-le}
use borrow.Author.Tests.{eq-eqb, ne_eqb, lt-ltb, le-leb, eqb-true}
use Rattle.records.specs.Bytes.{word, all}
use Rattle.records.proofs.Laws.{by-test, or_no}
use Rattle.checking.specs.Check.{check_answer_in}
use Rattle.checking.specs.Answer as check
use Rattle.files.specs.LoadAnswer as load
use Rattle.file_blocks.specs.Format.{item_size, capacity, repeats, place, block, piece, blocks_for, blocks_to, word_bytes}
use Rattle.file_blocks.specs.Format.{sealed, unsealed, file_blocks, file_of}
use Rattle.file_structure.specs.Read.{block_at, blocks_in, kind_of, count_of, taken, held_to, held, total_to, total, block_ok}
use Rattle.file_structure.specs.Read.{follows_ok, end_of, root_of, whole_ok, blocks_ok, order_ok, ends_ok, used_ok, structure_ok}
use Rattle.files.specs.Answers.{room_ok, held_answer, load_answer}
use Rattle.files.specs.RoundTrip.{Survives, ScreensSurvive}
use Rattle.file_blocks.proofs.Making.{length-block, length-piece}
use Rattle.files.proofs.Saving.{Limits, limits}
use Rattle.files.proofs.Loading.{length-held, loaded_all}
use Rattle.files.proofs.OneBlock.{block-kind, block-count, block-ok, block-taken}
use Rattle.files.proofs.Sections.{places, block-before, block-next}
use Rattle.files.proofs.Front.{accepted-front}

all_same : (p q : ℕ → Bool) (n : ℕ) → ((i : ℕ) → i < n → p i ≡ q i) → all p n ≡ all q n
unfolding all
all_same p q zero h = refl
all_same p q (suc n) h =
    ap₂ (λ (a b : Bool). a && b) (all_same p q n (λ i l. h i (omega arith))) (h n (omega arith))

held-before : (k : ℕ) (x y : List ℕ) (n m : ℕ) → length x ≡ 512 * n → m ≤ n → held_to k (x ++ y) m ≡ held_to k x m
unfolding held_to
held-before k x y n zero e h = refl
held-before k x y n (suc m) e h =
    ap₂ (λ (a b : List ℕ). a ++ taken k b) (held-before k x y n m e (le_of_lt h)) (block-before x y n m e h)

-- ---- the first n + 1 blocks x of a file have no fault, the last of them is `last`, and of kind k they hold h k

record Reads (x : List ℕ) (n : ℕ) (last : List ℕ) (h : ℕ → List ℕ) : Type 0 where
  pub size : length x ≡ 512 * suc n
  pub blocks : all (λ (i : ℕ). block_ok (block_at x i) i) (suc n) ≡ true
  pub order : all (λ (i : ℕ). follows_ok (block_at x i) (block_at x (i + 1))) n ≡ true
  pub first : kind_of (block_at x 0) ≡ 1
  pub end : block_at x n ≡ last
  pub contents : (k : ℕ) → held_to k x (suc n) ≡ h k

reads_first : (c : List ℕ) → length c ≡ 512 → block_ok c 0 ≡ true → kind_of c ≡ 1 → Reads c 0 c (λ k. taken k c)
unfolding all held_to
reads_first c l o k =
    let b : block_at c 0 ≡ c = first_block c l in
    record {
      size = l;
      blocks = rw b o;
      order = refl;
      first = rw b k;
      end = b;
      contents = λ k. ap (taken k) b;
    }
  where
    first_block : (c : List ℕ) → length c ≡ 512 → block_at c 0 ≡ c
    first_block c l = block-next [] c 0 refl l

reads_more : (x : List ℕ) (n : ℕ) (last : List ℕ) (h : ℕ → List ℕ) → Reads x n last h → (c : List ℕ) → length c ≡ 512
    → block_ok c (suc n) ≡ true → follows_ok last c ≡ true → Reads (x ++ c) (suc n) c (λ k. h k ++ taken k c)
unfolding all held_to
reads_more x n last h r c l o g =
    let s = r.size in
    let b : block_at (x ++ c) (suc n) ≡ c = block-next x c (suc n) s l in
    let a = length-append x c in
    record {
      size = omega (arith, a, l, s);
      blocks =
          ap₂ (λ (p q : Bool). p && q)
          (all_same (λ (i : ℕ). block_ok (block_at (x ++ c) i) i) (λ (i : ℕ). block_ok (block_at x i) i) (suc n)
          (λ i k. ap (λ (b : List ℕ). block_ok b i) (block-before x c (suc n) i s k)) ∙ r.blocks)
          (ap (λ (b : List ℕ). block_ok b (suc n)) b ∙ o);
      order =
          ap₂ (λ (p q : Bool). p && q)
          (all_same (λ (i : ℕ). follows_ok (block_at (x ++ c) i) (block_at (x ++ c) (i + 1)))
          (λ (i : ℕ). follows_ok (block_at x i) (block_at x (i + 1))) n
          (λ i k. ap₂ follows_ok (block-before x c (suc n) i s (omega arith))
          (block-before x c (suc n) (i + 1) s (omega arith))) ∙ r.order)
          (ap₂ follows_ok (block-before x c (suc n) n s (omega arith) ∙ r.end)
          (ap (block_at (x ++ c)) (add-one n) ∙ b) ∙ g);
      first = ap kind_of (block-before x c (suc n) 0 s (omega arith)) ∙ r.first;
      end = b;
      contents =
          λ k. ap₂ (λ (p q : List ℕ). p ++ q) (held-before k x c (suc n) (suc n) s (le_refl (suc n)) ∙ r.contents k)
          (ap (taken k) b);
    }

reads_same : (x y : List ℕ) (n m : ℕ) (last : List ℕ) (h g : ℕ → List ℕ) → x ≡ y → n ≡ m
    → ((k : ℕ) → h k ≡ g k) → Reads x n last h → Reads y m last g
reads_same x y n m last h g p q s r =
    record {
      size = rw (← p, ← q) r.size;
      blocks = rw (← p, ← q) r.blocks;
      order = rw (← p, ← q) r.order;
      first = rw (← p) r.first;
      end = rw (← p, ← q) r.end;
      contents = λ k. rw (← p, ← q) (r.contents k ∙ s k);
    }

-- ---- the blocks of records, of values, or of text

-- what holds of each kind that repeats
by-repeat : (P : ℕ → Type 0) → P 2 → P 3 → P 5 → (k : ℕ) → repeats k ≡ true → P k
unfolding repeats
by-repeat P a b c k e =
    by-test (eqb k 2) (λ y. subst P (sym (eqb-true k 2 y)) a)
    (λ n. let d = sym (or_no (eqb k 2) (eqb k 3 || eqb k 5) n) ∙ e in
    by-test (eqb k 3) (λ y. subst P (sym (eqb-true k 3 y)) b)
    (λ m. subst P (sym (eqb-true k 5 (sym (or_no (eqb k 3) (eqb k 5) m) ∙ d))) c))

-- such a kind lies between the table's and the most there is
repeat_within : (k : ℕ) → repeats k ≡ true → (2 ≤ k) × (k ≤ 5)
repeat_within =
    by-repeat (λ k. (2 ≤ k) × (k ≤ 5)) (omega arith, omega arith) (omega arith, omega arith) (omega arith, omega arith)

-- what a piece of a whole number of items counts
record Counts (k : ℕ) (l : List ℕ) (j : ℕ) : Type 0 where
  pub whole : item_size k * (length (piece l j) / item_size k) ≡ length (piece l j)
  pub some : j < blocks_for l → 0 < length (piece l j) / item_size k
  pub most : length (piece l j) / item_size k ≤ capacity k
  pub full : suc j < blocks_for l → length (piece l j) / item_size k ≡ capacity k

counts : (k : ℕ) (l : List ℕ) (j : ℕ) → repeats k ≡ true → item_size k * (length l / item_size k) ≡ length l → Counts k l j
unfolding item_size capacity blocks_for piece
counts k l j rep =
    let a = length-take 496 (drop (496 * j) l) in
    let d = length-drop (496 * j) l in
    by-repeat (λ k. item_size k * (length l / item_size k) ≡ length l → Counts k l j)
    (λ w. record {
      whole = omega (arith, a, d, w);
      some = λ h. omega (arith, a, d, w, h);
      most = omega (arith, a, d, w);
      full = λ h. omega (arith, a, d, w, h);
    })
    (λ w. record {
      whole = omega (arith, a, d, w);
      some = λ h. omega (arith, a, d, w, h);
      most = omega (arith, a, d, w);
      full = λ h. omega (arith, a, d, w, h);
    })
    (λ w. record {
      whole = omega (arith, a, d, w);
      some = λ h. omega (arith, a, d, w, h);
      most = omega (arith, a, d, w);
      full = λ h. omega (arith, a, d, w, h);
    }) k rep

-- the bytes l of kind k beside those of the other kinds
abbrev own : ℕ → List ℕ → ℕ → List ℕ
own k l i = cond (eqb k i) l []

own_more : (k i : ℕ) (l a b : List ℕ) → l ≡ a ++ b → own k a i ++ own k b i ≡ own k l i
own_more k i l a b e = by-test (eqb k i) (λ y. rw (y, e)) (λ n. rw n)

module _ (k : ℕ) (rep : repeats k ≡ true) (l : List ℕ) (whole : item_size k * (length l / item_size k) ≡ length l)
    (x : List ℕ) (n : ℕ) (last : List ℕ) (h : ℕ → List ℕ) (reads : Reads x n last h)
    (under : place (kind_of last) < place k) where
  abbrev next : ℕ → List ℕ
  next j = block (suc n + j) k (piece l j)

  next-ok : (j : ℕ) → j < blocks_for l → block_ok (next j) (suc n + j) ≡ true
  next-ok j g =
      let c = counts k l j rep whole in
      let s = c.some g in
      let b = repeat_within k rep in
      let low = b.0 in
      let high = b.1 in
      block-ok (suc n + j) k (piece l j) c.whole (omega (arith, low)) (omega (arith, high))
      (rw (ne_eqb k 1 (λ q. omega (arith, q, low)), lt-ltb 0 (length (piece l j) / item_size k) s)) c.most

  next-taken : (j i : ℕ) → taken i (next j) ≡ own k (piece l j) i
  next-taken j i = block-taken (suc n + j) k (piece l j) (counts k l j rep whole).whole i

  rises : follows_ok last (next 0) ≡ true
  unfolding follows_ok
  rises =
      rw (
        block-kind (suc n + 0) k (piece l 0),
        ne_eqb (kind_of last) k (λ q. let z = ap place q in omega (arith, z, under)),
        lt-ltb (place (kind_of last)) (place k) under,
      )

  goes_on : (j : ℕ) → suc j < blocks_for l → follows_ok (next j) (next (suc j)) ≡ true
  unfolding follows_ok
  goes_on j g =
      let f = (counts k l j rep whole).full g in
      rw (
        block-kind (suc n + j) k (piece l j),
        block-kind (suc n + suc j) k (piece l (suc j)),
        block-count (suc n + j) k (piece l j),
        eq-eqb k k refl,
        rep,
        eq-eqb (length (piece l j) / item_size k) (capacity k) f,
      )

  -- the first j + 1 of them
  pieces : (j : ℕ) → suc j ≤ blocks_for l
      → Reads (x ++ blocks_to (suc n) k l (suc j)) (n + suc j) (next j) (λ i. h i ++ own k (take (496 * suc j) l) i)
  unfolding blocks_to piece
  pieces zero g =
      let e : suc n + 0 ≡ suc n = omega arith in
      reads_same (x ++ next 0) (x ++ blocks_to (suc n) k l 1) (suc n) (n + 1) (next 0) (λ i. h i ++ taken i (next 0))
      (λ i. h i ++ own k (take 496 l) i) refl (omega arith) (λ i. ap (λ (c : List ℕ). h i ++ c) (next-taken 0 i))
      (reads_more x n last h reads (next 0) (length-block (suc n + 0) k (piece l 0) (length-piece l 0))
      (subst (λ (m : ℕ). block_ok (next 0) m ≡ true) e (next-ok 0 g)) rises)
  pieces (suc j) g =
      let r = pieces j (le_of_lt g) in
      let e : suc n + suc j ≡ suc (n + suc j) = omega arith in
      let a : 496 * suc (suc j) ≡ 496 * suc j + 496 = omega arith in
      reads_same (x ++ blocks_to (suc n) k l (suc j) ++ next (suc j)) (x ++ blocks_to (suc n) k l (suc (suc j)))
      (suc (n + suc j)) (n + suc (suc j)) (next (suc j))
      (λ i. (h i ++ own k (take (496 * suc j) l) i) ++ taken i (next (suc j)))
      (λ i. h i ++ own k (take (496 * suc (suc j)) l) i)
      (append_assoc x (blocks_to (suc n) k l (suc j)) (next (suc j))) (omega arith)
      (λ i. append_assoc (h i) (own k (take (496 * suc j) l) i) (taken i (next (suc j)))
      ∙ ap (λ (c : List ℕ). h i ++ c)
      (ap (λ (c : List ℕ). own k (take (496 * suc j) l) i ++ c) (next-taken (suc j) i)
      ∙ own_more k i (take (496 * suc (suc j)) l) (take (496 * suc j) l) (piece l (suc j))
      (ap (λ (m : ℕ). take m l) a ∙ take-add (496 * suc j) 496 l)))
      (reads_more (x ++ blocks_to (suc n) k l (suc j)) (n + suc j) (next j)
      (λ i. h i ++ own k (take (496 * suc j) l) i) r (next (suc j))
      (length-block (suc n + suc j) k (piece l (suc j)) (length-piece l (suc j)))
      (subst (λ (m : ℕ). block_ok (next (suc j)) m ≡ true) e (next-ok (suc j) g)) (goes_on j g))

  no_blocks : x ++ blocks_to (suc n) k l 0 ≡ x
  unfolding blocks_to
  no_blocks = append-nil x

  no_bytes : blocks_for l ≡ 0 → l ≡ []
  unfolding blocks_for
  no_bytes q = drop_of_length-le l {i = 0} (omega (arith, q))

  all_bytes : (j : ℕ) → blocks_for l ≡ suc j → take (496 * suc j) l ≡ l
  unfolding blocks_for
  all_bytes j q = take_all (496 * suc j) l (omega (arith, q))

  -- all of them; there may be none
  section : (end : List ℕ) × (place (kind_of end) ≤ place k)
      × Reads (x ++ blocks_to (suc n) k l (blocks_for l)) (n + blocks_for l) end (λ i. h i ++ own k l i)
  section = from (blocks_for l) refl
    where
      none : (i : ℕ) (q : blocks_for l ≡ 0) → h i ≡ h i ++ own k l i
      none i q =
          sym (ap (λ (c : List ℕ). h i ++ c) (by-test (eqb k i) (λ y. rw y (no_bytes q)) (λ n. rw n)) ∙ append-nil (h i))

      from : (m : ℕ) → blocks_for l ≡ m → (end : List ℕ) × (place (kind_of end) ≤ place k)
          × Reads (x ++ blocks_to (suc n) k l (blocks_for l)) (n + blocks_for l) end (λ i. h i ++ own k l i)
      from zero q = (
        last,
        le_of_lt under,
        reads_same x (x ++ blocks_to (suc n) k l (blocks_for l)) n (n + blocks_for l) last h (λ i. h i ++ own k l i)
            (sym (ap (λ (m : ℕ). x ++ blocks_to (suc n) k l m) q ∙ no_blocks)) (omega (arith, q)) (λ i. none i q) reads,
      )
      from (suc j) q = (
        next j,
        (let e = ap place (block-kind (suc n + j) k (piece l j)) in omega (arith, e)),
        reads_same (x ++ blocks_to (suc n) k l (suc j)) (x ++ blocks_to (suc n) k l (blocks_for l)) (n + suc j)
            (n + blocks_for l) (next j) (λ i. h i ++ own k (take (496 * suc j) l) i) (λ i. h i ++ own k l i)
            (ap (λ (m : ℕ). x ++ blocks_to (suc n) k l m) (sym q)) (ap (λ (m : ℕ). n + m) (sym q))
            (λ i. ap (λ (c : List ℕ). h i ++ own k c i) (all_bytes j q)) (pieces j (omega (arith, q))),
      )

-- ---- the end

word-parts : (x y z w : ℕ) → x ≡ 256 * y + x % 256 → y ≡ 256 * z + y % 256 → z ≡ 256 * w + z % 256 → x < 4294967296
    → x % 256 + 256 * (y % 256) + 65536 * (z % 256) + 16777216 * (w % 256) ≡ x
word-parts x y z w e f g h = omega arith

word_back : (x : ℕ) → x < 4294967296
    → x % 256 + 256 * (x / 256 % 256) + 65536 * (x / 65536 % 256) + 16777216 * (x / 16777216 % 256) ≡ x
word_back x h =
    let a : x / 256 / 256 ≡ x / 65536 = div-div-eq-div-mul x 256 256 in
    let b : x / 65536 / 256 ≡ x / 16777216 = div-div-eq-div-mul x 65536 256 in
    word-parts x (x / 256) (x / 65536) (x / 16777216) (omega arith) (omega (arith, a)) (omega (arith, b)) h

module _ (n used root : ℕ) where
  abbrev end-block : List ℕ
  end-block = block n 4 (word_bytes used ++ word_bytes root)

  pub end-used : used < 4294967296 → word end-block 16 ≡ used
  unfolding word block sealed unsealed word_bytes
  end-used h = word_back used h

  pub end-root : root < 4294967296 → word end-block 20 ≡ root
  unfolding word block sealed unsealed word_bytes
  end-root h = word_back root h

  end-length : length (word_bytes used ++ word_bytes root) ≡ 8
  unfolding word_bytes
  end-length = refl

  end_whole : item_size 4 * (length (word_bytes used ++ word_bytes root) / item_size 4) ≡ length (word_bytes used ++ word_bytes root)
  unfolding item_size
  end_whole = rw end-length

  end-ok : block_ok end-block n ≡ true
  unfolding item_size capacity
  end-ok =
      block-ok n 4 (word_bytes used ++ word_bytes root) end_whole (omega arith) (omega arith) (rw end-length) (rw end-length (omega arith))

table-whole : (t : List ℕ) → item_size 1 * (length t / item_size 1) ≡ length t
unfolding item_size
table-whole t = omega arith

table-ok : (t : List ℕ) → length t ≤ 64 → block_ok (block 0 1 t) 0 ≡ true
unfolding item_size capacity
table-ok t h = block-ok 0 1 t (table-whole t) (omega arith) (omega arith) refl (omega arith)

several : (repeats 2 ≡ true) × (repeats 3 ≡ true) × (repeats 5 ≡ true)
unfolding repeats
several = (refl, refl, refl)

-- ---- the whole file

module _ (t r p text : List ℕ) (used root : ℕ) (columns : length t ≤ 64) (records : length r ≡ 16 * used)
    (values : length p % 8 ≡ 0) (small-used : used < 4294967296) (small-root : root < 4294967296) where
  abbrev end-bytes : List ℕ
  end-bytes = word_bytes used ++ word_bytes root

  abbrev file : List ℕ
  file = file_blocks t r p text end-bytes

  abbrev nr : ℕ
  nr = blocks_for r

  abbrev np : ℕ
  np = blocks_for p

  abbrev nx : ℕ
  nx = blocks_for text

  abbrev the_end : List ℕ
  the_end = block (1 + nr + np + nx) 4 end-bytes

  records-whole : item_size 2 * (length r / item_size 2) ≡ length r
  unfolding item_size
  records-whole = omega (arith, records)

  pool-whole : item_size 3 * (length p / item_size 3) ≡ length p
  unfolding item_size
  pool-whole = omega (arith, values)

  text-whole : item_size 5 * (length text / item_size 5) ≡ length text
  unfolding item_size
  text-whole = omega arith

  abbrev held-table : ℕ → List ℕ
  held-table i = taken i (block 0 1 t)

  abbrev held-records : ℕ → List ℕ
  held-records i = held-table i ++ own 2 r i

  abbrev held-pool : ℕ → List ℕ
  held-pool i = held-records i ++ own 3 p i

  abbrev held-text : ℕ → List ℕ
  held-text i = held-pool i ++ own 5 text i

  abbrev held_all : ℕ → List ℕ
  held_all i = held-text i ++ taken i the_end

  -- what is written up to each part
  abbrev to_records : List ℕ
  to_records = block 0 1 t ++ blocks_to 1 2 r nr

  abbrev to_pool : List ℕ
  to_pool = to_records ++ blocks_to (1 + nr) 3 p np

  abbrev to_text : List ℕ
  to_text = to_pool ++ blocks_to (1 + nr + np) 5 text nx

  read_table : Reads (block 0 1 t) 0 (block 0 1 t) held-table
  read_table = reads_first (block 0 1 t) (length-block 0 1 t (omega arith)) (table-ok t columns) (block-kind 0 1 t)

  read_records : (end : List ℕ) × (place (kind_of end) ≤ place 2) × Reads to_records (0 + nr) end held-records
  read_records =
      section 2 several.0 r records-whole (block 0 1 t) 0 (block 0 1 t) held-table read_table
      (let k = ap place (block-kind 0 1 t) in omega (arith, k, places.0, places.1))

  read_pool : (end : List ℕ) × (place (kind_of end) ≤ place 3) × Reads to_pool (nr + np) end held-pool
  read_pool =
      let a = read_records in
      let e : suc (0 + nr) ≡ 1 + nr = omega arith in
      let s = section 3 several.1 p pool-whole to_records (0 + nr) a.0 held-records a.2
      (let k = a.1 in omega (arith, k, places.1, places.2)) in (
        s.0,
        s.1,
        reads_same (to_records ++ blocks_to (suc (0 + nr)) 3 p np) to_pool (0 + nr + np) (nr + np) s.0 held-pool held-pool
            (ap (λ (m : ℕ). to_records ++ blocks_to m 3 p np) e) (omega arith) (λ i. refl) s.2,
      )

  read_text : (end : List ℕ) × (place (kind_of end) ≤ place 5) × Reads to_text (nr + np + nx) end held-text
  read_text =
      let a = read_pool in
      let e : suc (nr + np) ≡ 1 + nr + np = omega arith in
      let s = section 5 several.2 text text-whole to_pool (nr + np) a.0 held-pool a.2
      (let k = a.1 in omega (arith, k, places.2, places.3)) in (
        s.0,
        s.1,
        reads_same (to_pool ++ blocks_to (suc (nr + np)) 5 text nx) to_text (nr + np + nx) (nr + np + nx) s.0 held-text
            held-text (ap (λ (m : ℕ). to_pool ++ blocks_to m 5 text nx) e) refl (λ i. refl) s.2,
      )

  ends : (b : List ℕ) → place (kind_of b) ≤ place 5 → follows_ok b the_end ≡ true
  unfolding follows_ok
  ends b h =
      rw (
        block-kind (1 + nr + np + nx) 4 end-bytes,
        ne_eqb (kind_of b) 4 (λ q. let z = ap place q in omega (arith, z, h, places.3, places.4)),
        lt-ltb (place (kind_of b)) (place 4) (omega (arith, h, places.3, places.4)),
      )

  read_all : Reads file (1 + nr + np + nx) the_end held_all
  unfolding file_blocks
  read_all =
      let a = read_text in
      let e : suc (nr + np + nx) ≡ 1 + nr + np + nx = omega arith in
      reads_same (to_text ++ the_end) file (suc (nr + np + nx)) (1 + nr + np + nx) the_end held_all held_all
      (append_assoc to_pool (blocks_to (1 + nr + np) 5 text nx) the_end
      ∙ append_assoc to_records (blocks_to (1 + nr) 3 p np) (blocks_to (1 + nr + np) 5 text nx ++ the_end)
      ∙ append_assoc (block 0 1 t) (blocks_to 1 2 r nr)
      (blocks_to (1 + nr) 3 p np ++ (blocks_to (1 + nr + np) 5 text nx ++ the_end))) e (λ i. refl)
      (reads_more to_text (nr + np + nx) a.0 held-text a.2 the_end
      (length-block (1 + nr + np + nx) 4 end-bytes
      (let l = end-length (1 + nr + np + nx) used root in omega (arith, l)))
      (subst (λ (m : ℕ). block_ok the_end m ≡ true) (sym e) (end-ok (1 + nr + np + nx) used root)) (ends a.0 a.1))

  block-number : blocks_in file ≡ suc (1 + nr + np + nx)
  unfolding blocks_in
  block-number = let s = read_all.size in omega (arith, s)

  the_end_is : end_of file ≡ the_end
  unfolding end_of
  the_end_is =
      let q : blocks_in file - 1 ≡ 1 + nr + np + nx = let b = block-number in omega (arith, b) in
      ap (block_at file) q ∙ read_all.end

  file_blocks-ok : blocks_ok file ≡ true
  unfolding blocks_ok
  file_blocks-ok = rw block-number read_all.blocks

  file_order_ok : order_ok file ≡ true
  unfolding order_ok
  file_order_ok =
      let q : blocks_in file - 1 ≡ 1 + nr + np + nx = let b = block-number in omega (arith, b) in rw q read_all.order

  held-is : (k : ℕ) → held k file ≡ held_all k
  unfolding held
  held-is k = rw block-number (read_all.contents k)

  table_taken : (k : ℕ) → taken k (block 0 1 t) ≡ own 1 t k
  table_taken k = block-taken 0 1 t (table-whole t) k

  end-taken : (k : ℕ) → taken k the_end ≡ own 4 end-bytes k
  end-taken k = block-taken (1 + nr + np + nx) 4 end-bytes (end_whole (1 + nr + np + nx) used root) k

  pub table-held : held 1 file ≡ t
  table-held =
      held-is 1
      ∙ rw (table_taken 1, end-taken 1)
      (append-nil (t ++ [] ++ [] ++ []) ∙ append-nil (t ++ [] ++ []) ∙ append-nil (t ++ []) ∙ append-nil t)

  pub records-held : held 2 file ≡ r
  records-held =
      held-is 2 ∙ rw (table_taken 2, end-taken 2) (append-nil (r ++ [] ++ []) ∙ append-nil (r ++ []) ∙ append-nil r)

  pub pool-held : held 3 file ≡ p
  pool-held = held-is 3 ∙ rw (table_taken 3, end-taken 3) (append-nil (p ++ []) ∙ append-nil p)

  pub text-held : held 5 file ≡ text
  text-held = held-is 5 ∙ rw (table_taken 5, end-taken 5) (append-nil text)

  pub total-columns : total 1 file ≡ length t
  unfolding item_size
  total-columns =
      let n = length-held 1 file file_blocks-ok in let h = ap length table-held in omega (arith, n, h)

  pub total-records : total 2 file ≡ used
  unfolding item_size
  total-records =
      let n = length-held 2 file file_blocks-ok in
      let h = ap length records-held in omega (arith, n, h, records)

  pub total-values : total 3 file ≡ length p / 8
  unfolding item_size
  total-values =
      let n = length-held 3 file file_blocks-ok in let h = ap length pool-held in omega (arith, n, h, values)

  pub total-text : total 5 file ≡ length text
  unfolding item_size
  total-text =
      let n = length-held 5 file file_blocks-ok in let h = ap length text-held in omega (arith, n, h)

  pub root_is : root_of file ≡ root
  unfolding root_of
  root_is = ap (λ (b : List ℕ). word b 20) the_end_is ∙ end-root (1 + nr + np + nx) used root small-root

  used-is : word (end_of file) 16 ≡ used
  used-is = ap (λ (b : List ℕ). word b 16) the_end_is ∙ end-used (1 + nr + np + nx) used root small-used

  pub file_ok : structure_ok file ≡ true
  unfolding structure_ok whole_ok ends_ok used_ok
  file_ok =
      let s = read_all.size in
      rw (
        eq-eqb (length file % 512) 0 (omega (arith, s)),
        le-leb 512 (length file) (omega (arith, s)),
        file_blocks-ok,
        file_order_ok,
        eq-eqb (kind_of (block_at file 0)) 1 read_all.first,
        eq-eqb (kind_of (end_of file)) 4 (ap kind_of the_end_is ∙ block-kind (1 + nr + np + nx) 4 end-bytes),
        eq-eqb (word (end_of file) 16) (total 2 file) (used-is ∙ sym total-records),
      )

-- ---- the statement

module _ (t rs p text : List ℕ) (used root : ℕ) (ok : check_answer_in (suc (length text)) t rs p used root ≡ check.Accepted) where
  lim : Limits t rs p text used root
  lim = limits t rs p text used root ok

  abbrev front : List ℕ
  front = take (16 * used) rs

  front_length : length front ≡ 16 * used
  front_length = length-take-le (16 * used) rs lim.lent

  low-used : used < 4294967296
  low-used = let u = lim.records in omega (arith, u)

  low-root : root < 4294967296
  low-root = let u = lim.records in let r = lim.root-used in omega (arith, u, r)

  room : (table records pool bytes : ℕ) → length t ≤ table → 16 * used ≤ records → length p ≤ pool → length text ≤ bytes
      → room_ok (file_of t rs p text used root) table records pool bytes ≡ true
  unfolding room_ok file_of
  room table records pool bytes a b c d =
      let w = lim.whole in
      rw (
        total-columns t front p text used root lim.columns front_length w low-used low-root,
        total-records t front p text used root lim.columns front_length w low-used low-root,
        total-values t front p text used root lim.columns front_length w low-used low-root,
        total-text t front p text used root lim.columns front_length w low-used low-root,
        le-leb (length t) table a,
        le-leb used (records / 16) (omega (arith, b)),
        le-leb (length p / 8) (pool / 8) (omega (arith, c)),
        le-leb (length text) bytes d,
      )

  pub survives : Survives t rs p text used root (file_of t rs p text used root)
  unfolding file_of held_answer
  survives =
      let w = lim.whole in
      let ft = table-held t front p text used root lim.columns front_length w low-used low-root in
      let fr = records-held t front p text used root lim.columns front_length w low-used low-root in
      let fp = pool-held t front p text used root lim.columns front_length w low-used low-root in
      let fx = text-held t front p text used root lim.columns front_length w low-used low-root in
      let tr = total-records t front p text used root lim.columns front_length w low-used low-root in
      let ro = root_is t front p text used root lim.columns front_length w low-used low-root in
      record {
        loads =
            λ table records pool bytes a b c d. sym
            (loaded_all (file_of t rs p text used root) table records pool bytes root (length t) used (length p / 8) (length text)
            (file_ok t front p text used root lim.columns front_length w low-used low-root)
            (room table records pool bytes a b c d)
            (rw (ft, fr, fp, fx, tr, ro) (accepted-front (suc (length text)) t rs p used root ok)) (sym ro)
            (sym (total-columns t front p text used root lim.columns front_length w low-used low-root)) (sym tr)
            (sym (total-values t front p text used root lim.columns front_length w low-used low-root))
            (sym (total-text t front p text used root lim.columns front_length w low-used low-root)));
        table = ft;
        records = fr;
        pool = fp;
        symbols = fx;
      }

pub screens_survive : ScreensSurvive
screens_survive t rs p text used root ok = survives t rs p text used root ok
