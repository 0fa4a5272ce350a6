-- A file loaded: what its structure grants, and the checks of the screen held.
-- Assumes nothing.
use Prim.Native.Nat.{ℕ, zero, suc, ◌+◌, ◌-◌, ◌*◌, ◌/◌, ◌%◌, ◌≤◌, ◌<◌}
use mathlib.Core.Path.{◌≡◌, refl, sym, ◌∙◌, ap, ap₂, subst}
use mathlib.Core.Bool.{Bool, true, false, cond, true≢false, ◌&&◌, ◌||◌}
use mathlib.Core.Logic.{⊎_elim}
use mathlib.Core.List.{List, [], ◌∷◌, ◌++◌}
use native.Mathlib.Nat.{mul-add, le_of_lt, le_refl}
use native.Mathlib.Omega.{arith}
use lib.Dec.{ltb, leb, eqb}
use lib.ListN.{length, take, drop, length-append}
use borrow.Author.Tests.{leb-true, eqb-true, eqb-false, lt-leb, ltb-true, ltb-false}
use Rattle.records.proofs.Laws.{and_left, and_right, by-test, or_yes, or_no}
use Rattle.records.specs.Bytes.{all}
use Rattle.checking.specs.Check.{table_ok_in, sizes_ok_in, check_answer_in}
use Rattle.checking.specs.Answer.{CheckAnswer}
use Rattle.checking.specs.Answer as check
use Rattle.files.specs.LoadAnswer as load
use Rattle.file_blocks.specs.Format.{item_size, overwrite}
use Rattle.file_structure.specs.Read.{block_at, blocks_in, kind_of, count_of, content_size, content_of, taken, held_to, held, root_of}
use Rattle.file_structure.specs.Read.{count_if, total_to, total, block_ok, blocks_ok, order_ok, ends_ok, used_ok, whole_ok, structure_ok}
use Rattle.files.specs.Answers.{room_ok, held_answer, load_if, load_answer}
use Rattle.check_lent.proofs.Lent.{last_fails, long-text, refused-alike}
use Rattle.file_blocks.proofs.Lists.{overwrite-front}
use Rattle.file_structure.proofs.Parts.{length-block}
use Rattle.files.proofs.Contents.{taken_none, taken-some, length-content, block-is_ok, block-fits}

-- ---- the parts of number 15

module _ (f : List ℕ) (e : structure_ok f ≡ true) where
  pub ok_whole : whole_ok f ≡ true
  unfolding structure_ok
  ok_whole = and_left (whole_ok f) (blocks_ok f && (order_ok f && (ends_ok f && used_ok f))) e

  behind-whole : (blocks_ok f && (order_ok f && (ends_ok f && used_ok f))) ≡ true
  unfolding structure_ok
  behind-whole = and_right (whole_ok f) (blocks_ok f && (order_ok f && (ends_ok f && used_ok f))) e

  pub ok_blocks : blocks_ok f ≡ true
  ok_blocks = and_left (blocks_ok f) (order_ok f && (ends_ok f && used_ok f)) behind-whole

  behind-blocks : (order_ok f && (ends_ok f && used_ok f)) ≡ true
  behind-blocks = and_right (blocks_ok f) (order_ok f && (ends_ok f && used_ok f)) behind-whole

  pub ok_order : order_ok f ≡ true
  ok_order = and_left (order_ok f) (ends_ok f && used_ok f) behind-blocks

  behind-order : (ends_ok f && used_ok f) ≡ true
  behind-order = and_right (order_ok f) (ends_ok f && used_ok f) behind-blocks

  pub ok_ends : ends_ok f ≡ true
  ok_ends = and_left (ends_ok f) (used_ok f) behind-order

  pub ok_used : used_ok f ≡ true
  ok_used = and_right (ends_ok f) (used_ok f) behind-order

  pub ok_length : 512 ≤ length f
  unfolding whole_ok
  ok_length = leb-true 512 (length f) (and_right (eqb (length f % 512) 0) (leb 512 (length f)) ok_whole)

  pub ok_multiple : length f % 512 ≡ 0
  unfolding whole_ok
  ok_multiple = eqb-true (length f % 512) 0 (and_left (eqb (length f % 512) 0) (leb 512 (length f)) ok_whole)

-- ---- the bytes held are as many as the counts say

length_taken : (k : ℕ) (b : List ℕ) → length b ≡ 512 → content_size b ≤ 496 → length (taken k b) ≡ item_size k * count_if k b
unfolding count_if content_size
length_taken k b h g =
    by-test (eqb (kind_of b) k)
    (λ y. let q : kind_of b ≡ k = eqb-true (kind_of b) k y in
    ap length (taken-some k b q) ∙ length-content b h g ∙ rw (y, q))
    (λ n. ap length (taken_none k b (eqb-false (kind_of b) k n)) ∙ rw n (omega arith))

-- block n lies in the file
pub within : (f : List ℕ) (n : ℕ) → n < blocks_in f → 512 * n + 512 ≤ length f
unfolding blocks_in
within f n h = omega arith

pub length-held_to : (k : ℕ) (f : List ℕ) (n : ℕ) → blocks_ok f ≡ true → n ≤ blocks_in f
    → length (held_to k f n) ≡ item_size k * total_to k f n
unfolding held_to total_to
length-held_to k f zero e h = omega arith
length-held_to k f (suc n) e h =
    length-append (held_to k f n) (taken k (block_at f n))
    ∙ ap₂ (λ (x y : ℕ). x + y) (length-held_to k f n e (le_of_lt h))
    (length_taken k (block_at f n) (length-block f n (within f n h))
    (block-fits (block_at f n) n (block-is_ok f n e h)))
    ∙ sym (mul-add (item_size k) (total_to k f n) (count_if k (block_at f n)))

pub length-held : (k : ℕ) (f : List ℕ) → blocks_ok f ≡ true → length (held k f) ≡ item_size k * total k f
unfolding held total
length-held k f e = length-held_to k f (blocks_in f) e (le_refl (blocks_in f))

module _ (f : List ℕ) (e : structure_ok f ≡ true) where
  pub columns-held : length (held 1 f) ≡ total 1 f
  unfolding item_size
  columns-held = length-held 1 f (ok_blocks f e) ∙ omega arith

  pub records-held : length (held 2 f) ≡ 16 * total 2 f
  unfolding item_size
  records-held = length-held 2 f (ok_blocks f e)

  pub values-held : length (held 3 f) ≡ 8 * total 3 f
  unfolding item_size
  values-held = length-held 3 f (ok_blocks f e)

  pub text-held : length (held 5 f) ≡ total 5 f
  unfolding item_size
  text-held = length-held 5 f (ok_blocks f e) ∙ omega arith

-- ---- limits that are passed before the records are looked at

sizes-no : (n : ℕ) (rs p : List ℕ) (used : ℕ) → (ltb 4096 used || (ltb 8192 (length p / 8) || ltb 8192 n)) ≡ true
    → sizes_ok_in (suc n) rs p used ≡ false
unfolding sizes_ok_in
sizes-no n rs p used e =
    by-test (ltb 4096 used)
    (λ y. rw (lt-leb used 4096 (ltb-true 4096 used y)))
    (λ l. let d = sym (or_no (ltb 4096 used) (ltb 8192 (length p / 8) || ltb 8192 n) l) ∙ e in
    by-test (ltb 8192 (length p / 8))
    (λ y. last_fails (leb used 4096) (leb used (length rs / 16)) (eqb (length p % 8) 0)
    (cond (leb (suc n) 8193) (leb (length p / 8) 8192) false)
    (rw (lt-leb (length p / 8) 8192 (ltb-true 8192 (length p / 8) y)) (either (leb (suc n) 8193))))
    (λ m. long-text n rs p used (ltb-true 8192 n (sym (or_no (ltb 8192 (length p / 8)) (ltb 8192 n) m) ∙ d))))
  where
    either : (b : Bool) → cond b false false ≡ false
    either true = refl
    either false = refl

-- a table of over 64 columns
pub wide-table : (text : ℕ) (t rs p : List ℕ) (used root : ℕ) → 64 < length t
    → check.Refused 1 ≡ check_answer_in text t rs p used root
unfolding check_answer_in table_ok_in
wide-table text t rs p used root h = rw (lt-leb (length t) 64 h)

-- records, values or text past their limits: the table alone says whether it is 1 or 2
pub past_limits : (n : ℕ) (t a b rs p : List ℕ) (used root : ℕ)
    → (ltb 4096 used || (ltb 8192 (length p / 8) || ltb 8192 n)) ≡ true
    → check_answer_in 1 t a b 4097 0 ≡ check_answer_in (suc n) t rs p used root
past_limits n t a b rs p used root e =
    refused-alike 0 n t a b rs p 4097 used 0 root (sizes-no 0 a b 4097 refl) (sizes-no n rs p used e)

-- ---- the checks of the screen held, from its copies

module _ (f : List ℕ) (columns used values text root : ℕ) (e : structure_ok f ≡ true) (ec : columns ≡ total 1 f)
    (eu : used ≡ total 2 f) (ev : values ≡ total 3 f) (ex : text ≡ total 5 f) (er : root ≡ root_of f) where
  text-length : length (held 5 f) ≡ text
  text-length = text-held f e ∙ sym ex

  pub held-wide : 64 < columns → check.Refused 1 ≡ held_answer f
  unfolding held_answer
  held-wide h =
      let c = columns-held f e in
      wide-table (suc (length (held 5 f))) (held 1 f) (held 2 f) (held 3 f) (total 2 f) (root_of f) (omega (arith, c, ec, h))

  module _ (old t : List ℕ) (et : t ≡ overwrite old 0 (held 1 f)) where
    table-copy : take columns t ≡ held 1 f
    table-copy = rw et (overwrite-front old (held 1 f) columns (columns-held f e ∙ sym ec))

    pub held-past : (a : CheckAnswer) → (ltb 4096 used || (ltb 8192 values || ltb 8192 text)) ≡ true
        → a ≡ check_answer_in 1 (take columns t) (take columns t) (take columns t) 4097 0 → a ≡ held_answer f
    unfolding held_answer
    held-past a h ea =
        let v : length (held 3 f) / 8 ≡ values = let n = values-held f e in omega (arith, n, ev) in
        ea ∙ ap (λ (l : List ℕ). check_answer_in 1 l l l 4097 0) table-copy
        ∙ past_limits (length (held 5 f)) (held 1 f) (held 1 f) (held 1 f) (held 2 f) (held 3 f) (total 2 f) (root_of f)
        (rw (← eu, v, text-length) h)

    module _ (old2 rs old3 p : List ℕ) (ers : rs ≡ overwrite old2 0 (held 2 f)) (ep : p ≡ overwrite old3 0 (held 3 f)) where
      pub held-within : (a : CheckAnswer)
          → a ≡ check_answer_in (suc text) (take columns t) (take (16 * used) rs) (take (8 * values) p) used root → a ≡ held_answer f
      unfolding held_answer
      held-within a ea =
          let r : take (16 * used) rs ≡ held 2 f =
          rw ers (overwrite-front old2 (held 2 f) (16 * used) (records-held f e ∙ ap (λ (n : ℕ). 16 * n) (sym eu))) in
          let v : take (8 * values) p ≡ held 3 f =
          rw ep (overwrite-front old3 (held 3 f) (8 * values) (values-held f e ∙ ap (λ (n : ℕ). 8 * n) (sym ev))) in
          ea ∙ rw (table-copy, r, v, eu, er, text-length)

-- the tests of sizes before the copies
pub both-within : (u v x : ℕ) → (ltb 4096 u || (ltb 8192 v || ltb 8192 x)) ≡ false → (u ≤ 4096) × (v ≤ 8192)
both-within u v x e =
    by-test (ltb 4096 u) (λ y. absurd (true≢false (sym (or_yes (ltb 4096 u) (ltb 8192 v || ltb 8192 x) y) ∙ e)))
    (λ n. let d = sym (or_no (ltb 4096 u) (ltb 8192 v || ltb 8192 x) n) ∙ e in
    by-test (ltb 8192 v) (λ y. absurd (true≢false (sym (or_yes (ltb 8192 v) (ltb 8192 x) y) ∙ d)))
    (λ m. (ltb-false 4096 u n, ltb-false 8192 v m)))

pub both_small : (u v : ℕ) → (leb u 64 && leb v 64) ≡ true → (u ≤ 64) × (v ≤ 64)
both_small u v e =
    (leb-true u 64 (and_left (leb u 64) (leb v 64) e), leb-true v 64 (and_right (leb u 64) (leb v 64) e))

-- the flag of `room_ok`
pub room-told : (f : List ℕ) (columns used values text t rs p x : ℕ) (r : Bool) → columns ≡ total 1 f → used ≡ total 2 f
    → values ≡ total 3 f → text ≡ total 5 f
    → r ≡ (leb columns t && (leb used (rs / 16) && (leb values (p / 8) && leb text x))) → r ≡ room_ok f t rs p x
unfolding room_ok
room-told f columns used values text t rs p x r a b c d e = e ∙ rw (a, b, c, d)

-- ---- what loading answers

pub refused-structure : (f : List ℕ) (t rs p x : ℕ) → structure_ok f ≡ false → load.Refused 15 ≡ load_answer f t rs p x
unfolding load_answer
refused-structure f t rs p x e = rw e

pub refused-room : (f : List ℕ) (t rs p x : ℕ) → structure_ok f ≡ true → room_ok f t rs p x ≡ false
    → load.Refused 14 ≡ load_answer f t rs p x
unfolding load_answer
refused-room f t rs p x e g = rw (e, g)

pub refused-check : (f : List ℕ) (t rs p x k : ℕ) → structure_ok f ≡ true → room_ok f t rs p x ≡ true
    → held_answer f ≡ check.Refused k → load.Refused k ≡ load_answer f t rs p x
unfolding load_answer
refused-check f t rs p x k e g h = rw (e, g, h)

pub loaded_all : (f : List ℕ) (t rs p x root columns used values text : ℕ) → structure_ok f ≡ true
    → room_ok f t rs p x ≡ true → held_answer f ≡ check.Accepted → root ≡ root_of f → columns ≡ total 1 f → used ≡ total 2 f
    → values ≡ total 3 f → text ≡ total 5 f → load.Loaded root columns used values text ≡ load_answer f t rs p x
unfolding load_answer
loaded_all f t rs p x root columns used values text e g h a b c d k = rw (e, g, h, a, b, c, d, k)

-- room for each part
module _ (f : List ℕ) (t rs p x : ℕ) (e : structure_ok f ≡ true) (g : room_ok f t rs p x ≡ true) where
  abbrev four : Bool
  four = leb (total 5 f) x

  abbrev three : Bool
  three = leb (total 3 f) (p / 8) && four

  abbrev two : Bool
  two = leb (total 2 f) (rs / 16) && three

  pub room-table : length (held 1 f) ≤ t
  unfolding room_ok
  room-table =
      let h = leb-true (total 1 f) t (and_left (leb (total 1 f) t) two g) in
      let c = columns-held f e in omega (arith, h, c)

  behind-table : two ≡ true
  unfolding room_ok
  behind-table = and_right (leb (total 1 f) t) two g

  pub room-records : length (held 2 f) ≤ rs
  room-records =
      let h = leb-true (total 2 f) (rs / 16) (and_left (leb (total 2 f) (rs / 16)) three behind-table) in
      let c = records-held f e in omega (arith, h, c)

  behind-records : three ≡ true
  behind-records = and_right (leb (total 2 f) (rs / 16)) three behind-table

  pub room-pool : length (held 3 f) ≤ p
  room-pool =
      let h = leb-true (total 3 f) (p / 8) (and_left (leb (total 3 f) (p / 8)) four behind-records) in
      let c = values-held f e in omega (arith, h, c)

  pub room-text : length (held 5 f) ≤ x
  room-text =
      let h = leb-true (total 5 f) x (and_right (leb (total 3 f) (p / 8)) four behind-records) in
      let c = text-held f e in omega (arith, h, c)
