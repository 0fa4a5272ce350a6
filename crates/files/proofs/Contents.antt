-- What a file holds, block by block.
-- Assumes nothing.
use Prim.Native.Nat.{ℕ, zero, suc, ◌+◌, ◌-◌, ◌*◌, ◌/◌, ◌≤◌, ◌<◌}
use mathlib.Core.Path.{◌≡◌, refl, sym, ◌∙◌, ap, ap₂, subst}
use mathlib.Core.Bool.{Bool, true, ◌&&◌}
use mathlib.Core.Logic.{⊎_elim}
use mathlib.Core.List.{List, [], ◌∷◌, ◌++◌}
use native.Mathlib.Nat.{le_of_suc-le-suc, not-suc-le-zero, eq-or-lt_of_le}
use native.Mathlib.Numerals.{add-one}
use native.Mathlib.Omega.{arith}
use lib.ListN.{length, get_or, take, drop, length-append, length-drop}
use lib.Seq.{length-take-le}
use borrow.Author.Tests.{eq-eqb, ne_eqb}
use Rattle.records.specs.Bytes.{all}
use Rattle.records.proofs.Laws.{and_left, and_right}
use Rattle.records.proofs.Loops.{all_holds}
use Rattle.file_blocks.specs.Format.{overwrite}
use Rattle.file_structure.specs.Read.{block_at, blocks_in, kind_of, content_size, content_of, taken, held_to, held}
use Rattle.file_structure.specs.Read.{checksum_ok, number_ok, kind_ok, count_ok, unused_ok, block_ok, blocks_ok}
use Rattle.file_blocks.proofs.Lists.{overwrite-more}
use Rattle.file_structure.proofs.Sizes.{content_fits}

pub taken_none : (k : ℕ) (b : List ℕ) → (kind_of b ≡ k → ⊥) → taken k b ≡ []
unfolding taken
taken_none k b h = rw (ne_eqb (kind_of b) k h)

pub taken-some : (k : ℕ) (b : List ℕ) → kind_of b ≡ k → taken k b ≡ content_of b
unfolding taken
taken-some k b h = rw (eq-eqb (kind_of b) k h)

pub length-content : (b : List ℕ) → length b ≡ 512 → content_size b ≤ 496 → length (content_of b) ≡ content_size b
unfolding content_of
length-content b h g = let d = length-drop 16 b in length-take-le (content_size b) (drop 16 b) (omega (arith, d, h, g))

-- the part of a block that is lent as its content
pub content_part : (b : List ℕ) → take (16 + content_size b - 16) (drop 16 b) ≡ content_of b
unfolding content_of
content_part b = let e : 16 + content_size b - 16 ≡ content_size b = omega arith in rw e

-- ---- the parts of number 15 that are a block's own

module _ (b : List ℕ) (i : ℕ) (e : block_ok b i ≡ true) where
  pub ok_checksum : checksum_ok b ≡ true
  unfolding block_ok
  ok_checksum = and_left (checksum_ok b) (number_ok b i && (kind_ok b && (count_ok b && unused_ok b))) e

  behind-checksum : (number_ok b i && (kind_ok b && (count_ok b && unused_ok b))) ≡ true
  unfolding block_ok
  behind-checksum = and_right (checksum_ok b) (number_ok b i && (kind_ok b && (count_ok b && unused_ok b))) e

  pub ok_number : number_ok b i ≡ true
  ok_number = and_left (number_ok b i) (kind_ok b && (count_ok b && unused_ok b)) behind-checksum

  behind-number : (kind_ok b && (count_ok b && unused_ok b)) ≡ true
  behind-number = and_right (number_ok b i) (kind_ok b && (count_ok b && unused_ok b)) behind-checksum

  pub ok_kind : kind_ok b ≡ true
  ok_kind = and_left (kind_ok b) (count_ok b && unused_ok b) behind-number

  behind-kind : (count_ok b && unused_ok b) ≡ true
  behind-kind = and_right (kind_ok b) (count_ok b && unused_ok b) behind-number

  pub ok_count : count_ok b ≡ true
  ok_count = and_left (count_ok b) (unused_ok b) behind-kind

  pub ok_unused : unused_ok b ≡ true
  ok_unused = and_right (count_ok b) (unused_ok b) behind-kind

  pub block-fits : content_size b ≤ 496
  block-fits = content_fits b ok_kind ok_count

pub block-is_ok : (f : List ℕ) (i : ℕ) → blocks_ok f ≡ true → i < blocks_in f → block_ok (block_at f i) i ≡ true
unfolding blocks_ok
block-is_ok f i e h = all_holds (λ j. block_ok (block_at f j) j) i (blocks_in f) h e

-- ---- all blocks

held-grows : (k : ℕ) (f : List ℕ) (i n : ℕ) → i ≤ n → length (held_to k f i) ≤ length (held_to k f n)
unfolding held_to
held-grows k f i zero h = let e : i ≡ 0 = omega arith in rw e (native.Mathlib.Nat.le_refl _)
held-grows k f i (suc n) h =
    ⊎_elim (λ (e : i ≡ suc n). subst (λ m. length (held_to k f i) ≤ length (held_to k f m)) e (native.Mathlib.Nat.le_refl _))
    (λ (l : i < suc n). let g = held-grows k f i n (le_of_suc-le-suc l) in
    let a = length-append (held_to k f n) (taken k (block_at f n)) in omega (arith, g, a))
    (eq-or-lt_of_le h)

-- there is room for the next block's content where there is room for all
pub held-room : (k : ℕ) (f : List ℕ) (i m : ℕ) → i < length f / 512 → length (held k f) ≤ m
    → length (held_to k f i) + length (taken k (block_at f i)) ≤ m
unfolding held blocks_in held_to
held-room k f i m h g =
    let a = length-append (held_to k f i) (taken k (block_at f i)) in
    let b = held-grows k f (suc i) (length f / 512) h in omega (arith, a, b, g)

pub held-length : (k : ℕ) (f : List ℕ) (i : ℕ)
    → length (held_to k f i) + length (taken k (block_at f i)) ≡ length (held_to k f (i + 1))
unfolding held_to
held-length k f i = rw add-one (sym (length-append (held_to k f i) (taken k (block_at f i))))

-- one block more
pub gather-more : (k : ℕ) (f old dst out : List ℕ) (i at : ℕ) → at ≡ length (held_to k f i)
    → at + length (taken k (block_at f i)) ≤ length old → dst ≡ overwrite old 0 (held_to k f i)
    → out ≡ overwrite dst at (taken k (block_at f i)) → out ≡ overwrite old 0 (held_to k f (i + 1))
unfolding held_to
gather-more k f old dst out i at ea h ed eo =
    eo ∙ ap (λ d. overwrite d at (taken k (block_at f i))) ed
    ∙ overwrite-more old 0 at (held_to k f i) (taken k (block_at f i)) (omega (arith, ea)) h
    ∙ rw add-one
