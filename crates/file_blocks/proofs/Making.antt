-- Blocks as the code makes them.
-- Assumes nothing.
use Prim.Native.Nat.{ℕ, zero, suc, ◌+◌, ◌-◌, ◌*◌, ◌/◌, ◌%◌, ◌≤◌, ◌<◌}
use mathlib.Core.Path.{◌≡◌, refl, sym, ◌∙◌, ap, ap₂, subst}
use mathlib.Core.Logic.{⊎_elim}
use mathlib.Core.List.{List, ◌∷◌, ◌++◌}
use native.Mathlib.Numerals.{add-one}
use native.Mathlib.Omega.{arith}
use lib.ListN.{length, set, take, drop, replicate, length-append, length-drop, length-take, length-replicate}
use lib.Seq.{take_all}
use Rattle.checking.proofs.Bits.{lt-or_le}
use Rattle.checksum.specs.Checksum.{checksum, cleared}
use Rattle.file_blocks.specs.Format.{item_size, sealed, unsealed, block, piece, blocks_to, overwrite}
use Rattle.file_blocks.proofs.Lists.{drop-zeros, overwrite-more}

-- a block of zeros with its content
pub zeros_with : (content : List ℕ) → length content ≤ 496
    → overwrite (replicate 512 0) 16 content
    ≡ replicate 16 0 ++ (content ++ replicate (496 - length content) 0)
unfolding overwrite
zeros_with content h =
    let e : 512 ≡ 16 + length content + (496 - length content) = omega arith in
    ap (λ (l : List ℕ). replicate 16 0 ++ (content ++ l))
    (ap (λ (n : ℕ). drop (16 + length content) (replicate {A = ℕ} n 0)) e
    ∙ drop-zeros (16 + length content) (496 - length content))

-- its header written, byte by byte, and the checksum behind it
abbrev headed : List ℕ → ℕ → ℕ → ℕ → List ℕ
headed z n k count = set (set (set (set (set z 2 (n % 256)) 3 (n / 256)) 4 k) 5 (count % 256)) 6 (count / 256)

pub block_made : (z content : List ℕ) (n k count sum : ℕ) → length content ≤ 496
    → z ≡ overwrite (replicate 512 0) 16 content → count ≡ length content / item_size k
    → sum ≡ checksum (cleared (headed z n k count))
    → set (set (headed z n k count) 0 (sum / 256)) 1 (sum % 256) ≡ block n k content
unfolding block sealed unsealed cleared
block_made z content n k count sum h e ec =
    subst (λ (z : List ℕ). sum ≡ checksum (0 ∷ 0 ∷ drop 2 (headed z n k count))
    → set (set (headed z n k count) 0 (sum / 256)) 1 (sum % 256) ≡ block n k content)
    (sym (e ∙ zeros_with content h)) (λ es. rw (es, ec))

pub length-block : (n k : ℕ) (content : List ℕ) → length content ≤ 496 → length (block n k content) ≡ 512
unfolding block sealed unsealed
length-block n k content h =
    let a = length-append content (replicate (496 - length content) 0) in
    let b = length-replicate {A = ℕ} (496 - length content) 0 in omega (arith, a, b, h)

pub length-piece : (l : List ℕ) (j : ℕ) → length (piece l j) ≤ 496
unfolding piece
length-piece l j = let e = length-take 496 (drop (496 * j) l) in omega (arith, e)

pub length-blocks : (n k : ℕ) (l : List ℕ) (m : ℕ) → length (blocks_to n k l m) ≡ 512 * m
unfolding blocks_to
length-blocks n k l zero = refl
length-blocks n k l (suc m) =
    let a = length-append (blocks_to n k l m) (block (n + m) k (piece l m)) in
    let b = length-blocks n k l m in
    let c = length-block (n + m) k (piece l m) (length-piece l m) in omega (arith, a, b, c)

-- the part of l that is lent for block j
pub piece-part : (l : List ℕ) (j end : ℕ) → 496 * j ≤ end → end ≤ length l → end ≤ 496 * j + 496
    → (end < length l → end ≡ 496 * j + 496) → take (end - 496 * j) (drop (496 * j) l) ≡ piece l j
unfolding piece
piece-part l j end a b c d =
    let e = length-drop (496 * j) l in
    ⊎_elim
    (λ (h : end < length l). let g : end - 496 * j ≡ 496 = let f = d h in omega (arith, f) in rw g)
    (λ (g : length l ≤ end). take_all (end - 496 * j) (drop (496 * j) l) (omega (arith, e, g))
    ∙ sym (take_all 496 (drop (496 * j) l) (omega (arith, e, c, g))))
    (lt-or_le end (length l))

-- one block more
pub blocks_more : (old file out l part : List ℕ) (n k j : ℕ) → 512 * (n + j) + 512 ≤ length old → part ≡ piece l j
    → file ≡ overwrite old (512 * n) (blocks_to n k l j)
    → out ≡ overwrite file (512 * (n + j)) (block (n + j) k part)
    → out ≡ overwrite old (512 * n) (blocks_to n k l (j + 1))
unfolding blocks_to
blocks_more old file out l part n k j h ep ef eo =
    let a = length-blocks n k l j in
    let b = length-block (n + j) k (piece l j) (length-piece l j) in
    eo ∙ ap₂ (λ f c. overwrite f (512 * (n + j)) (block (n + j) k c)) ef ep
    ∙ overwrite-more old (512 * n) (512 * (n + j)) (blocks_to n k l j) (block (n + j) k (piece l j))
    (omega (arith, a)) (omega (arith, b, h))
    ∙ rw add-one
