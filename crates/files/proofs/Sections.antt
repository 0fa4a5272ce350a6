-- The order of kinds, and the blocks of one kind, one after the other.
-- Assumes nothing.
use Prim.Native.Nat.{ℕ, zero, suc, ◌+◌, ◌-◌, ◌*◌, ◌/◌, ◌%◌, ◌≤◌, ◌<◌}
use mathlib.Core.Path.{◌≡◌, refl, sym, ◌∙◌, ap, ap₂}
use mathlib.Core.List.{List, [], ◌∷◌, ◌++◌, append_assoc, append-nil}
use native.Mathlib.Omega.{arith}
use lib.ListN.{length, take, drop, length-append, length-drop}
use lib.Seq.{take-append-le, drop-append-le, take_all, take_at, drop_at, drop-drop, take-add, length-take-le}
use Rattle.file_blocks.specs.Format.{place, block, piece, blocks_for, blocks_to}
use Rattle.file_structure.specs.Read.{block_at}

-- ---- kinds in the order of a file

pub places : (place 1 ≡ 1) × (place 2 ≡ 2) × (place 3 ≡ 3) × (place 5 ≡ 4) × (place 4 ≡ 5)
unfolding place
places = (refl, refl, refl, refl, refl)

-- ---- blocks of a file

-- what is appended to whole blocks leaves them
pub block-before : (x y : List ℕ) (n i : ℕ) → length x ≡ 512 * n → i < n → block_at (x ++ y) i ≡ block_at x i
unfolding block_at
block-before x y n i e h =
    let d = length-drop (512 * i) x in
    ap (λ (l : List ℕ). take 512 l) (drop-append-le (512 * i) x y (omega (arith, e, h)))
    ∙ take-append-le 512 (drop (512 * i) x) y (omega (arith, d, e, h))

-- and is the next of them
pub block-next : (x y : List ℕ) (n : ℕ) → length x ≡ 512 * n → length y ≡ 512 → block_at (x ++ y) n ≡ y
unfolding block_at
block-next x y n e h =
    ap (λ (l : List ℕ). take 512 l) (drop_at x y (512 * n) e) ∙ take_all 512 y (omega (arith, h))

-- one block more of f
pub take-block : (f : List ℕ) (i : ℕ) → take (512 * suc i) f ≡ take (512 * i) f ++ block_at f i
unfolding block_at
take-block f i =
    let e : 512 * suc i ≡ 512 * i + 512 = omega arith in
    ap (λ (n : ℕ). take n f) e ∙ take-add (512 * i) 512 f

-- ---- pieces

pub piece-before : (l c : List ℕ) (j : ℕ) → 496 * j + 496 ≤ length l → piece (l ++ c) j ≡ piece l j
unfolding piece
piece-before l c j h =
    let d = length-drop (496 * j) l in
    ap (λ (x : List ℕ). take 496 x) (drop-append-le (496 * j) l c (omega (arith, h)))
    ∙ take-append-le 496 (drop (496 * j) l) c (omega (arith, d, h))

pub piece-last : (l c : List ℕ) (j : ℕ) → length l ≡ 496 * j → length c ≤ 496 → piece (l ++ c) j ≡ c
unfolding piece
piece-last l c j e h = ap (λ (x : List ℕ). take 496 x) (drop_at l c (496 * j) e) ∙ take_all 496 c h

pub blocks-before : (n k : ℕ) (l c : List ℕ) (j : ℕ) → 496 * j ≤ length l → blocks_to n k (l ++ c) j ≡ blocks_to n k l j
unfolding blocks_to
blocks-before n k l c zero h = refl
blocks-before n k l c (suc j) h =
    ap₂ (λ (x : List ℕ) (y : List ℕ). x ++ block (n + j) k y) (blocks-before n k l c j (omega arith))
    (piece-before l c j (omega arith))

pub count-more : (l c : List ℕ) → length l ≡ 496 * blocks_for l → 0 < length c → length c ≤ 496
    → blocks_for (l ++ c) ≡ suc (blocks_for l)
unfolding blocks_for
count-more l c e g h = let a = length-append l c in omega (arith, a, e, g, h)

-- a piece more behind full blocks is a block more
pub blocks-snoc : (n k : ℕ) (l c : List ℕ) → length l ≡ 496 * blocks_for l → 0 < length c → length c ≤ 496
    → blocks_to n k (l ++ c) (blocks_for (l ++ c)) ≡ blocks_to n k l (blocks_for l) ++ block (n + blocks_for l) k c
unfolding blocks_to
blocks-snoc n k l c e g h =
    rw (count-more l c e g h)
    (ap₂ (λ (x : List ℕ) (y : List ℕ). x ++ block (n + blocks_for l) k y)
    (blocks-before n k l c (blocks_for l) (omega (arith, e))) (piece-last l c (blocks_for l) e h))
