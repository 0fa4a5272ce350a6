-- A part of a file lent to a reader of blocks is the block that the definitions speak of.
-- Assumes nothing.
use Prim.Native.Nat.{ℕ, ◌+◌, ◌-◌, ◌*◌, ◌≤◌, ◌<◌}
use mathlib.Core.Path.{◌≡◌, ◌∙◌}
use mathlib.Core.List.{List, ◌++◌}
use native.Mathlib.Numerals.{add-one}
use native.Mathlib.Omega.{arith}
use lib.ListN.{length, get_or, take, drop, length-drop}
use lib.Seq.{get_or-take, get_or-drop, length-take-le}
use Rattle.file_structure.specs.Read.{block_at, count_if, total_to, taken, held_to}

pub part_block : (f : List ℕ) (i : ℕ) → take (512 * i + 512 - 512 * i) (drop (512 * i) f) ≡ block_at f i
unfolding block_at
part_block f i = let e : 512 * i + 512 - 512 * i ≡ 512 = omega arith in rw e

pub part_block_next : (f : List ℕ) (i : ℕ)
    → take (512 * i + 512 + 512 - (512 * i + 512)) (drop (512 * i + 512) f) ≡ block_at f (i + 1)
unfolding block_at
part_block_next f i =
    let e : 512 * i + 512 + 512 - (512 * i + 512) ≡ 512 = omega arith in
    let g : 512 * i + 512 ≡ 512 * (i + 1) = omega arith in rw (e, g)

pub block-byte : (f : List ℕ) (i j : ℕ) → j < 512 → get_or (block_at f i) j 0 ≡ get_or f (512 * i + j) 0
unfolding block_at
block-byte f i j h = get_or-take 512 (drop (512 * i) f) j 0 h ∙ get_or-drop (512 * i) f j 0

pub length-block : (f : List ℕ) (i : ℕ) → 512 * i + 512 ≤ length f → length (block_at f i) ≡ 512
unfolding block_at
length-block f i h = let d = length-drop (512 * i) f in length-take-le 512 (drop (512 * i) f) (omega (arith, d, h))

pub total-more : (k : ℕ) (f : List ℕ) (i sum count : ℕ) → sum ≡ total_to k f i → count ≡ count_if k (block_at f i)
    → sum + count ≡ total_to k f (i + 1)
unfolding total_to
total-more k f i sum count e c = rw (add-one, e, c)

pub held_more : (k : ℕ) (f : List ℕ) (i : ℕ) → held_to k f (i + 1) ≡ held_to k f i ++ taken k (block_at f i)
unfolding held_to
held_more k f i = rw add-one
