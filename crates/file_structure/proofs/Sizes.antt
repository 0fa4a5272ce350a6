-- Sizes and counts of a kind.
-- Assumes nothing.
use Prim.Native.Nat.{ℕ, zero, suc, ◌*◌, ◌≤◌, ◌<◌}
use mathlib.Core.Path.{◌≡◌}
use mathlib.Core.Bool.{true, ◌&&◌, ◌||◌}
use mathlib.Core.List.{List}
use native.Mathlib.Omega.{arith}
use lib.Dec.{ltb, leb, eqb}
use borrow.Author.Tests.{leb-true}
use Rattle.records.proofs.Laws.{and_left, and_right}
use Rattle.records.proofs.Loops.{all_holds}
use Rattle.file_blocks.specs.Format.{item_size, capacity}
use Rattle.file_structure.specs.Read.{kind_of, count_of, content_size, kind_ok, count_ok}
use Rattle.file_structure.specs.Read.{checksum_ok, number_ok, unused_ok, block_ok, block_at, blocks_in, blocks_ok}

-- what holds of each of the five kinds holds of a kind
pub by_kind {ℓ} : (P : ℕ → Type ℓ) → P 1 → P 2 → P 3 → P 4 → P 5 → (k : ℕ) → 1 ≤ k → k ≤ 5 → P k
by_kind P a b c d e zero h g = absurd (omega arith)
by_kind P a b c d e (suc zero) h g = a
by_kind P a b c d e (suc (suc zero)) h g = b
by_kind P a b c d e (suc (suc (suc zero))) h g = c
by_kind P a b c d e (suc (suc (suc (suc zero)))) h g = d
by_kind P a b c d e (suc (suc (suc (suc (suc zero))))) h g = e
by_kind P a b c d e (suc (suc (suc (suc (suc (suc k)))))) h g = absurd (omega arith)

pub kind-low : (b : List ℕ) → kind_ok b ≡ true → 1 ≤ kind_of b
unfolding kind_ok
kind-low b e = leb-true 1 (kind_of b) (and_left (leb 1 (kind_of b)) (leb (kind_of b) 5) e)

pub kind-high : (b : List ℕ) → kind_ok b ≡ true → kind_of b ≤ 5
unfolding kind_ok
kind-high b e = leb-true (kind_of b) 5 (and_right (leb 1 (kind_of b)) (leb (kind_of b) 5) e)

pub count-high : (b : List ℕ) → count_ok b ≡ true → count_of b ≤ capacity (kind_of b)
unfolding count_ok
count-high b e =
    leb-true (count_of b) (capacity (kind_of b))
    (and_right (eqb (kind_of b) 1 || ltb 0 (count_of b)) (leb (count_of b) (capacity (kind_of b))) e)

-- whatever the kind, a block counts at most its bytes of content
pub count_small : (b : List ℕ) → kind_ok b ≡ true → count_ok b ≡ true → count_of b ≤ 496
unfolding capacity
count_small b k c =
    by_kind (λ k. count_of b ≤ capacity k → count_of b ≤ 496) (λ l. omega arith) (λ l. omega arith) (λ l. omega arith)
    (λ l. omega arith) (λ l. omega arith) (kind_of b) (kind-low b k) (kind-high b k) (count-high b c)

pub items_fit : (k n : ℕ) → 1 ≤ k → k ≤ 5 → n ≤ capacity k → item_size k * n ≤ 496
unfolding item_size capacity
items_fit k n h g =
    by_kind (λ k. n ≤ capacity k → item_size k * n ≤ 496) (λ l. omega arith) (λ l. omega arith) (λ l. omega arith)
    (λ l. omega arith) (λ l. omega arith) k h g

pub content_fits : (b : List ℕ) → kind_ok b ≡ true → count_ok b ≡ true → content_size b ≤ 496
unfolding content_size
content_fits b k c = items_fit (kind_of b) (count_of b) (kind-low b k) (kind-high b k) (count-high b c)

-- the same of a block of a file
pub counts-small : (f : List ℕ) (i : ℕ) → blocks_ok f ≡ true → i < blocks_in f → count_of (block_at f i) ≤ 496
unfolding blocks_ok block_ok
counts-small f i e h =
    let b = block_at f i in
    let o = all_holds (λ j. block_ok (block_at f j) j) i (blocks_in f) h e in
    let n = and_right (checksum_ok b) (number_ok b i && (kind_ok b && (count_ok b && unused_ok b))) o in
    let k = and_right (number_ok b i) (kind_ok b && (count_ok b && unused_ok b)) n in
    let c = and_right (kind_ok b) (count_ok b && unused_ok b) k in
    count_small b (and_left (kind_ok b) (count_ok b && unused_ok b) k) (and_left (count_ok b) (unused_ok b) c)
