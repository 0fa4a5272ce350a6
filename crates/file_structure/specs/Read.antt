-- What a file holds, and number 15 of 02, 2.3 and 2.10: "a wrong checksum, block order, kind or count, a nonzero unused byte, a
-- used that is not the number of records held, a missing end or a trailing byte". f is a file, b a block of 512 bytes.
use Rattle.std.specs.Prelude.{ℕ, zero, suc, ◌+◌, ◌-◌, ◌*◌, ◌/◌, ◌%◌, List, [], ◌++◌, Bool, cond, ◌&&◌, ◌||◌, length, get_or, take, drop, ltb, leb, eqb}
use Rattle.records.specs.Bytes.{word, all}
use Rattle.checksum.specs.Checksum.{checksum, cleared}
use Rattle.file_blocks.specs.Format.{item_size, capacity, repeats, place}

-- ---- a block

unfoldable pub block_at : List ℕ → ℕ → List ℕ
block_at f i = take 512 (drop (512 * i) f)

unfoldable pub kind_of : List ℕ → ℕ
kind_of b = get_or b 4 0

unfoldable pub count_of : List ℕ → ℕ
count_of b = get_or b 5 0 + 256 * get_or b 6 0

-- the bytes that its count says
unfoldable pub content_size : List ℕ → ℕ
content_size b = item_size (kind_of b) * count_of b

unfoldable pub content_of : List ℕ → List ℕ
content_of b = take (content_size b) (drop 16 b)

-- no wrong checksum: the one stored is the one computed
unfoldable pub checksum_ok : List ℕ → Bool
checksum_ok b = eqb (256 * get_or b 0 0 + get_or b 1 0) (checksum (cleared b))

-- no wrong block order: block i has the number i
unfoldable pub number_ok : List ℕ → ℕ → Bool
number_ok b i = eqb (get_or b 2 0 + 256 * get_or b 3 0) i

-- no wrong kind
unfoldable pub kind_ok : List ℕ → Bool
kind_ok b = leb 1 (kind_of b) && leb (kind_of b) 5

-- no wrong count: no block is empty but that of a table without columns, and none counts more than it can hold
unfoldable pub count_ok : List ℕ → Bool
count_ok b = (eqb (kind_of b) 1 || ltb 0 (count_of b)) && leb (count_of b) (capacity (kind_of b))

-- n bytes from `at` on are zero
unfoldable pub zeros_from : List ℕ → ℕ → ℕ → Bool
zeros_from b at n = all (λ (j : ℕ). eqb (get_or b (at + j) 0) 0) n

-- no nonzero unused byte; byte 6 is a count's, which is below 256 but in blocks of text
unfoldable pub unused_ok : List ℕ → Bool
unused_ok b = zeros_from b 7 9 && zeros_from b (16 + content_size b) (496 - content_size b)

unfoldable pub block_ok : List ℕ → ℕ → Bool
block_ok b i = checksum_ok b && (number_ok b i && (kind_ok b && (count_ok b && unused_ok b)))

-- kinds rise; only records, pool and text have several blocks, each full before the next begins
unfoldable pub follows_ok : List ℕ → List ℕ → Bool
follows_ok b next =
    cond (eqb (kind_of b) (kind_of next))
    (repeats (kind_of b) && eqb (count_of b) (capacity (kind_of b)))
    (ltb (place (kind_of b)) (place (kind_of next)))

-- ---- a file

-- its whole blocks
unfoldable pub blocks_in : List ℕ → ℕ
blocks_in f = length f / 512

-- the bytes of kind k in the first n blocks
unfoldable pub taken : ℕ → List ℕ → List ℕ
taken k b = cond (eqb (kind_of b) k) (content_of b) []

unfoldable pub held_to : ℕ → List ℕ → ℕ → List ℕ
held_to k f zero = []
held_to k f (suc n) = held_to k f n ++ taken k (block_at f n)

unfoldable pub held : ℕ → List ℕ → List ℕ
held k f = held_to k f (blocks_in f)

-- the total of the counts of kind k in the first n blocks
unfoldable pub count_if : ℕ → List ℕ → ℕ
count_if k b = cond (eqb (kind_of b) k) (count_of b) 0

unfoldable pub total_to : ℕ → List ℕ → ℕ → ℕ
total_to k f zero = 0
total_to k f (suc n) = total_to k f n + count_if k (block_at f n)

unfoldable pub total : ℕ → List ℕ → ℕ
total k f = total_to k f (blocks_in f)

-- the end: used and root, four bytes each
unfoldable pub end_of : List ℕ → List ℕ
end_of f = block_at f (blocks_in f - 1)

unfoldable pub root_of : List ℕ → ℕ
root_of f = word (end_of f) 20

-- no trailing byte, and at least one block
unfoldable pub whole_ok : List ℕ → Bool
whole_ok f = eqb (length f % 512) 0 && leb 512 (length f)

unfoldable pub blocks_ok : List ℕ → Bool
blocks_ok f = all (λ (i : ℕ). block_ok (block_at f i) i) (blocks_in f)

-- no wrong block order: each block follows the one before
unfoldable pub order_ok : List ℕ → Bool
order_ok f = all (λ (i : ℕ). follows_ok (block_at f i) (block_at f (i + 1))) (blocks_in f - 1)

-- the table is first, and no end is missing: as kinds rise and neither repeats, there is one of each
unfoldable pub ends_ok : List ℕ → Bool
ends_ok f = eqb (kind_of (block_at f 0)) 1 && eqb (kind_of (end_of f)) 4

-- used is the number of records held
unfoldable pub used_ok : List ℕ → Bool
used_ok f = eqb (word (end_of f) 16) (total 2 f)

-- none of the faults of number 15
unfoldable pub structure_ok : List ℕ → Bool
structure_ok f = whole_ok f && (blocks_ok f && (order_ok f && (ends_ok f && used_ok f)))
