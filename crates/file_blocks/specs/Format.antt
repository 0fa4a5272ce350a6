-- The file of a screen: 02, 2.3 and 2.10. Blocks of 512 bytes: bytes 0-1 the checksum, 2-3 the block number from 0,
-- little-endian, 4 the kind, 5-6 the count in this block, little-endian, 7-15 zero, then 496 bytes of content, unused ones
-- zero. Only a block of text counts over 255, so byte 6 is zero in the others.
-- Kinds: 1 the column table, 2 records, 3 the pool, 5 the text pool, 4 the end, in this order. What is said of blocks is said
-- once, for every kind k.
use Rattle.std.specs.Prelude.{ℕ, zero, suc, ◌+◌, ◌-◌, ◌*◌, ◌/◌, ◌%◌, List, [], ◌∷◌, ◌++◌, Bool, cond, ◌||◌, length, take, drop, replicate, eqb}
use Rattle.checksum.specs.Checksum.{checksum, cleared}

-- the bytes of one thing counted: a column, a record, a value, a byte of text; the end counts its eight bytes as one
unfoldable pub item_size : ℕ → ℕ
item_size k = cond (eqb k 1) 1 (cond (eqb k 2) 16 (cond (eqb k 5) 1 8))

-- the most that a block counts; of columns what one byte can say, so that over 64 of them is number 1
unfoldable pub capacity : ℕ → ℕ
capacity k = cond (eqb k 1) 255 (cond (eqb k 2) 31 (cond (eqb k 3) 62 (cond (eqb k 5) 496 1)))

-- the kinds that may have several blocks
unfoldable pub repeats : ℕ → Bool
repeats k = eqb k 2 || (eqb k 3 || eqb k 5)

-- the place of a kind in the order of kinds: text after the pool, then the end
unfoldable pub place : ℕ → ℕ
place k = cond (eqb k 5) 4 (cond (eqb k 4) 5 k)

-- the block with its checksum, the high byte first
unfoldable pub sealed : List ℕ → List ℕ
sealed b = checksum (cleared b) / 256 ∷ checksum (cleared b) % 256 ∷ drop 2 b

-- block n, of kind k, without its checksum
unfoldable pub unsealed : ℕ → ℕ → List ℕ → List ℕ
unsealed n k content =
    (0 ∷ 0 ∷ n % 256 ∷ n / 256 ∷ k ∷ length content / item_size k % 256 ∷ length content / item_size k / 256
    ∷ 0 ∷ 0 ∷ 0 ∷ 0 ∷ 0 ∷ 0 ∷ 0 ∷ 0 ∷ 0 ∷ [])
    ++ (content ++ replicate (496 - length content) 0)

unfoldable pub block : ℕ → ℕ → List ℕ → List ℕ
block n k content = sealed (unsealed n k content)

-- the content of the j-th block over the bytes l: each is full before the next begins
unfoldable pub piece : List ℕ → ℕ → List ℕ
piece l j = take 496 (drop (496 * j) l)

-- how many blocks the bytes l take; none is empty
unfoldable pub blocks_for : List ℕ → ℕ
blocks_for l = (length l + 495) / 496

-- the first m blocks of kind k over the bytes l, numbered from n on
unfoldable pub blocks_to : ℕ → ℕ → List ℕ → ℕ → List ℕ
blocks_to n k l zero = []
blocks_to n k l (suc m) = blocks_to n k l m ++ block (n + m) k (piece l m)

-- four bytes, the lowest first
unfoldable pub word_bytes : ℕ → List ℕ
word_bytes x = x % 256 ∷ x / 256 % 256 ∷ x / 65536 % 256 ∷ x / 16777216 % 256 ∷ []

-- one block of the table t, those of the records r, those of the pool p, those of the text pool, one of the end
unfoldable pub file_blocks : List ℕ → List ℕ → List ℕ → List ℕ → List ℕ → List ℕ
file_blocks t r p text end =
    block 0 1 t
    ++ (blocks_to 1 2 r (blocks_for r)
    ++ (blocks_to (1 + blocks_for r) 3 p (blocks_for p)
    ++ (blocks_to (1 + blocks_for r + blocks_for p) 5 text (blocks_for text)
    ++ block (1 + blocks_for r + blocks_for p + blocks_for text) 4 end)))

-- the file of a screen: its used records alone, and the end is used and root
unfoldable pub file_of : List ℕ → List ℕ → List ℕ → List ℕ → ℕ → ℕ → List ℕ
file_of t rs p text used root = file_blocks t (take (16 * used) rs) p text (word_bytes used ++ word_bytes root)

-- its length
unfoldable pub file_length : List ℕ → List ℕ → ℕ → ℕ
file_length p text used = 512 * (2 + (16 * used + 495) / 496 + blocks_for p + blocks_for text)

-- the list with vs in the place of what stood from `at` on: what is behind keeps its values
unfoldable pub overwrite : List ℕ → ℕ → List ℕ → List ℕ
overwrite l at vs = take at l ++ (vs ++ drop (at + length vs) l)
