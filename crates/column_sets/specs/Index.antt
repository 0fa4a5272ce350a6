-- The inverted index of the lists, and sets of the numbers of conjuncts.
use Rattle.std.specs.Prelude.{◌≡◌, Bool, ◌&&◌, ◌||◌, List, ◌⊎◌, ℕ, ◌+◌, ◌*◌, ◌/◌, ◌^◌, ◌<◌, ◌≤◌, length, get_or, eqb, ltb}
use Rattle.records.specs.Bytes.{value_at}
use Rattle.truth.specs.FromBytes.{values_from}
use Rattle.constraints.specs.Values.{contains}
use Rattle.constraints.specs.Payload.{payload}
use Rattle.sorted.specs.BitSets.{member}
use Rattle.column_constraints.specs.Abstraction.{list_of, of_kind, marked, starts_in, counts_in}

-- The value at place p of the pool is in the list.
abbrev pub value_in : List ℕ → ℕ → List ℕ → Bool
value_in pool p l = contains payload (payload.key (value_at pool p)) l

-- The index begins with a word for each place of the pool that it covers: where the set of its value begins, the numbers of the
-- conjuncts whose lists have the value; 0 if it has no set. It covers 8,192 places in 24,576 words, 16,384 in 40,960, and none
-- in one.
pub record Indexed (told pool index : List ℕ) : Type 0 where
  pub some : 0 < length index
  pub room : (p : ℕ) → p + 4096 < length index / 2 → get_or index p 0 + 1 < length index
  pub lists :
      (p j : ℕ) → p + 4096 < length index / 2 → 0 < get_or index p 0 → j < 128 →
      member index (get_or index p 0) j ≡ value_in pool p (list_of (starts_in told) (counts_in told) pool j)

-- n numbers that are members of a set of 128.
abbrev pub Low : List ℕ → ℕ → Type 0
Low a n = (i : ℕ) → i < n → get_or a i 0 < 128

-- The set of n numbers.
pub record NumberSet (a : List ℕ) (n : ℕ) (set : List ℕ) : Type 0 where
  pub size : length set ≡ 2
  pub has : (j : ℕ) → j < 128 → member set 0 j ≡ marked a n j

-- The set of those of kind k.
pub record KindSet (kinds : List ℕ) (k : ℕ) (a : List ℕ) (n : ℕ) (set : List ℕ) : Type 0 where
  pub size : length set ≡ 2
  pub has : (j : ℕ) → j < 128 → member set 0 j ≡ (marked a n j && of_kind kinds k j)

-- ---- Making the index: set r, that of the rising value r, begins at word m + 2 * r.
pub record Placed (sorted : List ℕ) (k m v word : ℕ) : Type 0 where
  pub rank : ℕ
  pub below : rank < k
  pub stands : get_or sorted rank 0 ≡ v
  pub fits : v < 2 ^ 64
  pub is : word ≡ m + 2 * rank

-- The rising value r is in the list.
abbrev pub riser_in : List ℕ → ℕ → List ℕ → Bool
riser_in sorted r l = contains payload (payload.key (get_or sorted r 0)) l

-- The lists of the conjuncts below n are in the sets, and of conjunct n's the first i values, from place s on.
pub record Sets (starts counts pool sorted index : List ℕ) (k m n s i : ℕ) : Type 0 where
  pub places : (p : ℕ) → p < m → 0 < get_or index p 0 → Placed sorted k m (value_at pool p) (get_or index p 0)
  pub sets :
      (r j : ℕ) → r < k → get_or sorted r 0 < 2 ^ 64 → j < 128 →
      member index (m + 2 * r) j ≡
      ((ltb j n && riser_in sorted r (list_of starts counts pool j)) || (eqb n j && riser_in sorted r (values_from pool s i)))

-- Conjunct j put into set r, which is place p's if the index covers that.
pub record ValuePut (before after : List ℕ) (m p r j : ℕ) : Type 0 where
  pub set : (i : ℕ) → member after (m + 2 * r) i ≡ (member before (m + 2 * r) i || eqb j i)
  pub others : (q : ℕ) → m ≤ q → (q ≡ m + 2 * r + j / 64 → ⊥) → get_or after q 0 ≡ get_or before q 0
  pub places : (q : ℕ) → q < m → (get_or after q 0 ≡ get_or before q 0) ⊎ ((q ≡ p) × (get_or after q 0 ≡ m + 2 * r))
