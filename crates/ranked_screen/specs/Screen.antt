-- The screen of ranks, as bytes (02, 2.10): what merges numbers reads of these records and this pool the ranks of the
-- symbols. A literal of type Text becomes an Int, its rank. In front of the pool stand as many ranks as it has values, one for
-- each; a list of type Text becomes one of Int and stays where it is. Behind them stand the values, for the lists of the other
-- types. So the lists of ranks end as early as an index of lists asks.
use Rattle.std.specs.Prelude.{◌≡◌, Bool, cond, List, ◌++◌, ℕ, ◌+◌, ◌-◌, ◌*◌, ◌/◌, ◌%◌, ◌≤◌, ◌<◌, eqb, ltb, length, get_or}
use Rattle.records.specs.Bytes.{value_at}
use Rattle.records.specs.Record.{node, record_at}
use Rattle.records.specs.declared.record.Record.{Record}
use Rattle.records.specs.declared.record.Record.TheVariants as kind
use Rattle.checking.specs.Checked.{CheckedIn}
use Rattle.truth.specs.FromBytes.{aexpr_of}
use Rattle.merge.specs.Write.{splice, word_bytes}
use Rattle.symbol_ranks.specs.Ranks.{Ranked, Pooled}
use Rattle.symbol_screens.specs.Placed.{place_count, Standing}
use Rattle.symbol_screens.specs.Rewriting.{lent}
use Rattle.symbol_screens.proofs.Ranked.{ranked_at}

-- What is asked of a screen with symbols: it is accepted, under some table and root.
pub record Accepted (text rs p : List ℕ) (used : ℕ) : Type 0 where
  pub table : List ℕ
  pub root : ℕ
  pub checked : CheckedIn (lent text) table rs p used root

-- ---- The records. `words` is the number of the pool's values, and of the ranks in front of them.
abbrev pub ranked_literal : ℕ → ℕ → ℕ → Record
ranked_literal rank ty v = cond (eqb ty 4) (kind.Literal 1 rank) (kind.Literal ty v)

abbrev pub ranked_list : ℕ → ℕ → Bool → ℕ → ℕ → Record
ranked_list words ty holds_null start count =
    cond (eqb ty 4) (kind.List 1 holds_null start count) (kind.List ty holds_null (words + start) count)

unfoldable pub ranked_record : ℕ → ℕ → Record → Record
ranked_record words rank kind.Invalid = kind.Invalid
ranked_record words rank (kind.Column c) = kind.Column c
ranked_record words rank (kind.Literal ty v) = ranked_literal rank ty v
ranked_record words rank (kind.Null ty) = kind.Null ty
ranked_record words rank (kind.Binary o x y) = kind.Binary o x y
ranked_record words rank (kind.Not x) = kind.Not x
ranked_record words rank (kind.IsNull x) = kind.IsNull x
ranked_record words rank (kind.IsNotNull x) = kind.IsNotNull x
ranked_record words rank (kind.IsBetween ends x low high) = kind.IsBetween ends x low high
ranked_record words rank (kind.List ty holds_null start count) = ranked_list words ty holds_null start count
ranked_record words rank (kind.IsIn nulls_equal x list) = kind.IsIn nulls_equal x list

-- Where a list starts; 0 for every other record.
unfoldable pub list_start : Record → ℕ
list_start kind.Invalid = 0
list_start (kind.Column c) = 0
list_start (kind.Literal ty v) = 0
list_start (kind.Null ty) = 0
list_start (kind.Binary o x y) = 0
list_start (kind.Not x) = 0
list_start (kind.IsNull x) = 0
list_start (kind.IsNotNull x) = 0
list_start (kind.IsBetween ends x low high) = 0
list_start (kind.List ty holds_null start count) = start
list_start (kind.IsIn nulls_equal x list) = 0

-- Every list starts in the pool.
pub record ListsIn (rs : List ℕ) (used words : ℕ) : Type 0 where
  pub starts : (n : ℕ) → n < used → list_start (record_at rs (node n)) ≤ words

-- The first n records are those of rs with their ranks.
pub record RankedRecords (rs ranks : List ℕ) (words n : ℕ) (src : List ℕ) : Type 0 where
  pub records : (i : ℕ) → i < n → record_at src (node i) ≡ ranked_record words (get_or ranks i 0) (record_at rs (node i))

-- ---- The pool.
unfoldable pub pool_value : List ℕ → List ℕ → ℕ → ℕ → ℕ
pool_value p ranks used k = cond (ltb k (length p / 8)) (get_or ranks (used + k) 0) (value_at p (k - length p / 8))

pub record RankedPool (p ranks : List ℕ) (used n : ℕ) (pool : List ℕ) : Type 0 where
  pub values : (k : ℕ) → k < n → value_at pool k ≡ pool_value p ranks used k

-- The pool with x as its value number k.
unfoldable pub write_value : List ℕ → ℕ → ℕ → List ℕ
write_value pool k x = splice pool (8 * k) (word_bytes (x % 4294967296) ++ word_bytes (x / 4294967296))

-- ---- What is promised: `src` and `pool` hold the screen of ranks.
pub record RanksOf (text rs p : List ℕ) (used : ℕ) (values ranks src pool : List ℕ) : Type 0 where
  pub standing : Standing (length text) rs p used values
  pub pooled : Pooled text values (place_count p used)
  pub ranked : Ranked text values (place_count p used) ranks
  pub reads : (n : ℕ) → n < used → aexpr_of src pool n ≡ ranked_at rs p used ranks (place_count p used) n
