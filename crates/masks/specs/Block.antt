-- A block of a chain's rows: what the row test makes of each, and which records' truths are kept in words.
use Rattle.std.specs.Prelude.{◌≡◌, Bool, true, false, cond, ◌&&◌, ◌||◌, List, ℕ, ◌+◌, ◌*◌, ◌^◌, ◌≤◌, ◌<◌, ltb, leb, eqb, ℤ, length, get_or, take, drop}
use Rattle.std.proofs.Math.Option.{Option}
use Rattle.records.specs.Bytes.{value_at}
use Rattle.records.specs.Record.{fields_at, node}
use Rattle.records.specs.declared.record.Fields.{Fields}
use Rattle.records.specs.declared.record.Node.{Node}
use Rattle.checking.specs.Columns.{bit}
use Rattle.three_valued.specs.declared.logic.Truth.{Truth}
use Rattle.truth.specs.Halves.{key, bias_of}
use Rattle.truth.specs.FromBytes.{null_marked, row_keys}
use Rattle.truth.specs.Evaluate.{row_truth, row_value, holds_key, Evaluable}
use Rattle.masks.specs.declared.Masks.{Masks}
use Rattle.masks.specs.Masks.{Tells}

-- Row r of rows of so many columns: eight bytes a column.
unfoldable pub chain_row : ℕ → List ℕ → ℕ → List ℕ
chain_row columns values r = take (8 * columns) (drop (8 * columns * r) values)

-- Column c of row r.
unfoldable pub chain_value : ℕ → List ℕ → List ℕ → ℕ → ℕ → Option ℤ
chain_value columns values nulls c r = row_keys (take (8 * columns) (drop (8 * columns * r) values)) (get_or nulls r 0) c

-- Its 64 bits as they stand, in row i of a block.
unfoldable pub cell_of : ℕ → List ℕ → ℕ → ℕ → ℕ → ℕ
cell_of columns values c base i = value_at values (columns * (base + i) + c)

-- They are 64 bits, in the rows of the block from `from` on.
unfoldable pub Wide : ℕ → List ℕ → ℕ → ℕ → ℕ → ℕ → Type 0
Wide columns values c base from rows = (i : ℕ) → from ≤ i → i < rows → cell_of columns values c base i < 2 ^ 64

-- The bits of m say in which rows of a block column c is null.
unfoldable pub NullWord : List ℕ → ℕ → ℕ → ℕ → ℕ → Type 0
NullWord nulls c base rows m = (i : ℕ) → i < 64 → i < rows → bit m i ≡ null_marked (get_or nulls (base + i) 0) c

-- A word for each column.
unfoldable pub NullWords : List ℕ → ℕ → ℕ → ℕ → List ℕ → Type 0
NullWords nulls columns base rows words = (c : ℕ) → c < columns → NullWord nulls c base rows (get_or words c 0)

-- The truth, and the value, that the row test gives of row r and record n.
unfoldable pub chain_truth : List ℕ → List ℕ → ℕ → List ℕ → List ℕ → ℕ → ℕ → Truth
chain_truth rs p columns values nulls n r = row_truth rs p (chain_row columns values r) (get_or nulls r 0) n

unfoldable pub chain_worth : List ℕ → List ℕ → ℕ → List ℕ → List ℕ → ℕ → ℕ → Option ℤ
chain_worth rs p columns values nulls n r = row_value rs p (chain_row columns values r) (get_or nulls r 0) n

-- Some rows of the chain, from `base` on, at most 64; every row evaluates record n and those below it.
pub record Ready (rs p : List ℕ) (columns : ℕ) (values nulls : List ℕ) (base rows n : ℕ) : Type 0 where
  pub some : 0 < rows
  pub few : rows ≤ 64
  pub narrow : columns ≤ 64
  pub within : base + rows ≤ length nulls
  pub short : length nulls ≤ 1024
  pub long : length values ≡ 8 * columns * length nulls
  pub evaluable : (r : ℕ) → r < length nulls → Evaluable rs p (chain_row columns values r) n

-- The records whose truths are kept: comparisons, logic, Not and the tests. Leaves and divisions are read where they are used.
unfoldable pub is_kept : Fields → Bool
is_kept f =
    cond (eqb f.kind 4) (ltb f.code 8 || leb 15 f.code)
    (cond (eqb f.kind 9) false (ltb 3 f.kind && ltb f.kind 11))

-- The words kept for record n.
abbrev pub masks_at : List ℕ → List ℕ → ℕ → Masks
masks_at truths unknowns n = record { truths = get_or truths n 0; unknowns = get_or unknowns n 0 }

-- If record n is one of those that are kept, its words tell its truths.
unfoldable pub Held : List ℕ → List ℕ → ℕ → List ℕ → List ℕ → ℕ → ℕ → List ℕ → List ℕ → ℕ → Type 0
Held rs p columns values nulls base rows truths unknowns n =
    is_kept (fields_at rs (node n)) ≡ true
    → Tells rows (masks_at truths unknowns n) (λ i. chain_truth rs p columns values nulls n (base + i))

-- What an input m is read by: rows that evaluate it, and its words, if they are kept.
pub record Input (rs p : List ℕ) (columns : ℕ) (values nulls : List ℕ) (base rows : ℕ) (truths unknowns : List ℕ) (m : ℕ) : Type 0 where
  pub ready : Ready rs p columns values nulls base rows m
  pub held : Held rs p columns values nulls base rows truths unknowns m
  pub truths-room : m < length truths
  pub unknowns_room : m < length unknowns

-- The record with the fields f may name m as an input.
unfoldable pub is_input : Fields → ℕ → Bool
is_input f m = eqb m f.a || (eqb m f.b || eqb m f.c)

-- Record n, whose fields are f, is one that is kept, and what it may name as an input below it is held.
pub record Turn (rs p : List ℕ) (columns : ℕ) (values nulls : List ℕ) (base rows : ℕ) (truths unknowns : List ℕ) (n : Node)
    (f : Fields) : Type 0 where
  pub ready : Ready rs p columns values nulls base rows n.0
  pub fed : (m : ℕ) → m < n.0 → is_input f m ≡ true → Held rs p columns values nulls base rows truths unknowns m
  pub truths-room : n.0 < length truths
  pub unknowns_room : n.0 < length unknowns
  pub fields : f ≡ fields_at rs n
  pub kept : is_kept f ≡ true

-- A column compared with a literal, by an operator that gives unknown for null, between two literals, or tested for null.
pub record Line (rs : List ℕ) (f : Fields) : Type 0 where
  pub column : (fields_at rs (node f.a)).kind ≡ 1
  pub compared : f.kind ≡ 4 → (f.code < 8) × (f.code ≡ 1 → ⊥) × (f.code ≡ 3 → ⊥) × ((fields_at rs (node f.b)).kind ≡ 2)
  pub ranged : f.kind ≡ 8 → ((fields_at rs (node f.b)).kind ≡ 2) × ((fields_at rs (node f.c)).kind ≡ 2)
  pub tested : (f.kind ≡ 4 → ⊥) → (f.kind ≡ 8 → ⊥) → (5 < f.kind) × (f.kind < 8)

-- From `from` on up to the root, the inputs of every kept record that is marked are marked.
unfoldable pub Closed : List ℕ → List ℕ → ℕ → ℕ → Type 0
Closed rs marks from root =
    (n : ℕ) → from ≤ n → n ≤ root → get_or marks n 0 ≡ 1 → is_kept (fields_at rs (node n)) ≡ true
    → (m : ℕ) → m < n → is_input (fields_at rs (node n)) m ≡ true → get_or marks m 0 ≡ 1

-- The bits of m say which of 64 keys, from the one numbered `at` on, are those of a value of the list.
unfoldable pub Finds : List ℕ → ℕ → List ℕ → ℕ → Type 0
Finds keys at values m =
    (i bits : ℕ) → i < 64 → bits < 2 ^ 64 → get_or keys (at + i) 0 ≡ bias_of bits → bit m i ≡ holds_key (key bits) values
