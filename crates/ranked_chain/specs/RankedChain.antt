-- A screen with symbols as one of numbers (02, 2.10), for the rows of a chain: numbers in the literals of type Text, in front of
-- the pool those of all its values, and behind them the values, for the lists of the other types (ranked_screen, Screen). rs are the
-- records, p the pool, `wide` the numbers of the screen's places (symbol_screens, Placed).
use Rattle.std.specs.Prelude.{◌≡◌, Bool, true, false, cond, not, ◌&&◌, List, ℕ, ◌+◌, ◌*◌, ◌/◌, ◌≤◌, ◌<◌, eqb, length, get_or}
use Rattle.records.specs.Record.{node, fields_at}
use Rattle.records.specs.declared.record.Fields.{Fields}
use Rattle.symbol_ranks.specs.Ranks.{Pooled}
use Rattle.symbol_screens.specs.Placed.{place_count, Standing}
use Rattle.ranked_screen.specs.Screen.{RankedPool}
use Rattle.text_order.specs.Codes.{code_of}

-- ---- The literals.
unfoldable pub is_text_literal : Fields → Bool
is_text_literal f = eqb f.kind 2 && eqb f.ty 4

-- The first n records of `out` have their numbers; every record has its kind, and all fields if it is no literal of type Text.
pub record RankedLiterals (rs wide : List ℕ) (used n : ℕ) (out : List ℕ) : Type 0 where
  pub kept : (i : ℕ) → i < used → is_text_literal (fields_at rs (node i)) ≡ false → fields_at out (node i) ≡ fields_at rs (node i)
  pub kind : (i : ℕ) → i < used → (fields_at out (node i)).kind ≡ (fields_at rs (node i)).kind
  pub ranked : (i : ℕ) → i < n → is_text_literal (fields_at rs (node i)) ≡ true
      → (fields_at out (node i)).b + 4294967296 * (fields_at out (node i)).c ≡ get_or wide i 0

-- ---- The lists.
unfoldable pub is_number_list : Fields → Bool
is_number_list f = eqb f.kind 9 && not (eqb f.ty 4)

-- A list of another type than Text starts so many places farther behind.
unfoldable pub raised : ℕ → Fields → Fields
raised words f =
    cond (is_number_list f)
    (record { kind = f.kind; code = f.code; ty = f.ty; zero = f.zero; a = words + f.a; b = f.b; c = f.c }) f

-- In `after` record i has that start.
pub record RaisedAt (words i : ℕ) (before after : List ℕ) : Type 0 where
  pub here : fields_at after (node i) ≡ raised words (fields_at before (node i))
  pub others : (n : ℕ) → (n ≡ i → ⊥) → fields_at after (node n) ≡ fields_at before (node n)

-- The first n records have.
pub record RaisedLists (words n : ℕ) (before after : List ℕ) : Type 0 where
  pub done : (i : ℕ) → i < n → fields_at after (node i) ≡ raised words (fields_at before (node i))
  pub rest : (i : ℕ) → n ≤ i → fields_at after (node i) ≡ fields_at before (node i)

-- Every list lies in a pool of 8,192 values.
pub record ListsPooled (rs : List ℕ) (used : ℕ) : Type 0 where
  pub inside : (i : ℕ) → i < used → (fields_at rs (node i)).kind ≡ 9 → (fields_at rs (node i)).a + (fields_at rs (node i)).b ≤ 8192

-- Both of all records.
pub record WideRecords (rs wide : List ℕ) (words used : ℕ) (out : List ℕ) : Type 0 where
  pub middle : List ℕ
  pub literals : RankedLiterals rs wide used used middle
  pub lists : RaisedLists words used middle out

-- ---- The numbers of the first n values, by the words C of the text's starts.
pub record Numbered (C values : List ℕ) (n : ℕ) (numbers : List ℕ) : Type 0 where
  pub coded : (i : ℕ) → i < n → get_or numbers i 0 ≡ code_of C (get_or values i 0)

-- ---- What is promised: `out` and `pool` hold the screen of these numbers.
pub record ChainRanks (text rs p : List ℕ) (used : ℕ) (C out pool : List ℕ) : Type 0 where
  pub values : List ℕ
  pub wide : List ℕ
  pub standing : Standing (length text) rs p used values
  pub pooled : Pooled text values (place_count p used)
  pub numbered : Numbered C values (place_count p used) wide
  pub records : WideRecords rs wide (length p / 8) used out
  pub held : RankedPool p wide used (2 * (length p / 8)) pool
