-- Columns read, of 01: one 64-bit word with a bit for each column that the root reaches, and the number of ones in it.
use Rattle.std.specs.Prelude.{ℕ, ◌/◌, ◌%◌, ◌^◌, List, [], ◌∷◌, Bool, false, cond, ◌||◌, ltb, eqb}
use Rattle.std.specs.Int.Bits.{bit_or}
use Rattle.std.specs.Int.Count.{ones}
use Rattle.records.specs.Course.{course}
use Rattle.records.specs.Record.{node, record_at, inputs}
use Rattle.records.specs.declared.record.Record.{Record}
use Rattle.records.specs.declared.record.Record.TheVariants as kind
use Rattle.checking.specs.Answer.{CheckAnswer}
use Rattle.checking.specs.Answer as check
use Rattle.checking.specs.ReadAnswer.{ColumnsAnswer}
use Rattle.checking.specs.ReadAnswer as columns

-- bit c of a word
abbrev pub bit : ℕ → ℕ → Bool
bit word c = eqb (word / 2 ^ c % 2) 1

-- the record is column c itself
abbrev pub is_column : Record → ℕ → Bool
is_column kind.Invalid c = false
is_column (kind.Column k) c = eqb k.0 c
is_column (kind.Literal ty v) c = false
is_column (kind.Null ty) c = false
is_column (kind.Binary o x y) c = false
is_column (kind.Not x) c = false
is_column (kind.IsNull x) c = false
is_column (kind.IsNotNull x) c = false
is_column (kind.IsBetween k x low high) c = false
is_column (kind.List ty marked start count) c = false
is_column (kind.IsIn equal x list) c = false

abbrev pub any_at : (ℕ → Bool) → List ℕ → Bool
any_at f [] = false
any_at f (x ∷ l) = f x || any_at f l

-- record n reaches column c: it is the column, or one of its inputs reaches it
abbrev pub reaches : List ℕ → ℕ → ℕ → Bool
reaches rs c n =
    course (λ a. false) (λ below i. is_column (record_at rs (node i)) c || any_at below (inputs (record_at rs (node i)))) n

-- the word of a column: its bit alone; a table has at most 64 columns
abbrev pub column_bit : ℕ → ℕ
column_bit c = cond (ltb c 64) (2 ^ c) 0

abbrev pub own_column : Record → ℕ
own_column kind.Invalid = 0
own_column (kind.Column k) = column_bit k.0
own_column (kind.Literal ty v) = 0
own_column (kind.Null ty) = 0
own_column (kind.Binary o x y) = 0
own_column (kind.Not x) = 0
own_column (kind.IsNull x) = 0
own_column (kind.IsNotNull x) = 0
own_column (kind.IsBetween k x low high) = 0
own_column (kind.List ty marked start count) = 0
own_column (kind.IsIn equal x list) = 0

abbrev pub or_at : (ℕ → ℕ) → List ℕ → ℕ
or_at f [] = 0
or_at f (x ∷ l) = bit_or (f x) (or_at f l)

abbrev pub columns_step : (ℕ → ℕ) → Record → ℕ
columns_step below r = bit_or (own_column r) (or_at below (inputs r))

-- the word with a bit for each column that record n reaches (the law `word-reaches` says so, bit by bit)
abbrev pub columns_word : List ℕ → ℕ → ℕ
columns_word rs n = course (λ a. 0) (λ below i. columns_step below (record_at rs (node i))) n

abbrev pub columns_if : CheckAnswer → ℕ → ColumnsAnswer
columns_if (check.Refused k) word = columns.Refused k
columns_if check.Accepted word = columns.Read word (ones word)
