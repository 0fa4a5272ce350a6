-- What one row makes of a record with Text inputs. They are leaves, so it takes the bytes of the record and of its inputs
-- alone. rs are the records, p the pool, text the bytes of the text pool.
use Rattle.std.specs.Prelude.{◌≡◌, Bool, cond, not, List, ℕ, ◌+◌, ◌*◌, ◌<◌, ◌≤◌, eqb, ℤ, length}
use Rattle.std.proofs.Math.Option.{Option}
use Rattle.records.specs.Record.{node, fields_at}
use Rattle.records.specs.declared.record.Fields.{Fields}
use Rattle.three_valued.specs.Logic.{of_bool}
use Rattle.three_valued.specs.declared.logic.Truth.{Truth}
use Rattle.truth.specs.Evaluate.{null_test, compared_of, between_of, ColumnThere}
use Rattle.symbol_values.specs.SymbolValues.{symbolic, PooledValue, leaf_bits, PooledFrom, symbol_member}

-- The value of input x, as null or 64 bits, and as null or a key.
abbrev pub input_bits : List ℕ → List ℕ → ℕ → ℕ → Option ℕ
input_bits rs row nulls x = leaf_bits row nulls (fields_at rs (node x))

abbrev pub input_key : List ℕ → List ℕ → List ℕ → ℕ → ℕ → Option ℤ
input_key text rs row nulls x = symbolic text (input_bits rs row nulls x)

-- A comparison, is_between, is_in, is_null or is_not_null with the fields f.
unfoldable pub symbol_truth : List ℕ → List ℕ → List ℕ → List ℕ → ℕ → Fields → Truth
symbol_truth text rs p row nulls f =
    cond (eqb f.kind 4)
    (compared_of f.code (input_key text rs row nulls f.a) (input_key text rs row nulls f.b))
    (cond (eqb f.kind 8)
    (between_of f.code (input_key text rs row nulls f.a) (input_key text rs row nulls f.b) (input_key text rs row nulls f.c))
    (cond (eqb f.kind 10)
    (symbol_member text p (fields_at rs (node f.b)) (eqb f.code 1) (input_key text rs row nulls f.a))
    (cond (eqb f.kind 6) (of_bool (null_test (input_key text rs row nulls f.a)))
    (of_bool (not (null_test (input_key text rs row nulls f.a)))))))

-- ---- What checking has shown of such a record.
-- Input x is there, and its value, null or a symbol of the text pool.
pub record SymbolLeaf (text rs row : List ℕ) (nulls x : ℕ) : Type 0 where
  pub there : 16 * x + 15 < length rs
  pub column : (fields_at rs (node x)).kind ≡ 1 → ColumnThere row (fields_at rs (node x)).a
  pub pooled : PooledValue (length text) (input_bits rs row nulls x)

-- Input x is there, a list of the pool with symbols of the text pool.
pub record SymbolList (text rs p : List ℕ) (x : ℕ) : Type 0 where
  pub there : 16 * x + 15 < length rs
  pub inside : 8 * ((fields_at rs (node x)).a + (fields_at rs (node x)).b) ≤ length p
  pub pooled : PooledFrom (length text) p (fields_at rs (node x)).a (fields_at rs (node x)).b

pub record SymbolTest (text rs p row : List ℕ) (nulls : ℕ) (f : Fields) : Type 0 where
  pub value : SymbolLeaf text rs row nulls f.a
  pub right : f.kind ≡ 4 → SymbolLeaf text rs row nulls f.b
  pub low : f.kind ≡ 8 → SymbolLeaf text rs row nulls f.b
  pub high : f.kind ≡ 8 → SymbolLeaf text rs row nulls f.c
  pub list : f.kind ≡ 10 → SymbolList text rs p f.b
