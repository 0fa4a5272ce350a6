-- A screen with symbols reduced by one row: in the place of each record with Text inputs stands what the row makes of it, a
-- constant. Nothing above reads a symbol then, and the evaluators of crate `row_test` serve. t is the column table, rs the
-- records, p the pool, text the bytes of the text pool.
use Rattle.std.specs.Prelude.{◌≡◌, Bool, true, false, cond, not, ◌&&◌, List, ◌⊎◌, ℕ, ◌+◌, ◌<◌, leb, eqb, get_or, set}
use Rattle.records.specs.Record.{node, fields_at}
use Rattle.records.specs.declared.record.Fields.{Fields}
use Rattle.three_valued.specs.declared.logic.Truth.{Truth}
use Rattle.three_valued.specs.declared.logic.Truth.TheVariants.{False, Unknown, True}
use Rattle.truth.specs.AExpr.{AExpr, Literal, Null}
use Rattle.truth.specs.FromBytes.{aexpr_of}
use Rattle.symbol_truths.specs.SymbolTruths.{symbol_truth, SymbolTest}

-- An input of type Text is a column, a literal or a null.
unfoldable pub is_text_input : List ℕ → Fields → Bool
is_text_input t f = cond (eqb f.kind 1) (eqb (get_or t f.a 0) 4) (eqb f.ty 4)

-- A record has Text inputs if its first one is a Text; leaves and lists, kinds 1, 2, 3 and 9, have no inputs.
unfoldable pub takes_symbols : List ℕ → List ℕ → Fields → Bool
takes_symbols t rs f = leb 4 f.kind && (not (eqb f.kind 9) && is_text_input t (fields_at rs (node f.a)))

abbrev pub constant_of : Truth → AExpr ℕ
constant_of False = Literal 0
constant_of Unknown = Null
constant_of True = Literal 1

-- The bytes of a constant: kind 2, a literal, and its value, or kind 3, a null. The other fields are not looked at.
abbrev pub constant_kind : Truth → ℕ
constant_kind False = 2
constant_kind Unknown = 3
constant_kind True = 2

abbrev pub constant_value : Truth → ℕ
constant_value False = 0
constant_value Unknown = 0
constant_value True = 1

-- The record at `at` with another kind and value.
abbrev pub with_value : List ℕ → ℕ → ℕ → ℕ → List ℕ
with_value l at k v =
    set (set (set (set (set (set (set (set (set l at k) (at + 8) v) (at + 9) 0) (at + 10) 0) (at + 11) 0) (at + 12) 0) (at + 13) 0)
    (at + 14) 0) (at + 15) 0

-- The records of `out` below `used` that have no Text inputs are those of the screen; those below `done` that have are the
-- constants.
pub record Reduced (text t rs p row : List ℕ) (nulls used done : ℕ) (out : List ℕ) : Type 0 where
  pub kept : (n : ℕ) → n < used → takes_symbols t rs (fields_at rs (node n)) ≡ false →
      fields_at out (node n) ≡ fields_at rs (node n)
  pub leaf : (n : ℕ) → n < done → takes_symbols t rs (fields_at rs (node n)) ≡ true →
      ((fields_at out (node n)).kind ≡ 2) ⊎ ((fields_at out (node n)).kind ≡ 3)
  pub told : (n : ℕ) → n < done → takes_symbols t rs (fields_at rs (node n)) ≡ true →
      aexpr_of out p n ≡ constant_of (symbol_truth text rs p row nulls (fields_at rs (node n)))

-- Every record with Text inputs may be tested.
abbrev pub Tested : List ℕ → List ℕ → List ℕ → List ℕ → List ℕ → ℕ → ℕ → Type 0
Tested text t rs p row nulls used =
    (n : ℕ) → n < used → takes_symbols t rs (fields_at rs (node n)) ≡ true → SymbolTest text rs p row nulls (fields_at rs (node n))

-- The first `count` bytes are the same.
abbrev pub Copied : List ℕ → List ℕ → ℕ → Type 0
Copied rs out count = (j : ℕ) → j < count → get_or out j 0 ≡ get_or rs j 0
