-- The text of reasons, as bytes: 02, 2.6. Column, operator, value and line number in words separated by single blanks,
-- one comparison a line, byte 10 closes each line: `0 GtEq 5 2`. A symbol is t and its bytes in hexadecimal, `0 Eq t535058 2`.
use Rattle.std.specs.Prelude.{List, [], ◌∷◌, ◌++◌, ℕ}
use Rattle.truth.specs.Comparison.{Comparison, Eq, NotEq, Lt, LtEq, Gt, GtEq}
use Rattle.merge.specs.Reasons.{ReasonValue, Whole, Bytes, Reason}
use Rattle.decimals.specs.Decimal.{decimal, signed}
use Rattle.symbol_text.specs.Hex.{symbol_text}

-- ---- the variant names of `Operator`, as Eq

unfoldable pub operator_name : Comparison → List ℕ
operator_name Eq = 69 ∷ 113 ∷ []
operator_name NotEq = 78 ∷ 111 ∷ 116 ∷ 69 ∷ 113 ∷ []
operator_name Lt = 76 ∷ 116 ∷ []
operator_name LtEq = 76 ∷ 116 ∷ 69 ∷ 113 ∷ []
operator_name Gt = 71 ∷ 116 ∷ []
operator_name GtEq = 71 ∷ 116 ∷ 69 ∷ 113 ∷ []

-- ---- values

unfoldable pub value_text : ReasonValue → List ℕ
value_text (Whole z) = signed z
value_text (Bytes l) = symbol_text l

-- ---- lines

unfoldable pub reason_text : Reason → List ℕ
reason_text r =
    decimal r.column
    ++ (32 ∷ (operator_name r.operator
    ++ (32 ∷ (value_text r.value
    ++ (32 ∷ (decimal r.line
    ++ (10 ∷ [])))))))

unfoldable pub reasons_text : List Reason → List ℕ
reasons_text [] = []
reasons_text (r ∷ l) = reason_text r ++ reasons_text l
