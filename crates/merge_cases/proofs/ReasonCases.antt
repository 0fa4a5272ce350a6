-- Reasons, worked: what is read of the conjuncts, and the column, operator, value and line of each comparison written.
use mathlib.Core.Path.{◌≡◌, refl}
use mathlib.Core.List.{List, [], ◌∷◌, map}
use Prim.Native.Nat.{ℕ}
use lib.IntN.{ℤ, pos, negsuc}
use Rattle.truth.specs.Comparison.{Comparison, Eq, NotEq, Lt, LtEq, Gt, GtEq}
use Rattle.constraints.specs.Lined.{lined}
use Rattle.merge.specs.Classify.{Conjunct, Bounds, Equality, comparison_constraints}
use Rattle.merge.specs.Emit.{merge_filter_constraints}
use Rattle.merge.specs.Lines.{lines_from}
use Rattle.merge.specs.Reasons.{Whole, Reason, as_number, reasons_of}

abbrev on : ℕ → Comparison → ℕ → Conjunct ℕ
on c o v = Bounds c (comparison_constraints o v)

-- c0 == c1, of node 9
abbrev equal : Conjunct ℕ
equal = Equality 0 1 9

abbrev reason : ℕ → Comparison → ℤ → ℕ → Reason
reason c o v line = record { column = c; operator = o; value = Whole v; line = line }

abbrev table : List (List (Conjunct ℕ) × List Reason)
table =
    -- the line that first gave the value it holds
    (on 0 Gt 3 ∷ on 0 Gt 5 ∷ on 0 Gt 5 ∷ [], reason 0 Gt (pos 5) 1 ∷ [])
    ∷ (on 0 NotEq 5 ∷ on 0 NotEq 3 ∷ on 0 NotEq 5 ∷ [], reason 0 NotEq (pos 5) 0 ∷ reason 0 NotEq (pos 3) 1 ∷ [])
    -- opened by a later line of the same value, or by an excluded one before or behind it: the bound's number stays
    ∷ (on 0 GtEq 5 ∷ on 0 Gt 5 ∷ [], reason 0 Gt (pos 5) 0 ∷ [])
    ∷ (on 0 GtEq 5 ∷ on 0 NotEq 5 ∷ [], reason 0 Gt (pos 5) 0 ∷ [])
    ∷ (on 0 NotEq 5 ∷ on 0 LtEq 5 ∷ [], reason 0 Lt (pos 5) 1 ∷ [])
    -- an equality of two bounds names the lower one, though the upper one came first
    ∷ (on 0 LtEq 3 ∷ on 0 GtEq 3 ∷ [], reason 0 Eq (pos 3) 1 ∷ [])
    -- passed along an equality it keeps its line
    ∷ (equal ∷ on 0 Gt 5 ∷ [], reason 0 Gt (pos 5) 1 ∷ reason 1 Gt (pos 5) 1 ∷ [])
    -- a number already held stays, even where it is the larger
    ∷ (equal ∷ on 0 Gt 5 ∷ on 1 Gt 5 ∷ on 1 Gt 4 ∷ [], reason 0 Gt (pos 5) 1 ∷ reason 1 Gt (pos 5) 2 ∷ [])
    -- the bits are signed: > -1, > -2
    ∷ (on 0 Gt 18446744073709551615 ∷ on 0 Gt 18446744073709551614 ∷ [], reason 0 Gt (negsuc 0) 0 ∷ [])
    -- unchanged; nothing passes
    ∷ (on 0 Gt 3 ∷ [], [])
    ∷ (on 0 Gt 3 ∷ on 0 Lt 3 ∷ [], [])
    ∷ []

abbrev yielded : (List (Conjunct ℕ) × List Reason) → List Reason
yielded c = reasons_of as_number (merge_filter_constraints lined (lines_from 0 c.0))

pub reason_cases : map yielded table ≡ map (λ c. c.1) table
unfolding lined lines_from
reason_cases = refl
