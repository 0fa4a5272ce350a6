-- What the code's arrays hold during the walk.
use Rattle.std.specs.Prelude as code
use Rattle.std.specs.Prelude.{List, [], ◌∷◌, ◌++◌, ℕ, zero, suc, ◌≤◌, get_or}
use Rattle.std.proofs.Math.Option.{Option, none, some}
use Rattle.records.specs.declared.record.Node.{Node}
use Rattle.records.specs.declared.record.Record.{Record}
use Rattle.truth.specs.AExpr.{AExpr, Inputs}
use Rattle.truth.specs.FromBytes.{to_aexpr, aexpr_of}
use Rattle.merge.specs.Minterms.{and_sides}

-- The two sides of an And or LogicalAnd, as the code holds them.
abbrev pub sides_in : code.Option (Node × Node) → Option (ℕ × ℕ)
sides_in code.None = none
sides_in (code.Some both) = some (both.0.0, both.1.0)

-- A record's sides; they do not depend on the pool.
abbrev pub record_sides : Record → Option (ℕ × ℕ)
record_sides r = and_sides (to_aexpr [] r)

-- The records' expressions for the walk, which reads no list.
abbrev pub walked : List ℕ → ℕ → AExpr ℕ
walked rs n = aexpr_of rs [] n

-- The first n numbers of an array, in their order.
unfoldable pub first_of : List ℕ → ℕ → List ℕ
first_of a zero = []
first_of a (suc n) = first_of a n ++ (get_or a n 0 ∷ [])

-- The same numbers as a stack, the last of them on top.
unfoldable pub stack_of : List ℕ → ℕ → List ℕ
stack_of a zero = []
stack_of a (suc n) = get_or a n 0 ∷ stack_of a n

-- Every record up to a node of the stack has its inputs below it, so the walk from there ends.
abbrev pub InputsBelow : (ℕ → AExpr ℕ) → List ℕ → Type 0
InputsBelow R [] = Unit {0}
InputsBelow R (top ∷ stack) = ((n : ℕ) → n ≤ top → Inputs n (R n)) × InputsBelow R stack
