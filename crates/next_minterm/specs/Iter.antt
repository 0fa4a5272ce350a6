-- What `MintermIter` gives, one conjunct a call.
use Rattle.std.specs.Prelude.{◌≡◌, Bool, true, false, List, [], ◌∷◌, ℕ, ◌+◌, ◌≤◌, ◌<◌, length, set, Option, Some, None, Result, Ok, Err}
use Rattle.truth.specs.AExpr.{AExpr}
use Rattle.merge.specs.Minterms.{pending}
use Rattle.read_operands.specs.Walk.{walked, stack_of, InputsBelow}
use Rattle.records.specs.declared.record.Node.{Node}
use Rattle.next_minterm.specs.declared.Over.{Over}
use Rattle.next_minterm.specs.declared.Stack.{Stack}

-- The nodes still to visit, the next one first.
abbrev pub stack_in : Stack → List ℕ
stack_in s = stack_of s.nodes s.len

-- Every record that the walk meets has its inputs below it, and the stack is no longer than its array.
abbrev pub Walkable : List ℕ → Stack → Type 0
Walkable rs s = InputsBelow (walked rs) (stack_in s) × (s.len ≤ 128)

-- From the nodes s the item i is given, and the nodes t are left: the first conjunct to come, and what gives the rest.
-- `Over` is given only if more than 128 are to come.
abbrev pub Next : (ℕ → AExpr ℕ) → List ℕ → Option (Result Node Over) → List ℕ → Type 0
Next R s None t = (pending R s ≡ []) × (t ≡ [])
Next R s (Some (Ok n)) t = pending R s ≡ (n.0 ∷ pending R t)
Next R s (Some (Err e)) t = (128 < length (pending R s)) × (t ≡ [])

-- The item taken into the first n of the nodes a: b are the nodes then, m how many, and `more` whether to go on. 129
-- stands for more than 128.
abbrev pub Taken : List ℕ → ℕ → Option (Result Node Over) → List ℕ → ℕ → Bool → Type 0
Taken a n None b m more = (b ≡ a) × (m ≡ n) × (more ≡ false)
Taken a n (Some (Ok x)) b m more =
    (n < 128 → (b ≡ set a n x.0) × (m ≡ n + 1) × (more ≡ true)) × (128 ≤ n → (m ≡ 129) × (more ≡ false))
Taken a n (Some (Err e)) b m more = (m ≡ 129) × (more ≡ false)
