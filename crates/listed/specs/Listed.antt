-- Demand 1: every call ends in an answer that document 01, or a request of 02, lists for it: what their lists have in common.
use Rattle.std.specs.Prelude.{ℕ, Bool, false, ◌||◌, List, [], ◌∷◌, eqb}

-- r is one of the list
abbrev pub listed : List ℕ → ℕ → Bool
listed [] r = false
listed (k ∷ l) r = eqb r k || listed l r

-- "Checking a screen": 1 to 7, which every call of a screen looks for first
abbrev pub check_refusals : List ℕ
check_refusals = 1 ∷ 2 ∷ 3 ∷ 4 ∷ 5 ∷ 6 ∷ 7 ∷ []
