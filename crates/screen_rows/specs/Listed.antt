-- Demand 1: every call ends in an answer that document 01, or a request of 02, lists for it. These are the lists of 01's
-- 'Answers by operation' and of the requests, refusals first.
use Rattle.std.specs.Prelude.{ℕ, Bool, [], ◌∷◌, ◌++◌}
use Rattle.listed.specs.Listed.{listed, check_refusals}

-- checking: its refusals, or accepted
abbrev pub check_listed : ℕ → Bool
check_listed r = listed (check_refusals ++ (256 ∷ [])) r

-- "Columns read: as checking; else one 64-bit word .. and the number of ones in it"
abbrev pub columns_listed : ℕ → Bool
columns_listed r = listed (check_refusals ++ (256 ∷ [])) r

-- "Testing a row: as checking; 8; 12 ..; 13 .. Else false, unknown or true"
abbrev pub row_listed : ℕ → Bool
row_listed r = listed (check_refusals ++ (8 ∷ 12 ∷ 13 ∷ 256 ∷ 257 ∷ 258 ∷ [])) r
