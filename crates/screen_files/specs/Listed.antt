-- Demand 1: every call ends in an answer that document 01, or a request of 02, lists for it. These are the lists of 01's
-- 'Answers by operation' and of the requests, refusals first.
use Rattle.std.specs.Prelude.{ℕ, Bool, [], ◌∷◌, ◌++◌}
use Rattle.listed.specs.Listed.{listed, check_refusals}

-- 02, 2.3: saving is refused with 1 to 7, then 14; loading with 15, 14, then 1 to 7 of the screen held
abbrev pub save_listed : ℕ → Bool
save_listed r = listed (check_refusals ++ (14 ∷ 256 ∷ [])) r

abbrev pub load_listed : ℕ → Bool
load_listed r = listed (check_refusals ++ (14 ∷ 15 ∷ 256 ∷ [])) r
