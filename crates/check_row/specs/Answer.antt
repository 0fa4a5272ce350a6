-- The check of a proposed row (02, 2.7): as checking; then 8, 9, 17 and 18 in this order; else whether the row passes. t is the
-- column table, rs the records, p the pool, row and nulls the places and null marks proposed.
use Rattle.std.specs.Prelude.{Bool, cond, List, [], ◌∷◌, ℕ, length}
use Rattle.std.proofs.Math.Option.{Option, none, some}
use Rattle.listed.specs.Listed.{listed}
use Rattle.merge.specs.Demand.{passes}
use Rattle.places.specs.Places.{places_row, places_ok}
use Rattle.plain_lines.specs.Refusal.{plain_refusal}

abbrev pub refused_or : Option ℕ → ℕ → ℕ
refused_or none answer = answer
refused_or (some k) answer = k

-- 18 for a row that is not one of places; else 257 if it passes, that is on true only, and 256 if not.
abbrev pub row_answer : ℕ → List ℕ → ℕ → Bool → ℕ
row_answer columns row nulls passing = cond (places_ok columns row nulls) (cond passing 257 256) 18

-- What the check answers, for every input.
unfoldable pub check_row_answer : List ℕ → List ℕ → List ℕ → ℕ → ℕ → List ℕ → ℕ → ℕ
check_row_answer t rs p used root row nulls =
    refused_or (plain_refusal t rs p used root)
    (row_answer (length t) row nulls (passes rs p used root (places_row row nulls)))

-- Every call ends in a listed answer: 1 to 7, 8, 9, 17, 18, 256 or 257.
abbrev pub row_listed : ℕ → Bool
row_listed r = listed (1 ∷ 2 ∷ 3 ∷ 4 ∷ 5 ∷ 6 ∷ 7 ∷ 8 ∷ 9 ∷ 17 ∷ 18 ∷ 256 ∷ 257 ∷ []) r
