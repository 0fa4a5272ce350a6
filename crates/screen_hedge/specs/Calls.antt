-- What the call promises, and what the code inside it hands on.
use Rattle.std.specs.Prelude.{◌≡◌, Bool, true, List, [], ◌∷◌, ℕ, length}
use Rattle.listed.specs.Listed.{listed}
use Rattle.tally.specs.declared.Tally.{Tally}
use Rattle.screen_hedge.specs.declared.Hedged.{Hedged}
use Rattle.hedge.specs.Answer.{HedgeAnswer}
use Rattle.hedge.specs.Answer.{Refused, Listed}
use Rattle.hedge.specs.Hedge.{hedge_number, count_out, tally_out}
use Rattle.symbol_hedge.specs.HedgeWith.{hedge_answer_with, hedge_bytes_with}

-- Every call ends in a listed answer: 1 to 7, 8, 20, 12, 13, 21, or 256.
abbrev pub hedge_listed : ℕ → Bool
hedge_listed r =
    listed (1 ∷ 2 ∷ 3 ∷ 4 ∷ 5 ∷ 6 ∷ 7 ∷ 8 ∷ 20 ∷ 12 ∷ 13 ∷ 21 ∷ 256 ∷ []) r

-- What the call makes of a lent list, a tally and a count: answer, list, tally and count are those of the definitions, with the
-- text pool that is lent.
abbrev pub HedgePromise :
    List ℕ → List ℕ → List ℕ → List ℕ → ℕ → ℕ → List ℕ → List ℕ → ℕ → List ℕ → List ℕ → Tally → Tally → ℕ → ℕ → Type 0
HedgePromise text t rs p used root values nulls answer old_list list old_tally tally old_count count =
    (hedge_listed answer ≡ true)
    × (answer ≡ hedge_number (hedge_answer_with text t rs p used root values nulls (length old_list) old_tally))
    × (list ≡ hedge_bytes_with text t rs p used root values nulls old_list old_tally)
    × (tally ≡ tally_out (hedge_answer_with text t rs p used root values nulls (length old_list) old_tally) old_tally)
    × (count ≡ count_out (hedge_answer_with text t rs p used root values nulls (length old_list) old_tally) old_count)

-- The rows in each class that the tally grows by: none where the chain is refused.
abbrev pub passed_of : HedgeAnswer → ℕ
passed_of (Refused k) = 0
passed_of (Listed passed is_false unknown) = passed

abbrev pub false_of : HedgeAnswer → ℕ
false_of (Refused k) = 0
false_of (Listed passed is_false unknown) = is_false

abbrev pub unknown_of : HedgeAnswer → ℕ
unknown_of (Refused k) = 0
unknown_of (Listed passed is_false unknown) = unknown

-- The answer as numbers, with the list and the count afterwards.
abbrev pub Numbered : HedgeAnswer → List ℕ → Hedged → List ℕ → ℕ → ℕ → Type 0
Numbered answer bytes h list old_count count =
    (h.number ≡ hedge_number answer) × (h.passed ≡ passed_of answer) × (h.is_false ≡ false_of answer)
    × (h.unknown ≡ unknown_of answer) × (list ≡ bytes) × (count ≡ count_out answer old_count)
