-- What the C call gives for each answer, and what it promises in words of rows (02, 2.7) of a screen without symbols.
use Rattle.std.specs.Prelude.{◌≡◌, Bool, true, List, [], ◌∷◌, ℕ, ◌*◌, ◌≤◌, ◌<◌, length, get_or, take}
use Rattle.listed.specs.Listed.{listed}
use Rattle.truth.specs.FromBytes.{aexpr_at}
use Rattle.merge.specs.Minterms.{minterms}
use Rattle.merge.specs.Plain.{plain_screen}
use Rattle.merge.specs.Demand.{Row, IsRow, passes}
use Rattle.merge.specs.Write.{splice}
use Rattle.places.specs.Places.{places_row, places_ok}
use Rattle.show_row.specs.ShowAnswer.{ShowAnswer}
use Rattle.show_row.specs.ShowAnswer as show
use Rattle.show_row.specs.Answer.{shown_bytes}

-- 256 no row passes, 257 a row is shown
abbrev pub show_number : ShowAnswer → ℕ
show_number (show.Refused k) = k
show_number show.NoRow = 256
show_number (show.Row nulls) = 257

-- Every call ends in a listed answer: 1 to 7, 8, 9, 14, 17, or 256 and 257.
abbrev pub show_listed : ℕ → Bool
show_listed r = listed (1 ∷ 2 ∷ 3 ∷ 4 ∷ 5 ∷ 6 ∷ 7 ∷ 8 ∷ 9 ∷ 14 ∷ 17 ∷ 256 ∷ 257 ∷ []) r

-- What stands in the row buffer and in `nulls` after the call, which found `old` there. `bytes` are the row's.
abbrev pub row_out : ShowAnswer → List ℕ → List ℕ → List ℕ
row_out (show.Refused k) bytes old = old
row_out show.NoRow bytes old = old
row_out (show.Row nulls) bytes old = splice old 0 bytes

abbrev pub nulls_out : ShowAnswer → ℕ → ℕ
nulls_out (show.Refused k) old = old
nulls_out show.NoRow old = old
nulls_out (show.Row nulls) old = nulls

-- The bytes of the row shown of a screen.
abbrev pub screen_bytes : List ℕ → List ℕ → List ℕ → ℕ → ℕ → List ℕ
screen_bytes t rs p used root = shown_bytes (aexpr_at rs p used) (minterms (aexpr_at rs p used) root) (length t)

-- Rows are those of demand 3, with whole numbers, halves and nulls; `row` and `nulls` are what the call leaves, `old` the
-- row buffer that it found. With 257 the row shown is a row of the screen and passes it, and is one that the check of 2.7
-- does not refuse; with 256 no row passes at all. No byte behind the places is changed, and none at all without a row.
pub record ShowPromise (t rs p : List ℕ) (used root answer : ℕ) (old row : List ℕ) (nulls : ℕ) : Type 0 where
  pub plain : 256 ≤ answer → plain_screen t (aexpr_at rs p used) root ≡ true
  pub is : answer ≡ 257 → IsRow t (aexpr_at rs p used) root (places_row row nulls)
  pub passing : answer ≡ 257 → passes rs p used root (places_row row nulls) ≡ true
  pub shaped : answer ≡ 257 → places_ok (length t) (take (16 * length t) row) nulls ≡ true
  pub nothing : answer ≡ 256 → (r : Row) → IsRow t (aexpr_at rs p used) root r → passes rs p used root r ≡ true → ⊥
  pub size : length row ≡ length old
  pub behind : (i : ℕ) → 16 * length t ≤ i → get_or row i 0 ≡ get_or old i 0
  pub untouched : answer < 257 → row ≡ old
