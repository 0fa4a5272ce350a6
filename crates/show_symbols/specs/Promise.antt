-- What the call promises in words of rows (02, 2.7 and 2.10), as show_row's `ShowPromise`: rows have null or any symbol in Text
-- columns, and pass by the keys of the text pool.
use Rattle.std.specs.Prelude.{◌≡◌, true, List, ℕ, ◌*◌, ◌≤◌, ◌<◌, length, get_or, take}
use Rattle.truth.specs.FromBytes.{aexpr_at}
use Rattle.merge.specs.Plain.{plain_screen}
use Rattle.merge.specs.Demand.{Row}
use Rattle.places.specs.Places.{places_row, places_ok}
use Rattle.symbol_screens.specs.Rows.{passes_with, IsRowWith}

pub record ShowPromiseWith (text t rs p : List ℕ) (used root answer : ℕ) (old row : List ℕ) (nulls : ℕ) : Type 0 where
  pub plain : 256 ≤ answer → plain_screen t (aexpr_at rs p used) root ≡ true
  pub is : answer ≡ 257 → IsRowWith t (aexpr_at rs p used) root (places_row row nulls)
  pub passing : answer ≡ 257 → passes_with text rs p used root (places_row row nulls) ≡ true
  pub shaped : answer ≡ 257 → places_ok (length t) (take (16 * length t) row) nulls ≡ true
  pub nothing : answer ≡ 256 → (r : Row) → IsRowWith t (aexpr_at rs p used) root r → passes_with text rs p used root r ≡ true → ⊥
  pub size : length row ≡ length old
  pub behind : (i : ℕ) → 16 * length t ≤ i → get_or row i 0 ≡ get_or old i 0
  pub untouched : answer < 257 → row ≡ old
