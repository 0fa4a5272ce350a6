-- The whole parts of a row that is shown have 64 bits.
use Rattle.std.specs.Prelude.{List, ℕ, ◌<◌, ◌^◌, length}
use Rattle.truth.specs.AExpr.{AExpr}
use Rattle.truth.specs.FromBytes.{aexpr_at}
use Rattle.merge.specs.Minterms.{minterms}
use Rattle.row_shown.specs.Shown.{place_shown}
use Rattle.show_row.specs.ShowAnswer.{ShowAnswer}
use Rattle.show_row.specs.ShowAnswer as show
use Rattle.show_row.specs.Answer.{collected_of}

abbrev pub LowWholes : ShowAnswer → (ℕ → AExpr ℕ) → List ℕ → ℕ → Type 0
LowWholes (show.Refused k) R nodes columns = Unit {0}
LowWholes show.NoRow R nodes columns = Unit {0}
LowWholes (show.Row nulls) R nodes columns = (c : ℕ) → c < columns → (place_shown (collected_of R nodes) c).whole < 2 ^ 64

-- The same of a screen.
abbrev pub LowShown : ShowAnswer → List ℕ → List ℕ → List ℕ → ℕ → ℕ → Type 0
LowShown a t rs p used root = LowWholes a (aexpr_at rs p used) (minterms (aexpr_at rs p used) root) (length t)
