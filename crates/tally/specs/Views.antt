-- The two views of a tally: document 02, 2.14. An out-parameter that an answer does not set keeps its value.
use Rattle.std.specs.Prelude.{◌≡◌, ℕ, ◌+◌, Bool, cond}
use Rattle.tally.specs.declared.Tally.{Tally}
use Rattle.tally.specs.Sums.{fits}

-- False and unknown together are 64 bits.
abbrev pub showable : Tally → Bool
showable t = fits t.is_false t.unknown

-- "The trader's view shows passed and not passed": the answer is 256, and the two numbers that stood there become these; or
-- 21, "if .. false and unknown together, would pass 64 bits unsigned", and they stay.
abbrev pub TraderView : Tally → ℕ → ℕ → ℕ → ℕ → ℕ → Type 0
TraderView t answer old_passed passed old_not_passed not_passed =
    (answer ≡ cond (showable t) 256 21) × (passed ≡ cond (showable t) t.passed old_passed)
    × (not_passed ≡ cond (showable t) (t.is_false + t.unknown) old_not_passed)

-- "the risk view splits the latter": always 256.
abbrev pub RiskView : Tally → ℕ → ℕ → ℕ → ℕ → Type 0
RiskView t answer passed is_false unknown =
    (answer ≡ 256) × (passed ≡ t.passed) × (is_false ≡ t.is_false) × (unknown ≡ t.unknown)
