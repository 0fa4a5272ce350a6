-- Demand 1: every call ends in an answer that document 01, or a request of 02, lists for it, refusals first; for rewriting
-- see rewrite_promise.
use Rattle.std.specs.Prelude.{ℕ, Bool, [], ◌∷◌}
use Rattle.listed.specs.Listed.{listed}

-- 02, 2.13: the slowest screen is refused with 19, then 11
abbrev pub slowest_listed : ℕ → Bool
slowest_listed r = listed (19 ∷ 11 ∷ 256 ∷ []) r
