-- Demand 1: a call that rewrites ends in an answer that document 01, or a request of 02, lists for it. This is the list of
-- 01's 'Answers by operation' and of the requests, refusals first.
use Rattle.std.specs.Prelude.{ℕ, Bool, List, [], ◌∷◌, ◌++◌}
use Rattle.listed.specs.Listed.{listed, check_refusals}

-- "Rewriting: as checking; 8 ..; 9 ..; 11 .. Else unchanged, nothing passes, or rewritten"; 10 is unused (2.11), and 16
-- comes after 11 (2.6)
abbrev pub rewrite_answers : List ℕ
rewrite_answers = 8 ∷ 9 ∷ 11 ∷ 16 ∷ 256 ∷ 257 ∷ 258 ∷ []

abbrev pub rewrite_listed : ℕ → Bool
rewrite_listed r = listed (check_refusals ++ rewrite_answers) r
