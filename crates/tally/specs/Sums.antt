-- The three sums of a tally, and how they grow: document 02, 2.14.
use Rattle.std.specs.Prelude.{ℕ, ◌+◌, ◌^◌, Bool, cond, ◌&&◌, ltb}
use Rattle.tally.specs.declared.Tally.{Tally}

-- x and y together are 64 bits unsigned.
abbrev pub fits : ℕ → ℕ → Bool
fits x y = ltb (x + y) (2 ^ 64)

-- "The three sums grow by exactly the rows of the chain in each class."
unfoldable pub grown : Tally → ℕ → ℕ → ℕ → Tally
grown t passed is_false unknown = record {
  passed = t.passed + passed;
  is_false = t.is_false + is_false;
  unknown = t.unknown + unknown;
}

-- No sum of the tally, nor false and unknown together, "would pass 64 bits unsigned"; else 21.
unfoldable pub sums_fit : Tally → ℕ → ℕ → ℕ → Bool
sums_fit t passed is_false unknown =
    fits t.passed passed &&
    (fits t.is_false is_false &&
    (fits t.unknown unknown && fits (t.is_false + is_false) (t.unknown + unknown)))

-- The tally afterwards. "A refused chain adds nothing."
unfoldable pub added : Tally → ℕ → ℕ → ℕ → Tally
added t passed is_false unknown = cond (sums_fit t passed is_false unknown) (grown t passed is_false unknown) t
