-- Sets of places as bits: the set at word `at` has place p if bit p % 64 of word at + p / 64 is set.
use Rattle.std.specs.Prelude.{◌≡◌, Bool, true, false, ◌||◌, List, ℕ, ◌+◌, ◌/◌, ◌%◌, ◌<◌, eqb, get_or}
use Rattle.checking.specs.Columns.{bit}

abbrev pub member : List ℕ → ℕ → ℕ → Bool
member sets at p = bit (get_or sets (at + p / 64) 0) (p % 64)

-- one place more; every other word is as before
pub record Put (before after : List ℕ) (at place : ℕ) : Type 0 where
  pub put : (p : ℕ) → member after at p ≡ (member before at p || eqb place p)
  pub kept : (q : ℕ) → (q ≡ at + place / 64 → ⊥) → get_or after q 0 ≡ get_or before q 0

-- a place that both sets have
pub record Common (one : List ℕ) (at : ℕ) (other : List ℕ) (from : ℕ) : Type 0 where
  pub place : ℕ
  pub below : place < 128
  pub here : member one at place ≡ true
  pub there : member other from place ≡ true

-- a place of the first set that the second has not
pub record Missing (one : List ℕ) (at : ℕ) (other : List ℕ) (from : ℕ) : Type 0 where
  pub place : ℕ
  pub below : place < 128
  pub here : member one at place ≡ true
  pub lacks : member other from place ≡ false

-- whether two sets of 128 places have one in common
pub record Meets (one : List ℕ) (at : ℕ) (other : List ℕ) (from : ℕ) (r : Bool) : Type 0 where
  pub some : r ≡ true → Common one at other from
  pub none : r ≡ false → (p : ℕ) → p < 128 → member one at p ≡ true → member other from p ≡ false

-- whether the second of two sets of 128 places has every place of the first
pub record Within (one : List ℕ) (at : ℕ) (other : List ℕ) (from : ℕ) (r : Bool) : Type 0 where
  pub every : r ≡ true → (p : ℕ) → p < 128 → member one at p ≡ true → member other from p ≡ true
  pub some : r ≡ false → Missing one at other from
