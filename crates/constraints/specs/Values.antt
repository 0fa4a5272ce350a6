-- Sets of values, as lists in order of insertion; a value is in a list when its key is.
use Rattle.std.specs.Prelude.{Bool, true, false, ◌&&◌, cond, List, [], ◌∷◌, ◌++◌}
use Rattle.truth.specs.Membership.{mem}
use Rattle.constraints.specs.Scalars.{Scalars}

abbrev pub is_empty : {A : Type 0} → List A → Bool
is_empty [] = true
is_empty (x ∷ l) = false

module _ {K Val : Type 0} (S : Scalars K Val) where
  -- Some value of the list has the key k.
  abbrev pub contains : K → List Val → Bool
  contains k l = mem S.key S.order k l

  -- `insert`: behind the others, unless an equal value is there, which then stays.
  abbrev pub insert : Val → List Val → List Val
  insert v l = cond (contains (S.key v) l) l (l ++ (v ∷ []))

  -- `extend`: the values of the second list inserted into the first, one by one.
  abbrev pub extend : List Val → List Val → List Val
  extend l [] = l
  extend l (v ∷ m) = extend (insert v l) m

  -- `retain`: of the second list, the values that the first contains.
  abbrev pub retain : List Val → List Val → List Val
  retain m [] = []
  retain m (v ∷ l) = cond (contains (S.key v) m) (v ∷ retain m l) (retain m l)

  -- Every value of the first list is in the second.
  abbrev pub subset : List Val → List Val → Bool
  subset [] m = true
  subset (v ∷ l) m = contains (S.key v) m && subset l m
