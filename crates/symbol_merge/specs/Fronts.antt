-- The list l with the first k entries of a in front, in the place of its own.
use Rattle.std.specs.Prelude.{List, [], ◌∷◌, ℕ, zero, suc}

unfoldable pub fronted : ℕ → List ℕ → List ℕ → List ℕ
fronted zero a l = l
fronted (suc k) [] l = l
fronted (suc k) (x ∷ a) [] = []
fronted (suc k) (x ∷ a) (y ∷ l) = x ∷ fronted k a l
