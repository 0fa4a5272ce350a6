-- Each arm of the match on a line, from what is read of it and what its column's place answers.
-- Assumes nothing.
use mathlib.Core.Path.{◌≡◌, sym, ◌∙◌, ap, subst}
use mathlib.Core.Bool.{Bool, false}
use mathlib.Core.List.{List}
use mathlib.Core.Option.{Option}
use Prim.Native.Nat.{ℕ}
use lib.IntN.{ℤ}
use Rattle.records.specs.declared.record.Column.{Column}
use Rattle.merge.specs.Classify as c
use Rattle.read_operands.specs.Read.{says_in, conjunct_in}
use Rattle.read_operands.specs.declared.operands.Conjunct.{Conjunct}
use Rattle.read_operands.specs.declared.operands.Conjunct.TheVariants as conjunct
use Rattle.read_operands.specs.declared.operands.Says.{Says}
use Rattle.reading.specs.Columns.{ColumnsBelow}
use Rattle.places.specs.Held.{place_in}
use Rattle.check_row.proofs.Meeting.{CodePlace}
use Rattle.check_row.specs.Line.{meets_all, same_keys, line_true}

-- k is the line read, and stands for x.
module _ (p : List ℕ) (n : ℕ) (k : Conjunct) (x : c.Conjunct ℕ) (read : conjunct_in p n k ≡ x) where
  pub below : (a : Conjunct) → k ≡ a → ColumnsBelow 64 x → ColumnsBelow 64 (conjunct_in p n a)
  below a e h = subst (ColumnsBelow 64) (sym read ∙ ap (conjunct_in p n) e) h

  module _ (row : ℕ → Option ℤ) where
    arm : (a : Conjunct) (b : Bool) → k ≡ a → b ≡ line_true row (conjunct_in p n a) → b ≡ line_true row x
    arm a b e h = h ∙ ap (line_true row) (sym (ap (conjunct_in p n) e) ∙ read)

    said : (s : Says) (y : CodePlace) (z : Option ℤ) (b : Bool) → place_in y ≡ z → b ≡ meets_all (says_in p s) (place_in y)
        → b ≡ meets_all (says_in p s) z
    said s y z b f h = h ∙ ap (meets_all (says_in p s)) f

    pub bounds-true : (a : Column) (s : Says) (y : CodePlace) (b : Bool) → k ≡ conjunct.Bounds a s → place_in y ≡ row a.0
        → b ≡ meets_all (says_in p s) (place_in y) → b ≡ line_true row x
    bounds-true a s y b e f h = arm (conjunct.Bounds a s) b e (said s y (row a.0) b f h)

    pub normalized-true : (a : Column) (s : Says) (y : CodePlace) (b : Bool) → k ≡ conjunct.Normalized a s
        → place_in y ≡ row a.0 → b ≡ meets_all (says_in p s) (place_in y) → b ≡ line_true row x
    normalized-true a s y b e f h = arm (conjunct.Normalized a s) b e (said s y (row a.0) b f h)

    pub recorded-true : (stops : Bool) (a : Column) (s : Says) (y : CodePlace) (b : Bool) → k ≡ conjunct.Recorded stops a s
        → place_in y ≡ row a.0 → b ≡ meets_all (says_in p s) (place_in y) → b ≡ line_true row x
    recorded-true stops a s y b e f h = arm (conjunct.Recorded stops a s) b e (said s y (row a.0) b f h)

    pub equality_true : (a d : Column) (y z : CodePlace) (b : Bool) → k ≡ conjunct.Equality a d → place_in y ≡ row a.0
        → place_in z ≡ row d.0 → b ≡ same_keys (place_in y) (place_in z) → b ≡ line_true row x
    equality_true a d y z b e f g h =
        arm (conjunct.Equality a d) b e
        (h ∙ ap (λ u. same_keys u (place_in z)) f ∙ ap (same_keys (row a.0)) g)

    pub pair_false : (a d : Column) → k ≡ conjunct.NonNullPair a d → false ≡ line_true row x
    pair_false a d e = sym (ap (line_true row) (sym read ∙ ap (conjunct_in p n) e))

    pub opaque-false : k ≡ conjunct.Opaque → false ≡ line_true row x
    opaque-false e = sym (ap (line_true row) (sym read ∙ ap (conjunct_in p n) e))
