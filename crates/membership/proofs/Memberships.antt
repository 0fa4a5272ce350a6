-- The list rule of the standard, a fold, is the short one that the code computes.
-- Assumes nothing.
use mathlib.Core.Path.{◌≡◌, refl, ◌∙◌, ap}
use mathlib.Core.Bool.{Bool, true, false, ◌||◌}
use mathlib.Core.List.{List, [], ◌∷◌}
use mathlib.Core.Option.{Option, none, some}
use Rattle.three_valued.specs.declared.logic.Truth.{Truth}
use Rattle.three_valued.specs.declared.logic.Truth.TheVariants.{False, Unknown, True}
use Rattle.truth.specs.Order.{Order, is_equal}
use Rattle.truth.specs.Comparison.{Eq}
use Rattle.three_valued.specs.Logic.{or3, of_bool}
use Rattle.truth.specs.Membership.{entries, equal3, any_equal3, mem, in3, null_in3, known_in3}
use Rattle.truth.specs.Cell.{TruthKeys, compare3}

-- The list has no value.
abbrev pub is_empty : {A : Type 0} → List A → Bool
is_empty [] = true
is_empty (v ∷ values) = false

-- x = v OR what the others say
or_known : (h b m : Bool) → or3 (of_bool b) (known_in3 false h m) ≡ known_in3 false h (b || m)
unfolding known_in3
or_known true true true = refl
or_known true true false = refl
or_known true false true = refl
or_known true false false = refl
or_known false true true = refl
or_known false true false = refl
or_known false false true = refl
or_known false false false = refl

known-equal : (h b : Bool) → of_bool b ≡ known_in3 true h b
unfolding known_in3
known-equal h true = refl
known-equal h false = refl

or_null : (h e : Bool) → or3 Unknown (null_in3 false h e) ≡ Unknown
unfolding null_in3
or_null true e = refl
or_null false true = refl
or_null false false = refl

null_more : (h : Bool) → Unknown ≡ null_in3 false h false
unfolding null_in3
null_more true = refl
null_more false = refl

module _ {K Val : Type 0} (key : Val → K) (O : Order K) where
  -- The = of the list rule is the row test's.
  pub equal-compared : (tk : TruthKeys O) (x y : Option K) → compare3 key O tk Eq x y ≡ equal3 key O x y
  equal-compared tk none y = refl
  equal-compared tk (some a) none = refl
  equal-compared tk (some a) (some b) = refl

  any-known : (h : Bool) (values : List Val) (k : K) →
      any_equal3 key O (some k) (entries key O h values) ≡ known_in3 false h (mem key O k values)
  unfolding known_in3
  any-known true [] k = refl
  any-known false [] k = refl
  any-known h (v ∷ values) k =
      ap (or3 (of_bool (is_equal (O.cmp k (key v))))) (any-known h values k) ∙
      or_known h (is_equal (O.cmp k (key v))) (mem key O k values)

  any-null : (h : Bool) (values : List Val) →
      any_equal3 key O none (entries key O h values) ≡ null_in3 false h (is_empty values)
  unfolding null_in3
  any-null true [] = refl
  any-null false [] = refl
  any-null h (v ∷ values) = ap (or3 Unknown) (any-null h values) ∙ or_null h (is_empty values) ∙ null_more h

  -- Of a value and of a null, for every list.
  pub in3-known : (e h : Bool) (values : List Val) (k : K) → in3 key O e h values (some k) ≡ known_in3 e h (mem key O k
      values)
  in3-known false h values k = any-known h values k
  in3-known true h values k = known-equal h (mem key O k values)

  pub in3-null : (e h : Bool) (values : List Val) → in3 key O e h values none ≡ null_in3 e h (is_empty values)
  unfolding null_in3
  in3-null false h values = any-null h values
  in3-null true h values = refl
