-- The row test depends on comparisons alone: where keys are taken to keys that all compare alike, every record keeps its
-- truth (`truth-kept`); so it does of two ordered types whose keys are those of common places (`same-truths`). This is
-- the case of one kind (SameWithin), where nothing is asked of the records but of divisions. Assumes nothing.
use mathlib.Core.Path.{◌≡◌, refl, sym, ◌∙◌}
use mathlib.Core.List.{List, [], ◌∷◌}
use mathlib.Core.Option.{Option, none, some, map}
use Prim.Native.Nat.{ℕ}
use Rattle.truth.specs.Order.{Order}
use Rattle.truth.specs.AExpr.{AExpr, Column, Literal, Null, BinaryExpr, Not, IsNull, IsNotNull, IsBetween}
use Rattle.truth.specs.AExpr.{ListLiteral, IsIn, Missing}
use Rattle.truth.specs.AExpr.{Compare, EqValidity, NotEqValidity, FloorDivide, Modulus, And, Or, Xor}
use Rattle.truth.specs.AExpr.{LogicalAnd, LogicalOr}
use Rattle.truth.specs.Cell.{TruthKeys, truth_at}
use Rattle.truth.proofs.SameWithin.{KeepsWithin, KeyOf, ValuesOf, RecordOf, truth-within}
use Rattle.truth.specs.AExpr.{map_aexpr}

-- Keys are taken by u, and values by f, to those of another ordered type that compare alike.
pub record Keeps {K L A B : Type 0} (key : A → K) {O : Order K} (tk : TruthKeys O) (key' : B → L) {P : Order L}
    (tk' : TruthKeys P) (u : K → L) (f : A → B) : Type 0 where
  pub keys : (v : A) → u (key v) ≡ key' (f v)
  pub compares : (a b : K) → O.cmp a b ≡ P.cmp (u a) (u b)
  pub false-key : u tk.false_key ≡ tk'.false_key
  pub true-key : u tk.true_key ≡ tk'.true_key

module _ {K L A B : Type 0} {key : A → K} {O : Order K} {tk : TruthKeys O} {key' : B → L} {P : Order L}
    {tk' : TruthKeys P} {u : K → L} {f : A → B} (E : Keeps key tk key' tk' u f) where
  abbrev one : {X : Type 0} → X → Unit {0}
  one x = tt

  abbrev within : KeepsWithin {T = Unit {0}} one key tk key' tk' u f
  within =
      record {
        keys = E.keys;
        compares = λ a b e. E.compares a b;
        false-key = E.false-key;
        true-key = E.true-key;
        truths = refl;
      }

  any-key : (x : Option K) → KeyOf within tt x
  any-key none = tt
  any-key (some a) = refl

  any-values : (l : List A) → ValuesOf within tt l
  any-values [] = tt
  any-values (v ∷ l) = (refl, any-values l)

  -- Divisions correspond, if there is one.
  abbrev pub DivisionsKept : AExpr A → Type 0
  DivisionsKept r =
      ((x y : ℕ) → r ≡ BinaryExpr FloorDivide x y →
      (a b : K) → map u (tk.floor_divide a b) ≡ tk'.floor_divide (u a) (u b))
      × ((x y : ℕ) → r ≡ BinaryExpr Modulus x y →
      (a b : K) → map u (tk.modulus a b) ≡ tk'.modulus (u a) (u b))

  any-record : (r : AExpr A) → DivisionsKept r → RecordOf within one one tt r
  any-record (Column c) h = refl
  any-record (Literal v) h = refl
  any-record Null h = tt
  any-record (BinaryExpr (Compare c) x y) h = (refl, refl)
  any-record (BinaryExpr EqValidity x y) h = (refl, refl)
  any-record (BinaryExpr NotEqValidity x y) h = (refl, refl)
  any-record (BinaryExpr FloorDivide x y) h = λ a b i j. (h.0 x y refl a b, any-key (tk.floor_divide a b))
  any-record (BinaryExpr Modulus x y) h = λ a b i j. (h.1 x y refl a b, any-key (tk.modulus a b))
  any-record (BinaryExpr And x y) h = (refl, refl, refl)
  any-record (BinaryExpr Or x y) h = (refl, refl, refl)
  any-record (BinaryExpr Xor x y) h = (refl, refl, refl)
  any-record (BinaryExpr LogicalAnd x y) h = (refl, refl, refl)
  any-record (BinaryExpr LogicalOr x y) h = (refl, refl, refl)
  any-record (Not x) h = (refl, refl)
  any-record (IsNull x) h = refl
  any-record (IsNotNull x) h = refl
  any-record (IsBetween c d x y z) h = (refl, refl, refl)
  any-record (ListLiteral m l) h = any-values l
  any-record (IsIn e x y) h = (refl, refl)
  any-record Missing h = tt

  pub truth-kept : (R : ℕ → AExpr A) → ((n : ℕ) → DivisionsKept (R n)) → (row : ℕ → Option K) (n : ℕ) →
      truth_at key O tk R row n ≡ truth_at key' P tk' (λ a. map_aexpr f (R a)) (λ c. map u (row c)) n
  truth-kept R h row n =
      truth-within within one one R (λ a. any-record (R a) (h a)) row (λ c. any-key (row c)) n refl

-- ---- Two ordered types whose keys are those of common places.
module _ {J K L A B C : Type 0} {place : A → J} {O₀ : Order J} {tk₀ : TruthKeys O₀}
    {key : B → K} {O : Order K} {tk : TruthKeys O} {u : J → K} {f : A → B} (F : Keeps place tk₀ key tk u f)
    {key' : C → L} {P : Order L} {tk' : TruthKeys P} {v : J → L} {g : A → C} (G : Keeps place tk₀ key' tk' v g) where
  pub same-truths : (R : ℕ → AExpr A) → ((n : ℕ) → DivisionsKept F (R n)) → ((n : ℕ) → DivisionsKept G (R n)) →
      (row : ℕ → Option J) (n : ℕ) →
      truth_at key O tk (λ a. map_aexpr f (R a)) (λ c. map u (row c)) n ≡
      truth_at key' P tk' (λ a. map_aexpr g (R a)) (λ c. map v (row c)) n
  same-truths R h k row n = sym (truth-kept F R h row n) ∙ truth-kept G R k row n
