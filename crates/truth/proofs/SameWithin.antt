-- The row test of records each of one kind: a screen with values of several types compares no two of different types, so
-- where keys are taken to keys that compare alike only within a kind, every record that is a truth keeps it
-- (`truth-within`). So it does of two ordered types whose keys are those of common places (`same-truths_within`): a
-- screen of numbers and symbols, and one of numbers and ranks (02, 2.10). Assumes nothing.
use mathlib.Core.Path.{◌≡◌, refl, sym, ◌∙◌, ap, subst}
use mathlib.Core.Bool.{Bool, true, false, not, cond}
use mathlib.Core.List.{List, [], ◌∷◌, map}
use mathlib.Core.Option
use mathlib.Core.Option.{Option, none, some}
use Prim.Native.Nat.{ℕ, zero, suc}
use lib.Dec.{eqb}
use borrow.Author.Tests.{eqb-true}
use Rattle.records.specs.Course.{up_to, course}
use Rattle.three_valued.specs.declared.logic.Truth.{Truth}
use Rattle.three_valued.specs.declared.logic.Truth.TheVariants.{False, Unknown, True}
use Rattle.three_valued.specs.Logic.{and3, or3, xor3, not3, of_bool}
use Rattle.truth.specs.Order.{Order, is_equal}
use Rattle.truth.specs.Comparison.{Comparison, comparison_holds}
use Rattle.truth.specs.AExpr.{map_aexpr, AExpr, Column, Literal, Null, BinaryExpr, Not, IsNull, IsNotNull, IsBetween}
use Rattle.truth.specs.AExpr.{ListLiteral, IsIn, Missing}
use Rattle.truth.specs.AExpr.{BinaryOp, Compare, EqValidity, NotEqValidity, FloorDivide, Modulus, And, Or, Xor}
use Rattle.truth.specs.AExpr.{LogicalAnd, LogicalOr}
use Rattle.truth.specs.Membership.{entries, equal3, any_equal3, mem, in3}
use Rattle.truth.specs.Cell.{TruthKeys, Cell, no_cell, is_null, low_comparison, high_comparison, value_of_truth}
use Rattle.truth.specs.Cell.{truth_of_value, compare3, same_value, divided, truth_cell, value_cell, step, truth_at}

-- Records with each of their values taken to another one.
-- Answers by course of values that are related wherever those below are.
module _ {A B : Type 0} (R : ℕ → A → B → Type 0) (z : ℕ → A) (w : ℕ → B) (f : (ℕ → A) → ℕ → A) (g : (ℕ → B) → ℕ → B)
    (start : (a : ℕ) → R a (z a) (w a))
    (same : (n : ℕ) (C : ℕ → A) (D : ℕ → B) → ((a : ℕ) → R a (C a) (D a)) → R n (f C n) (g D n)) where
  up_to-related : (n a : ℕ) → R a (up_to z f n a) (up_to w g n a)
  unfolding up_to
  up_to-related zero a = start a
  up_to-related (suc n) a = go (eqb a n) refl (λ i. up_to-related n i)
    where
      go : (b : Bool) → eqb a n ≡ b → ((i : ℕ) → R i (up_to z f n i) (up_to w g n i)) →
          R a (cond b (f (λ i. up_to z f n i) n) (up_to z f n a)) (cond b (g (λ i. up_to w g n i) n) (up_to w g n a))
      go true e ih = subst (λ m. R m (f (λ i. up_to z f n i) n) (g (λ i. up_to w g n i) n)) (sym (eqb-true a n e))
          (same n (λ i. up_to z f n i) (λ i. up_to w g n i) ih)
      go false e ih = ih a

  course-related : (n : ℕ) → R n (course z f n) (course w g n)
  unfolding course
  course-related n = up_to-related (suc n) n

-- Keys are taken by u, and values by f, to those of another ordered type; keys of one kind compare alike.
pub record KeepsWithin {K L A B T : Type 0} (kind : K → T) (key : A → K) {O : Order K} (tk : TruthKeys O) (key' : B → L)
    {P : Order L} (tk' : TruthKeys P) (u : K → L) (f : A → B) : Type 0 where
  pub keys : (v : A) → u (key v) ≡ key' (f v)
  pub compares : (a b : K) → kind a ≡ kind b → O.cmp a b ≡ P.cmp (u a) (u b)
  pub false-key : u tk.false_key ≡ tk'.false_key
  pub true-key : u tk.true_key ≡ tk'.true_key
  -- false is of true's kind
  pub truths : kind tk.false_key ≡ kind tk.true_key

module _ {K L A B T : Type 0} {kind : K → T} {key : A → K} {O : Order K} {tk : TruthKeys O} {key' : B → L}
    {P : Order L} {tk' : TruthKeys P} {u : K → L} {f : A → B} (E : KeepsWithin kind key tk key' tk' u f) where
  -- ---- Kinds.
  abbrev truth : T
  truth = kind tk.true_key

  -- null, or a key of kind k; values of kind k
  abbrev pub KeyOf : T → Option K → Type 0
  KeyOf k none = Unit {0}
  KeyOf k (some a) = kind a ≡ k

  abbrev pub ValuesOf : T → List A → Type 0
  ValuesOf k [] = Unit {0}
  ValuesOf k (v ∷ l) = (kind (key v) ≡ k) × ValuesOf k l

  -- divisions of keys of two kinds correspond, and give keys of kind k
  abbrev pub DivisionOf : T → T → T → (K → K → Option K) → (L → L → Option L) → Type 0
  DivisionOf k i j d e =
      (a b : K) → kind a ≡ i → kind b ≡ j → (Option.map u (d a b) ≡ e (u a) (u b)) × KeyOf k (d a b)

  module _ (column_kind record_kind : ℕ → T) where
    abbrev pub BinaryOf : T → T → T → BinaryOp → Type 0
    BinaryOf k i j (Compare c) = (i ≡ j) × (k ≡ truth)
    BinaryOf k i j EqValidity = (i ≡ j) × (k ≡ truth)
    BinaryOf k i j NotEqValidity = (i ≡ j) × (k ≡ truth)
    BinaryOf k i j FloorDivide = DivisionOf k i j tk.floor_divide tk'.floor_divide
    BinaryOf k i j Modulus = DivisionOf k i j tk.modulus tk'.modulus
    BinaryOf k i j And = (i ≡ truth) × (j ≡ truth) × (k ≡ truth)
    BinaryOf k i j Or = (i ≡ truth) × (j ≡ truth) × (k ≡ truth)
    BinaryOf k i j Xor = (i ≡ truth) × (j ≡ truth) × (k ≡ truth)
    BinaryOf k i j LogicalAnd = (i ≡ truth) × (j ≡ truth) × (k ≡ truth)
    BinaryOf k i j LogicalOr = (i ≡ truth) × (j ≡ truth) × (k ≡ truth)

    -- the record r is of kind k, by the kinds of its inputs
    abbrev pub RecordOf : T → AExpr A → Type 0
    RecordOf k (Column c) = column_kind c ≡ k
    RecordOf k (Literal v) = kind (key v) ≡ k
    RecordOf k Null = Unit {0}
    RecordOf k (BinaryExpr op x y) = BinaryOf k (record_kind x) (record_kind y) op
    RecordOf k (Not x) = (record_kind x ≡ truth) × (k ≡ truth)
    RecordOf k (IsNull x) = k ≡ truth
    RecordOf k (IsNotNull x) = k ≡ truth
    RecordOf k (IsBetween c d x y z) =
        (record_kind x ≡ record_kind y) × (record_kind x ≡ record_kind z) × (k ≡ truth)
    RecordOf k (ListLiteral m l) = ValuesOf k l
    RecordOf k (IsIn e x y) = (record_kind x ≡ record_kind y) × (k ≡ truth)
    RecordOf k Missing = Unit {0}

  -- ---- Values of one kind.
  compare3-within : (c : Comparison) (i j : T) → i ≡ j → (x y : Option K) → KeyOf i x → KeyOf j y →
      compare3 key O tk c x y ≡ compare3 key' P tk' c (Option.map u x) (Option.map u y)
  compare3-within c i j e none y h g = refl
  compare3-within c i j e (some a) none h g = refl
  compare3-within c i j e (some a) (some b) h g = λ n. of_bool (comparison_holds c (E.compares a b (h ∙ e ∙ sym g) n))

  same_value-within : (i j : T) → i ≡ j → (x y : Option K) → KeyOf i x → KeyOf j y →
      same_value key O tk x y ≡ same_value key' P tk' (Option.map u x) (Option.map u y)
  same_value-within i j e none none h g = refl
  same_value-within i j e none (some b) h g = refl
  same_value-within i j e (some a) none h g = refl
  same_value-within i j e (some a) (some b) h g = λ n. is_equal (E.compares a b (h ∙ e ∙ sym g) n)

  truth_of_value-within : (x : Option K) → KeyOf truth x →
      truth_of_value key O tk x ≡ truth_of_value key' P tk' (Option.map u x)
  truth_of_value-within none h = refl
  truth_of_value-within (some a) h = rw (E.compares a tk.true_key h, E.true-key)

  is_null-within : (x : Option K) → is_null x ≡ is_null (Option.map u x)
  is_null-within none = refl
  is_null-within (some a) = refl

  module _ (k i j : T) (d : K → K → Option K) (e : L → L → Option L) (q : DivisionOf k i j d e) where
    divided-within : (x y : Option K) → KeyOf i x → KeyOf j y →
        Option.map u (divided key O tk d x y) ≡ divided key' P tk' e (Option.map u x) (Option.map u y)
    divided-within none y h g = refl
    divided-within (some a) none h g = refl
    divided-within (some a) (some b) h g = (q a b h g).0

    divided-of : (x y : Option K) → KeyOf i x → KeyOf j y → KeyOf k (divided key O tk d x y)
    divided-of none y h g = tt
    divided-of (some a) none h g = tt
    divided-of (some a) (some b) h g = (q a b h g).1

  -- ---- Lists.
  equal3-within : (x y : Option K) (k : T) → KeyOf k x → KeyOf k y →
      equal3 key O x y ≡ equal3 key' P (Option.map u x) (Option.map u y)
  equal3-within none y k h g = refl
  equal3-within (some a) none k h g = refl
  equal3-within (some a) (some b) k h g = λ n. of_bool (is_equal (E.compares a b (h ∙ sym g) n))

  any_equal3-within : (k : T) (x : Option K) → KeyOf k x → (m : Bool) (l : List A) → ValuesOf k l →
      any_equal3 key O x (entries key O m l) ≡ any_equal3 key' P (Option.map u x) (entries key' P m (map f l))
  any_equal3-within k x h false [] g = refl
  any_equal3-within k x h true [] g = λ n. or3 (equal3-within x none k h tt n) False
  any_equal3-within k x h m (v ∷ l) g =
      (λ n. or3 (equal3-within x (some (key v)) k h g.0 n) (any_equal3-within k x h m l g.1 n)) ∙
      ap (λ b. or3 (equal3 key' P (Option.map u x) (some b))
      (any_equal3 key' P (Option.map u x) (entries key' P m (map f l)))) (E.keys v)

  mem-within : (a : K) (l : List A) → ValuesOf (kind a) l → mem key O a l ≡ mem key' P (u a) (map f l)
  mem-within a [] g = refl
  mem-within a (v ∷ l) g = rw (E.compares a (key v) (sym g.0), E.keys v, mem-within a l g.1)

  in3-within : (k : T) (e m : Bool) (l : List A) (x : Option K) → KeyOf k x → ValuesOf k l →
      in3 key O e m l x ≡ in3 key' P e m (map f l) (Option.map u x)
  in3-within k false m l x h g = any_equal3-within k x h m l g
  in3-within k true m l none h g = refl
  in3-within k true m l (some a) h g = λ n. of_bool (mem-within a l (subst (λ j. ValuesOf j l) (sym h) g) n)

  -- ---- Cells.
  -- of kind k, with the same value, list, and, where it is a truth, truth
  pub record CellsOf (k : T) (C : Cell K A) (D : Cell L B) : Type 0 where
    pub same_truth : k ≡ truth → C.truth ≡ D.truth
    pub value : Option.map u C.value ≡ D.value
    pub holds : C.holds_null ≡ D.holds_null
    pub values : map f C.values ≡ D.values
    pub keyed : KeyOf k C.value
    pub listed : ValuesOf k C.values

  no_cells_of : (k : T) → CellsOf k no_cell no_cell
  no_cells_of k =
      record { same_truth = λ e. refl; value = refl; holds = refl; values = refl; keyed = tt; listed = tt }

  truth_cells_of : (k : T) {s t : Truth} → k ≡ truth → s ≡ t → CellsOf k (truth_cell key O tk s) (truth_cell key' P tk' t)
  truth_cells_of k {s} {t} h e =
      record {
        same_truth = λ _. e;
        value = taken s ∙ ap (value_of_truth key' P tk') e;
        holds = refl;
        values = refl;
        keyed = subst (λ j. KeyOf j (value_of_truth key O tk s)) (sym h) (of_truth_lem s);
        listed = tt;
      }
    where
      taken : (t : Truth) → Option.map u (value_of_truth key O tk t) ≡ value_of_truth key' P tk' t
      taken False = λ i. some (E.false-key i)
      taken Unknown = refl
      taken True = λ i. some (E.true-key i)

      of_truth_lem : (t : Truth) → KeyOf truth (value_of_truth key O tk t)
      of_truth_lem False = E.truths
      of_truth_lem Unknown = tt
      of_truth_lem True = refl

  value_cells_of : (k : T) (x : Option K) {y : Option L} → KeyOf k x → Option.map u x ≡ y →
      CellsOf k (value_cell key O tk x) (value_cell key' P tk' y)
  value_cells_of k x h e =
      record {
        same_truth = λ t. truth_of_value-within x (subst (λ j. KeyOf j x) t h) ∙ ap (truth_of_value key' P tk') e;
        value = e;
        holds = refl;
        values = refl;
        keyed = h;
        listed = tt;
      }

  -- ---- Records.
  module _ (column_kind record_kind : ℕ → T) (row : ℕ → Option K) (typed : (c : ℕ) → KeyOf (column_kind c) (row c))
      (C : ℕ → Cell K A) (D : ℕ → Cell L B) (h : (a : ℕ) → CellsOf (record_kind a) (C a) (D a)) where
    compared : (c : Comparison) (x y : ℕ) → record_kind x ≡ record_kind y →
        compare3 key O tk c (C x).value (C y).value ≡ compare3 key' P tk' c (D x).value (D y).value
    compared c x y e =
        compare3-within c (record_kind x) (record_kind y) e (C x).value (C y).value (h x).keyed (h y).keyed
        ∙ (λ i. compare3 key' P tk' c ((h x).value i) ((h y).value i))

    same-value : (x y : ℕ) → record_kind x ≡ record_kind y →
        same_value key O tk (C x).value (C y).value ≡ same_value key' P tk' (D x).value (D y).value
    same-value x y e =
        same_value-within (record_kind x) (record_kind y) e (C x).value (C y).value (h x).keyed (h y).keyed
        ∙ (λ i. same_value key' P tk' ((h x).value i) ((h y).value i))

    is_null_lem : (x : ℕ) → is_null (C x).value ≡ is_null (D x).value
    is_null_lem x = is_null-within (C x).value ∙ ap is_null (h x).value

    quotient : (k : T) (x y : ℕ) (d : K → K → Option K) (e : L → L → Option L) →
        DivisionOf k (record_kind x) (record_kind y) d e →
        CellsOf k (value_cell key O tk (divided key O tk d (C x).value (C y).value))
        (value_cell key' P tk' (divided key' P tk' e (D x).value (D y).value))
    quotient k x y d e q =
        value_cells_of k (divided key O tk d (C x).value (C y).value)
        (divided-of k (record_kind x) (record_kind y) d e q (C x).value (C y).value (h x).keyed (h y).keyed)
        (divided-within k (record_kind x) (record_kind y) d e q (C x).value (C y).value (h x).keyed (h y).keyed
        ∙ (λ i. divided key' P tk' e ((h x).value i) ((h y).value i)))

    -- two truths joined
    joined : (k : T) (x y : ℕ) (o : Truth → Truth → Truth) →
        (record_kind x ≡ truth) × (record_kind y ≡ truth) × (k ≡ truth) →
        CellsOf k (truth_cell key O tk (o (C x).truth (C y).truth)) (truth_cell key' P tk' (o (D x).truth (D y).truth))
    joined k x y o g = truth_cells_of k g.2 (λ i. o ((h x).same_truth g.0 i) ((h y).same_truth g.1 i))

    step-within : (k : T) (r : AExpr A) → RecordOf column_kind record_kind k r →
        CellsOf k (step key O tk row C r) (step key' P tk' (λ c. Option.map u (row c)) D (map_aexpr f r))
    step-within k (Column c) g = value_cells_of k (row c) (subst (λ j. KeyOf j (row c)) g (typed c)) refl
    step-within k (Literal v) g = value_cells_of k (some (key v)) g (λ i. some (E.keys v i))
    step-within k Null g = value_cells_of k none tt refl
    step-within k (BinaryExpr (Compare c) x y) g = truth_cells_of k g.1 (compared c x y g.0)
    step-within k (BinaryExpr EqValidity x y) g = truth_cells_of k g.1 (λ i. of_bool (same-value x y g.0 i))
    step-within k (BinaryExpr NotEqValidity x y) g =
        truth_cells_of k g.1 (λ i. of_bool (not (same-value x y g.0 i)))
    step-within k (BinaryExpr FloorDivide x y) g = quotient k x y tk.floor_divide tk'.floor_divide g
    step-within k (BinaryExpr Modulus x y) g = quotient k x y tk.modulus tk'.modulus g
    step-within k (BinaryExpr And x y) g = joined k x y and3 g
    step-within k (BinaryExpr Or x y) g = joined k x y or3 g
    step-within k (BinaryExpr Xor x y) g = joined k x y xor3 g
    step-within k (BinaryExpr LogicalAnd x y) g = joined k x y and3 g
    step-within k (BinaryExpr LogicalOr x y) g = joined k x y or3 g
    step-within k (Not x) g = truth_cells_of k g.1 (λ i. not3 ((h x).same_truth g.0 i))
    step-within k (IsNull x) g = truth_cells_of k g (λ i. of_bool (is_null_lem x i))
    step-within k (IsNotNull x) g = truth_cells_of k g (λ i. of_bool (not (is_null_lem x i)))
    step-within k (IsBetween c d x y z) g =
        truth_cells_of k g.2 (λ i. and3 (compared (low_comparison c) x y g.0 i)
        (compared (high_comparison d) x z g.1 i))
    step-within k (ListLiteral m l) g =
        record { same_truth = λ e. refl; value = refl; holds = refl; values = refl; keyed = tt; listed = g }
    step-within k (IsIn e x y) g =
        truth_cells_of k g.1 (in3-within (record_kind x) e (C y).holds_null (C y).values (C x).value (h x).keyed
        (subst (λ j. ValuesOf j (C y).values) (sym g.0) (h y).listed)
        ∙ (λ i. in3 key' P e ((h y).holds i) ((h y).values i) ((h x).value i)))
    step-within k Missing g = no_cells_of k

  -- ---- All records.
  module _ (column_kind record_kind : ℕ → T) (R : ℕ → AExpr A)
      (g : (n : ℕ) → RecordOf column_kind record_kind (record_kind n) (R n)) (row : ℕ → Option K)
      (typed : (c : ℕ) → KeyOf (column_kind c) (row c)) where
    pub truth-within : (n : ℕ) → record_kind n ≡ truth → truth_at key O tk R row n ≡
        truth_at key' P tk' (λ a. map_aexpr f (R a)) (λ c. Option.map u (row c)) n
    truth-within n =
        (course-related (λ a x y. CellsOf (record_kind a) x y) (λ a. no_cell) (λ a. no_cell)
        (λ C i. step key O tk row C (R i))
        (λ D i. step key' P tk' (λ c. Option.map u (row c)) D (map_aexpr f (R i))) (λ a. no_cells_of (record_kind a))
        (λ a C D h. step-within column_kind record_kind row typed C D h (record_kind a) (R a) (g a)) n).same_truth

-- ---- Two ordered types whose keys are those of common places.
module _ {J K L A B C T : Type 0} {kind : J → T} {place : A → J} {O₀ : Order J} {tk₀ : TruthKeys O₀}
    {key : B → K} {O : Order K} {tk : TruthKeys O} {u : J → K} {f : A → B} (F : KeepsWithin kind place tk₀ key tk u f)
    {key' : C → L} {P : Order L} {tk' : TruthKeys P} {v : J → L} {g : A → C}
    (G : KeepsWithin kind place tk₀ key' tk' v g) (column_kind record_kind : ℕ → T) (R : ℕ → AExpr A) where
  pub same-truths_within : ((n : ℕ) → RecordOf F column_kind record_kind (record_kind n) (R n)) →
      ((n : ℕ) → RecordOf G column_kind record_kind (record_kind n) (R n)) →
      (row : ℕ → Option J) → ((c : ℕ) → KeyOf F (column_kind c) (row c)) →
      (n : ℕ) → record_kind n ≡ kind tk₀.true_key →
      truth_at key O tk (λ a. map_aexpr f (R a)) (λ c. Option.map u (row c)) n ≡
      truth_at key' P tk' (λ a. map_aexpr g (R a)) (λ c. Option.map v (row c)) n
  same-truths_within h k row typed n e =
      sym (truth-within F column_kind record_kind R h row typed n e) ∙
      truth-within G column_kind record_kind R k row typed n e
