-- A row makes of a plain screen beside a text pool what it makes of the same bits as numbers: a line reads an Int or a Day column, so
-- its literals and its list are of that type too, and no symbol is reached. The screen's own reading is H, that of the bits R,
-- and N has R's values as numbers.
use mathlib.Core.Path.{◌≡◌, refl, sym, ◌∙◌, ap, subst, fun_ext}
use mathlib.Core.Bool.{Bool, true, false, not, cond, ◌&&◌, ◌||◌, true≢false, and-eq-true_iff}
use mathlib.Core.List.{List, [], ◌∷◌, ◌++◌, map}
use mathlib.Core.Option
use mathlib.Core.Option.{Option, none, some, none-ne-some, some-injective}
use Prim.Native.Nat.{ℕ, zero, suc, ◌≤◌, ◌<◌}
use native.Mathlib.Omega.{arith}
use lib.Dec.{ltb, leb, eqb}
use lib.IntN.{ℤ}
use lib.ListN.{length, get_or}
use borrow.Author.Tests.{eqb-true, ltb-true, ltb-false}
use Rattle.records.specs.Bytes.{all}
use Rattle.records.specs.Operator.{is_comparison, is_division}
use Rattle.records.specs.Record.{record_at, node}
use Rattle.records.specs.declared.record.Record.{Record}
use Rattle.records.specs.declared.record.Record.TheVariants as kind
use Rattle.records.proofs.Laws.{and_left, and_right}
use Rattle.records.proofs.Loops.{all_holds}
use Rattle.record_check.specs.Fit.{type_of, type_at, same_type, binary_fits, between_fits, member_fits, types_ok}
use Rattle.checking.specs.Checked.{CheckedIn}
use Rattle.truth.specs.Halves.{ord_z, key}
use Rattle.truth.specs.Comparison.{Comparison, Eq, NotEq}
use Rattle.truth.specs.AExpr.{AExpr, Column, Literal, Null, BinaryExpr, Not, IsNull, IsNotNull, IsBetween, ListLiteral}
use Rattle.truth.specs.AExpr.{IsIn, Missing, BinaryOp, Compare, EqValidity, NotEqValidity, FloorDivide, Modulus, And, Or}
use Rattle.truth.specs.AExpr.{Xor, LogicalAnd, LogicalOr, Inputs, WF, map_aexpr}
use Rattle.truth.specs.Cell.{Cell, cell_at, binary_cell, truth_cell, step}
use Rattle.truth.specs.FromBytes.{values_from, to_aexpr, aexpr_of, aexpr_at, truth_keys, truth_in}
use Rattle.truth.proofs.Cells.{cell_at_lem}
use Rattle.truth.proofs.SameComparisons.{Keeps, truth-kept}
use Rattle.three_valued.specs.Logic.{is_true}
use Rattle.merge.specs.Minterms.{and_sides, minterms, minterms_by}
use Rattle.merge.specs.Classify.{Operand, AColumn, ALiteral, AList, Other, operand, Conjunct, classify}
use Rattle.merge.specs.Plain.{reads_column, reads_step, is_number_column, reads_only_numbers, plain_conjuncts, plain_screen}
use Rattle.merge.specs.Demand.{Row, passes}
use Rattle.merge.proofs.Accepted.{binary-ind}
use Rattle.merge.proofs.Chains.{Every, Sides, sides_binary, sides_below, minterms-law, minterms-have}
use Rattle.merge.proofs.Forms.{ReadForms, read_ind}
use Rattle.merge.proofs.Passes.{eqb-self}
use Rattle.merge.proofs.PlainForms as forms
use Rattle.merge.proofs.PlainForms.{plain-same}
use Rattle.merge.proofs.Typed.{reads_column-law}
use Rattle.symbol_screens.specs.Held.{Held, Number, Symbol, held, key_in}
use Rattle.symbol_screens.specs.Reading.{value_type, held_aexpr, held_at}
use Rattle.symbol_screens.specs.Rewriting.{lent}
use Rattle.symbol_screens.specs.Rows.{truth_with, passes_with}

or_left : (a b : Bool) → a ≡ true → (a || b) ≡ true
or_left a b h = ap (λ x. x || b) h

or_right : (a b : Bool) → b ≡ true → (a || b) ≡ true
or_right true b h = refl
or_right false b h = h

unchanged : (x : Option ℤ) → Option.map (λ (k : ℤ). k) x ≡ x
unchanged none = refl
unchanged (some k) = refl

numbers_keep : (text : List ℕ) → Keeps key truth_keys (key_in text) truth_keys (λ (k : ℤ). k) Number
numbers_keep text = record { keys = λ v. refl; compares = λ a b. refl; false-key = refl; true-key = refl }

past : (l : List ℕ) (i : ℕ) → length l ≤ i → get_or l i 0 ≡ 0
past [] zero h = refl
past [] (suc i) h = refl
past (x ∷ l) zero h = absurd (omega (arith, h))
past (x ∷ l) (suc i) h = past l i (omega (arith, h))

module _ (text t rs p : List ℕ) (used root : ℕ) (ok : CheckedIn (lent text) t rs p used root) (good : WF (aexpr_at rs p used)) where
  abbrev R : ℕ → AExpr ℕ
  R n = aexpr_at rs p used n

  abbrev H : ℕ → AExpr Held
  H n = held_at rs p used n

  abbrev N : ℕ → AExpr Held
  N n = map_aexpr Number (aexpr_at rs p used n)

  abbrev type : ℕ → ℕ
  type x = type_at t rs (node x)

  abbrev list_type : ℕ → ℕ
  list_type x = value_type (record_at rs (node x))

  held-is : (n : ℕ) → held_at rs p used n ≡ map_aexpr (held (value_type (record_at rs (node n)))) (aexpr_at rs p used n)
  unfolding held_at aexpr_at aexpr_of
  held-is n = go (ltb n used)
    where
      go : (b : Bool) → cond b (held_aexpr p (record_at rs (node n))) Missing ≡
          map_aexpr (held (value_type (record_at rs (node n)))) (cond b (to_aexpr p (record_at rs (node n))) Missing)
      go true = refl
      go false = refl

  -- ---- Types: a comparison's sides, and a list beside its value.
  abbrev TypedBinary : BinaryOp → ℕ → ℕ → Type 0
  TypedBinary (Compare c) x y = type x ≡ type y
  TypedBinary EqValidity x y = Unit {0}
  TypedBinary NotEqValidity x y = Unit {0}
  TypedBinary FloorDivide x y = Unit {0}
  TypedBinary Modulus x y = Unit {0}
  TypedBinary And x y = Unit {0}
  TypedBinary Or x y = Unit {0}
  TypedBinary Xor x y = Unit {0}
  TypedBinary LogicalAnd x y = Unit {0}
  TypedBinary LogicalOr x y = Unit {0}

  abbrev Typed : AExpr ℕ → Type 0
  Typed (Column c) = Unit {0}
  Typed (Literal v) = Unit {0}
  Typed Null = Unit {0}
  Typed (BinaryExpr b x y) = TypedBinary b x y
  Typed (Not x) = Unit {0}
  Typed (IsNull x) = Unit {0}
  Typed (IsNotNull x) = Unit {0}
  Typed (IsBetween i j x y z) = (type x ≡ type y) × (type x ≡ type z)
  Typed (ListLiteral m l) = Unit {0}
  Typed (IsIn e x y) = type x ≡ list_type y
  Typed Missing = Unit {0}

  of_any : (b : BinaryOp) (x y : ℕ) → type x ≡ type y → TypedBinary b x y
  of_any (Compare c) x y h = h
  of_any EqValidity x y h = tt
  of_any NotEqValidity x y h = tt
  of_any FloorDivide x y h = tt
  of_any Modulus x y h = tt
  of_any And x y h = tt
  of_any Or x y h = tt
  of_any Xor x y h = tt
  of_any LogicalAnd x y h = tt
  of_any LogicalOr x y h = tt

  same-types : (x y : ℕ) → same_type x y ≡ true → x ≡ y
  unfolding same_type
  same-types x y h = eqb-true x y (and_right (ltb 0 x) (eqb x y) h)

  member-types : (x : ℕ) (r : Record) → member_fits x r ≡ true → x ≡ value_type r
  unfolding member_fits
  member-types x kind.Invalid h = absurd (true≢false (sym h))
  member-types x (kind.Column c) h = absurd (true≢false (sym h))
  member-types x (kind.Literal ty v) h = absurd (true≢false (sym h))
  member-types x (kind.Null ty) h = absurd (true≢false (sym h))
  member-types x (kind.Binary o y z) h = absurd (true≢false (sym h))
  member-types x (kind.Not y) h = absurd (true≢false (sym h))
  member-types x (kind.IsNull y) h = absurd (true≢false (sym h))
  member-types x (kind.IsNotNull y) h = absurd (true≢false (sym h))
  member-types x (kind.IsBetween k y low high) h = absurd (true≢false (sym h))
  member-types x (kind.List ty marked start count) h = same-types x ty h
  member-types x (kind.IsIn equal y list) h = absurd (true≢false (sym h))

  record_typed : (r : Record) → types_ok t rs r ≡ true → Typed (to_aexpr p r)
  unfolding types_ok binary_fits between_fits
  record_typed kind.Invalid h = tt
  record_typed (kind.Column c) h = tt
  record_typed (kind.Literal ty v) h = tt
  record_typed (kind.Null ty) h = tt
  record_typed (kind.Binary o x y) h =
      binary-ind Typed x.0 y.0 tt (tt, tt) o
      (λ e c. same-types (type_at t rs x) (type_at t rs y) (compared (is_comparison o) e h))
      (λ e. (tt, tt))
      (λ e d b. of_any b x.0 y.0 (joined (is_comparison o) (is_division o) e d h))
    where
      compared : (b : Bool) → b ≡ true
          → cond b (same_type (type_at t rs x) (type_at t rs y)) (cond (is_division o) (eqb (type_at t rs x) 1 && eqb (type_at t rs y) 1)
          (eqb (type_at t rs x) 3 && eqb (type_at t rs y) 3)) ≡ true → same_type (type_at t rs x) (type_at t rs y) ≡ true
      compared true e k = k
      compared false e k = absurd (true≢false (sym e))

      joined : (b d : Bool) → b ≡ false → d ≡ false
          → cond b (same_type (type_at t rs x) (type_at t rs y)) (cond d (eqb (type_at t rs x) 1 && eqb (type_at t rs y) 1)
          (eqb (type_at t rs x) 3 && eqb (type_at t rs y) 3)) ≡ true → type_at t rs x ≡ type_at t rs y
      joined true d e f k = absurd (true≢false e)
      joined false true e f k = absurd (true≢false f)
      joined false false e f k =
          eqb-true (type_at t rs x) 3 (and_left (eqb (type_at t rs x) 3) (eqb (type_at t rs y) 3) k)
          ∙ sym (eqb-true (type_at t rs y) 3 (and_right (eqb (type_at t rs x) 3) (eqb (type_at t rs y) 3) k))
  record_typed (kind.Not x) h = tt
  record_typed (kind.IsNull x) h = tt
  record_typed (kind.IsNotNull x) h = tt
  record_typed (kind.IsBetween k x low high) h = (
    same-types (type_at t rs x) (type_at t rs low) (and_left (same_type (type_at t rs x) (type_at t rs low)) _ h),
    same-types (type_at t rs x) (type_at t rs high) (and_right (same_type (type_at t rs x) (type_at t rs low)) _ h),
  )
  record_typed (kind.List ty marked start count) h = tt
  record_typed (kind.IsIn equal x list) h = member-types (type_at t rs x) (record_at rs list) h

  typed : (n : ℕ) → Typed (aexpr_at rs p used n)
  unfolding aexpr_at aexpr_of
  typed n = go (ltb n used) refl
    where
      go : (b : Bool) → ltb n used ≡ b → Typed (cond b (to_aexpr p (record_at rs (node n))) Missing)
      go true e = record_typed (record_at rs (node n)) (ok.records n (ltb-true n used e)).types
      go false e = tt

  -- ---- Cells that are the same of both readings.
  module _ (row : Row) where
    abbrev Same : ℕ → Type 0
    Same n = cell_at (key_in text) ord_z truth_keys H row n ≡ cell_at (key_in text) ord_z truth_keys N row n

    -- a record of which the two readings are one
    module _ (n : ℕ) (r : AExpr Held) (h : H n ≡ r) (k : N n ≡ r) (i : Inputs n r) where
      by-step : step (key_in text) ord_z truth_keys row (λ a. cell_at (key_in text) ord_z truth_keys H row a) r ≡
          step (key_in text) ord_z truth_keys row (λ a. cell_at (key_in text) ord_z truth_keys N row a) r → Same n
      by-step e = cell_at_lem (key_in text) ord_z truth_keys H row n r h i ∙ e ∙ sym (cell_at_lem (key_in text) ord_z truth_keys N row n r k i)

    -- the same of a record whose own values do not matter
    reads_as : (n : ℕ) (r : AExpr ℕ) → R n ≡ r → H n ≡ map_aexpr (held (list_type n)) r
    reads_as n r e = held-is n ∙ ap (map_aexpr (held (list_type n))) e

    same-binary : (n : ℕ) (b : BinaryOp) (x y : ℕ) → R n ≡ BinaryExpr b x y → Same x → Same y → Same n
    same-binary n b x y e sx sy =
        by-step n (BinaryExpr b x y) (reads_as n (BinaryExpr b x y) e) (ap (map_aexpr Number) e)
        (subst (Inputs n) e (good n)) (λ i. binary_cell (key_in text) ord_z truth_keys b (sx i) (sy i))

    same_not : (n x : ℕ) → R n ≡ Not x → Same x → Same n
    same_not n x e sx =
        by-step n (Not x) (reads_as n (Not x) e) (ap (map_aexpr Number) e) (subst (Inputs n) e (good n)) (rw sx)

    same-null : (n x : ℕ) → R n ≡ IsNull x → Same x → Same n
    same-null n x e sx =
        by-step n (IsNull x) (reads_as n (IsNull x) e) (ap (map_aexpr Number) e) (subst (Inputs n) e (good n)) (rw sx)

    same-value : (n x : ℕ) → R n ≡ IsNotNull x → Same x → Same n
    same-value n x e sx =
        by-step n (IsNotNull x) (reads_as n (IsNotNull x) e) (ap (map_aexpr Number) e) (subst (Inputs n) e (good n)) (rw sx)

    same-between : (n : ℕ) (i j : Bool) (x y z : ℕ) → R n ≡ IsBetween i j x y z → Same x → Same y → Same z → Same n
    same-between n i j x y z e sx sy sz =
        by-step n (IsBetween i j x y z) (reads_as n (IsBetween i j x y z) e) (ap (map_aexpr Number) e)
        (subst (Inputs n) e (good n)) (rw (sx, sy, sz))

    same_in : (n : ℕ) (q : Bool) (x y : ℕ) → R n ≡ IsIn q x y → Same x → Same y → Same n
    same_in n q x y e sx sy =
        by-step n (IsIn q x y) (reads_as n (IsIn q x y) e) (ap (map_aexpr Number) e) (subst (Inputs n) e (good n)) (rw (sx, sy))

    -- ---- Operands.
    abbrev Seen : ℕ → Operand ℕ → Type 0
    Seen x (AColumn c) = Same x × (type x ≡ get_or t c 0) × (reads_column R x c ≡ true)
    Seen x (ALiteral v) = eqb (type x) 4 ≡ false → Same x
    Seen x (AList l) = eqb (list_type x) 4 ≡ false → Same x
    Seen x Other = Unit {0}

    as_numbers : (x : ℕ) (r : AExpr ℕ) → R x ≡ r → eqb (list_type x) 4 ≡ false → H x ≡ map_aexpr Number r
    as_numbers x r e h =
        reads_as x r e ∙ ap (λ (f : ℕ → Held). map_aexpr f r) (fun_ext (λ v. ap (λ b. cond b (Symbol v) (Number v)) h))

    -- what the type of a record as an input says of its own values
    abbrev Worth : ℕ → Record → Type 0
    Worth x kind.Invalid = Unit {0}
    Worth x (kind.Column c) = type x ≡ get_or t c.0 0
    Worth x (kind.Literal ty v) = (type x ≡ ty) × (list_type x ≡ ty)
    Worth x (kind.Null ty) = Unit {0}
    Worth x (kind.Binary o y z) = Unit {0}
    Worth x (kind.Not y) = Unit {0}
    Worth x (kind.IsNull y) = Unit {0}
    Worth x (kind.IsNotNull y) = Unit {0}
    Worth x (kind.IsBetween k y low high) = Unit {0}
    Worth x (kind.List ty marked start count) = Unit {0}
    Worth x (kind.IsIn equal y list) = Unit {0}

    worth : (x : ℕ) (r : Record) → record_at rs (node x) ≡ r → Worth x r
    unfolding type_at type_of
    worth x kind.Invalid e = tt
    worth x (kind.Column c) e = ap (type_of t) e
    worth x (kind.Literal ty v) e = (ap (type_of t) e, ap value_type e)
    worth x (kind.Null ty) e = tt
    worth x (kind.Binary o y z) e = tt
    worth x (kind.Not y) e = tt
    worth x (kind.IsNull y) e = tt
    worth x (kind.IsNotNull y) e = tt
    worth x (kind.IsBetween k y low high) e = tt
    worth x (kind.List ty marked start count) e = tt
    worth x (kind.IsIn equal y list) e = tt

    seen_column : (x c : ℕ) → R x ≡ Column c → type x ≡ get_or t c 0 → Seen x (AColumn c)
    seen_column x c e h = (
      by-step x (Column c) (reads_as x (Column c) e) (ap (map_aexpr Number) e) tt refl,
      h,
      reads_column-law R x c (good x) ∙ ap (reads_step c (λ i. reads_column R i c)) e ∙ eqb-self c,
    )

    seen_literal : (x v : ℕ) → R x ≡ Literal v → type x ≡ list_type x → Seen x (ALiteral v)
    seen_literal x v e h k =
        by-step x (Literal (Number v)) (as_numbers x (Literal v) e (ap (λ ty. eqb ty 4) (sym h) ∙ k)) (ap (map_aexpr Number) e) tt refl

    seen_list : (x : ℕ) (m : Bool) (l : List ℕ) → R x ≡ ListLiteral m l → (b : Bool) → Seen x (cond b (AList l) Other)
    seen_list x m l e true = λ k.
        by-step x (ListLiteral m (map Number l)) (as_numbers x (ListLiteral m l) e k) (ap (map_aexpr Number) e) tt refl
    seen_list x m l e false = tt

    seen_record : (x : ℕ) (r : Record) → R x ≡ to_aexpr p r → Worth x r → Seen x (operand (to_aexpr p r))
    seen_record x kind.Invalid e w = tt
    seen_record x (kind.Column c) e w = seen_column x c.0 e w
    seen_record x (kind.Literal ty v) e w = seen_literal x v e (w.0 ∙ sym w.1)
    seen_record x (kind.Null ty) e w = tt
    seen_record x (kind.Binary o y z) e w =
        binary-ind (λ a. Seen x (operand a)) y.0 z.0 tt (tt, tt) o (λ q c. tt) (λ q. (tt, tt)) (λ q d b. tt)
    seen_record x (kind.Not y) e w = tt
    seen_record x (kind.IsNull y) e w = tt
    seen_record x (kind.IsNotNull y) e w = tt
    seen_record x (kind.IsBetween k y low high) e w = tt
    seen_record x (kind.List ty marked start count) e w =
        seen_list x marked (values_from p start count) e (not marked && leb (length (values_from p start count)) 100)
    seen_record x (kind.IsIn equal y list) e w = tt

    seen : (x : ℕ) → Seen x (operand (aexpr_at rs p used x))
    unfolding aexpr_at aexpr_of
    seen x = go (ltb x used) refl
      where
        go : (b : Bool) → ltb x used ≡ b → Seen x (operand (cond b (to_aexpr p (record_at rs (node x))) Missing))
        go true e =
            seen_record x (record_at rs (node x)) (ap (λ b. cond b (to_aexpr p (record_at rs (node x))) Missing) e)
            (worth x (record_at rs (node x)) refl)
        go false e = tt

    -- ---- Lines: the columns that node n reads are no Text columns.
    abbrev NoText : ℕ → Type 0
    NoText n = (c : ℕ) → reads_column R n c ≡ true → eqb (get_or t c 0) 4 ≡ false

    -- a column among the inputs
    number_of : (x c : ℕ) → Seen x (AColumn c) → NoText x → eqb (type x) 4 ≡ false
    number_of x c s nt = ap (λ ty. eqb ty 4) s.1 ∙ nt c s.2

    other : (x y : ℕ) → type x ≡ type y → eqb (type x) 4 ≡ false → eqb (type y) 4 ≡ false
    other x y e h = ap (λ ty. eqb ty 4) (sym e) ∙ h

    -- what a record reads its inputs do
    under : (n : ℕ) (r : AExpr ℕ) → R n ≡ r → NoText n → (c : ℕ) → reads_step c (λ i. reads_column R i c) r ≡ true
        → eqb (get_or t c 0) 4 ≡ false
    under n r e nt c h = nt c (reads_column-law R n c (good n) ∙ ap (reads_step c (λ i. reads_column R i c)) e ∙ h)

    left-of : (n : ℕ) (b : BinaryOp) (x y : ℕ) → R n ≡ BinaryExpr b x y → NoText n → NoText x
    left-of n b x y e nt c h = under n (BinaryExpr b x y) e nt c (or_left (reads_column R x c) (reads_column R y c) h)

    right_of : (n : ℕ) (b : BinaryOp) (x y : ℕ) → R n ≡ BinaryExpr b x y → NoText n → NoText y
    right_of n b x y e nt c h = under n (BinaryExpr b x y) e nt c (or_right (reads_column R x c) (reads_column R y c) h)

    sides_typed : (n : ℕ) (o : Comparison) (x y : ℕ) → R n ≡ BinaryExpr (Compare o) x y → type x ≡ type y
    sides_typed n o x y e = subst Typed e (typed n)

    -- column and literal, either way round; two columns
    compared : (n : ℕ) (o : Comparison) (x y c v : ℕ) → R n ≡ BinaryExpr (Compare o) x y → NoText n
        → Seen x (AColumn c) → Seen y (ALiteral v) → Same n
    compared n o x y c v e nt p q =
        same-binary n (Compare o) x y e p.0
        (q (other x y (sides_typed n o x y e) (number_of x c p (left-of n (Compare o) x y e nt))))

    swapped : (n : ℕ) (o : Comparison) (x y c v : ℕ) → R n ≡ BinaryExpr (Compare o) x y → NoText n
        → Seen x (ALiteral v) → Seen y (AColumn c) → Same n
    swapped n o x y c v e nt p q =
        same-binary n (Compare o) x y e
        (p (other y x (sym (sides_typed n o x y e)) (number_of y c q (right_of n (Compare o) x y e nt)))) q.0

    member : (n : ℕ) (i : Bool) (x y c : ℕ) (l : List ℕ) → R n ≡ IsIn i x y → NoText n
        → Seen x (AColumn c) → Seen y (AList l) → Same n
    member n i x y c l e nt p q =
        same_in n i x y e p.0 (q (ap (λ ty. eqb ty 4) (sym (let h : type x ≡ list_type y = subst Typed e (typed n) in h))
        ∙ number_of x c p (λ d h. under n (IsIn i x y) e nt d (or_left (reads_column R x d) (reads_column R y d) h))))

    below-not : (n a : ℕ) → R n ≡ Not a → NoText n → NoText a
    below-not n a e nt c h = under n (Not a) e nt c h

    abbrev Line : ℕ → AExpr ℕ → Bool → Conjunct ℕ → Type 0
    Line n r b x = b ≡ true → R n ≡ r → NoText n → Same n

    skip : (n : ℕ) (r : AExpr ℕ) → false ≡ true → R n ≡ r → NoText n → Same n
    skip n r b e nt = absurd (true≢false (sym b))

    lines : (n : ℕ) → ReadForms R n Seen (Line n)
    lines n =
        record {
          opaque = λ r. skip n r;
          entered = λ r x c p. skip n r;
          compared = λ o x y c v p q b e nt. compared n o x y c v e nt p q;
          swapped = λ o x y c v p q b e nt. swapped n o x y c v e nt p q;
          equal = λ x y a d p q b e nt. same-binary n (Compare Eq) x y e p.0 q.0;
          paired = λ o x y a d p q. skip n (BinaryExpr (Compare o) x y);
          not_compared = λ o a x y c v f p q b e nt.
              same_not n a e (compared a o x y c v f (below-not n a e nt) p q);
          not_swapped = λ o a x y c v f p q b e nt.
              same_not n a e (swapped a o x y c v f (below-not n a e nt) p q);
          not_unequal = λ a x y g d f p q. skip n (Not a);
          not_paired = λ o a x y g d f p q. skip n (Not a);
          between = λ i j x y z c v w p q s b e nt.
              let h = number_of x c p (λ d k. under n (IsBetween i j x y z) e nt d
              (or_left (reads_column R x d) (reads_column R y d || reads_column R z d) k)) in
              let w : Typed (IsBetween i j x y z) = subst Typed e (typed n) in
              same-between n i j x y z e p.0 (q (other x y w.0 h)) (s (other x z w.1 h));
          listed = λ i x y c l p q b e nt. member n i x y c l e nt p q;
          unlisted = λ i a x y c l f p q b e nt. same_not n a e (member a i x y c l f (below-not n a e nt) p q);
          null = λ x c p b e nt. same-null n x e p.0;
          non_null = λ x c p b e nt. same-value n x e p.0;
          not_null = λ a x c f p b e nt. same_not n a e (same-null a x f p.0);
          not_non_null = λ a x c f p b e nt. same_not n a e (same-value a x f p.0);
        }

    line_same : (n : ℕ) → forms.plain_conjunct R n ≡ true → NoText n → Same n
    line_same n h nt = read_ind R n Seen (Line n) (lines n) seen h refl nt

    -- ---- The screen.
    text-sides : (n : ℕ) → NoText n → Sides NoText (and_sides (aexpr_at rs p used n))
    text-sides n h = go (aexpr_at rs p used n) refl
      where
        go : (r : AExpr ℕ) → R n ≡ r → Sides NoText (and_sides r)
        go (Column d) e = tt
        go (Literal v) e = tt
        go Null e = tt
        go (BinaryExpr b x y) e = sides_binary NoText b x y (left-of n b x y e h, right_of n b x y e h)
        go (Not x) e = tt
        go (IsNull x) e = tt
        go (IsNotNull x) e = tt
        go (IsBetween i j x y z) e = tt
        go (ListLiteral m l) e = tt
        go (IsIn i x y) e = tt
        go Missing e = tt

    every-same : (l : List ℕ) → forms.plain_conjuncts R l ≡ true → Every NoText l → Every Same l
    every-same [] h nt = tt
    every-same (n ∷ l) h nt =
        let b = (and-eq-true_iff (forms.plain_conjunct R n) (forms.plain_conjuncts R l)).0 h in
        (line_same n b.0 nt.0, every-same l b.1 nt.1)

    -- an And of which both sides are the same is
    joined : (n : ℕ) (r : AExpr ℕ) → R n ≡ r → (s : ℕ × ℕ) → and_sides r ≡ some s → Same s.0 → Same s.1 → Same n
    joined n (Column c) e s h a b = absurd (none-ne-some _ h)
    joined n (Literal v) e s h a b = absurd (none-ne-some _ h)
    joined n Null e s h a b = absurd (none-ne-some _ h)
    joined n (BinaryExpr op x y) e s h a b = go op e h
      where
        both : (o : BinaryOp) → R n ≡ BinaryExpr o x y → ◌≡◌ {A = Option (ℕ × ℕ)} (some (x, y)) (some s) → Same n
        both o f q =
            let z = some-injective _ _ q in
            same-binary n o x y f (subst Same (ap (λ w. w.0) (sym z)) a) (subst Same (ap (λ w. w.1) (sym z)) b)

        go : (o : BinaryOp) → R n ≡ BinaryExpr o x y → and_sides {Val = ℕ} (BinaryExpr o x y) ≡ some s → Same n
        go (Compare c) f q = absurd (none-ne-some _ q)
        go EqValidity f q = absurd (none-ne-some _ q)
        go NotEqValidity f q = absurd (none-ne-some _ q)
        go FloorDivide f q = absurd (none-ne-some _ q)
        go Modulus f q = absurd (none-ne-some _ q)
        go And f q = both And f q
        go Or f q = absurd (none-ne-some _ q)
        go Xor f q = absurd (none-ne-some _ q)
        go LogicalAnd f q = both LogicalAnd f q
        go LogicalOr f q = absurd (none-ne-some _ q)
    joined n (Not x) e s h a b = absurd (none-ne-some _ h)
    joined n (IsNull x) e s h a b = absurd (none-ne-some _ h)
    joined n (IsNotNull x) e s h a b = absurd (none-ne-some _ h)
    joined n (IsBetween i j x y z) e s h a b = absurd (none-ne-some _ h)
    joined n (ListLiteral m l) e s h a b = absurd (none-ne-some _ h)
    joined n (IsIn i x y) e s h a b = absurd (none-ne-some _ h)
    joined n Missing e s h a b = absurd (none-ne-some _ h)

    first_of : (l m : List ℕ) → Every Same (l ++ m) → Every Same l
    first_of [] m h = tt
    first_of (n ∷ l) m h = (h.0, first_of l m h.1)

    rest_of : (l m : List ℕ) → Every Same (l ++ m) → Every Same m
    rest_of [] m h = h
    rest_of (n ∷ l) m h = rest_of l m h.1

    from-lines : (m n : ℕ) → n < m → Every Same (minterms R n) → Same n
    from-lines zero n h k = absurd (omega arith)
    from-lines (suc m) n h k =
        go (and_sides (R n)) refl (sides_below n (R n) (good n)) (subst (Every Same) (minterms-law R n (good n)) k)
        (λ a l q. from-lines m a (omega arith) q)
      where
        go : (s : Option (ℕ × ℕ)) → and_sides (R n) ≡ s → Sides (λ a. a < n) s → Every Same (minterms_by n (λ a. minterms R a) s)
            → ((a : ℕ) → a < n → Every Same (minterms R a) → Same a) → Same n
        go none e b q ih = q.0
        go (some s) e b q ih =
            joined n (R n) refl s e (ih s.0 b.0 (first_of (minterms R s.0) (minterms R s.1) q))
            (ih s.1 b.1 (rest_of (minterms R s.0) (minterms R s.1) q))

    -- N is read as R.
    number-truth : (n : ℕ) → truth_with text N row n ≡ truth_in R row n
    number-truth n =
        ap (λ (r : ℕ → Option ℤ). truth_with text N r n) (sym (fun_ext (λ c. unchanged (row c))))
        ∙ sym (truth-kept (numbers_keep text) R (λ n. (λ x y e a b. unchanged _, λ x y e a b. unchanged _)) row n)

    module _ (plain : plain_screen t (aexpr_at rs p used) root ≡ true) where
      parts : (reads_only_numbers t R root ≡ true) × (plain_conjuncts R (minterms R root) ≡ true)
      parts = (and-eq-true_iff (reads_only_numbers t R root) (plain_conjuncts R (minterms R root))).0 plain

      pub no_text : NoText root
      no_text c e = go (ltb c (length t)) refl
        where
          number : (b d f : Bool) → (b || d) ≡ true → (b ≡ true → f ≡ false) → (d ≡ true → f ≡ false) → f ≡ false
          number true d f h k l = k refl
          number false d f h k l = l h

          imp : (x y : Bool) → (not x || y) ≡ true → x ≡ true → y ≡ true
          imp true y h e = h
          imp false y h e = absurd (true≢false (sym e))

          go : (b : Bool) → ltb c (length t) ≡ b → eqb (get_or t c 0) 4 ≡ false
          go true l =
              number (eqb (get_or t c 0) 1) (eqb (get_or t c 0) 2) (eqb (get_or t c 0) 4)
              (imp (reads_column R root c) (is_number_column t c)
              (all_holds (λ i. not (reads_column R root i) || is_number_column t i) c (length t) (ltb-true c (length t) l) parts.0) e)
              (λ q. ap (λ ty. eqb ty 4) (eqb-true (get_or t c 0) 1 q)) (λ q. ap (λ ty. eqb ty 4) (eqb-true (get_or t c 0) 2 q))
          go false l = ap (λ ty. eqb ty 4) (past t c (ltb-false c (length t) l))

      pub lines-no_text : Every NoText (minterms R root)
      lines-no_text = minterms-have R good NoText text-sides root no_text

      all_same : Every Same (minterms R root)
      all_same = every-same (minterms R root) (sym (plain-same R (minterms R root)) ∙ parts.1) lines-no_text

      -- The truth of each line, and whether the row passes.
      abbrev pub TrueAlike : ℕ → Type 0
      TrueAlike n = truth_with text H row n ≡ truth_in R row n

      every-alike : (l : List ℕ) → Every Same l → Every TrueAlike l
      every-alike [] h = tt
      every-alike (n ∷ l) h = (ap (λ c. c.truth) h.0 ∙ number-truth n, every-alike l h.1)

      pub lines-alike : Every TrueAlike (minterms R root)
      lines-alike = every-alike (minterms R root) all_same

      pub passes-alike : passes_with text rs p used root row ≡ passes rs p used root row
      passes-alike =
          ap (λ c. is_true c.truth) (from-lines (suc root) root (omega arith) all_same) ∙ ap is_true (number-truth root)
