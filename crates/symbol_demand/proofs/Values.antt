-- The comparisons that the merging of a screen with symbols writes: their columns and values fit their fields, are of their
-- columns' types and are read back as what the merging held.
use mathlib.Core.Path.{◌≡◌, refl, sym, ◌∙◌, ap}
use mathlib.Core.Bool.{true, false, cond}
use mathlib.Core.List.{List, [], ◌∷◌, map}
use Prim.Native.Nat.{ℕ}
use lib.Dec.{eqb}
use lib.ListN.{get_or}
use Rattle.truth.specs.Comparison.{Comparison, Eq, NotEq, Lt, LtEq, Gt, GtEq}
use Rattle.truth.specs.AExpr.{Literal, BinaryExpr, Compare}
use Rattle.constraints.specs.Scalars.{Scalars}
use Rattle.constraints.specs.Column.{Constraint, Lower, Upper, Exclude, Allow, Disallow, Require}
use Rattle.constraints.specs.Comparisons.{ColumnComparison, IsEq, IsLower, IsUpper, IsNotEq}
use Rattle.constraints.specs.Mapped.{map_constraint, map_comparison}
use Rattle.constraints.proofs.SameWithin.{ConstraintsHave}
use Rattle.merge.specs.Classify.{Conjunct, Bounds, Normalized, Equality, Recorded, NonNullPair, Opaque}
use Rattle.merge.specs.Lines.{map_conjunct, map_comparisons}
use Rattle.merge.specs.Rebuild.{value_of}
use Rattle.merge.proofs.Literals.{ConstraintsP, ConjunctP, ConjunctsP, WrittenP}
use Rattle.merge.proofs.RebuiltBytes.{comparison_record, Reads, ReadAs, AllReadAs}
use Rattle.merge.proofs.SameWithin.{ConjunctHas, ConjunctsHave}
use Rattle.symbol_screens.specs.Held.{Held, Number, Symbol, held, bits_of}
use Rattle.symbol_screens.specs.Reading.{held_aexpr}
use Rattle.symbol_screens.proofs.ColumnKinds.{is_symbol, kind_at}

-- ---- What is asked of columns with the values that f gives, asked of conjuncts before f.
module _ {K K' A B : Type 0} (S : Scalars K A) (S' : Scalars K' B) (f : A → B) (P : ℕ → B → Type 0)
    (opens : (c : ℕ) (w e : A) → P c (f w) → P c (f e) → P c (f (S.opened w e)))
    (opens' : (c : ℕ) (w e : B) → P c w → P c e → P c (S'.opened w e)) where
  constraints-back : (c : ℕ) (l : List (Constraint A)) → ConstraintsP (P c) (map (map_constraint f) l) →
      ConstraintsP (λ v. P c (f v)) l
  constraints-back c [] h = tt
  constraints-back c (Lower b v ∷ l) h = (h.0, constraints-back c l h.1)
  constraints-back c (Upper b v ∷ l) h = (h.0, constraints-back c l h.1)
  constraints-back c (Exclude v ∷ l) h = (h.0, constraints-back c l h.1)
  constraints-back c (Allow k ∷ l) h = (tt, constraints-back c l h.1)
  constraints-back c (Disallow b k ∷ l) h = (tt, constraints-back c l h.1)
  constraints-back c (Require n ∷ l) h = (tt, constraints-back c l h.1)

  conjunct-back : (x : Conjunct A) → ConjunctP S' P opens' (map_conjunct f x) → ConjunctP S (λ c v. P c (f v)) opens x
  conjunct-back (Bounds c l) h = constraints-back c l h
  conjunct-back (Normalized c l) h = constraints-back c l h
  conjunct-back (Equality a b n) h = ((λ v. h.0 (f v)), λ v. h.1 (f v))
  conjunct-back (Recorded stops n c l) h = constraints-back c l h
  conjunct-back (NonNullPair n a b) h = tt
  conjunct-back (Opaque n) h = tt

  pub conjuncts-back : (l : List (Conjunct A)) → ConjunctsP S' P opens' (map (map_conjunct f) l) →
      ConjunctsP S (λ c v. P c (f v)) opens l
  conjuncts-back [] h = tt
  conjuncts-back (x ∷ l) h = (conjunct-back x h.0, conjuncts-back l h.1)

  value_on : (c : ℕ) (x : ColumnComparison A) → P c (f (value_of x)) → P c (value_of (map_comparison f x))
  value_on c (IsEq v) h = h
  value_on c (IsLower b v) h = h
  value_on c (IsUpper b v) h = h
  value_on c (IsNotEq v) h = h

  pub written_on : (cs : List (ℕ × ColumnComparison A)) → WrittenP S (λ c v. P c (f v)) opens cs →
      WrittenP S' P opens' (map_comparisons f cs)
  written_on [] h = tt
  written_on (x ∷ l) h = (value_on x.0 x.1 h.0, written_on l h.1)

-- ---- Values of their columns' kinds.
abbrev pub OfKind : List ℕ → ℕ → Held → Type 0
OfKind t c v = is_symbol v ≡ kind_at t c

module _ {K : Type 0} (S : Scalars K Held) (t : List ℕ)
    (opens : (c : ℕ) (w e : Held) → OfKind t c w → OfKind t c e → OfKind t c (S.opened w e)) where
  constraints-kind : (c : ℕ) (l : List (Constraint Held)) → ConstraintsHave is_symbol (kind_at t c) l →
      ConstraintsP (OfKind t c) l
  constraints-kind c [] h = tt
  constraints-kind c (Lower b v ∷ l) h = (h.0, constraints-kind c l h.1)
  constraints-kind c (Upper b v ∷ l) h = (h.0, constraints-kind c l h.1)
  constraints-kind c (Exclude v ∷ l) h = (h.0, constraints-kind c l h.1)
  constraints-kind c (Allow k ∷ l) h = (tt, constraints-kind c l h.1)
  constraints-kind c (Disallow b k ∷ l) h = (tt, constraints-kind c l h.1)
  constraints-kind c (Require n ∷ l) h = (tt, constraints-kind c l h.1)

  conjunct-kind : (x : Conjunct Held) → ConjunctHas is_symbol (kind_at t) x → ConjunctP S (OfKind t) opens x
  conjunct-kind (Bounds c l) h = constraints-kind c l h
  conjunct-kind (Normalized c l) h = constraints-kind c l h
  conjunct-kind (Equality a b n) h = ((λ v k. k ∙ h), λ v k. k ∙ sym h)
  conjunct-kind (Recorded stops n c l) h = constraints-kind c l h
  conjunct-kind (NonNullPair n a b) h = tt
  conjunct-kind (Opaque n) h = tt

  pub conjuncts-kind : (l : List (Conjunct Held)) → ConjunctsHave is_symbol (kind_at t) l → ConjunctsP S (OfKind t) opens l
  conjuncts-kind [] h = tt
  conjuncts-kind (x ∷ l) h = (conjunct-kind x h.0, conjuncts-kind l h.1)

-- ---- A literal of a column's type is read as what was held.
pub held_reads : (p : List ℕ) → Reads (held_aexpr p)
held_reads p = record { column = λ c. refl; comparison = compared; conjunction = λ x y. refl }
  where
    compared : (o : Comparison) (x y : ℕ) → held_aexpr p (comparison_record o x y) ≡ BinaryExpr (Compare o) x y
    compared Eq x y = refl
    compared NotEq x y = refl
    compared Lt x y = refl
    compared LtEq x y = refl
    compared Gt x y = refl
    compared GtEq x y = refl

held_back : (ty : ℕ) (v : Held) → is_symbol v ≡ eqb ty 4 → held ty (bits_of v) ≡ v
held_back ty (Number v) h = ap (λ b. cond b (Symbol v) (Number v)) (sym h)
held_back ty (Symbol v) h = ap (λ b. cond b (Symbol v) (Number v)) (sym h)

module _ {K : Type 0} (S : Scalars K Held) (t p : List ℕ)
    (opens : (c : ℕ) (w e : Held) → OfKind t c w → OfKind t c e → OfKind t c (S.opened w e)) where
  read_as : (c : ℕ) (x : ColumnComparison Held) → OfKind t c (value_of x) →
      ReadAs (held_aexpr p) (held_reads p) t (c, map_comparison bits_of x) (c, x)
  read_as c (IsEq v) h = record { column = refl; compares = refl; literal = ap Literal (held_back (get_or t c 0) v h) }
  read_as c (IsLower true v) h =
      record { column = refl; compares = refl; literal = ap Literal (held_back (get_or t c 0) v h) }
  read_as c (IsLower false v) h =
      record { column = refl; compares = refl; literal = ap Literal (held_back (get_or t c 0) v h) }
  read_as c (IsUpper true v) h =
      record { column = refl; compares = refl; literal = ap Literal (held_back (get_or t c 0) v h) }
  read_as c (IsUpper false v) h =
      record { column = refl; compares = refl; literal = ap Literal (held_back (get_or t c 0) v h) }
  read_as c (IsNotEq v) h = record { column = refl; compares = refl; literal = ap Literal (held_back (get_or t c 0) v h) }

  pub all_read_as : (cs : List (ℕ × ColumnComparison Held)) → WrittenP S (OfKind t) opens cs →
      AllReadAs (held_aexpr p) (held_reads p) t (map_comparisons bits_of cs) cs
  all_read_as [] h = tt
  all_read_as (x ∷ cs) h = (read_as x.0 x.1 h.0, all_read_as cs h.1)
