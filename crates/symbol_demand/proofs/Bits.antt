-- The bits of what a screen with symbols holds are the bits that its records say.
use mathlib.Core.Path.{◌≡◌, refl, sym, ◌∙◌, ap, fun_ext}
use mathlib.Core.Bool.{Bool, true, false, cond}
use mathlib.Core.List.{List, [], ◌∷◌, map}
use Prim.Native.Nat.{ℕ}
use lib.Dec.{ltb, eqb}
use Rattle.records.specs.Record.{record_at, node}
use Rattle.records.specs.declared.record.Record.{Record}
use Rattle.truth.specs.AExpr.{AExpr, Column, Literal, Null, BinaryExpr, Not, IsNull, IsNotNull, IsBetween, ListLiteral, IsIn}
use Rattle.truth.specs.AExpr.{Missing, map_aexpr}
use Rattle.truth.specs.FromBytes.{to_aexpr, aexpr_of, aexpr_at}
use Rattle.merge.specs.Classify.{Conjunct, Bounds, Normalized, Equality, Recorded, NonNullPair, Opaque, read_conjuncts}
use Rattle.merge.specs.Lines.{map_conjunct}
use Rattle.merge.specs.Minterms.{minterms}
use Rattle.merge.specs.Passes.{equalities}
use Rattle.merge.proofs.ReadMapped.{minterms-mapped, read_mapped}
use Rattle.symbol_screens.specs.Held.{Held, Number, Symbol, held, bits_of}
use Rattle.symbol_screens.specs.Reading.{value_type, held_aexpr, held_at}

bits-held : (ty v : ℕ) → bits_of (held ty v) ≡ v
bits-held ty v = go (eqb ty 4)
  where
    go : (b : Bool) → bits_of (cond b (Symbol v) (Number v)) ≡ v
    go true = refl
    go false = refl

values-back : (ty : ℕ) (l : List ℕ) → map bits_of (map (held ty) l) ≡ l
values-back ty [] = refl
values-back ty (v ∷ l) = λ i. bits-held ty v i ∷ values-back ty l i

bits_back : (ty : ℕ) (e : AExpr ℕ) → map_aexpr bits_of (map_aexpr (held ty) e) ≡ e
bits_back ty (Column c) = refl
bits_back ty (Literal v) = ap Literal (bits-held ty v)
bits_back ty Null = refl
bits_back ty (BinaryExpr o x y) = refl
bits_back ty (Not x) = refl
bits_back ty (IsNull x) = refl
bits_back ty (IsNotNull x) = refl
bits_back ty (IsBetween c d x y z) = refl
bits_back ty (ListLiteral m l) = ap (ListLiteral m) (values-back ty l)
bits_back ty (IsIn e x y) = refl
bits_back ty Missing = refl

equalities-mapped : {A B : Type 0} (f : A → B) (l : List (Conjunct A)) → equalities (map (map_conjunct f) l) ≡ equalities l
equalities-mapped f [] = refl
equalities-mapped f (Bounds c k ∷ l) = equalities-mapped f l
equalities-mapped f (Normalized c k ∷ l) = equalities-mapped f l
equalities-mapped f (Equality a b n ∷ l) = ap (λ es. (a, b, n) ∷ es) (equalities-mapped f l)
equalities-mapped f (Recorded z n c k ∷ l) = equalities-mapped f l
equalities-mapped f (NonNullPair n a b ∷ l) = equalities-mapped f l
equalities-mapped f (Opaque n ∷ l) = equalities-mapped f l

module _ (rs p : List ℕ) (used : ℕ) where
  pub bits_at : (n : ℕ) → map_aexpr bits_of (held_at rs p used n) ≡ aexpr_at rs p used n
  unfolding held_at aexpr_at aexpr_of
  bits_at n = go (ltb n used)
    where
      r : Record
      r = record_at rs (node n)

      go : (b : Bool) → map_aexpr bits_of (cond b (held_aexpr p r) Missing) ≡ cond b (to_aexpr p r) Missing
      go true = bits_back (value_type r) (to_aexpr p r)
      go false = refl

  pub bits-read : (root : ℕ) →
      read_conjuncts (aexpr_at rs p used) root ≡ map (map_conjunct bits_of) (read_conjuncts (held_at rs p used) root)
  bits-read root =
      ap (λ (R : ℕ → AExpr ℕ). read_conjuncts R root) (sym (fun_ext bits_at)) ∙ read_mapped bits_of (held_at rs p used) root

  pub bits-walk : (root : ℕ) → minterms (aexpr_at rs p used) root ≡ minterms (held_at rs p used) root
  bits-walk root =
      ap (λ (R : ℕ → AExpr ℕ). minterms R root) (sym (fun_ext bits_at)) ∙ minterms-mapped bits_of (held_at rs p used) root

  pub bits-equalities : (root : ℕ) →
      equalities (read_conjuncts (aexpr_at rs p used) root) ≡ equalities (read_conjuncts (held_at rs p used) root)
  bits-equalities root =
      ap equalities (bits-read root) ∙ equalities-mapped bits_of (read_conjuncts (held_at rs p used) root)
