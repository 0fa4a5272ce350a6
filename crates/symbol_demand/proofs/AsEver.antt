-- Where no column is a Text, the rows of demand 3 are those of a screen without symbols.
use mathlib.Core.Path.{◌≡◌, refl, sym, ap}
use mathlib.Core.Bool.{Bool, true, false, ◌&&◌, ◌||◌, true≢false}
use mathlib.Core.List.{List}
use mathlib.Core.Logic.{◌⊎◌, inl, inr}
use mathlib.Core.Option.{Option, none, some}
use Prim.Native.Nat.{ℕ, ◌≤◌, ◌<◌}
use native.Mathlib.Omega.{arith}
use lib.Dec.{leb, eqb}
use lib.IntN.{ℤ}
use lib.ListN.{length, get_or}
use borrow.Author.Tests.{leb-true, eqb-false}
use Rattle.records.specs.Shape.{in_type_in, known_type_in}
use Rattle.records.proofs.Laws.{and_left, and_right, by-test}
use Rattle.records.proofs.Loops.{all_holds}
use Rattle.checking.specs.Check.{table_ok, table_ok_in, types_known_in}
use Rattle.truth.specs.AExpr.{AExpr}
use Rattle.truth.specs.Halves.{key}
use Rattle.merge.specs.Demand.{Row, IsRow, NullOrTruth, NullOrTyped}
use Rattle.merge.specs.Plain.{is_number_column}
use Rattle.merge.proofs.Demand.{or_no}
use Rattle.symbol_screens.specs.Rows.{IsRowWith}
use Rattle.symbol_demand.specs.Demand.{RowsAsEver}

-- A truth is a value of its type.
truth-typed : (ty : ℕ) (x : Option ℤ) → ty ≡ 3 → NullOrTruth x → NullOrTyped ty x
unfolding in_type_in
truth-typed ty none e h = tt
truth-typed ty (some k) e (inl h) = record { bits = 0; typed = rw e; is = h }
truth-typed ty (some k) e (inr h) = record { bits = 1; typed = rw e; is = h }

module _ (t : List ℕ) (table : table_ok t ≡ true) (c : ℕ) (l : c < length t) where
  type_known : (1 ≤ get_or t c 0) × (get_or t c 0 ≤ 3)
  unfolding table_ok_in types_known_in known_type_in
  type_known =
      let k = all_holds (λ (i : ℕ). leb 1 (get_or t i 0) && leb (get_or t i 0) 3) c (length t) l
      (and_right (leb (length t) 64) _ table) in (
        leb-true 1 (get_or t c 0) (and_left (leb 1 (get_or t c 0)) (leb (get_or t c 0) 3) k),
        leb-true (get_or t c 0) 3 (and_right (leb 1 (get_or t c 0)) (leb (get_or t c 0) 3) k),
      )

  is_truth : is_number_column t c ≡ false → get_or t c 0 ≡ 3
  is_truth n =
      let e = or_no (eqb (get_or t c 0) 1) (eqb (get_or t c 0) 2) n in
      let a : (get_or t c 0 ≡ 1 → ⊥) = eqb-false (get_or t c 0) 1 e.0 in
      let b : (get_or t c 0 ≡ 2 → ⊥) = eqb-false (get_or t c 0) 2 e.1 in
      omega (arith, a, b, type_known.0, type_known.1)

  no_text : get_or t c 0 ≡ 4 → ⊥
  no_text e = omega (arith, e, type_known.1)

pub rows-as_ever : RowsAsEver
rows-as_ever t R root row table = (
  λ h. record {
    truths = λ c l n. h.truths c l (is_truth t table c l n);
    typed = λ e c l. by-test (is_number_column t c) (λ n. h.typed e c l n)
        (λ n. truth-typed (get_or t c 0) (row c) (is_truth t table c l n) (h.truths c l (is_truth t table c l n)));
  },
  λ h. record {
    truths = λ c l e. h.truths c l (ap (λ ty. eqb ty 1 || eqb ty 2) e);
    symbols = λ c l e. absurd (no_text t table c l e);
    typed = λ e c l n. h.typed e c l;
  },
)
