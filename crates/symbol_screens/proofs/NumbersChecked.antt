-- A screen without Text is checked as ever, whatever text pool is lent.
use mathlib.Core.Path.{◌≡◌, refl, ap}
use mathlib.Core.Bool.{Bool, true, false, cond, ◌&&◌}
use mathlib.Core.List.{List}
use Prim.Native.Nat.{ℕ, ◌<◌}
use lib.Dec.{ltb, leb, eqb}
use lib.ListN.{length, get_or}
use Rattle.records.specs.Record.{node, fields_at, decode}
use Rattle.records.specs.Shape.{known_type_in}
use Rattle.records.specs.declared.record.Fields.{Fields}
use Rattle.records.specs.declared.record.Record.{Record}
use Rattle.record_check.specs.Fit.{type_at}
use Rattle.checking.specs.Check.{types_known_in, table_ok_in, record_fault_in, first_fault_in, records_answer_in, check_answer_in, check_answer}
use Rattle.checking.specs.Answer as check
use Rattle.checking.proofs.Standing.{all_same, first-same, known_same, record_same, sizes-same}
use Rattle.symbol_screens.specs.Reading.{value_type}

-- No column is a Text, and no used record says type 4.
pub record NoText (t rs : List ℕ) (used : ℕ) : Type 0 where
  pub columns : (c : ℕ) → c < length t → eqb (get_or t c 0) 4 ≡ false
  pub records : (n : ℕ) → n < used → eqb (fields_at rs (node n)).ty 4 ≡ false

-- the type of a record's values is the type that its fields say, or 0
pick : (b : Bool) (x y : Record) → eqb (value_type x) 4 ≡ false → eqb (value_type y) 4 ≡ false → eqb (value_type (cond b x y)) 4 ≡ false
pick true x y h k = h
pick false x y h k = k

pub value-type : (f : Fields) → eqb f.ty 4 ≡ false → eqb (value_type (decode f)) 4 ≡ false
unfolding decode
value-type f e =
    pick (eqb f.kind 1) _ _ refl
    (pick (eqb f.kind 2) _ _ e
    (pick (eqb f.kind 3) _ _ refl
    (pick (eqb f.kind 4) _ _ refl
    (pick (eqb f.kind 5) _ _ refl
    (pick (eqb f.kind 6) _ _ refl
    (pick (eqb f.kind 7) _ _ refl
    (pick (eqb f.kind 8) _ _ refl
    (pick (eqb f.kind 9) _ _ e
    (pick (eqb f.kind 10) _ _ refl refl)))))))))

module _ (text : ℕ) (t rs p : List ℕ) (used : ℕ) (short : leb text 8193 ≡ true) (free : NoText t rs used) where
  faults_same : first_fault_in text t rs p used ≡ first_fault_in 0 t rs p used
  unfolding first_fault_in
  faults_same =
      first-same (λ (i : ℕ). record_fault_in text t rs p (node i)) (λ (i : ℕ). record_fault_in 0 t rs p (node i)) used
      (λ n h. record_same text t rs p n (free.records n h))

  table_same : table_ok_in text t ≡ table_ok_in 0 t
  unfolding table_ok_in types_known_in
  table_same =
      ap (λ b. leb (length t) 64 && b)
      (all_same (λ (k : ℕ). known_type_in text (get_or t k 0)) (λ (k : ℕ). known_type_in 0 (get_or t k 0)) (length t)
      (λ k h. known_same text (get_or t k 0) (free.columns k h)))

  pub check-same : (root : ℕ) → check_answer_in text t rs p used root ≡ check_answer t rs p used root
  unfolding check_answer_in records_answer_in
  check-same root =
      λ i. cond (table_same i)
      (cond (sizes-same text rs p used short i)
      (cond (ltb root used)
      (cond (eqb (faults_same i) 0) (cond (eqb (type_at t rs (node root)) 3) check.Accepted (check.Refused 7))
      (check.Refused (faults_same i)))
      (check.Refused 3))
      (check.Refused 2))
      (check.Refused 1)
