-- Types in an accepted screen: its conjuncts are Truths, and every value that the outcome writes is a value of the type
-- of the column beside it. text is what is lent beside the pool.
use mathlib.Core.Path.{◌≡◌, refl, sym, ◌∙◌, subst}
use mathlib.Core.Bool.{Bool, true, false, cond, not, ◌&&◌, and-eq-true_iff}
use mathlib.Core.List.{List}
use Prim.Native.Nat.{ℕ, ◌<◌}
use native.Mathlib.Omega.{arith}
use lib.Dec.{eqb, ltb, leb}
use lib.ListN.{length, get_or}
use borrow.Author.Tests.{ltb-true, lt-ltb, eqb-true}
use Rattle.records.specs.Operator.{is_comparison, is_division}
use Rattle.records.specs.Record.{node, fields_at, decode, record_at}
use Rattle.records.specs.Shape.{in_type_in, known_ok_in, unused_ok, literal_ok_in, shape_ok_in}
use Rattle.records.specs.declared.operator.Operator.{Operator}
use Rattle.records.specs.declared.record.Fields.{Fields}
use Rattle.records.specs.declared.record.Record.{Record}
use Rattle.records.specs.declared.record.Record.TheVariants as kind
use Rattle.record_check.specs.Fit.{reach_ok_in, type_of, type_at, same_type, binary_fits, between_fits, types_ok}
use Rattle.checking.specs.Checked.{Checked, CheckedIn}
use Rattle.truth.specs.AExpr.{AExpr, Missing}
use Rattle.truth.specs.FromBytes.{to_aexpr, values_from, aexpr_of, aexpr_at, truth_keys}
use Rattle.constraints.specs.Comparisons.{ColumnComparison}
use Rattle.constraints.specs.Payload.{payload}
use Rattle.merge.specs.Minterms.{and_sides, minterms}
use Rattle.merge.specs.Classify.{Operand, AColumn, ALiteral, AList, Other, operand, read_conjuncts}
use Rattle.merge.specs.Emit.{Rebuilt}
use Rattle.merge.specs.Rewrite.{outcome_of}
use Rattle.merge.proofs.Accepted.{binary-ind, inputs-fall, inputs-fall_in, two, three}
use Rattle.merge.proofs.Chains.{Every, Sides, sides_binary, minterms-have}
use Rattle.merge.proofs.Fitting.{Together, At, RecordP, conjuncts-p, record_binary}
use Rattle.merge.proofs.Literals.{ConjunctsP, WrittenP, OutcomeP, merge_p}
use Rattle.merge.proofs.Returned.{KeptHave, kept-have}
use Rattle.merge.proofs.Demand as demand

both : (a b : Bool) → (a && b) ≡ true → (a ≡ true) × (b ≡ true)
both a b h = (and-eq-true_iff a b).0 h

-- ---- A literal without the fault 4 is a value of its type.
abbrev LiteralT : ℕ → Record → Type 0
LiteralT text kind.Invalid = Unit {0}
LiteralT text (kind.Column c) = Unit {0}
LiteralT text (kind.Literal ty v) = in_type_in text ty v ≡ true
LiteralT text (kind.Null ty) = Unit {0}
LiteralT text (kind.Binary o x y) = Unit {0}
LiteralT text (kind.Not x) = Unit {0}
LiteralT text (kind.IsNull x) = Unit {0}
LiteralT text (kind.IsNotNull x) = Unit {0}
LiteralT text (kind.IsBetween k x low high) = Unit {0}
LiteralT text (kind.List ty marked start count) = Unit {0}
LiteralT text (kind.IsIn equal x list) = Unit {0}

pick : (text : ℕ) (b : Bool) (x y : Record) → (b ≡ true → LiteralT text x) → LiteralT text y → LiteralT text (cond b x y)
pick text true x y h k = h refl
pick text false x y h k = k

literal-typed : (text : ℕ) (f : Fields) → shape_ok_in text f ≡ true → LiteralT text (decode f)
unfolding shape_ok_in literal_ok_in decode
literal-typed text f h =
    let l = (both (unused_ok f) (literal_ok_in text f) (both (known_ok_in text f) (unused_ok f && literal_ok_in text f) h).1).1 in
    pick text (eqb f.kind 1) _ _ (λ e. tt)
    (pick text (eqb f.kind 2) _ _ (λ e. rw e at l)
    (pick text (eqb f.kind 3) _ _ (λ e. tt)
    (pick text (eqb f.kind 4) _ _ (λ e. tt)
    (pick text (eqb f.kind 5) _ _ (λ e. tt)
    (pick text (eqb f.kind 6) _ _ (λ e. tt)
    (pick text (eqb f.kind 7) _ _ (λ e. tt)
    (pick text (eqb f.kind 8) _ _ (λ e. tt)
    (pick text (eqb f.kind 9) _ _ (λ e. tt)
    (pick text (eqb f.kind 10) _ _ (λ e. tt) tt)))))))))

-- ---- Operands of a type.
module _ (text : ℕ) (t : List ℕ) where
  -- a column of the table, a value of its type: what checking asks of the two records written for a comparison
  abbrev pub InColumn : ℕ → ℕ → Type 0
  InColumn c v = (c < length t) × (in_type_in text (get_or t c 0) v ≡ true)

  pub opens : (c : ℕ) (w e : ℕ) → InColumn c w → InColumn c e → InColumn c (payload.opened w e)
  unfolding payload
  opens c w e h k = k

  -- the operand is of the type ty
  abbrev OperandT : ℕ → Operand ℕ → Type 0
  OperandT ty (AColumn c) = (c < length t) × (get_or t c 0 ≡ ty)
  OperandT ty (ALiteral v) = in_type_in text ty v ≡ true
  OperandT ty (AList l) = Unit {0}
  OperandT ty Other = Unit {0}

  across : (a b v : ℕ) → b < length t → get_or t a 0 ≡ get_or t b 0 → InColumn a v → InColumn b v
  across a b v l e h = (l, subst (λ ty. in_type_in text ty v ≡ true) e h.1)

  -- two operands of one type
  together : (ty : ℕ) (x y : Operand ℕ) → OperandT ty x → OperandT ty y → Together payload InColumn opens x y
  together ty (AColumn a) (AColumn b) h k = (
    (λ v. across a b v k.0 (h.1 ∙ sym k.1)),
    λ v. across b a v h.0 (k.1 ∙ sym h.1),
  )
  together ty (AColumn c) (ALiteral v) h k = (h.0, subst (λ s. in_type_in text s v ≡ true) (sym h.1) k)
  together ty (AColumn c) (AList l) h k = tt
  together ty (AColumn c) Other h k = tt
  together ty (ALiteral v) (AColumn c) h k = (k.0, subst (λ s. in_type_in text s v ≡ true) (sym k.1) h)
  together ty (ALiteral v) (ALiteral w) h k = tt
  together ty (ALiteral v) (AList l) h k = tt
  together ty (ALiteral v) Other h k = tt
  together ty (AList l) y h k = tt
  together ty Other y h k = tt

  operand-typed :
      (p : List ℕ) (n : ℕ) (r : Record) → reach_ok_in text t p r (node n) ≡ true → LiteralT text r →
      OperandT (type_of t r) (operand (to_aexpr p r))
  unfolding reach_ok_in type_of
  operand-typed p n kind.Invalid h l = tt
  operand-typed p n (kind.Column c) h l = (ltb-true c.0 (length t) h, refl)
  operand-typed p n (kind.Literal ty v) h l = l
  operand-typed p n (kind.Null ty) h l = tt
  operand-typed p n (kind.Binary o x y) h l =
      binary-ind (λ r. OperandT (cond (is_division o) 1 3) (operand r)) x.0 y.0 tt (tt, tt) o (λ e c. tt)
      (λ e. (tt, tt)) (λ e d b. tt)
  operand-typed p n (kind.Not x) h l = tt
  operand-typed p n (kind.IsNull x) h l = tt
  operand-typed p n (kind.IsNotNull x) h l = tt
  operand-typed p n (kind.IsBetween k x low high) h l = tt
  operand-typed p n (kind.List ty marked start count) h l =
      go marked (leb (length (values_from p start count)) 100)
    where
      go : (m b : Bool) → OperandT 0 (cond (not m && b) (AList (values_from p start count)) Other)
      go true b = tt
      go false true = tt
      go false false = tt
  operand-typed p n (kind.IsIn equal x list) h l = tt

same-type : (x y : ℕ) → same_type x y ≡ true → x ≡ y
unfolding same_type
same-type x y h = eqb-true x y (both (ltb 0 x) (eqb x y) h).1

-- logic takes Truths
logic_fits :
    (o : Operator) (x y : ℕ) → binary_fits o x y ≡ true → is_comparison o ≡ false → is_division o ≡ false →
    (x ≡ 3) × (y ≡ 3)
unfolding binary_fits
logic_fits o x y h e d =
    let b = both (eqb x 3) (eqb y 3) (rw (e, d) at h) in (eqb-true x 3 b.0, eqb-true y 3 b.1)

-- both sides of a binary record are of one type
binary-same : (o : Operator) (x y : ℕ) → binary_fits o x y ≡ true → x ≡ y
unfolding binary_fits
binary-same o x y h = go (is_comparison o) (is_division o) h
  where
    each : (ty : ℕ) → (eqb x ty && eqb y ty) ≡ true → x ≡ y
    each ty h = let b = both (eqb x ty) (eqb y ty) h in eqb-true x ty b.0 ∙ sym (eqb-true y ty b.1)

    go : (b d : Bool) → cond b (same_type x y) (cond d (eqb x 1 && eqb y 1) (eqb x 3 && eqb y 3)) ≡ true → x ≡ y
    go true d h = same-type x y h
    go false true h = each 1 h
    go false false h = each 3 h

-- ---- An accepted screen.
module _ (text : ℕ) (t rs p : List ℕ) (used root : ℕ) (ok : CheckedIn text t rs p used root) where
  abbrev R : ℕ → AExpr ℕ
  R n = aexpr_at rs p used n

  -- a used record that is a Truth
  abbrev pub IsTruth : ℕ → Type 0
  IsTruth n = (n < used) × (type_at t rs (node n) ≡ 3)

  record_at_lem : (n : ℕ) → n < used → R n ≡ to_aexpr p (record_at rs (node n))
  unfolding aexpr_at aexpr_of
  record_at_lem n h = rw (lt-ltb n used h)

  -- what holds of every used record, and of none, holds at every node
  by-used :
      (C : AExpr ℕ → Type 0) (n : ℕ) → (n < used → C (to_aexpr p (record_at rs (node n)))) → C Missing → C (R n)
  unfolding aexpr_at aexpr_of
  by-used C n h m = go (ltb n used) refl
    where
      go : (b : Bool) → ltb n used ≡ b → C (cond b (to_aexpr p (record_at rs (node n))) Missing)
      go true e = h (ltb-true n used e)
      go false e = m

  typed_at : (x : ℕ) → x < used → OperandT text t (type_at t rs (node x)) (operand (R x))
  unfolding record_at type_at
  typed_at x h =
      subst (λ r. OperandT text t (type_of t (decode (fields_at rs (node x)))) (operand r)) (sym (record_at_lem x h))
      (operand-typed text t p x (decode (fields_at rs (node x))) (ok.records x h).reach
      (literal-typed text (fields_at rs (node x)) (ok.records x h).shape))

  at_same :
      (x y : ℕ) → x < used → y < used → type_at t rs (node x) ≡ type_at t rs (node y) →
      At payload (InColumn text t) (opens text t) R x y
  at_same x y h k e =
      together text t (type_at t rs (node x)) (operand (R x)) (operand (R y)) (typed_at x h)
      (subst (λ ty. OperandT text t ty (operand (R y))) (sym e) (typed_at y k))

  record_typed :
      (n : ℕ) → n < used → (r : Record) → reach_ok_in text t p r (node n) ≡ true → types_ok t rs r ≡ true →
      RecordP payload (InColumn text t) (opens text t) R (to_aexpr p r)
  unfolding reach_ok_in types_ok between_fits
  record_typed n l kind.Invalid h k = tt
  record_typed n l (kind.Column c) h k = tt
  record_typed n l (kind.Literal ty v) h k = tt
  record_typed n l (kind.Null ty) h k = tt
  record_typed n l (kind.Binary o x y) h k =
      let b = two n x.0 y.0 h in
      let i : x.0 < n = b.0 in
      let j : y.0 < n = b.1 in
      let q = at_same x.0 y.0 (omega arith) (omega arith) (binary-same o _ _ k) in
      binary-ind (λ r. RecordP payload (InColumn text t) (opens text t) R r) x.0 y.0 tt (tt, tt) o (λ e c. q)
      (λ e. (tt, tt))
      (λ e d b. record_binary payload (InColumn text t) (opens text t) R b x.0 y.0 q)
  record_typed n l (kind.Not x) h k = tt
  record_typed n l (kind.IsNull x) h k = tt
  record_typed n l (kind.IsNotNull x) h k = tt
  record_typed n l (kind.IsBetween ends x low high) h k =
      let b = three n x.0 low.0 high.0 h in
      let f = both (same_type (type_at t rs x) (type_at t rs low)) (same_type (type_at t rs x) (type_at t rs high)) k in
      let i : x.0 < n = b.0 in
      let j : low.0 < n = b.1 in
      let m : high.0 < n = b.2 in (
        at_same x.0 low.0 (omega arith) (omega arith) (same-type _ _ f.0),
        at_same x.0 high.0 (omega arith) (omega arith) (same-type _ _ f.1),
      )
  record_typed n l (kind.List ty marked start count) h k = tt
  record_typed n l (kind.IsIn equal x list) h k = tt

  -- what is read of the screen is of its columns' types
  pub conjuncts-typed : ConjunctsP payload (InColumn text t) (opens text t) (read_conjuncts R root)
  conjuncts-typed =
      conjuncts-p payload (InColumn text t) (opens text t) R
      (λ n. by-used (λ r. RecordP payload (InColumn text t) (opens text t) R r) n
      (λ l. record_typed n l (record_at rs (node n)) (ok.records n l).reach (ok.records n l).types) tt) root

  -- ---- An And of Truths.
  sides_truths :
      (n : ℕ) → n < used → (r : Record) → reach_ok_in text t p r (node n) ≡ true → types_ok t rs r ≡ true →
      Sides IsTruth (and_sides (to_aexpr p r))
  unfolding reach_ok_in types_ok
  sides_truths n l kind.Invalid h k = tt
  sides_truths n l (kind.Column c) h k = tt
  sides_truths n l (kind.Literal ty v) h k = tt
  sides_truths n l (kind.Null ty) h k = tt
  sides_truths n l (kind.Binary o x y) h k =
      let b = two n x.0 y.0 h in
      let i : x.0 < n = b.0 in
      let j : y.0 < n = b.1 in
      binary-ind (λ r. Sides IsTruth (and_sides r)) x.0 y.0 tt (tt, tt) o (λ e c. tt) (λ e. (tt, tt))
      (λ e d b. let f = logic_fits o (type_at t rs x) (type_at t rs y) k e d in
      sides_binary IsTruth b x.0 y.0 ((omega arith, f.0), (omega arith, f.1)))
  sides_truths n l (kind.Not x) h k = tt
  sides_truths n l (kind.IsNull x) h k = tt
  sides_truths n l (kind.IsNotNull x) h k = tt
  sides_truths n l (kind.IsBetween ends x low high) h k = tt
  sides_truths n l (kind.List ty marked start count) h k = tt
  sides_truths n l (kind.IsIn equal x list) h k = tt

  pub conjuncts-truths : Every IsTruth (minterms R root)
  conjuncts-truths =
      minterms-have R (inputs-fall_in text t rs p used root ok) IsTruth
      (λ n h. by-used (λ r. Sides IsTruth (and_sides r)) n
      (λ l. sides_truths n l (record_at rs (node n)) (ok.records n l).reach (ok.records n l).types) tt) root
      (ok.root-used, ok.root-truth)

-- ---- Where no text pool is lent.
module _ (t rs p : List ℕ) (used root : ℕ) (ok : Checked t rs p used root) where
  -- what is written of the outcome is of its column's type
  pub written-typed :
      (ns : List ℕ) (cs : List (ℕ × ColumnComparison ℕ)) → outcome_of rs p used root ≡ Rebuilt ns cs →
      WrittenP payload (InColumn 0 t) (opens 0 t) cs
  written-typed ns cs e =
      subst (OutcomeP payload (InColumn 0 t) (opens 0 t)) e
      (merge_p payload (InColumn 0 t) (opens 0 t) (read_conjuncts (aexpr_at rs p used) root)
      (conjuncts-typed 0 t rs p used root ok))

  -- the kept conjuncts are Truths
  pub kept-truths :
      (ns : List ℕ) (cs : List (ℕ × ColumnComparison ℕ)) → outcome_of rs p used root ≡ Rebuilt ns cs →
      Every (IsTruth 0 t rs p used root ok) ns
  kept-truths ns cs e =
      subst (KeptHave demand.payload (IsTruth 0 t rs p used root ok)) (sym (demand.merged_is rs p used root) ∙ e)
      (kept-have demand.payload (IsTruth 0 t rs p used root ok) demand.halves truth_keys (aexpr_at rs p used)
      (inputs-fall t rs p used root ok) root (conjuncts-truths 0 t rs p used root ok))
