-- What checking has shown is what evaluating needs.
-- Assumes nothing.
use mathlib.Core.Path.{◌≡◌, refl, sym, subst}
use mathlib.Core.Bool.{Bool, true, false, cond, not, ◌&&◌, true≢false}
use mathlib.Core.List.{List}
use mathlib.Core.Logic.{inl, inr}
use Prim.Native.Nat.{ℕ, ◌+◌, ◌*◌, ◌/◌, ◌<◌, ◌≤◌}
use native.Mathlib.Omega.{arith}
use lib.Dec.{ltb, leb, eqb}
use lib.ListN.{length}
use borrow.Author.Tests.{ltb-true, leb-true, eqb-true}
use Rattle.records.specs.Operator.{operator_at, is_left_out}
use Rattle.records.specs.Record.{fields_at, decode, record_at, node, column_number, inputs}
use Rattle.records.specs.Shape.{shape_ok, shape_ok_in, known_ok_in, unused_ok, literal_ok_in, max_code, Ty, uses, known_type}
use Rattle.record_check.specs.Fit.{reach_ok, reach_ok_in, served_ok, types_ok, type_at, list_ok_in, all_fit, all_fit_in, member_fits}
use Rattle.checking.specs.Check.{table_ok_in, types_known}
use Rattle.checking.specs.Checked.{Checked}
use Rattle.records.specs.declared.operator.Operator.{Operator}
use Rattle.records.specs.declared.operator.Operator.TheVariants as operator
use Rattle.records.specs.declared.record.Fields.{Fields}
use Rattle.records.specs.declared.record.Record.{Record}
use Rattle.records.specs.declared.record.Record.TheVariants as kind
use Rattle.records.proofs.Laws.{and_left}
use Rattle.checking.proofs.Accepted.{Below, inputs-below, checked-lent}
use Rattle.truth.specs.AExpr.{Missing, Inputs, WF}
use Rattle.truth.specs.FromBytes.{binary_expr, to_aexpr, aexpr_of, aexpr_at}
use Rattle.truth.specs.Evaluate.{Served, ColumnThere, Fit, Evaluable}
use Rattle.row_test.proofs.Evaluation.{Each, each_at}

-- ---- inputs
binary-aexpr : (n : ℕ) (o : Operator) (x y : ℕ) → (x < n) × (y < n) → Inputs n (binary_expr o x y)
binary-aexpr n operator.Eq x y h = h
binary-aexpr n operator.EqValidity x y h = h
binary-aexpr n operator.NotEq x y h = h
binary-aexpr n operator.NotEqValidity x y h = h
binary-aexpr n operator.Lt x y h = h
binary-aexpr n operator.LtEq x y h = h
binary-aexpr n operator.Gt x y h = h
binary-aexpr n operator.GtEq x y h = h
binary-aexpr n operator.Plus x y h = tt
binary-aexpr n operator.Minus x y h = tt
binary-aexpr n operator.Multiply x y h = tt
binary-aexpr n operator.RustDivide x y h = tt
binary-aexpr n operator.TrueDivide x y h = tt
binary-aexpr n operator.FloorDivide x y h = h
binary-aexpr n operator.Modulus x y h = h
binary-aexpr n operator.And x y h = h
binary-aexpr n operator.Or x y h = h
binary-aexpr n operator.Xor x y h = h
binary-aexpr n operator.LogicalAnd x y h = h
binary-aexpr n operator.LogicalOr x y h = h

pub inputs-aexpr : (p : List ℕ) (n : ℕ) (r : Record) → Below n (inputs r) → Inputs n (to_aexpr p r)
inputs-aexpr p n kind.Invalid h = tt
inputs-aexpr p n (kind.Column c) h = tt
inputs-aexpr p n (kind.Literal ty v) h = tt
inputs-aexpr p n (kind.Null ty) h = tt
inputs-aexpr p n (kind.Binary o x y) h = binary-aexpr n o x.0 y.0 (h.0, h.1.0)
inputs-aexpr p n (kind.Not x) h = h.0
inputs-aexpr p n (kind.IsNull x) h = h.0
inputs-aexpr p n (kind.IsNotNull x) h = h.0
inputs-aexpr p n (kind.IsBetween k x low high) h = (h.0, h.1.0, h.1.1.0)
inputs-aexpr p n (kind.List ty holds_null start count) h = tt
inputs-aexpr p n (kind.IsIn equal x list) h = (h.0, h.1.0)

module _ (t rs p : List ℕ) (used root : ℕ) (ok : Checked t rs p used root) where
  inputs-fit : (n : ℕ) → n < used → Inputs n (aexpr_of rs p n)
  unfolding aexpr_of
  inputs-fit n h = inputs-aexpr p n (record_at rs (node n)) (inputs-below t rs p used root ok n h)

  -- The records of a checked screen have their inputs below them.
  pub checked-wf : WF (aexpr_at rs p used)
  unfolding aexpr_at
  checked-wf n = go (ltb n used) refl
    where
      go : (b : Bool) → ltb n used ≡ b → Inputs n (cond b (aexpr_of rs p n) Missing)
      go true e = inputs-fit n (ltb-true n used e)
      go false e = tt

-- ---- operators
served-each : Each (λ k. not (is_left_out (operator_at k)) ≡ true → Served k) 20
unfolding operator_at
served-each = (
  (
    (
      (
        (
          (
            (
              (
                (
                  (
                    (
                      (
                        (
                          (
                            (
                              (
                                (
                                  (
                                    (
                                      (
                                        tt,
                                        λ e. inl (omega arith),
                                      ),
                                      λ e. inl (omega arith),
                                    ),
                                    λ e. inl (omega arith),
                                  ),
                                  λ e. inl (omega arith),
                                ),
                                λ e. inl (omega arith),
                              ),
                              λ e. inl (omega arith),
                            ),
                            λ e. inl (omega arith),
                          ),
                          λ e. inl (omega arith),
                        ),
                        λ e. absurd (true≢false (sym e)),
                      ),
                      λ e. absurd (true≢false (sym e)),
                    ),
                    λ e. absurd (true≢false (sym e)),
                  ),
                  λ e. absurd (true≢false (sym e)),
                ),
                λ e. absurd (true≢false (sym e)),
              ),
              λ e. inr (omega arith, omega arith),
            ),
            λ e. inr (omega arith, omega arith),
          ),
          λ e. inr (omega arith, omega arith),
        ),
        λ e. inr (omega arith, omega arith),
      ),
      λ e. inr (omega arith, omega arith),
    ),
    λ e. inr (omega arith, omega arith),
  ),
  λ e. inr (omega arith, omega arith),
)

-- ---- the fields
third : (a b c d : Bool) → (a && (b && (c && d))) ≡ true → c ≡ true
third true true c d e = and_left c d e
third true false c d e = absurd (true≢false (sym e))
third false b c d e = absurd (true≢false (sym e))

module _ (f : Fields) where
  decode-column : f.kind ≡ 1 → decode f ≡ kind.Column (column_number f.a)
  unfolding decode
  decode-column k = rw k

  decode-binary : f.kind ≡ 4 → decode f ≡ kind.Binary (operator_at f.code) (node f.a) (node f.b)
  unfolding decode
  decode-binary k = rw k

  decode-list : f.kind ≡ 9 → decode f ≡ kind.List f.ty (eqb f.code 1) f.a f.b
  unfolding decode
  decode-list k = rw k

  decode-in : f.kind ≡ 10 → decode f ≡ kind.IsIn (eqb f.code 1) (node f.a) (node f.b)
  unfolding decode
  decode-in k = rw k

  code_known : shape_ok f ≡ true → leb f.code (max_code f.kind) ≡ true
  unfolding shape_ok_in known_ok_in
  code_known e =
      third (leb 1 f.kind) (leb f.kind 10) (leb f.code (max_code f.kind))
      (cond (uses Ty f.kind) (known_type f.ty) (eqb f.ty 0))
      (and_left (known_ok_in 0 f) (unused_ok f && literal_ok_in 0 f) e)

  binary-code : f.kind ≡ 4 → shape_ok f ≡ true → f.code < 20
  unfolding max_code
  binary-code k e =
      let h : f.code ≤ 19 = leb-true f.code 19 (rw k at (code_known e)) in omega arith

  operator-fit : f.kind ≡ 4 → shape_ok f ≡ true → served_ok (decode f) ≡ true → Served f.code
  unfolding operator_at served_ok
  operator-fit k sh sv =
      each_at (λ k. not (is_left_out (operator_at k)) ≡ true → Served k) 20 f.code served-each (binary-code k sh)
      (subst (λ r. served_ok r ≡ true) (decode-binary k) sv)

  column-fit :
      (t p row : List ℕ) (n : ℕ) → length t ≤ 64 → length row ≡ 8 * length t → f.kind ≡ 1 →
      reach_ok t p (decode f) (node n) ≡ true → ColumnThere row f.a
  unfolding reach_ok_in
  column-fit t p row n small long k e =
      let h : f.a < length t =
      ltb-true f.a (length t) (subst (λ r. reach_ok t p r (node n) ≡ true) (decode-column k) e) in
      (omega arith, omega arith)

  list-fit : (t p : List ℕ) (n : ℕ) → f.kind ≡ 9 → reach_ok t p (decode f) (node n) ≡ true → 8 * (f.a + f.b) ≤
      length p
  unfolding list_ok_in all_fit_in reach_ok_in
  list-fit t p n k e =
      let h : f.a + f.b ≤ length p / 8 =
      leb-true (f.a + f.b) (length p / 8)
      (and_left (leb (f.a + f.b) (length p / 8)) (all_fit p f.ty f.a f.b)
      (subst (λ r. reach_ok t p r (node n) ≡ true) (decode-list k) e)) in
      omega arith

  by_kind : (m : ℕ) (P : Record → Type 0) (x y : Record) → (f.kind ≡ m → P x) → P y → P (cond (eqb f.kind m) x y)
  by_kind m P x y h g =
      go (eqb f.kind m) refl
    where
      go : (b : Bool) → eqb f.kind m ≡ b → P (cond b x y)
      go true e = h (eqb-true f.kind m e)
      go false e = g

  member-list : (x : ℕ) → member_fits x (decode f) ≡ true → f.kind ≡ 9
  unfolding decode member_fits
  member-list x =
      by_kind 1 M _ _ (λ k e. no e) (by_kind 2 M _ _ (λ k e. no e) (by_kind 3 M _ _ (λ k e. no e)
      (by_kind 4 M _ _ (λ k e. no e) (by_kind 5 M _ _ (λ k e. no e) (by_kind 6 M _ _ (λ k e. no e)
      (by_kind 7 M _ _ (λ k e. no e) (by_kind 8 M _ _ (λ k e. no e) (by_kind 9 M _ _ (λ k e. k)
      (by_kind 10 M _ _ (λ k e. no e) (λ e. no e))))))))))
    where
      M : Record → Type 0
      M r = member_fits x r ≡ true → f.kind ≡ 9

      no : false ≡ true → f.kind ≡ 9
      no e = absurd (true≢false (sym e))

pub columns-small : (t rs p : List ℕ) (used root : ℕ) → Checked t rs p used root → length t ≤ 64
unfolding table_ok_in
columns-small t rs p used root ok = leb-true (length t) 64 (and_left (leb (length t) 64) (types_known t) ok.table)

-- ---- a checked screen and a row of its length
module _ (t rs p row : List ℕ) (used root : ℕ) (ok : Checked t rs p used root) (long : length row ≡ 8 * length t) where
  record_fit : (n : ℕ) → n < used → Fit rs p row n (fields_at rs (node n))
  unfolding record_at types_ok
  record_fit n h =
      let c = ok.records n h in
      record {
        inputs = inputs-fit t rs p used root ok n h;
        operator = λ k. operator-fit (fields_at rs (node n)) k c.shape c.served;
        column = λ k. column-fit (fields_at rs (node n)) t p row n (columns-small t rs p used root ok) long k c.reach;
        list = λ k. list-fit (fields_at rs (node n)) t p n k c.reach;
        member =
            λ k. member-list (fields_at rs (node (fields_at rs (node n)).b))
            (type_at t rs (node (fields_at rs (node n)).a))
            (subst (λ r. types_ok t rs r ≡ true) (decode-in (fields_at rs (node n)) k) c.types);
      }

  -- Every used record of a checked screen may be evaluated.
  pub checked-evaluable : (n : ℕ) → n < used → Evaluable rs p row n
  checked-evaluable n h =
      let r : 16 * used ≤ length rs = checked-lent t rs p used root ok in
      record { room = omega arith; fit = λ m k. record_fit m (omega arith) }
