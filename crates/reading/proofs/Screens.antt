-- A checked screen: what the code reads of its bytes is what the definitions read of its used records.
use mathlib.Core.Path.{◌≡◌, refl, sym, ◌∙◌, ap, subst}
use mathlib.Core.Bool.{Bool, true, false, cond, not, ◌&&◌}
use mathlib.Core.List.{List, [], ◌∷◌, ◌++◌, map}
use Prim.Native.Nat.{ℕ, zero, suc, ◌+◌, ◌≤◌, ◌<◌}
use native.Mathlib.Omega.{arith}
use lib.ListN.{length, get_or}
use lib.Dec.{leb, ltb}
use borrow.Author.Tests.{ltb-true, ltb-false, leb-true}
use Rattle.records.specs.Record.{node, record_at}
use Rattle.record_check.specs.Fit.{reach_ok, reach_ok_in}
use Rattle.checking.specs.Check.{table_ok, table_ok_in, types_known}
use Rattle.checking.specs.Checked.{Checked}
use Rattle.records.specs.declared.operator.Operator.{Operator}
use Rattle.records.specs.declared.operator.Operator.TheVariants as operator
use Rattle.records.specs.declared.record.Record.{Record}
use Rattle.records.specs.declared.record.Record.TheVariants as kind
use Rattle.records.proofs.Laws.{and_left}
use Rattle.truth.specs.AExpr.{AExpr, Column, Literal, Null, BinaryExpr, Not, IsNull, IsNotNull, IsBetween}
use Rattle.truth.specs.AExpr.{ListLiteral, IsIn, Missing, Inputs, WF}
use Rattle.truth.specs.FromBytes.{binary_expr, to_aexpr, aexpr_of, aexpr_at}
use Rattle.truth.proofs.Agree.{used-same}
use Rattle.constraints.specs.Payload.{payload}
use Rattle.merge.specs.Minterms.{minterms}
use Rattle.merge.specs.Classify.{Operand, AColumn, ALiteral, AList, Other, operand}
use Rattle.merge.specs.Classify.{classify, classify_record, classify_negation, read_conjuncts}
use Rattle.merge.proofs.Chains.{Below, below_more, below_app, minterms-low}
use Rattle.merge.proofs.Forms.{Forms, classify-ind}
use Rattle.merge.proofs.Fitting.{AExprP}
use Rattle.merge.proofs.Accepted.{inputs-fall}
use Rattle.read_operands.specs.Walk.{walked, first_of}
use Rattle.read_operands.proofs.Walks.{walked-minterms, first-length}
use Rattle.reading.specs.Columns.{ColumnsBelow}

-- Inputs do not depend on the pool.
no_pool : (p : List ℕ) (n : ℕ) (r : Record) → Inputs n (to_aexpr p r) → Inputs n (to_aexpr [] r)
no_pool p n kind.Invalid h = h
no_pool p n (kind.Column c) h = h
no_pool p n (kind.Literal ty v) h = h
no_pool p n (kind.Null ty) h = h
no_pool p n (kind.Binary o x y) h = h
no_pool p n (kind.Not x) h = h
no_pool p n (kind.IsNull x) h = h
no_pool p n (kind.IsNotNull x) h = h
no_pool p n (kind.IsBetween ends x low high) h = h
no_pool p n (kind.List ty marked start count) h = h
no_pool p n (kind.IsIn equal x list) h = h

-- A conjunct is read from the records at and below it.
module _ (R S : ℕ → AExpr ℕ) (n : ℕ) (same : (a : ℕ) → a < n → R a ≡ S a) where
  negation-agree : (m : ℕ) → m < n → (r : AExpr ℕ) → Inputs m r → classify_negation R n r ≡ classify_negation S n r
  negation-agree m h (Column c) i = refl
  negation-agree m h (Literal v) i = refl
  negation-agree m h Null i = refl
  negation-agree m h (BinaryExpr op x y) i = rw (same x (omega (arith, i.0)), same y (omega (arith, i.1)))
  negation-agree m h (Not x) i = refl
  negation-agree m h (IsNull x) i = rw (same x (omega (arith, i)))
  negation-agree m h (IsNotNull x) i = rw (same x (omega (arith, i)))
  negation-agree m h (IsBetween c d x y z) i = refl
  negation-agree m h (ListLiteral k l) i = refl
  negation-agree m h (IsIn k x y) i = rw (same x (omega (arith, i.0)), same y (omega (arith, i.1)))
  negation-agree m h Missing i = refl

  record_agree : WF R → (r : AExpr ℕ) → Inputs n r → classify_record R n r ≡ classify_record S n r
  record_agree wf (Column c) i = refl
  record_agree wf (Literal v) i = refl
  record_agree wf Null i = refl
  record_agree wf (BinaryExpr op x y) i = rw (same x i.0, same y i.1)
  record_agree wf (Not x) i =
      negation-agree x i (R x) (wf x) ∙ ap (classify_negation S n) (same x i)
  record_agree wf (IsNull x) i = rw (same x i)
  record_agree wf (IsNotNull x) i = rw (same x i)
  record_agree wf (IsBetween c d x y z) i = rw (same x i.0, same y i.1, same z i.2)
  record_agree wf (ListLiteral k l) i = refl
  record_agree wf (IsIn k x y) i = rw (same x i.0, same y i.1)
  record_agree wf Missing i = refl

-- ---- Columns.
-- Of a value nothing is asked.
abbrev pub AnyValue : ℕ → Type 0
AnyValue v = Unit {0}

-- A column is below k; of the other records nothing is asked.
abbrev pub InTable : ℕ → AExpr ℕ → Type 0
InTable k r = AExprP payload AnyValue (λ w e h l. tt) (λ c. c < k) r

abbrev OperandBelow : ℕ → Operand ℕ → Type 0
OperandBelow k (AColumn c) = c < k
OperandBelow k (ALiteral v) = Unit {0}
OperandBelow k (AList l) = Unit {0}
OperandBelow k Other = Unit {0}

operand_below : (k : ℕ) (r : AExpr ℕ) → InTable k r → OperandBelow k (operand r)
operand_below k (Column c) h = h
operand_below k (Literal v) h = tt
operand_below k Null h = tt
operand_below k (BinaryExpr op x y) h = tt
operand_below k (Not x) h = tt
operand_below k (IsNull x) h = tt
operand_below k (IsNotNull x) h = tt
operand_below k (IsBetween c d x y z) h = tt
operand_below k (ListLiteral m l) h = go m (leb (length l) 100)
  where
    go : (m b : Bool) → OperandBelow k (cond (not m && b) (AList l) Other)
    go true b = tt
    go false true = tt
    go false false = tt
operand_below k (IsIn e x y) h = tt
operand_below k Missing h = tt

binary-in_table : (k : ℕ) (o : Operator) (x y : ℕ) → InTable k (binary_expr o x y)
binary-in_table k operator.Eq x y = tt
binary-in_table k operator.EqValidity x y = tt
binary-in_table k operator.NotEq x y = tt
binary-in_table k operator.NotEqValidity x y = tt
binary-in_table k operator.Lt x y = tt
binary-in_table k operator.LtEq x y = tt
binary-in_table k operator.Gt x y = tt
binary-in_table k operator.GtEq x y = tt
binary-in_table k operator.Plus x y = tt
binary-in_table k operator.Minus x y = tt
binary-in_table k operator.Multiply x y = tt
binary-in_table k operator.RustDivide x y = tt
binary-in_table k operator.TrueDivide x y = tt
binary-in_table k operator.FloorDivide x y = tt
binary-in_table k operator.Modulus x y = tt
binary-in_table k operator.And x y = tt
binary-in_table k operator.Or x y = tt
binary-in_table k operator.Xor x y = tt
binary-in_table k operator.LogicalAnd x y = tt
binary-in_table k operator.LogicalOr x y = tt

-- A column that a checked record names is in the table.
record_in_table : (t p : List ℕ) (n : ℕ) (r : Record) → length t ≤ 64 → reach_ok t p r (node n) ≡ true
    → InTable 64 (to_aexpr p r)
unfolding reach_ok_in
record_in_table t p n kind.Invalid l h = tt
record_in_table t p n (kind.Column c) l h =
    let k : c.0 < length t = ltb-true c.0 (length t) h in omega arith
record_in_table t p n (kind.Literal ty v) l h = tt
record_in_table t p n (kind.Null ty) l h = tt
record_in_table t p n (kind.Binary o x y) l h = binary-in_table 64 o x.0 y.0
record_in_table t p n (kind.Not x) l h = tt
record_in_table t p n (kind.IsNull x) l h = tt
record_in_table t p n (kind.IsNotNull x) l h = tt
record_in_table t p n (kind.IsBetween k x low high) l h = tt
record_in_table t p n (kind.List ty marked start count) l h = tt
record_in_table t p n (kind.IsIn equal x list) l h = tt

table-small : (t : List ℕ) → table_ok t ≡ true → length t ≤ 64
unfolding table_ok_in
table-small t h = leb-true (length t) 64 (and_left (leb (length t) 64) (types_known t) h)

column-forms : Forms (OperandBelow 64) (ColumnsBelow 64)
column-forms =
    record {
      opaque = λ n. tt;
      entered = λ n c h. h;
      compared = λ c o v h k. h;
      normalized = λ c o v h k. h;
      between = λ c i j v w h k l. h;
      equal = λ a b n h k. (h, k);
      paired = λ n a b h k. (h, k);
      recorded = λ z n c x o h. h;
    }

-- ---- The first numbers of an array.
below_left : (u : ℕ) (l m : List ℕ) → Below u (l ++ m) → Below u l
below_left u [] m h = tt
below_left u (x ∷ l) m h = (h.0, below_left u l m h.1)

below_right : (u : ℕ) (l m : List ℕ) → Below u (l ++ m) → Below u m
below_right u [] m h = h
below_right u (x ∷ l) m h = below_right u l m h.1

-- A list below u is below u place by place.
pub below-first : (u : ℕ) (nodes : List ℕ) (n : ℕ) → Below u (first_of nodes n)
    → (i : ℕ) → i < n → get_or nodes i 0 < u
unfolding first_of
below-first u nodes zero h i k = absurd (omega arith)
below-first u nodes (suc n) h i k = go (ltb i n) refl (λ l. below-first u nodes n
    (below_left u (first_of nodes n) (get_or nodes n 0 ∷ []) h) i l)
  where
    go : (b : Bool) → ltb i n ≡ b → (i < n → get_or nodes i 0 < u) → get_or nodes i 0 < u
    go true e ih = ih (ltb-true i n e)
    go false e ih =
        let q : i ≡ n = omega (arith, ltb-false i n e) in
        subst (λ m. get_or nodes m 0 < u) (sym q)
        (below_right u (first_of nodes n) (get_or nodes n 0 ∷ []) h).0

-- A list below u place by place is below u.
pub first_below : (u : ℕ) (nodes : List ℕ) (n : ℕ) → ((i : ℕ) → i < n → get_or nodes i 0 < u)
    → Below u (first_of nodes n)
unfolding first_of
first_below u nodes zero h = tt
first_below u nodes (suc n) h =
    below_app u (first_of nodes n) (get_or nodes n 0 ∷ []) (first_below u nodes n (λ i k. h i (omega arith)))
    (h n (omega arith), tt)

-- ---- A checked screen.
module _ (t rs p : List ℕ) (used root : ℕ) (ok : Checked t rs p used root) where
  good : WF (aexpr_at rs p used)
  good n = inputs-fall t rs p used root ok n

  -- The inputs of the lent records, with any pool: what the walk asks.
  pub walked-inputs : (n : ℕ) → n ≤ root → Inputs n (walked rs n)
  unfolding aexpr_of
  walked-inputs n h =
      let k : root < used = ok.root-used in
      no_pool p n (record_at rs (node n))
      (subst (Inputs n) (used-same rs p used n (omega arith)) (good n))

  -- The walk finds the conjuncts of the used records.
  pub minterms-walked : minterms (aexpr_at rs p used) root ≡ minterms (walked rs) root
  minterms-walked = sym (walked-minterms rs p used root ok.root-used)

  -- What is read of one conjunct.
  pub classify-used : (n : ℕ) → n < used → classify (aexpr_at rs p used) n ≡ classify (aexpr_of rs p) n
  classify-used n h =
      record_agree (aexpr_at rs p used) (aexpr_of rs p) n (λ a k. used-same rs p used a (omega arith)) good
      (aexpr_at rs p used n) (good n)
      ∙ ap (classify_record (aexpr_of rs p) n) (used-same rs p used n h)

  -- What is read of used records.
  pub classify-all_used : (ns : List ℕ) → Below used ns
      → map (classify (aexpr_at rs p used)) ns ≡ map (classify (aexpr_of rs p)) ns
  classify-all_used [] h = refl
  classify-all_used (n ∷ ns) h = rw (classify-used n h.0, classify-all_used ns h.1)

  -- No conjunct is past the root.
  pub minterms-below_root : Below (suc root) (minterms (walked rs) root)
  minterms-below_root =
      subst (Below (suc root)) minterms-walked (minterms-low (aexpr_at rs p used) good root)

  -- So they are used records.
  pub minterms-below : Below used (minterms (walked rs) root)
  minterms-below =
      let h : root < used = ok.root-used in
      below_more (suc root) used (minterms (walked rs) root) (omega arith) minterms-below_root

  -- What is read of the conjuncts is what the code reads.
  pub conjuncts-used : read_conjuncts (aexpr_at rs p used) root ≡ map (classify (aexpr_of rs p)) (minterms (walked rs) root)
  conjuncts-used =
      ap (map (classify (aexpr_at rs p used))) minterms-walked
      ∙ classify-all_used (minterms (walked rs) root) minterms-below

  -- Every column of a used record is in the table, which has at most 64.
  pub table_below : (n : ℕ) → InTable 64 (aexpr_at rs p used n)
  unfolding aexpr_at aexpr_of
  table_below n = go (ltb n used) refl
    where
      go : (b : Bool) → ltb n used ≡ b → InTable 64 (cond b (to_aexpr p (record_at rs (node n))) Missing)
      go true e =
          record_in_table t p n (record_at rs (node n)) (table-small t ok.table)
          (ok.records n (ltb-true n used e)).reach
      go false e = tt

  -- So are the columns of a conjunct.
  pub columns-below : (n : ℕ) → n < used → ColumnsBelow 64 (classify (aexpr_of rs p) n)
  columns-below n h =
      subst (ColumnsBelow 64) (classify-used n h)
      (classify-ind (OperandBelow 64) (ColumnsBelow 64) column-forms (aexpr_at rs p used)
      (λ x. operand_below 64 (aexpr_at rs p used x) (table_below x)) n)

  -- ---- The conjuncts in an array.
  module _ (nodes : List ℕ) (n : ℕ) (are : first_of nodes n ≡ minterms (walked rs) root) where
    -- Its count is theirs.
    pub nodes_count : n ≡ length (minterms (walked rs) root)
    nodes_count = sym (first-length nodes n) ∙ ap length are

    -- Each is a number up to the root.
    pub nodes_below_root : (i : ℕ) → i < n → get_or nodes i 0 ≤ root
    nodes_below_root i h =
        let k : get_or nodes i 0 < suc root =
        below-first (suc root) nodes n (subst (Below (suc root)) (sym are) minterms-below_root) i h in
        omega arith

    -- Each is a used record.
    pub nodes_below : (i : ℕ) → i < n → get_or nodes i 0 < used
    nodes_below i h = below-first used nodes n (subst (Below used) (sym are) minterms-below) i h

    -- Each has its columns in the table.
    pub node-columns : (i : ℕ) → i < n → ColumnsBelow 64 (classify (aexpr_of rs p) (get_or nodes i 0))
    node-columns i h = columns-below (get_or nodes i 0) (nodes_below i h)
