-- Checking accepts the slowest screen; its conjuncts are the chain from its far end and the bound; its tree is small.
use mathlib.Core.Path.{◌≡◌, refl, sym, ◌∙◌, ap, subst}
use mathlib.Core.Bool.{Bool, true, false, cond, ◌&&◌}
use mathlib.Core.List.{List, [], ◌∷◌, ◌++◌, map}
use mathlib.Core.Option.{none}
use Prim.Native.Nat.{ℕ, zero, suc, ◌+◌, ◌*◌, ◌-◌, ◌≤◌, ◌<◌}
use native.Mathlib.Omega.{arith}
use lib.Dec.{ltb, leb}
use lib.ListN.{length, get_or, replicate, length-replicate, get_or-replicate}
use borrow.Author.Tests.{lt-ltb, le-leb}
use Rattle.records.specs.Bytes.{all}
use Rattle.records.specs.Record.{node, column_number, fields_at, record_at, encode, inputs}
use Rattle.records.specs.Shape.{known_type, known_type_in, in_type, in_type_in, max_code, uses, known_ok_in, zero_or, unused_ok, literal_ok_in, shape_ok, shape_ok_in}
use Rattle.records.specs.declared.operator.Operator.TheVariants as operator
use Rattle.records.specs.declared.record.Record.{Record}
use Rattle.records.specs.declared.record.Record.TheVariants as kind
use Rattle.records.proofs.Courses.{course-law}
use Rattle.checking.specs.Check.{types_known, types_known_in, table_ok, table_ok_in, sizes_ok, check_answer}
use Rattle.checking.specs.Checked.{CheckedRecord, Checked}
use Rattle.record_check.specs.Fit.{reach_ok, reach_ok_in, served_ok, type_of, type_at, same_type, binary_fits, types_ok}
use Rattle.checking.specs.Tree.{sum_at, tree_step, tree_count}
use Rattle.truth.specs.AExpr.{AExpr, Column, Literal, BinaryExpr, Compare, And, Missing, WF}
use Rattle.truth.specs.Comparison.{Eq, Gt}
use Rattle.truth.specs.FromBytes.{to_aexpr, aexpr_of, aexpr_at}
use Rattle.merge.specs.Classify.{classify, classify_record, classify_comparison, operand, read_conjuncts}
use Rattle.constraints.specs.Column.{Lower}
use Rattle.merge.specs.Classify as m
use Rattle.merge.specs.Minterms.{minterms, minterms_by, and_sides}
use Rattle.merge.proofs.Accepted.{inputs-fall}
use Rattle.merge.proofs.Chains.{minterms-law}
use Rattle.slowest.specs.Screen.{slowest_record, slowest_table, slowest_used, slowest_root}
use Rattle.slowest.proofs.Collecting.{conjuncts_down}
use Rattle.slowest.proofs.Records.{Built, built_record, by_form, at-column, at_literal, at_bound, at-equality, at-and}

-- The equality of the columns k and k + 1; the bound and the k equalities nearest to it.
abbrev pub equality_node : ℕ → ℕ → ℕ
equality_node n k = n + 2 + 2 * k

abbrev pub chain_node : ℕ → ℕ → ℕ
chain_node n k = n + 1 + 2 * k

all_from : (p : ℕ → Bool) (n : ℕ) → ((i : ℕ) → i < n → p i ≡ true) → all p n ≡ true
unfolding all
all_from p zero h = refl
all_from p (suc n) h = rw (all_from p n (λ i k. h i (omega (arith, k))), h n (omega arith))

table-ok : (n : ℕ) → n ≤ 64 → table_ok (slowest_table n) ≡ true
unfolding table_ok_in types_known_in known_type_in
table-ok n s =
    let l : length (slowest_table n) ≡ n = length-replicate n 1 in
    ap (λ b. b && types_known (slowest_table n)) (le-leb (length (slowest_table n)) 64 (omega (arith, l, s)))
    ∙ all_from (λ (k : ℕ). known_type (get_or (slowest_table n) k 0)) (length (slowest_table n))
    (λ i h. ap known_type (get_or-replicate n i 1 0 (omega (arith, l, h))))

module _ (n : ℕ) (few : 2 ≤ n) (most : n ≤ 64) (rs p : List ℕ) (built : Built n rs) where
  abbrev t : List ℕ
  t = slowest_table n

  record_is : (i : ℕ) (r : Record) → i < 3 * n → slowest_record n i ≡ r → record_at rs (node i) ≡ r
  record_is i r h e = built_record n rs built i h ∙ e

  -- ---- Types.
  type_as : (i : ℕ) (r : Record) → i < 3 * n → slowest_record n i ≡ r → type_at t rs (node i) ≡ type_of t r
  unfolding type_at
  type_as i r h e = ap (type_of t) (record_is i r h e)

  type_column : (c : ℕ) → c < n → type_at t rs (node c) ≡ 1
  unfolding type_of
  type_column c h =
      type_as c (kind.Column (column_number c)) (omega (arith, h)) (at-column n c h) ∙ get_or-replicate n c 1 0 h

  type_literal : type_at t rs (node n) ≡ 1
  unfolding type_of
  type_literal = type_as n (kind.Literal 1 0) (omega (arith, few)) (at_literal n n refl)

  type_equality : (k : ℕ) → suc k < n → type_at t rs (node (equality_node n k)) ≡ 3
  unfolding type_of
  type_equality k h =
      type_as (equality_node n k) (kind.Binary operator.Eq (node k) (node (suc k))) (omega (arith, h))
      (at-equality n (equality_node n k) k refl)

  type_chain : (k : ℕ) → k < n → type_at t rs (node (chain_node n k)) ≡ 3
  unfolding type_of
  type_chain zero h =
      type_as (chain_node n 0) (kind.Binary operator.Gt (node 0) (node n)) (omega (arith, few))
      (at_bound n (chain_node n 0) (omega arith))
  type_chain (suc k) h =
      type_as (chain_node n (suc k)) (kind.Binary operator.And (node (equality_node n k)) (node (chain_node n k)))
      (omega (arith, h)) (at-and n (chain_node n (suc k)) k (omega arith))

  -- ---- No record has a fault.
  abbrev Faultless : ℕ → Record → Type 0
  Faultless i r =
      (shape_ok (encode r) ≡ true) × (reach_ok t p r (node i) ≡ true) × (served_ok r ≡ true) × (types_ok t rs r ≡ true)

  faultless : (i : ℕ) → i < 3 * n → Faultless i (slowest_record n i)
  unfolding encode shape_ok_in known_ok_in unused_ok literal_ok_in known_type_in in_type_in max_code zero_or uses reach_ok_in served_ok types_ok
      binary_fits same_type
  faultless i l =
      by_form n i (Faultless i) l
      (λ h. let s : length t ≡ n = length-replicate n 1 in
      (refl, lt-ltb i (length t) (omega (arith, s, h)), refl, refl))
      (λ e. (refl, refl, refl, refl))
      (λ e. (
        refl,
        below 0 n (omega (arith, e)) (omega (arith, e)),
        refl,
        rw (type_column 0 (omega (arith, few)), type_literal),
      ))
      (λ k e h. (
        refl,
        below k (suc k) (omega (arith, e, h)) (omega (arith, e, h)),
        refl,
        rw (type_column k (omega (arith, h)), type_column (suc k) h),
      ))
      (λ k e h. (
        refl,
        below (equality_node n k) (chain_node n k) (omega (arith, e)) (omega (arith, e)),
        refl,
        rw (type_equality k h, type_chain k (omega (arith, h))),
      ))
    where
      below : (x y : ℕ) → x < i → y < i → (ltb x i && (ltb y i && true)) ≡ true
      below x y a b = rw (lt-ltb x i a, lt-ltb y i b)

  checked-record : (i : ℕ) → i < 3 * n → CheckedRecord t rs p i
  checked-record i h =
      let k = faultless i h in
      let e : record_at rs (node i) ≡ slowest_record n i = built_record n rs built i h in
      record {
        shape = ap shape_ok (built i h) ∙ k.0;
        reach = ap (λ r. reach_ok t p r (node i)) e ∙ k.1;
        served = ap served_ok e ∙ k.2;
        types = ap (types_ok t rs) e ∙ k.3;
      }

  last_chain : slowest_root n ≡ chain_node n (n - 1)
  last_chain = omega (arith, few)

  pub is_checked : sizes_ok rs p (slowest_used n) ≡ true → Checked t rs p (slowest_used n) (slowest_root n)
  is_checked sizes =
      record {
        table = table-ok n most;
        sizes = sizes;
        root-used = omega (arith, few);
        records = checked-record;
        root-truth = subst (λ i. type_at t rs (node i) ≡ 3) (sym last_chain) (type_chain (n - 1) (omega (arith, few)));
      }

  -- ---- The conjuncts.
  abbrev R : ℕ → AExpr ℕ
  R = aexpr_at rs p (slowest_used n)

  read : (i : ℕ) (r : Record) → i < 3 * n → slowest_record n i ≡ r → R i ≡ to_aexpr p r
  unfolding aexpr_at aexpr_of
  read i r h e =
      ap (λ b. cond b (to_aexpr p (record_at rs (node i))) Missing) (lt-ltb i (3 * n) h)
      ∙ ap (to_aexpr p) (record_is i r h e)

  read_column : (c : ℕ) → c < n → R c ≡ Column c
  read_column c h = read c (kind.Column (column_number c)) (omega (arith, h)) (at-column n c h)

  read_equality : (k : ℕ) → suc k < n → R (equality_node n k) ≡ BinaryExpr (Compare Eq) k (suc k)
  read_equality k h =
      read (equality_node n k) (kind.Binary operator.Eq (node k) (node (suc k))) (omega (arith, h))
      (at-equality n (equality_node n k) k refl)

  read_bound : R (chain_node n 0) ≡ BinaryExpr (Compare Gt) 0 n
  read_bound =
      read (chain_node n 0) (kind.Binary operator.Gt (node 0) (node n)) (omega (arith, few))
      (at_bound n (chain_node n 0) (omega arith))

  read_and : (k : ℕ) → suc k < n → R (chain_node n (suc k)) ≡ BinaryExpr And (equality_node n k) (chain_node n k)
  read_and k h =
      read (chain_node n (suc k)) (kind.Binary operator.And (node (equality_node n k)) (node (chain_node n k)))
      (omega (arith, h)) (at-and n (chain_node n (suc k)) k (omega arith))

  classify-equality : (k : ℕ) → suc k < n → classify R (equality_node n k) ≡ m.Equality k (suc k) (equality_node n k)
  classify-equality k h =
      ap (classify_record R (equality_node n k)) (read_equality k h)
      ∙ ap (λ x. classify_comparison (equality_node n k) operator.Eq (operand x) (operand (R (suc k)))) (read_column k (omega (arith, h)))
      ∙ ap (λ x. classify_comparison (equality_node n k) operator.Eq (operand (Column k)) (operand x)) (read_column (suc k) h)

  classify-bound : classify R (chain_node n 0) ≡ m.Bounds 0 (Lower false 0 ∷ [])
  classify-bound =
      ap (classify_record R (chain_node n 0)) read_bound
      ∙ ap (λ x. classify_comparison (chain_node n 0) operator.Gt (operand x) (operand (R n))) (read_column 0 (omega (arith, few)))
      ∙ ap (λ x. classify_comparison (chain_node n 0) operator.Gt (operand (Column 0)) (operand x))
      (read n (kind.Literal 1 0) (omega (arith, few)) (at_literal n n refl))

  module _ (wf : WF R) where
    alone : (i : ℕ) → and_sides (R i) ≡ none → minterms R i ≡ i ∷ []
    alone i e = minterms-law R i (wf i) ∙ ap (minterms_by i (λ a. minterms R a)) e

    chain-read : (k : ℕ) → k < n → map (classify R) (minterms R (chain_node n k)) ≡ conjuncts_down (equality_node n) k
    chain-read zero h =
        ap (map (classify R)) (alone (chain_node n 0) (ap and_sides read_bound)) ∙ ap (λ x. x ∷ []) classify-bound
    chain-read (suc k) h =
        ap (map (classify R))
        (minterms-law R (chain_node n (suc k)) (wf (chain_node n (suc k)))
        ∙ ap (λ x. minterms_by (chain_node n (suc k)) (λ a. minterms R a) (and_sides x)) (read_and k h)
        ∙ ap (λ l. l ++ minterms R (chain_node n k)) (alone (equality_node n k) (ap and_sides (read_equality k h))))
        ∙ ap (λ x. x ∷ map (classify R) (minterms R (chain_node n k))) (classify-equality k h)
        ∙ ap (λ l. m.Equality k (suc k) (equality_node n k) ∷ l) (chain-read k (omega (arith, h)))

    chain_length : (k : ℕ) → k < n → length (minterms R (chain_node n k)) ≡ suc k
    chain_length zero h = ap length (alone (chain_node n 0) (ap and_sides read_bound))
    chain_length (suc k) h =
        ap length
        (minterms-law R (chain_node n (suc k)) (wf (chain_node n (suc k)))
        ∙ ap (λ x. minterms_by (chain_node n (suc k)) (λ a. minterms R a) (and_sides x)) (read_and k h)
        ∙ ap (λ l. l ++ minterms R (chain_node n k)) (alone (equality_node n k) (ap and_sides (read_equality k h))))
        ∙ ap suc (chain_length k (omega (arith, h)))

  pub conjuncts-are : WF R → read_conjuncts R (slowest_root n) ≡ conjuncts_down (equality_node n) (n - 1)
  conjuncts-are wf = ap (λ i. map (classify R) (minterms R i)) last_chain ∙ chain-read wf (n - 1) (omega (arith, few))

  pub conjuncts-count : WF R → length (minterms R (slowest_root n)) ≡ n
  conjuncts-count wf =
      let e : suc (n - 1) ≡ n = omega (arith, few) in
      ap (λ i. length (minterms R i)) last_chain ∙ chain_length wf (n - 1) (omega (arith, few)) ∙ e

  -- ---- The trees.
  step_same : (i : ℕ) → i < 3 * n → (C D : ℕ → ℕ) → ((a : ℕ) → a < i → C a ≡ D a)
      → tree_step C (slowest_record n i) ≡ tree_step D (slowest_record n i)
  step_same i l C D same =
      by_form n i (λ r. tree_step C r ≡ tree_step D r) l (λ h. refl) (λ e. refl)
      (λ e. two 0 n (omega (arith, e)) (omega (arith, e)))
      (λ k e h. two k (suc k) (omega (arith, e, h)) (omega (arith, e, h)))
      (λ k e h. two (equality_node n k) (chain_node n k) (omega (arith, e)) (omega (arith, e)))
    where
      two : (x y : ℕ) → x < i → y < i → 1 + (C x + (C y + 0)) ≡ 1 + (D x + (D y + 0))
      two x y a b = rw (same x a, same y b)

  tree_is : (i : ℕ) (r : Record) → i < 3 * n → slowest_record n i ≡ r → tree_count rs i ≡ tree_step (tree_count rs) r
  tree_is i r h e =
      course-law (λ a. 0) (λ below j. tree_step below (record_at rs (node j))) i
      (λ C D same. subst (λ q. tree_step C q ≡ tree_step D q) (sym (built_record n rs built i h)) (step_same i h C D same))
      ∙ ap (tree_step (tree_count rs)) (record_is i r h e)

  tree-column : (c : ℕ) → c < n → tree_count rs c ≡ 1
  tree-column c h = tree_is c (kind.Column (column_number c)) (omega (arith, h)) (at-column n c h)

  pub tree-equality : (k : ℕ) → suc k < n → tree_count rs (equality_node n k) ≡ 3
  tree-equality k h =
      tree_is (equality_node n k) (kind.Binary operator.Eq (node k) (node (suc k))) (omega (arith, h))
      (at-equality n (equality_node n k) k refl)
      ∙ rw (tree-column k (omega (arith, h)), tree-column (suc k) h)

  tree-chain : (k : ℕ) → k < n → tree_count rs (chain_node n k) ≡ 3 + 4 * k
  tree-chain zero h =
      tree_is (chain_node n 0) (kind.Binary operator.Gt (node 0) (node n)) (omega (arith, few))
      (at_bound n (chain_node n 0) (omega arith))
      ∙ rw (tree-column 0 (omega (arith, few)), tree_is n (kind.Literal 1 0) (omega (arith, few)) (at_literal n n refl))
  tree-chain (suc k) h =
      let a : tree_count rs (equality_node n k) ≡ 3 = tree-equality k h in
      let b : tree_count rs (chain_node n k) ≡ 3 + 4 * k = tree-chain k (omega (arith, h)) in
      tree_is (chain_node n (suc k)) (kind.Binary operator.And (node (equality_node n k)) (node (chain_node n k)))
      (omega (arith, h)) (at-and n (chain_node n (suc k)) k (omega arith))
      ∙ rw (a, b) (omega arith)

  pub tree-small : tree_count rs (slowest_root n) ≤ 4096
  tree-small =
      let e : tree_count rs (slowest_root n) ≡ 3 + 4 * (n - 1) =
      ap (tree_count rs) last_chain ∙ tree-chain (n - 1) (omega (arith, few)) in
      omega (arith, e, most)
