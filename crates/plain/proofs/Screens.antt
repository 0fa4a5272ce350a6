-- The plain screens of the definition by what the code looks at: the word of columns read, and the conjuncts in an array.
use mathlib.Core.Path.{◌≡◌, refl, sym, ◌∙◌, ap}
use mathlib.Core.Bool.{Bool, true, false, not, ◌&&◌, ◌||◌, or-false, and_assoc, and-true, true≢false}
use mathlib.Core.List.{List, [], ◌∷◌, ◌++◌}
use Prim.Native.Nat.{ℕ, zero, suc, ◌≤◌, ◌<◌}
use native.Mathlib.Omega.{arith}
use lib.Dec.{eqb}
use lib.ListN.{length, get_or}
use borrow.Author.Tests.{eqb-true, eqb-false, eq-eqb, ne_eqb}
use Rattle.records.specs.Bytes.{all}
use Rattle.records.specs.Record.{record_at, node, inputs}
use Rattle.records.specs.declared.record.Record.{Record}
use Rattle.records.specs.declared.record.Record.TheVariants as kind
use Rattle.records.specs.declared.operator.Operator.{Operator}
use Rattle.records.specs.declared.operator.Operator.TheVariants as operator
use Rattle.records.proofs.Courses.{course-agree}
use Rattle.records.proofs.Laws.{and_no, and_yes}
use Rattle.record_check.specs.Fit.{served_ok}
use Rattle.checking.specs.Checked.{Checked}
use Rattle.checking.specs.Columns as word
use Rattle.checking.specs.Columns.{bit, any_at, reaches, columns_word}
use Rattle.checking.proofs.Bits.{word-reaches}
use Rattle.truth.specs.FromBytes.{to_aexpr, binary_expr, aexpr_of, aexpr_at}
use Rattle.truth.proofs.Agree.{used-same}
use Rattle.merge.specs.Minterms.{minterms}
use Rattle.merge.specs.Classify.{classify}
use Rattle.merge.specs.Plain.{reads_step, reads_column, is_number_column, reads_only_numbers, plain_conjunct, plain_conjuncts, plain_screen}
use Rattle.merge.proofs.Chains.{Below}
use Rattle.read_operands.specs.Walk.{walked, first_of}
use Rattle.reading.proofs.Screens.{minterms-walked, minterms-below, classify-used}
use Rattle.plain.proofs.Readings.{is_not, read_plain, plain-read}

eqb_swap : (a b : ℕ) → eqb a b ≡ eqb b a
eqb_swap a b = go (eqb a b) refl
  where
    go : (x : Bool) → eqb a b ≡ x → x ≡ eqb b a
    go true e = sym (eq-eqb b a (sym (eqb-true a b e)))
    go false e = sym (ne_eqb b a (λ q. eqb-false a b e (sym q)))

-- ---- The columns read.
module _ (p : List ℕ) (c : ℕ) (C D : ℕ → Bool) (same : (a : ℕ) → C a ≡ D a) where
  two_read : (x y : ℕ) → (C x || (C y || false)) ≡ (D x || D y)
  two_read x y = rw (same x, same y, or-false (D y))

  left_out : {A : Type 0} → false ≡ true → A
  left_out e = absurd (true≢false (sym e))

  binary-read : (o : Operator) (x y : ℕ) → served_ok (kind.Binary o (node x) (node y)) ≡ true
      → (C x || (C y || false)) ≡ reads_step c D (binary_expr o x y)
  unfolding served_ok
  binary-read operator.Eq x y h = two_read x y
  binary-read operator.EqValidity x y h = two_read x y
  binary-read operator.NotEq x y h = two_read x y
  binary-read operator.NotEqValidity x y h = two_read x y
  binary-read operator.Lt x y h = two_read x y
  binary-read operator.LtEq x y h = two_read x y
  binary-read operator.Gt x y h = two_read x y
  binary-read operator.GtEq x y h = two_read x y
  binary-read operator.Plus x y h = left_out h
  binary-read operator.Minus x y h = left_out h
  binary-read operator.Multiply x y h = left_out h
  binary-read operator.RustDivide x y h = left_out h
  binary-read operator.TrueDivide x y h = left_out h
  binary-read operator.FloorDivide x y h = two_read x y
  binary-read operator.Modulus x y h = two_read x y
  binary-read operator.And x y h = two_read x y
  binary-read operator.Or x y h = two_read x y
  binary-read operator.Xor x y h = two_read x y
  binary-read operator.LogicalAnd x y h = two_read x y
  binary-read operator.LogicalOr x y h = two_read x y

  one-read : (x : ℕ) → (C x || false) ≡ D x
  one-read x = or-false (C x) ∙ same x

  record_read : (r : Record) → served_ok r ≡ true
      → (word.is_column r c || any_at C (inputs r)) ≡ reads_step c D (to_aexpr p r)
  record_read kind.Invalid h = refl
  record_read (kind.Column k) h = or-false (eqb k.0 c) ∙ eqb_swap k.0 c
  record_read (kind.Literal ty v) h = refl
  record_read (kind.Null ty) h = refl
  record_read (kind.Binary o x y) h = binary-read o x.0 y.0 h
  record_read (kind.Not x) h = one-read x.0
  record_read (kind.IsNull x) h = one-read x.0
  record_read (kind.IsNotNull x) h = one-read x.0
  record_read (kind.IsBetween ends x low high) h =
      rw (same x.0, same low.0, same high.0, or-false (D high.0))
  record_read (kind.List ty marked start count) h = refl
  record_read (kind.IsIn equal x list) h = two_read x.0 list.0

all_agree : (f g : ℕ → Bool) (n : ℕ) → ((i : ℕ) → i < n → f i ≡ g i) → all f n ≡ all g n
unfolding all
all_agree f g zero h = refl
all_agree f g (suc n) h = rw (all_agree f g n (λ i l. h i (omega arith)), h n (omega arith))

module _ (t rs p : List ℕ) (used root : ℕ) (ok : Checked t rs p used root) where
  reads_same : (c : ℕ) → reaches rs c root ≡ reads_column (aexpr_at rs p used) root c
  unfolding aexpr_of
  reads_same c =
      course-agree (λ a. false)
      (λ below i. word.is_column (record_at rs (node i)) c || any_at below (inputs (record_at rs (node i))))
      (λ below i. reads_step c below (aexpr_at rs p used i)) used
      (λ n h C D e. record_read p c C D e (record_at rs (node n)) (ok.records n h).served
      ∙ ap (reads_step c D) (sym (used-same rs p used n h))) root ok.root-used

  numbers-read : length t ≤ 64 → all (λ c. not (bit (columns_word rs root) c) || is_number_column t c) (length t)
      ≡ reads_only_numbers t (aexpr_at rs p used) root
  numbers-read l =
      all_agree _ _ (length t) (λ c h. ap (λ b. not b || is_number_column t c)
      (word-reaches rs root c (omega (arith, h, l)) ∙ reads_same c))

  -- ---- The conjuncts.
  one-used : (n : ℕ) → n < used → plain_conjunct (aexpr_at rs p used) n ≡ plain_conjunct (aexpr_of rs p) n
  one-used n h =
      plain-read (aexpr_at rs p used) n
      ∙ ap (λ r. read_plain (is_not r) (classify (aexpr_at rs p used) n)) (used-same rs p used n h)
      ∙ ap (read_plain (is_not (aexpr_of rs p n))) (classify-used t rs p used root ok n h)
      ∙ sym (plain-read (aexpr_of rs p) n)

  pub all_used : (ns : List ℕ) → Below used ns → plain_conjuncts (aexpr_at rs p used) ns ≡ plain_conjuncts (aexpr_of rs p) ns
  all_used [] h = refl
  all_used (n ∷ ns) h = rw (one-used n h.0, all_used ns h.1)

  plain-app : (l m : List ℕ) → plain_conjuncts (aexpr_of rs p) (l ++ m)
      ≡ (plain_conjuncts (aexpr_of rs p) l && plain_conjuncts (aexpr_of rs p) m)
  plain-app [] m = refl
  plain-app (n ∷ l) m = rw (plain-app l m) (sym (and_assoc (plain_conjunct (aexpr_of rs p) n)
      (plain_conjuncts (aexpr_of rs p) l) (plain_conjuncts (aexpr_of rs p) m)))

  in_array : (nodes : List ℕ) (n : ℕ) → all (λ i. plain_conjunct (aexpr_of rs p) (get_or nodes i 0)) n
      ≡ plain_conjuncts (aexpr_of rs p) (first_of nodes n)
  unfolding all first_of
  in_array nodes zero = refl
  in_array nodes (suc n) =
      ap (λ b. b && plain_conjunct (aexpr_of rs p) (get_or nodes n 0)) (in_array nodes n)
      ∙ ap (λ b. plain_conjuncts (aexpr_of rs p) (first_of nodes n) && b) (sym (and-true (plain_conjunct (aexpr_of rs p) (get_or nodes n 0))))
      ∙ sym (plain-app (first_of nodes n) (get_or nodes n 0 ∷ []))

  conjuncts-plain : (nodes : List ℕ) (n : ℕ) → first_of nodes n ≡ minterms (walked rs) root
      → all (λ i. plain_conjunct (aexpr_of rs p) (get_or nodes i 0)) n
      ≡ plain_conjuncts (aexpr_at rs p used) (minterms (aexpr_at rs p used) root)
  conjuncts-plain nodes n are =
      in_array nodes n
      ∙ ap (plain_conjuncts (aexpr_of rs p)) are
      ∙ sym (all_used (minterms (walked rs) root) (minterms-below t rs p used root ok))
      ∙ ap (plain_conjuncts (aexpr_at rs p used)) (sym (minterms-walked t rs p used root ok))

  plain-is : length t ≤ 64 → (nodes : List ℕ) (n : ℕ) → first_of nodes n ≡ minterms (walked rs) root
      → (all (λ c. not (bit (columns_word rs root) c) || is_number_column t c) (length t)
      && all (λ i. plain_conjunct (aexpr_of rs p) (get_or nodes i 0)) n) ≡ plain_screen t (aexpr_at rs p used) root
  plain-is l nodes n are =
      ap (λ b. b && all (λ i. plain_conjunct (aexpr_of rs p) (get_or nodes i 0)) n) (numbers-read l)
      ∙ ap (λ b. reads_only_numbers t (aexpr_at rs p used) root && b) (conjuncts-plain nodes n are)

  -- ---- The two ends of the function.
  module _ (l : length t ≤ 64) (nodes : List ℕ) (n : ℕ) (are : first_of nodes n ≡ minterms (walked rs) root) (w : ℕ)
      (b : Bool) (e : w ≡ columns_word rs root)
      (f : b ≡ all (λ c. not (bit w c) || is_number_column t c) (length t)) where
    told : b ≡ all (λ c. not (bit (columns_word rs root) c) || is_number_column t c) (length t)
    told = f ∙ ap (λ x. all (λ c. not (bit x c) || is_number_column t c) (length t)) e

    pub numbers-none : b ≡ false → false ≡ plain_screen t (aexpr_at rs p used) root
    numbers-none h =
        sym (and_no _ (all (λ i. plain_conjunct (aexpr_of rs p) (get_or nodes i 0)) n) (sym told ∙ h))
        ∙ plain-is l nodes n are

    pub numbers-some : b ≡ true → all (λ i. plain_conjunct (aexpr_of rs p) (get_or nodes i 0)) n
        ≡ plain_screen t (aexpr_at rs p used) root
    numbers-some h =
        sym (and_yes _ (all (λ i. plain_conjunct (aexpr_of rs p) (get_or nodes i 0)) n) (sym told ∙ h))
        ∙ plain-is l nodes n are
