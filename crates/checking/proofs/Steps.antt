-- The step of a record, kind by kind, has the fault, the entry and the tree count of the record.
use Prim.Native.Nat.{ℕ, zero, suc, ◌+◌, ◌*◌, ◌%◌, ◌≤◌, ◌<◌, min}
use mathlib.Core.List.{List}
use mathlib.Core.Bool.{Bool, true, false, not, cond, ◌&&◌, and-true, and-false}
use mathlib.Core.Path.{◌≡◌, refl, sym, ◌∙◌, ap, subst}
use native.Mathlib.Omega.{arith}
use lib.ListN.{length, get_or, set}
use lib.Seq.{get_or-set_same, get_or-set_other}
use lib.Dec.{ltb, leb, eqb}
use borrow.Author.Tests.{ltb-true, leb-true, eqb-true, eqb-false, eq-eqb, ne_eqb, le-leb, lt-leb}
use Rattle.records.specs.Operator.{operator_at, code_of, is_division}
use Rattle.records.specs.Record.{node, column_number, closed_at, fields_at, decode, record_at}
use Rattle.records.specs.Shape.{known_type_in, in_type_in, max_code, uses, known_ok_in, zero_or, unused_ok, literal_ok_in, shape_ok_in}
use Rattle.records.specs.declared.record.Fields.{Fields}
use Rattle.records.specs.declared.record.Record.{Record}
use Rattle.records.specs.declared.record.Record.TheVariants as kind
use Rattle.records.proofs.Laws.{by-test, and_left, and_right, no_key}
use Rattle.records.proofs.Loops.{all_holds}
use Rattle.records.proofs.RoundTrips.{code_back}
use Rattle.record_check.specs.Fit.{list_ok_in, reach_ok_in, served_ok, type_of, type_at, same_type, binary_fits, between_fits, member_fits, types_ok}
use Rattle.checking.specs.Check.{types_known_in, meaning_fault_in, record_fault_in}
use Rattle.checking.specs.Table.{below}
use Rattle.checking.specs.Tree.{tree_step, tree_count, Counted}
use Rattle.record_check.specs.Step.{Entry, Entered, bad, good, judged, only_a, literal_shape, null_shape, binary_shape, between_shape, list_shape, member_shape, both_below, column_step, literal_step, null_step, pair_fits, binary_entry, binary_step, not_step, null_test_step, between_step, list_step, member_step, record_step}
use Rattle.record_check.specs.declared.step.Step.{Step}
use Rattle.checking.proofs.Tables.{tree-turn}

-- what a step says of record n
pub record Right (text : ℕ) (t rs p : List ℕ) (n : ℕ) (s : Step) : Type 0 where
  pub fault : s.fault ≡ record_fault_in text t rs p (node n)
  pub entry : s.fault ≡ 0 → Entry t (record_at rs (node n)) s.entry
  pub tree : s.fault ≡ 0 → min s.tree 4097 ≡ min (tree_count rs n) 4097

no_second : (a b : Bool) → b ≡ false → (a && b) ≡ false
no_second a b e = rw e (and-false a)

-- the entry of a value: its type
value-entry : (t : List ℕ) (r : Record) (e : ℕ) → type_of t r ≡ e → ((x : ℕ) → member_fits x r ≡ false) → e < 8 → Entry t r e
value-entry t r e ty m h = record { value = ty ∙ omega arith; member = other }
  where
    other : (x : ℕ) → member_fits x r ≡ (ltb 0 x && eqb e (8 * x))
    other zero = m 0
    other (suc x) = m (suc x) ∙ sym (no_second (ltb 0 (suc x)) _ (ne_eqb e (8 * suc x) (λ q. omega (arith, q))))

-- the entry of a binary record: an Int of a division, else its Truth
binary-entry : (t : List ℕ) (o : _) (x y : _) (b : Bool) → is_division o ≡ b → Entry t (kind.Binary o x y) (cond b 1 3)
unfolding type_of member_fits
binary-entry t o x y true e = value-entry t (kind.Binary o x y) 1 (rw e) (λ x. refl) (omega arith)
binary-entry t o x y false e = value-entry t (kind.Binary o x y) 3 (rw e) (λ x. refl) (omega arith)

list-entry : (t : List ℕ) (ty : ℕ) (m : Bool) (start count : ℕ) → ty < 8 → Entry t (kind.List ty m start count) (8 * (ty % 8))
unfolding type_of member_fits same_type
list-entry t ty m start count h =
    record {
      value = omega arith;
      member = λ x. ap (λ b. ltb 0 x && b) (same x);
    }
  where
    low : ty % 8 ≡ ty
    low = omega arith

    same : (x : ℕ) → eqb x ty ≡ eqb (8 * (ty % 8)) (8 * x)
    same x = by-test (eqb x ty)
        (λ p. let e : x ≡ ty = eqb-true x ty p in p ∙ sym (eq-eqb (8 * (ty % 8)) (8 * x) (omega (arith, low))))
        (λ p. let d : (x ≡ ty → ⊥) = eqb-false x ty p in
        p ∙ sym (ne_eqb (8 * (ty % 8)) (8 * x) (λ q. omega (arith, d, q, low))))

known-low : (text ty : ℕ) → known_type_in text ty ≡ true → ty < 8
unfolding known_type_in
known-low text ty e =
    let h : ty ≤ cond (eqb text 0) 3 4 = leb-true ty (cond (eqb text 0) 3 4) (and_right (leb 1 ty) (leb ty (cond (eqb text 0) 3 4)) e) in
    go (eqb text 0) h
  where
    go : (b : Bool) → ty ≤ cond b 3 4 → ty < 8
    go true h = omega (arith, h)
    go false h = omega (arith, h)

leb-zero : (x : ℕ) → leb x 0 ≡ eqb x 0
leb-zero x = by-test (eqb x 0) (λ p. let e : x ≡ 0 = eqb-true x 0 p in le-leb x 0 (omega arith) ∙ sym p)
    (λ p. let d : (x ≡ 0 → ⊥) = eqb-false x 0 p in lt-leb x 0 (omega (arith, d)) ∙ sym p)

-- the record that a kind's fields mean, and what is left of number 4 for it
module _ (text : ℕ) (f : Fields) where
  decode-column : f.kind ≡ 1 → decode f ≡ kind.Column (column_number f.a)
  unfolding decode
  decode-column k = rw k

  decode-literal : f.kind ≡ 2 → decode f ≡ kind.Literal f.ty (f.b + 4294967296 * f.c)
  unfolding decode
  decode-literal k = rw k

  decode-null : f.kind ≡ 3 → decode f ≡ kind.Null f.ty
  unfolding decode
  decode-null k = rw k

  decode-binary : f.kind ≡ 4 → decode f ≡ kind.Binary (operator_at f.code) (node f.a) (node f.b)
  unfolding decode
  decode-binary k = rw k

  decode-not : f.kind ≡ 5 → decode f ≡ kind.Not (node f.a)
  unfolding decode
  decode-not k = rw k

  decode-is_null : f.kind ≡ 6 → decode f ≡ kind.IsNull (node f.a)
  unfolding decode
  decode-is_null k = rw k

  decode-is_not_null : f.kind ≡ 7 → decode f ≡ kind.IsNotNull (node f.a)
  unfolding decode
  decode-is_not_null k = rw k

  decode-between : f.kind ≡ 8 → decode f ≡ kind.IsBetween (closed_at f.code) (node f.a) (node f.b) (node f.c)
  unfolding decode
  decode-between k = rw k

  decode-list : f.kind ≡ 9 → decode f ≡ kind.List f.ty (eqb f.code 1) f.a f.b
  unfolding decode
  decode-list k = rw k

  decode-member : f.kind ≡ 10 → decode f ≡ kind.IsIn (eqb f.code 1) (node f.a) (node f.b)
  unfolding decode
  decode-member k = rw k

  shape-column : f.zero ≡ 0 → f.kind ≡ 1 → shape_ok_in text f ≡ only_a f
  unfolding shape_ok_in known_ok_in unused_ok literal_ok_in max_code uses zero_or
  shape-column z k = rw (k, z, leb-zero, and-true)

  shape-literal : f.zero ≡ 0 → f.kind ≡ 2 → shape_ok_in text f ≡ literal_shape text f
  unfolding shape_ok_in known_ok_in unused_ok literal_ok_in max_code uses zero_or
  shape-literal z k =
      rw (k, z, leb-zero)
      (ap (λ x. (eqb f.code 0 && known_type_in text f.ty) && (x && in_type_in text f.ty (f.b + 4294967296 * f.c)))
      (and-true (eqb f.a 0)))

  shape-null : f.zero ≡ 0 → f.kind ≡ 3 → shape_ok_in text f ≡ null_shape text f
  unfolding shape_ok_in known_ok_in unused_ok literal_ok_in max_code uses zero_or
  shape-null z k = rw (k, z, leb-zero, and-true)

  shape-binary : f.zero ≡ 0 → f.kind ≡ 4 → shape_ok_in text f ≡ binary_shape f
  unfolding shape_ok_in known_ok_in unused_ok literal_ok_in max_code uses zero_or
  shape-binary z k = rw (k, z, and-true)

  shape-not : f.zero ≡ 0 → f.kind ≡ 5 → shape_ok_in text f ≡ only_a f
  unfolding shape_ok_in known_ok_in unused_ok literal_ok_in max_code uses zero_or
  shape-not z k = rw (k, z, leb-zero, and-true)

  shape-is_null : f.zero ≡ 0 → f.kind ≡ 6 → shape_ok_in text f ≡ only_a f
  unfolding shape_ok_in known_ok_in unused_ok literal_ok_in max_code uses zero_or
  shape-is_null z k = rw (k, z, leb-zero, and-true)

  shape-is_not_null : f.zero ≡ 0 → f.kind ≡ 7 → shape_ok_in text f ≡ only_a f
  unfolding shape_ok_in known_ok_in unused_ok literal_ok_in max_code uses zero_or
  shape-is_not_null z k = rw (k, z, leb-zero, and-true)

  shape-between : f.zero ≡ 0 → f.kind ≡ 8 → shape_ok_in text f ≡ between_shape f
  unfolding shape_ok_in known_ok_in unused_ok literal_ok_in max_code uses zero_or
  shape-between z k = rw (k, z, and-true)

  shape-list : f.zero ≡ 0 → f.kind ≡ 9 → shape_ok_in text f ≡ list_shape text f
  unfolding shape_ok_in known_ok_in unused_ok literal_ok_in max_code uses zero_or
  shape-list z k = rw (k, z, and-true)

  shape-member : f.zero ≡ 0 → f.kind ≡ 10 → shape_ok_in text f ≡ member_shape f
  unfolding shape_ok_in known_ok_in unused_ok literal_ok_in max_code uses zero_or
  shape-member z k = rw (k, z, and-true)

module _ (text : ℕ) (t rs p types trees : List ℕ) (n : ℕ) (known : types_known_in text t ≡ true) (entered : Entered t rs types n)
    (counted : Counted rs trees n) (f : Fields) (at : fields_at rs (node n) ≡ f) where
  -- what the tables say of an input that is below n
  input_type : (x : ℕ) → ltb x n ≡ true → type_at t rs (node x) ≡ get_or types x 0 % 8
  unfolding Entered type_at
  input_type x e = (entered x (ltb-true x n e)).value

  input_member : (x y : ℕ) → ltb x n ≡ true → member_fits y (record_at rs (node x)) ≡ (ltb 0 y && eqb (get_or types x 0) (8 * y))
  unfolding Entered
  input_member x y e = (entered x (ltb-true x n e)).member y

  column-low : (c : ℕ) → ltb c (length t) ≡ true → get_or t c 0 < 8
  unfolding types_known_in
  column-low c e =
      known-low text (get_or t c 0) (all_holds (λ (k : ℕ). known_type_in text (get_or t k 0)) c (length t) (ltb-true c (length t) e) known)

  -- a step by tests that are those of the definitions
  judged-right : (r : Record) (shape reach served fits : Bool) (e tree : ℕ) → decode f ≡ r → shape_ok_in text f ≡ shape
      → reach_ok_in text t p r (node n) ≡ reach → (shape ≡ true → reach ≡ true → served_ok r ≡ served)
      → (shape ≡ true → reach ≡ true → types_ok t rs r ≡ fits) → (shape ≡ true → reach ≡ true → Entry t r e)
      → (reach ≡ true → tree ≡ tree_step (below trees n) r) → Right text t rs p n (judged shape reach served fits e tree)
  unfolding record_fault_in meaning_fault_in record_at bad good
  judged-right r false reach served fits e tree d s a v y i c =
      record { fault = rw (at, s); entry = λ h. absurd (omega (arith, h)); tree = λ h. absurd (omega (arith, h)) }
  judged-right r true false served fits e tree d s a v y i c =
      record { fault = rw (at, s, d, a); entry = λ h. absurd (omega (arith, h)); tree = λ h. absurd (omega (arith, h)) }
  judged-right r true true false fits e tree d s a v y i c =
      record {
        fault = rw (at, s, d, a, v refl refl);
        entry = λ h. absurd (omega (arith, h));
        tree = λ h. absurd (omega (arith, h));
      }
  judged-right r true true true false e tree d s a v y i c =
      record {
        fault = rw (at, s, d, a, v refl refl, y refl refl);
        entry = λ h. absurd (omega (arith, h));
        tree = λ h. absurd (omega (arith, h));
      }
  judged-right r true true true true e tree d s a v y i c =
      record {
        fault = rw (at, s, d, a, v refl refl, y refl refl);
        entry = λ h. subst (λ q. Entry t q e) (sym (ap decode at ∙ d)) (i refl refl);
        tree =
            λ h. tree-turn rs trees n (min tree 4097) counted
            (ap (λ k. min k 4097) (c refl ∙ ap (tree_step (below trees n)) (sym (ap decode at ∙ d))));
      }

  column-right : f.zero ≡ 0 → f.kind ≡ 1 → Right text t rs p n (column_step t f)
  unfolding column_step reach_ok_in served_ok types_ok type_of member_fits
  column-right z k =
      judged-right (kind.Column (column_number f.a)) (only_a f) (ltb f.a (length t)) true true (get_or t f.a 0) 1
      (decode-column text f k) (shape-column text f z k) refl (λ s r. refl) (λ s r. refl)
      (λ s r. value-entry t (kind.Column (column_number f.a)) (get_or t f.a 0) refl (λ x. refl) (column-low f.a r))
      (λ r. refl)

  literal-right : f.zero ≡ 0 → f.kind ≡ 2 → Right text t rs p n (literal_step text f)
  unfolding literal_step reach_ok_in served_ok types_ok type_of member_fits
  literal-right z k =
      judged-right (kind.Literal f.ty (f.b + 4294967296 * f.c)) (literal_shape text f) true true true f.ty 1
      (decode-literal text f k) (shape-literal text f z k) refl (λ s r. refl) (λ s r. refl)
      (λ s r. value-entry t (kind.Literal f.ty (f.b + 4294967296 * f.c)) f.ty refl (λ x. refl)
      (known-low text f.ty (and_right (eqb f.code 0) (known_type_in text f.ty) (and_left _ _ s)))) (λ r. refl)

  null_right : f.zero ≡ 0 → f.kind ≡ 3 → Right text t rs p n (null_step text f)
  unfolding null_step reach_ok_in served_ok types_ok type_of member_fits
  null_right z k =
      judged-right (kind.Null f.ty) (null_shape text f) true true true f.ty 1 (decode-null text f k) (shape-null text f z k) refl
      (λ s r. refl) (λ s r. refl)
      (λ s r. value-entry t (kind.Null f.ty) f.ty refl (λ x. refl)
      (known-low text f.ty (and_right (eqb f.code 0) (known_type_in text f.ty) (and_left _ _ s)))) (λ r. refl)

  binary-right : f.zero ≡ 0 → f.kind ≡ 4 → Right text t rs p n (binary_step types trees f n)
  unfolding binary_step reach_ok_in served_ok types_ok type_of member_fits pair_fits binary_entry binary_fits same_type
  binary-right z k =
      judged-right (kind.Binary (operator_at f.code) (node f.a) (node f.b)) (binary_shape f) (both_below f n)
      (not (leb 8 f.code && leb f.code 12))
      (pair_fits f.code (get_or types f.a 0 % 8) (get_or types f.b 0 % 8)) (binary_entry f.code)
      (1 + (get_or trees f.a 0 + get_or trees f.b 0)) (decode-binary text f k) (shape-binary text f z k)
      (ap (λ q. ltb f.a n && q) (and-true (ltb f.b n)))
      (λ s r. rw (code s))
      (λ s r. rw (code s, input_type f.a (and_left _ _ r), input_type f.b (and_right (ltb f.a n) _ r)))
      (λ s r. binary-entry t (operator_at f.code) (node f.a) (node f.b) (leb 13 f.code && leb f.code 14)
      (rw (code s)))
      (λ r. rw (and_left (ltb f.a n) (ltb f.b n) r, and_right (ltb f.a n) (ltb f.b n) r) (omega arith))
    where
      code : binary_shape f ≡ true → code_of (operator_at f.code) ≡ f.code
      code s = code_back f.code (leb-true f.code 19 (and_left (leb f.code 19) (eqb f.ty 0) (and_left _ _ s)))

  not_right : f.zero ≡ 0 → f.kind ≡ 5 → Right text t rs p n (not_step types trees f n)
  unfolding not_step reach_ok_in served_ok types_ok type_of member_fits
  not_right z k =
      judged-right (kind.Not (node f.a)) (only_a f) (ltb f.a n) true (eqb (get_or types f.a 0 % 8) 3) 3
      (1 + get_or trees f.a 0) (decode-not text f k) (shape-not text f z k) (and-true (ltb f.a n)) (λ s r. refl)
      (λ s r. ap (λ q. eqb q 3) (input_type f.a r))
      (λ s r. value-entry t (kind.Not (node f.a)) 3 refl (λ x. refl) (omega arith))
      (λ r. rw r (omega arith))

  is_null-right : f.zero ≡ 0 → f.kind ≡ 6 → Right text t rs p n (null_test_step types trees f n)
  unfolding null_test_step reach_ok_in served_ok types_ok type_of member_fits
  is_null-right z k =
      judged-right (kind.IsNull (node f.a)) (only_a f) (ltb f.a n) true (ltb 0 (get_or types f.a 0 % 8)) 3
      (1 + get_or trees f.a 0) (decode-is_null text f k) (shape-is_null text f z k) (and-true (ltb f.a n)) (λ s r. refl)
      (λ s r. ap (λ q. ltb 0 q) (input_type f.a r))
      (λ s r. value-entry t (kind.IsNull (node f.a)) 3 refl (λ x. refl) (omega arith))
      (λ r. rw r (omega arith))

  is_not_null_right : f.zero ≡ 0 → f.kind ≡ 7 → Right text t rs p n (null_test_step types trees f n)
  unfolding null_test_step reach_ok_in served_ok types_ok type_of member_fits
  is_not_null_right z k =
      judged-right (kind.IsNotNull (node f.a)) (only_a f) (ltb f.a n) true (ltb 0 (get_or types f.a 0 % 8)) 3
      (1 + get_or trees f.a 0) (decode-is_not_null text f k) (shape-is_not_null text f z k) (and-true (ltb f.a n)) (λ s r. refl)
      (λ s r. ap (λ q. ltb 0 q) (input_type f.a r))
      (λ s r. value-entry t (kind.IsNotNull (node f.a)) 3 refl (λ x. refl) (omega arith))
      (λ r. rw r (omega arith))

  between-right : f.zero ≡ 0 → f.kind ≡ 8 → Right text t rs p n (between_step types trees f n)
  unfolding between_step reach_ok_in served_ok types_ok type_of member_fits
  between-right z k =
      judged-right (kind.IsBetween (closed_at f.code) (node f.a) (node f.b) (node f.c)) (between_shape f)
      (ltb f.a n && (ltb f.b n && ltb f.c n)) true
      (between_fits (get_or types f.a 0 % 8) (get_or types f.b 0 % 8) (get_or types f.c 0 % 8)) 3
      (1 + (get_or trees f.a 0 + (get_or trees f.b 0 + get_or trees f.c 0))) (decode-between text f k) (shape-between text f z k)
      (ap (λ q. ltb f.a n && (ltb f.b n && q)) (and-true (ltb f.c n))) (λ s r. refl)
      (λ s r. rw (input_type f.a (fst r), input_type f.b (snd r), input_type f.c (thd r)))
      (λ s r. value-entry t (kind.IsBetween (closed_at f.code) (node f.a) (node f.b) (node f.c)) 3 refl
      (λ x. refl) (omega arith))
      (λ r. rw (fst r, snd r, thd r) (omega arith))
    where
      fst : (ltb f.a n && (ltb f.b n && ltb f.c n)) ≡ true → ltb f.a n ≡ true
      fst r = and_left (ltb f.a n) (ltb f.b n && ltb f.c n) r

      snd : (ltb f.a n && (ltb f.b n && ltb f.c n)) ≡ true → ltb f.b n ≡ true
      snd r = and_left (ltb f.b n) (ltb f.c n) (and_right (ltb f.a n) (ltb f.b n && ltb f.c n) r)

      thd : (ltb f.a n && (ltb f.b n && ltb f.c n)) ≡ true → ltb f.c n ≡ true
      thd r = and_right (ltb f.b n) (ltb f.c n) (and_right (ltb f.a n) (ltb f.b n && ltb f.c n) r)

  list_right : f.zero ≡ 0 → f.kind ≡ 9 → Right text t rs p n (list_step text p f)
  unfolding list_step reach_ok_in served_ok types_ok
  list_right z k =
      judged-right (kind.List f.ty (eqb f.code 1) f.a f.b) (list_shape text f) (list_ok_in text p f.ty f.a f.b) true true
      (8 * (f.ty % 8)) 1 (decode-list text f k) (shape-list text f z k) refl (λ s r. refl) (λ s r. refl)
      (λ s r. list-entry t f.ty (eqb f.code 1) f.a f.b
      (known-low text f.ty (and_right (leb f.code 1) (known_type_in text f.ty) (and_left _ _ s)))) (λ r. refl)

  member_right : f.zero ≡ 0 → f.kind ≡ 10 → Right text t rs p n (member_step types trees f n)
  unfolding member_step reach_ok_in served_ok types_ok type_of member_fits
  member_right z k =
      judged-right (kind.IsIn (eqb f.code 1) (node f.a) (node f.b)) (member_shape f) (both_below f n) true
      (ltb 0 (get_or types f.a 0 % 8) && eqb (get_or types f.b 0) (8 * (get_or types f.a 0 % 8))) 3
      (1 + (get_or trees f.a 0 + get_or trees f.b 0)) (decode-member text f k) (shape-member text f z k)
      (ap (λ q. ltb f.a n && q) (and-true (ltb f.b n))) (λ s r. refl)
      (λ s r. ap (λ q. member_fits q (record_at rs (node f.b))) (input_type f.a (and_left _ _ r))
      ∙ input_member f.b (get_or types f.a 0 % 8) (and_right (ltb f.a n) (ltb f.b n) r))
      (λ s r. value-entry t (kind.IsIn (eqb f.code 1) (node f.a) (node f.b)) 3 refl (λ x. refl) (omega arith))
      (λ r. rw (and_left (ltb f.a n) (ltb f.b n) r, and_right (ltb f.a n) (ltb f.b n) r) (omega arith))

  -- byte 3 is not zero, or the kind is none of the ten
  shapeless : shape_ok_in text f ≡ false → Right text t rs p n (bad 4)
  unfolding record_fault_in bad
  shapeless s =
      record { fault = rw (at, s); entry = λ h. absurd (omega (arith, h)); tree = λ h. absurd (omega (arith, h)) }

  no_zero : eqb f.zero 0 ≡ false → shape_ok_in text f ≡ false
  unfolding shape_ok_in unused_ok
  no_zero z = rw z (and-false (known_ok_in text f))

  no_kind : ((((((((((eqb f.kind 1 ≡ false) × (eqb f.kind 2 ≡ false)) × (eqb f.kind 3 ≡ false)) × (eqb f.kind 4 ≡ false))
      × (eqb f.kind 5 ≡ false)) × (eqb f.kind 6 ≡ false)) × (eqb f.kind 7 ≡ false)) × (eqb f.kind 8 ≡ false))
      × (eqb f.kind 9 ≡ false)) × (eqb f.kind 10 ≡ false)) → shape_ok_in text f ≡ false
  unfolding shape_ok_in known_ok_in
  no_kind h = by-test (leb 1 f.kind) (λ l. rw (l, lt-leb f.kind 10 (high l))) (λ l. rw l)
    where
      off : (i : ℕ) → eqb f.kind i ≡ false → f.kind ≡ i → ⊥
      off i e = eqb-false f.kind i e

      high : leb 1 f.kind ≡ true → 10 < f.kind
      high l =
          let lo : 1 ≤ f.kind = leb-true 1 f.kind l in
          let up : 11 ≤ f.kind =
          no_key 11 f.kind (
            (
              (
                (
                  (
                    (
                      (
                        (
                          (((tt, λ q. omega (arith, q)), off 1 h.0.0.0.0.0.0.0.0.0), off 2 h.0.0.0.0.0.0.0.0.1),
                          off 3 h.0.0.0.0.0.0.0.1,
                        ),
                        off 4 h.0.0.0.0.0.0.1,
                      ),
                      off 5 h.0.0.0.0.0.1,
                    ),
                    off 6 h.0.0.0.0.1,
                  ),
                  off 7 h.0.0.0.1,
                ),
                off 8 h.0.0.1,
              ),
              off 9 h.0.1,
            ),
            off 10 h.1,
          ) in
          omega arith

  pub record_right : Right text t rs p n (record_step text t p types trees f n)
  unfolding record_step
  record_right =
      by-test (eqb f.zero 0) (λ z.
      (by-test (eqb f.kind 1) (λ k. rw (z, k) (column-right (eqb-true f.zero 0 z) (eqb-true f.kind 1 k)))
      (λ k1.
      (by-test (eqb f.kind 2) (λ k. rw (z, k1, k) (literal-right (eqb-true f.zero 0 z) (eqb-true f.kind 2 k)))
      (λ k2.
      (by-test (eqb f.kind 3) (λ k. rw (z, k1, k2, k) (null_right (eqb-true f.zero 0 z) (eqb-true f.kind 3 k)))
      (λ k3.
      (by-test (eqb f.kind 4) (λ k. rw (z, k1, k2, k3, k) (binary-right (eqb-true f.zero 0 z) (eqb-true f.kind 4 k)))
      (λ k4.
      (by-test (eqb f.kind 5) (λ k. rw (z, k1, k2, k3, k4, k) (not_right (eqb-true f.zero 0 z) (eqb-true f.kind 5 k)))
      (λ k5.
      (by-test (eqb f.kind 6) (λ k. rw (z, k1, k2, k3, k4, k5, k) (is_null-right (eqb-true f.zero 0 z) (eqb-true f.kind 6 k)))
      (λ k6.
      (by-test (eqb f.kind 7) (λ k. rw (z, k1, k2, k3, k4, k5, k6, k) (is_not_null_right (eqb-true f.zero 0 z) (eqb-true f.kind 7 k)))
      (λ k7.
      (by-test (eqb f.kind 8) (λ k. rw (z, k1, k2, k3, k4, k5, k6, k7, k) (between-right (eqb-true f.zero 0 z) (eqb-true f.kind 8 k)))
      (λ k8.
      (by-test (eqb f.kind 9) (λ k. rw (z, k1, k2, k3, k4, k5, k6, k7, k8, k) (list_right (eqb-true f.zero 0 z) (eqb-true f.kind 9 k)))
      (λ k9.
      (by-test (eqb f.kind 10) (λ k. rw (z, k1, k2, k3, k4, k5, k6, k7, k8, k9, k) (member_right (eqb-true f.zero 0 z) (eqb-true f.kind 10 k)))
      (λ k10.
      rw (z, k1, k2, k3, k4, k5, k6, k7, k8, k9, k10)
      (shapeless (no_kind (((((((((k1, k2), k3), k4), k5), k6), k7), k8), k9), k10))))))))))))))))))))))))
      (λ z. rw z (shapeless (no_zero z)))

-- the table of entries, filled from record 0 up
pub entered-none : (t rs types : List ℕ) → Entered t rs types 0
unfolding Entered
entered-none t rs types a h = absurd (omega arith)

pub entered-more : (t rs types : List ℕ) (n v : ℕ) → n < length types → Entered t rs types n
    → Entry t (record_at rs (node n)) v → Entered t rs (set types n v) (n + 1)
unfolding Entered
entered-more t rs types n v h f e a k = by-test (eqb a n) same other
  where
    same : eqb a n ≡ true → Entry t (record_at rs (node a)) (get_or (set types n v) a 0)
    same p =
        subst (λ b. Entry t (record_at rs (node b)) (get_or (set types n v) b 0)) (sym (eqb-true a n p))
        (subst (Entry t (record_at rs (node n))) (sym (get_or-set_same types n v 0 h)) e)

    other : eqb a n ≡ false → Entry t (record_at rs (node a)) (get_or (set types n v) a 0)
    other p =
        let d : (a ≡ n → ⊥) = eqb-false a n p in
        subst (Entry t (record_at rs (node a))) (sym (get_or-set_other types n a v 0 d)) (f a (omega (arith, d)))

-- one turn of the loop over records
pub step_right : (text : ℕ) (t rs p types trees : List ℕ) (n : ℕ) (f : Fields) (s : Step) → types_known_in text t ≡ true → Entered t rs types n
    → Counted rs trees n → f ≡ fields_at rs (node n) → s ≡ record_step text t p types trees f n → Right text t rs p n s
step_right text t rs p types trees n f s known entered counted read e =
    subst (Right text t rs p n) (sym e) (record_right text t rs p types trees n known entered counted f (sym read))

-- the type of a record below n
pub entered-type : (t rs types : List ℕ) (n a : ℕ) → Entered t rs types n → a < n → type_at t rs (node a) ≡ get_or types a 0 % 8
unfolding Entered type_at
entered-type t rs types n a entered h = (entered a h).value
