-- A screen that is refused where no text pool is lent, and not at a Text, is refused so beside every text pool within its limit:
-- what is checked before the fault is known without one, so it is no Text; and to what is no Text a text pool says nothing.
-- Assumes nothing.
use mathlib.Core.Path.{◌≡◌, refl, sym, ◌∙◌, ap, subst}
use mathlib.Core.Bool.{Bool, true, false, cond, ◌&&◌, ◌||◌}
use mathlib.Core.List.{List}
use Prim.Native.Nat.{ℕ, zero, suc, ◌+◌, ◌-◌, ◌*◌, ◌/◌, ◌%◌, ◌≤◌, ◌<◌}
use native.Mathlib.Omega.{arith}
use lib.Dec.{ltb, leb, eqb}
use lib.ListN.{length, get_or}
use borrow.Author.Tests.{eqb-true, eqb-false, ne_eqb, le-leb, lt-leb, leb-true, leb-false, le-ltb}
use Rattle.records.specs.Bytes.{all, first, value_at}
use Rattle.records.specs.Record.{node, fields_at, decode}
use Rattle.records.specs.Shape.{known_type_in, in_pool, in_type_in, known_ok_in, unused_ok, literal_ok_in, shape_ok_in, Ty, uses, max_code}
use Rattle.records.specs.declared.record.Node.{Node}
use Rattle.records.specs.declared.record.Fields.{Fields}
use Rattle.records.specs.declared.record.Record.{Record}
use Rattle.records.proofs.Laws.{by-test, and_left, and_right}
use Rattle.records.proofs.Loops.{all_holds, all_fails, first_found}
use Rattle.record_check.specs.Fit.{all_fit_in, list_ok_in, reach_ok_in, served_ok, types_ok, type_at}
use Rattle.checking.specs.Check.{types_known_in, table_ok_in, sizes_ok_in, meaning_fault_in, record_fault_in, first_fault_in, records_answer_in}
use Rattle.checking.specs.Check.{check_answer_in}
use Rattle.checking.specs.Fault.{answer_of, FaultStands, RecordsStand, Stands}
use Rattle.checking.specs.Answer as check
use Rattle.checking.proofs.Accepted.{no_fault, only, within-limits, not-accepted}
use Rattle.checking.proofs.Sizes.{table-known_in}

pub all_same : (f g : ℕ → Bool) (n : ℕ) → ((k : ℕ) → k < n → f k ≡ g k) → all f n ≡ all g n
unfolding all
all_same f g zero h = refl
all_same f g (suc n) h = λ i. all_same f g n (λ k l. h k (omega arith)) i && h n (omega arith) i

pub first-same : (f g : ℕ → ℕ) (n : ℕ) → ((k : ℕ) → k < n → f k ≡ g k) → first f n ≡ first g n
unfolding first
first-same f g zero h = refl
first-same f g (suc n) h =
    λ i. cond (eqb (first-same f g n (λ k l. h k (omega arith)) i) 0) (h n (omega arith) i)
    (first-same f g n (λ k l. h k (omega arith)) i)

-- ---- To what is no Text a text pool says nothing.
module _ (text : ℕ) where
  pub known_same : (ty : ℕ) → eqb ty 4 ≡ false → known_type_in text ty ≡ known_type_in 0 ty
  unfolding known_type_in
  known_same ty e = ap (λ b. leb 1 ty && b) (go (eqb text 0))
    where
      low : leb ty 4 ≡ leb ty 3
      low =
          let d : (ty ≡ 4 → ⊥) = eqb-false ty 4 e in
          by-test (leb ty 3) (λ p. let h : ty ≤ 3 = leb-true ty 3 p in le-leb ty 4 (omega arith) ∙ sym p)
          (λ p. let h : 3 < ty = leb-false ty 3 p in lt-leb ty 4 (omega (arith, h, d)) ∙ sym p)

      go : (b : Bool) → leb ty (cond b 3 4) ≡ leb ty 3
      go true = refl
      go false = low

  pub typed-same : (ty v : ℕ) → eqb ty 4 ≡ false → in_type_in text ty v ≡ in_type_in 0 ty v
  unfolding in_type_in
  typed-same ty v e =
      ap (λ b. cond (eqb ty 1) true (cond (eqb ty 2) (ltb v 2147483648 || leb 18446744071562067968 v) b)) (go (eqb text 0))
    where
      go : (b : Bool) → cond b (leb v 1) (cond (eqb ty 4) (in_pool (text - 1) v) (leb v 1)) ≡ leb v 1
      go true = refl
      go false = rw e

  shape_same : (f : Fields) → eqb f.ty 4 ≡ false → shape_ok_in text f ≡ shape_ok_in 0 f
  unfolding shape_ok_in known_ok_in literal_ok_in
  shape_same f e =
      λ i. (leb 1 f.kind && (leb f.kind 10
      && (leb f.code (max_code f.kind) && cond (uses Ty f.kind) (known_same f.ty e i) (eqb f.ty 0))))
      && (unused_ok f && cond (eqb f.kind 2) (typed-same f.ty (f.b + 4294967296 * f.c) e i) true)

  list_same : (p : List ℕ) (ty start count : ℕ) → eqb ty 4 ≡ false → list_ok_in text p ty start count ≡ list_ok_in 0 p ty start count
  unfolding list_ok_in all_fit_in
  list_same p ty start count e =
      ap (λ b. leb (start + count) (length p / 8) && b)
      (all_same (λ (k : ℕ). in_type_in text ty (value_at p (start + k))) (λ (k : ℕ). in_type_in 0 ty (value_at p (start + k))) count
      (λ k h. typed-same ty (value_at p (start + k)) e))

  -- of two records that are tested alike, a test picks one
  pick : (t p : List ℕ) (n : Node) (b : Bool) (x y : Record) → reach_ok_in text t p x n ≡ reach_ok_in 0 t p x n
      → reach_ok_in text t p y n ≡ reach_ok_in 0 t p y n → reach_ok_in text t p (cond b x y) n ≡ reach_ok_in 0 t p (cond b x y) n
  pick t p n true x y h k = h
  pick t p n false x y h k = k

  reach-same : (t p : List ℕ) (f : Fields) (n : Node) → eqb f.ty 4 ≡ false
      → reach_ok_in text t p (decode f) n ≡ reach_ok_in 0 t p (decode f) n
  unfolding reach_ok_in decode
  reach-same t p f n e =
      pick t p n (eqb f.kind 1) _ _ refl
      (pick t p n (eqb f.kind 2) _ _ refl
      (pick t p n (eqb f.kind 3) _ _ refl
      (pick t p n (eqb f.kind 4) _ _ refl
      (pick t p n (eqb f.kind 5) _ _ refl
      (pick t p n (eqb f.kind 6) _ _ refl
      (pick t p n (eqb f.kind 7) _ _ refl
      (pick t p n (eqb f.kind 8) _ _ refl
      (pick t p n (eqb f.kind 9) _ _ (list_same p f.ty f.a f.b e)
      (pick t p n (eqb f.kind 10) _ _ refl refl)))))))))

  pub record_same : (t rs p : List ℕ) (n : ℕ) → eqb (fields_at rs (node n)).ty 4 ≡ false
      → record_fault_in text t rs p (node n) ≡ record_fault_in 0 t rs p (node n)
  unfolding record_fault_in meaning_fault_in
  record_same t rs p n e =
      λ i. cond (shape_same (fields_at rs (node n)) e i)
      (cond (reach-same t p (fields_at rs (node n)) (node n) e i)
      (cond (served_ok (decode (fields_at rs (node n)))) (cond (types_ok t rs (decode (fields_at rs (node n)))) 0 7) 6) 5) 4

  pub sizes-same : (rs p : List ℕ) (used : ℕ) → leb text 8193 ≡ true → sizes_ok_in text rs p used ≡ sizes_ok_in 0 rs p used
  unfolding sizes_ok_in
  sizes-same rs p used short = rw short

-- ---- What is known without a text pool is no Text.
pub not-text : (ty : ℕ) → known_type_in 0 ty ≡ true → eqb ty 4 ≡ false
unfolding known_type_in
not-text ty h = let k = leb-true ty 3 (and_right (leb 1 ty) (leb ty 3) h) in ne_eqb ty 4 (λ e. omega (arith, k, e))

typed : (b : Bool) (ty : ℕ) → cond b (known_type_in 0 ty) (eqb ty 0) ≡ true → eqb ty 4 ≡ false
typed true ty h = not-text ty h
typed false ty h = let k = eqb-true ty 0 h in ne_eqb ty 4 (λ e. omega (arith, k, e))

pub shape_free : (f : Fields) → shape_ok_in 0 f ≡ true → eqb f.ty 4 ≡ false
unfolding shape_ok_in known_ok_in
shape_free f h =
    typed (uses Ty f.kind) f.ty
    (and_right (leb f.code (max_code f.kind)) _
    (and_right (leb f.kind 10) _ (and_right (leb 1 f.kind) _ (and_left (known_ok_in 0 f) _ h))))

fault_free : (t rs p : List ℕ) (n : ℕ) → record_fault_in 0 t rs p (node n) ≡ 0 → eqb (fields_at rs (node n)).ty 4 ≡ false
unfolding record_fault_in
fault_free t rs p n e = shape_free (fields_at rs (node n)) (only (shape_ok_in 0 (fields_at rs (node n))) _ 3 e).0

-- ---- Records: the first fault is at i, or there is none.
module _ (t rs p : List ℕ) where
  zero_same : (s i : ℕ) → first (λ (j : ℕ). record_fault_in 0 t rs p (node j)) i ≡ 0
      → first (λ (j : ℕ). record_fault_in s t rs p (node j)) i ≡ 0
  zero_same s i h =
      first-same (λ (j : ℕ). record_fault_in s t rs p (node j)) (λ (j : ℕ). record_fault_in 0 t rs p (node j)) i
      (λ k l. record_same s t rs p k (fault_free t rs p k (no_fault (λ (j : ℕ). record_fault_in 0 t rs p (node j)) k i h l)))
      ∙ h

  pub none-stands : (text used : ℕ) → text ≡ 0 → first (λ (j : ℕ). record_fault_in text t rs p (node j)) used ≡ 0
      → FaultStands t rs p used
  unfolding first_fault_in
  none-stands text used z h s =
      let g = subst (λ x. first (λ (j : ℕ). record_fault_in x t rs p (node j)) used ≡ 0) z h in zero_same s used g ∙ sym g

  -- `f` are the fields of the refused record
  pub found-stands : (text used i r : ℕ) (f : Fields) → text ≡ 0 → i < used
      → first (λ (j : ℕ). record_fault_in text t rs p (node j)) i ≡ 0 → r ≡ record_fault_in text t rs p (node i) → (r ≡ 0 → ⊥)
      → f ≡ fields_at rs (node i) → eqb f.ty 4 ≡ false → FaultStands t rs p used
  unfolding first_fault_in
  found-stands text used i r f z l h e d q c s =
      let g = subst (λ x. first (λ (j : ℕ). record_fault_in x t rs p (node j)) i ≡ 0) z h in
      let k = subst (λ x. r ≡ record_fault_in x t rs p (node i)) z e in
      let free = subst (λ (x : Fields). eqb x.ty 4 ≡ false) q c in
      sym (first_found (λ (j : ℕ). record_fault_in s t rs p (node j)) i used r l (zero_same s i g)
      (k ∙ sym (record_same s t rs p i free)) d)
      ∙ first_found (λ (j : ℕ). record_fault_in 0 t rs p (node j)) i used r l g k d

  pub records-stand : (used root : ℕ) → FaultStands t rs p used → RecordsStand t rs p used root
  unfolding records_answer_in
  records-stand used root h s =
      λ i. cond (eqb (h s i) 0) (cond (eqb (type_at t rs (node root)) 3) check.Accepted (check.Refused 7)) (check.Refused (h s i))

-- ---- The table and the limits.
-- a table without Text that is known is known beside every text pool
pub table-stands : (t : List ℕ) (s : ℕ) → table_ok_in 0 t ≡ true → table_ok_in s t ≡ true
unfolding table_ok_in types_known_in
table-stands t s h =
    let known = table-known_in 0 t h in
    ap (λ b. leb (length t) 64 && b)
    (all_same (λ (k : ℕ). known_type_in s (get_or t k 0)) (λ (k : ℕ). known_type_in 0 (get_or t k 0)) (length t)
    (λ k l. known_same s (get_or t k 0) (not-text (get_or t k 0) (all_holds (λ (j : ℕ). known_type_in 0 (get_or t j 0)) k (length t) l known))))
    ∙ h

-- a column of an unknown type that is no Text
pub types-stand : (text : ℕ) (t : List ℕ) (k : ℕ) → k < length t → known_type_in text (get_or t k 0) ≡ false
    → eqb (get_or t k 0) 4 ≡ false → (s : ℕ) → types_known_in s t ≡ false
unfolding types_known_in
types-stand text t k l h e s =
    sym (all_fails (λ (j : ℕ). known_type_in s (get_or t j 0)) k (length t) l
    (known_same s (get_or t k 0) e ∙ sym (known_same text (get_or t k 0) e) ∙ h))

pub long-table : (t : List ℕ) → 64 < length t → (s : ℕ) → table_ok_in s t ≡ false
unfolding table_ok_in
long-table t h s = rw (lt-leb (length t) 64 h)

pub short-table : (t : List ℕ) → length t ≤ 64 → (s : ℕ) → table_ok_in s t ≡ types_known_in s t
unfolding table_ok_in
short-table t h s = rw (le-leb (length t) 64 h)

-- ---- Faults: the answers they stand for.
pub refused-of : (f k : ℕ) → f % 8 ≡ k → (k ≡ 0 → ⊥) → answer_of f ≡ check.Refused k
unfolding answer_of
refused-of f k e d = rw (e, ne_eqb k 0 d)

pub no_accepted_of : (f k : ℕ) → f % 8 ≡ k → (k ≡ 0 → ⊥) → answer_of f ≡ check.Accepted → ⊥
no_accepted_of f k e d h = not-accepted k (sym (refused-of f k e d) ∙ h)

pub accepted-of : (f : ℕ) → f ≡ 0 → answer_of f ≡ check.Accepted
unfolding answer_of
accepted-of f h = rw h

pub zero_number : (f k : ℕ) → f % 8 ≡ k → f ≡ 0 → k ≡ 0
zero_number f k e h = omega (arith, e, h)

module _ (text : ℕ) (t rs p : List ℕ) (used root : ℕ) where
  abbrev Refuses : ℕ → Type 0
  Refuses f = (answer_of f ≡ check.Accepted → ⊥) × (answer_of f ≡ check_answer_in text t rs p used root)

  -- 1
  pub refused-table : (f : ℕ) → f % 8 ≡ 1 → table_ok_in text t ≡ false → Refuses f
  unfolding check_answer_in
  refused-table f e h =
      let d : (◌≡◌ {A = ℕ} 1 0 → ⊥) = λ q. omega (arith, q) in (no_accepted_of f 1 e d, refused-of f 1 e d ∙ rw h)

  -- 2
  pub refused-sizes : table_ok_in text t ≡ true → sizes_ok_in text rs p used ≡ false → Refuses 2
  unfolding check_answer_in
  refused-sizes a b =
      let d : (◌≡◌ {A = ℕ} 2 0 → ⊥) = λ q. omega (arith, q) in
      (no_accepted_of 2 2 refl d, refused-of 2 2 refl d ∙ rw (a, b))

  -- 3
  pub refused-root : table_ok_in text t ≡ true → sizes_ok_in text rs p used ≡ true → used ≤ root → Refuses 3
  unfolding check_answer_in
  refused-root a b l =
      let d : (◌≡◌ {A = ℕ} 3 0 → ⊥) = λ q. omega (arith, q) in
      (no_accepted_of 3 3 refl d, refused-of 3 3 refl d ∙ rw (a, b, le-ltb root used l))

  pub refused-record : (f : ℕ) → f % 8 ≡ first_fault_in text t rs p used → (f % 8 ≡ 0 → f ≡ 0) → (f ≡ 0 → ⊥)
      → answer_of f ≡ records_answer_in text t rs p used (node root)
  unfolding answer_of records_answer_in
  refused-record f e d z = let n : eqb (f % 8) 0 ≡ false = ne_eqb (f % 8) 0 (λ q. z (d q)) in rw (← e, n)

  pub accepted-or-7 : (f : ℕ) → f % 8 ≡ first_fault_in text t rs p used → f ≡ 0
      → records_answer_in text t rs p used (node root) ≡ cond (eqb (type_at t rs (node root)) 3) check.Accepted (check.Refused 7)
  unfolding records_answer_in
  accepted-or-7 f e z = let n : first_fault_in text t rs p used ≡ 0 = zero_number f (first_fault_in text t rs p used) e z in rw n

-- ---- Where no text pool was lent.
module _ (text : ℕ) (t rs p : List ℕ) (used root : ℕ) (none : text ≡ 0) where
  -- 1
  pub table-refusal_stands : ((s : ℕ) → table_ok_in s t ≡ false) → Stands t rs p used root
  unfolding check_answer_in
  table-refusal_stands h s k = rw (h s, h 0)

  table_at : table_ok_in text t ≡ true → table_ok_in 0 t ≡ true
  table_at a = subst (λ x. table_ok_in x t ≡ true) none a

  -- 2
  pub sizes-refusal_stands : table_ok_in text t ≡ true → sizes_ok_in text rs p used ≡ false → Stands t rs p used root
  unfolding check_answer_in
  sizes-refusal_stands a b s k =
      let c = subst (λ x. sizes_ok_in x rs p used ≡ false) none b in
      rw (table-stands t s (table_at a), table_at a, sizes-same s rs p used (le-leb s 8193 k), c)

  sizes-at : sizes_ok_in text rs p used ≡ true → sizes_ok_in 0 rs p used ≡ true
  sizes-at b = subst (λ x. sizes_ok_in x rs p used ≡ true) none b

  -- 3
  pub root-refusal_stands : table_ok_in text t ≡ true → sizes_ok_in text rs p used ≡ true → used ≤ root → Stands t rs p used root
  unfolding check_answer_in
  root-refusal_stands a b l s k =
      rw (table-stands t s (table_at a), table_at a, sizes-same s rs p used (le-leb s 8193 k), sizes-at b, le-ltb root used l)

  pub within-stand : table_ok_in text t ≡ true → sizes_ok_in text rs p used ≡ true → root < used → RecordsStand t rs p used root
      → Stands t rs p used root
  within-stand a b l h s k =
      within-limits s t rs p used root (table-stands t s (table_at a)) (sizes-same s rs p used (le-leb s 8193 k) ∙ sizes-at b) l
      ∙ h s ∙ sym (within-limits 0 t rs p used root (table_at a) (sizes-at b) l)
