-- An accepted screen is a checked-in one, and what follows of its limits and of the inputs of its records.
use Prim.Native.Nat.{ℕ, zero, suc, ◌*◌, ◌≤◌, ◌<◌}
use mathlib.Core.List.{List, [], ◌∷◌}
use mathlib.Core.Bool.{Bool, true, false, cond, true≢false}
use mathlib.Core.Path.{◌≡◌, refl, sym, ◌∙◌, ap}
use native.Mathlib.Omega.{arith}
use lib.ListN.{length}
use lib.Dec.{ltb, eqb}
use borrow.Author.Tests.{ltb-true, lt-ltb, eqb-true, eqb-false}
use Rattle.records.specs.Bytes.{first}
use Rattle.records.specs.Record.{node, fields_at, decode, record_at, inputs}
use Rattle.records.specs.Shape.{shape_ok_in}
use Rattle.record_check.specs.Fit.{all_below, reach_ok_in, served_ok, types_ok, type_at}
use Rattle.checking.specs.Check.{table_ok_in, sizes_ok_in, meaning_fault_in, record_fault_in, first_fault_in, records_answer_in, check_answer_in, check_answer}
use Rattle.checking.specs.Checked.{CheckedRecordIn, CheckedIn, Checked}
use Rattle.records.specs.declared.record.Record.{Record}
use Rattle.records.specs.declared.record.Record.TheVariants as kind
use Rattle.checking.specs.Answer.{CheckAnswer}
use Rattle.checking.specs.Answer.{Refused, Accepted}
use Rattle.records.proofs.Laws.{by-test, and_left, and_right}
use Rattle.checking.proofs.Sizes.{used-small_in, used-lent_in}

-- a fault that is 0 comes from every test before it
pub only : (b : Bool) (x k : ℕ) → cond b x (suc k) ≡ 0 → (b ≡ true) × (x ≡ 0)
only true x k e = (refl, e)
only false x k e = absurd (omega (arith, e))

-- no fault among the first u: none at any of them
pub no_fault : (f : ℕ → ℕ) (n u : ℕ) → first f u ≡ 0 → n < u → f n ≡ 0
unfolding first
no_fault f n zero e h = absurd (omega arith)
no_fault f n (suc u) e h = go (eqb (first f u) 0) refl e (λ q k. no_fault f n u q k)
  where
    go : (b : Bool) → eqb (first f u) 0 ≡ b → cond b (f u) (first f u) ≡ 0 → (first f u ≡ 0 → n < u → f n ≡ 0) → f n ≡ 0
    go true p e ih = by-test (eqb n u) last lower
      where
        last : eqb n u ≡ true → f n ≡ 0
        last q = ap f (eqb-true n u q) ∙ e

        lower : eqb n u ≡ false → f n ≡ 0
        lower q = let d : (n ≡ u → ⊥) = eqb-false n u q in ih (eqb-true (first f u) 0 p) (omega (arith, d))
    go false p e ih = absurd (eqb-false (first f u) 0 p e)

meaning_of : (text : ℕ) (t rs p : List ℕ) (r : Record) (n : ℕ) → meaning_fault_in text t rs p r (node n) ≡ 0
    → (reach_ok_in text t p r (node n) ≡ true) × (served_ok r ≡ true) × (types_ok t rs r ≡ true)
unfolding meaning_fault_in
meaning_of text t rs p r n e =
    let a = only (reach_ok_in text t p r (node n)) (cond (served_ok r) (cond (types_ok t rs r) 0 7) 6) 4 e in
    let b = only (served_ok r) (cond (types_ok t rs r) 0 7) 5 a.1 in
    let d = only (types_ok t rs r) 0 6 b.1 in
    (a.0, b.0, d.0)

record_of : (text : ℕ) (t rs p : List ℕ) (n : ℕ) → record_fault_in text t rs p (node n) ≡ 0 → CheckedRecordIn text t rs p n
unfolding record_fault_in record_at
record_of text t rs p n e =
    let a = only (shape_ok_in text (fields_at rs (node n))) (meaning_fault_in text t rs p (decode (fields_at rs (node n))) (node n)) 3 e in
    let m = meaning_of text t rs p (decode (fields_at rs (node n))) n a.1 in
    record { shape = a.0; reach = m.0; served = m.1; types = m.2 }

is_accepted : CheckAnswer → Bool
is_accepted (Refused k) = false
is_accepted Accepted = true

pub not-accepted : (k : ℕ) → Refused k ≡ Accepted → ⊥
unfolding is_accepted
not-accepted k e = true≢false (sym (ap is_accepted e))

-- within the limits the answer is the records' own
pub within-limits : (text : ℕ) (t rs p : List ℕ) (used root : ℕ) → table_ok_in text t ≡ true → sizes_ok_in text rs p used ≡ true
    → root < used → check_answer_in text t rs p used root ≡ records_answer_in text t rs p used (node root)
unfolding check_answer_in
within-limits text t rs p used root a b h = rw (a, b, lt-ltb root used h)

-- an answer that is Accepted comes from every test before it
passed : (b : Bool) (x : CheckAnswer) (k : ℕ) → cond b x (Refused k) ≡ Accepted → (b ≡ true) × (x ≡ Accepted)
passed true x k e = (refl, e)
passed false x k e = absurd (not-accepted k e)

-- checking accepts only checked-in screens
pub checked-in : (text : ℕ) (t rs p : List ℕ) (used root : ℕ) → check_answer_in text t rs p used root ≡ Accepted → CheckedIn text t rs p used root
unfolding check_answer_in records_answer_in first_fault_in
checked-in text t rs p used root e =
    let a = passed (table_ok_in text t) _ 1 e in
    let b = passed (sizes_ok_in text rs p used) _ 2 a.1 in
    let c = passed (ltb root used) _ 3 b.1 in
    let d = passed (eqb (first_fault_in text t rs p used) 0) _ _ c.1 in
    let f = passed (eqb (type_at t rs (node root)) 3) _ 7 d.1 in
    record {
      table = a.0;
      sizes = b.0;
      root-used = ltb-true root used c.0;
      records =
          λ n h. record_of text t rs p n
          (no_fault (λ (i : ℕ). record_fault_in text t rs p (node i)) n used (eqb-true (first_fault_in text t rs p used) 0 d.0) h);
      root-truth = eqb-true (type_at t rs (node root)) 3 f.0;
    }

-- no fault at any of the first u: none among them
first-zero : (f : ℕ → ℕ) (u : ℕ) → ((n : ℕ) → n < u → f n ≡ 0) → first f u ≡ 0
unfolding first
first-zero f zero h = refl
first-zero f (suc u) h = rw (first-zero f u (λ n k. h n (omega arith)), h u (omega arith))

faultless : (text : ℕ) (t rs p : List ℕ) (n : ℕ) → CheckedRecordIn text t rs p n → record_fault_in text t rs p (node n) ≡ 0
unfolding record_fault_in meaning_fault_in record_at
faultless text t rs p n k = rw (k.shape, k.reach, k.served, k.types)

-- checking accepts every checked-in screen; that it accepts no other is `checked-in`
pub checked-accepted_in :
    (text : ℕ) (t rs p : List ℕ) (used root : ℕ) → CheckedIn text t rs p used root → check_answer_in text t rs p used root ≡ Accepted
unfolding check_answer_in records_answer_in first_fault_in
checked-accepted_in text t rs p used root k =
    rw (
      k.table,
      k.sizes,
      lt-ltb root used k.root-used,
      first-zero (λ (i : ℕ). record_fault_in text t rs p (node i)) used (λ n h. faultless text t rs p n (k.records n h)),
      k.root-truth,
    )

-- within the limits
pub checked-used_in : (text : ℕ) (t rs p : List ℕ) (used root : ℕ) → CheckedIn text t rs p used root → used ≤ 4096
checked-used_in text t rs p used root k = used-small_in text rs p used k.sizes

pub checked-lent_in : (text : ℕ) (t rs p : List ℕ) (used root : ℕ) → CheckedIn text t rs p used root → 16 * used ≤ length rs
checked-lent_in text t rs p used root k = used-lent_in text rs p used k.sizes

pub accepted-root_in : (text : ℕ) (t rs p : List ℕ) (used root : ℕ) → check_answer_in text t rs p used root ≡ Accepted → root < 4096
accepted-root_in text t rs p used root e =
    let k = checked-in text t rs p used root e in
    let a : root < used = k.root-used in
    let b : used ≤ 4096 = checked-used_in text t rs p used root k in
    omega arith

-- every member of a list is below n
abbrev pub Below : ℕ → List ℕ → Type 0
Below n [] = Unit {0}
Below n (x ∷ l) = (x < n) × Below n l

all_below_lem : (n : ℕ) (l : List ℕ) → all_below n l ≡ true → Below n l
all_below_lem n [] e = tt
all_below_lem n (x ∷ l) e =
    (ltb-true x n (and_left (ltb x n) (all_below n l) e), all_below_lem n l (and_right (ltb x n) (all_below n l) e))

reach-below : (text : ℕ) (t p : List ℕ) (r : Record) (n : ℕ) → reach_ok_in text t p r (node n) ≡ true → Below n (inputs r)
unfolding reach_ok_in
reach-below text t p kind.Invalid n e = tt
reach-below text t p (kind.Column c) n e = tt
reach-below text t p (kind.Literal ty v) n e = tt
reach-below text t p (kind.Null ty) n e = tt
reach-below text t p (kind.Binary o x y) n e = all_below_lem n (inputs (kind.Binary o x y)) e
reach-below text t p (kind.Not x) n e = all_below_lem n (inputs (kind.Not x)) e
reach-below text t p (kind.IsNull x) n e = all_below_lem n (inputs (kind.IsNull x)) e
reach-below text t p (kind.IsNotNull x) n e = all_below_lem n (inputs (kind.IsNotNull x)) e
reach-below text t p (kind.IsBetween k x low high) n e = all_below_lem n (inputs (kind.IsBetween k x low high)) e
reach-below text t p (kind.List ty marked start count) n e = tt
reach-below text t p (kind.IsIn equal x list) n e = all_below_lem n (inputs (kind.IsIn equal x list)) e

-- the inputs of a checked-in record are below it
pub inputs-below_in : (text : ℕ) (t rs p : List ℕ) (used root : ℕ) → CheckedIn text t rs p used root → (n : ℕ) → n < used
    → Below n (inputs (record_at rs (node n)))
inputs-below_in text t rs p used root k n h = reach-below text t p (record_at rs (node n)) n (k.records n h).reach

-- the same where no text pool is lent
pub checked : (t rs p : List ℕ) (used root : ℕ) → check_answer t rs p used root ≡ Accepted → Checked t rs p used root
checked = checked-in 0

pub checked-accepted :
    (t rs p : List ℕ) (used root : ℕ) → Checked t rs p used root → check_answer t rs p used root ≡ Accepted
checked-accepted = checked-accepted_in 0

pub checked-used : (t rs p : List ℕ) (used root : ℕ) → Checked t rs p used root → used ≤ 4096
checked-used = checked-used_in 0

pub checked-lent : (t rs p : List ℕ) (used root : ℕ) → Checked t rs p used root → 16 * used ≤ length rs
checked-lent = checked-lent_in 0

pub accepted-root : (t rs p : List ℕ) (used root : ℕ) → check_answer t rs p used root ≡ Accepted → root < 4096
accepted-root = accepted-root_in 0

pub inputs-below : (t rs p : List ℕ) (used root : ℕ) → Checked t rs p used root → (n : ℕ) → n < used
    → Below n (inputs (record_at rs (node n)))
inputs-below = inputs-below_in 0
