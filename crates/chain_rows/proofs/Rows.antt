-- Judging rows: where a row lies, what the row test says of one that fits, and the classes that blocks of rows write.
-- Assumes nothing.
use Rattle.std.proofs.Common.{◌≡◌, ℕ, zero, suc, ◌+◌, ◌-◌, ◌*◌, ◌/◌, ◌%◌, ◌<◌, ◌≤◌, min, Bool, true, false, cond, ◌&&◌, eqb, leb, List, length, get_or, drop, sym, refl, ap, ◌∙◌, subst, ⊎_elim, mul-le-mul, arith, length-drop, length-take-le, le-ltb, eqb-true}
use Rattle.records.specs.Bytes.{all}
use Rattle.records.proofs.Laws.{and_left, and_right}
use Rattle.records.proofs.Loops.{all_holds}
use Rattle.checking.specs.Check.{sizes_ok, sizes_ok_in}
use Rattle.checking.specs.Checked.{Checked}
use Rattle.checking.specs.Columns.{bit}
use Rattle.checking.specs.Tree.{tree_count}
use Rattle.checking.proofs.Accepted.{checked-accepted, checked-used}
use Rattle.checking.proofs.Sizes.{pool-small}
use Rattle.row_test.specs.RowTest.{row_fault, checked_answer, test_row_answer}
use Rattle.three_valued.specs.Logic.{is_true}
use Rattle.three_valued.specs.declared.logic.Truth.{Truth}
use Rattle.three_valued.specs.declared.logic.Truth.TheVariants.{False, Unknown, True}
use Rattle.row_test.specs.Answer.{Refused, Tested}
use Rattle.row_test.proofs.Answers.{row-tested}
use Rattle.truth.proofs.Keys.{lt-or_le}
use Rattle.row_test.proofs.Ready.{columns-small, checked-evaluable}
use Rattle.masks.specs.declared.Masks.{Masks}
use Rattle.masks.specs.Masks.{is_unknown, Tells}
use Rattle.masks.specs.Block.{chain_row, chain_truth, Ready}
use Rattle.pool_order.specs.Order.{Full, OrderedPart, Ordered}
use Rattle.chain_rows.specs.Chain.{row_at, answer_at, is_tested}
use Rattle.chain_rows.specs.Classes.{truth_class, class_of, Judged, row_fits, Classed, Evaluates}

-- row r of n lies within them
pub row-end : (w r n : ℕ) → r < n → w * r + w ≤ w * n
row-end w r n h =
    let l : suc r ≤ n = h in
    let s : w ≤ w = omega arith in
    let e : w * r + w ≡ w * suc r = omega arith in
    let m : w * suc r ≤ w * n = mul-le-mul s l in
    omega (arith, e, m)

-- of a checked screen the pool has at most 8,192 values
pub pool-short : (rs p : List ℕ) (used : ℕ) → sizes_ok rs p used ≡ true → length p ≤ 65536
unfolding sizes_ok_in
pool-short rs p used e =
    let f = and_right (leb used 4096) (leb used (length rs / 16) && (eqb (length p % 8) 0 && leb (length p / 8) 8192)) e in
    let g = and_right (leb used (length rs / 16)) (eqb (length p % 8) 0 && leb (length p / 8) 8192) f in
    let a : length p % 8 ≡ 0 = eqb-true _ _ (and_left (eqb (length p % 8) 0) (leb (length p / 8) 8192) g) in
    let b = pool-small rs p used e in
    omega (arith, a, b)

-- one word is no order of the pool
pub no_order : (p order : List ℕ) → length order ≡ 1 → Ordered p order
unfolding OrderedPart
no_order p order e =
    record {
      whole = λ s h. absurd (omega (arith, e, h));
      front = λ s h. absurd (omega (arith, e, h));
      back = λ s h. absurd (omega (arith, e, h));
    }

pub in_order : (p order : List ℕ) → Full p order → Ordered p order
unfolding OrderedPart
in_order p order f =
    let e = f.short in
    record { whole = λ s h. f; front = λ s h. absurd (omega (arith, e, s)); back = λ s h. absurd (omega (arith, e, s)) }

-- of a checked screen the row test's answer is that of the row
answer_is : (t rs p : List ℕ) (used root : ℕ) (values nulls : List ℕ) → Checked t rs p used root → (r : ℕ)
    → answer_at t rs p used root values nulls r ≡ checked_answer t rs p used root (row_at t values r) (get_or nulls r 0)
unfolding answer_at test_row_answer
answer_is t rs p used root values nulls ok r = rw (checked-accepted t rs p used root ok)

tree-small : (x c : ℕ) → c ≡ min x 4097 → c ≤ 4096 → x ≤ 4096
tree-small x c e h = omega arith

all_same : (p q : ℕ → Bool) (n : ℕ) → ((i : ℕ) → p i ≡ q i) → all p n ≡ all q n
unfolding all
all_same p q zero h = refl
all_same p q (suc n) h = rw (all_same p q n h, h n)

module _ (t rs p : List ℕ) (used root : ℕ) (values nulls : List ℕ) (ok : Checked t rs p used root) (c : ℕ)
    (counted : c ≡ min (tree_count rs root) 4097) (small : c ≤ 4096) where
  -- a row is tested exactly if it fits
  fits-tested : (r : ℕ) → row_fits t values nulls r ≡ is_tested (answer_at t rs p used root values nulls r)
  unfolding row_fits checked_answer
  fits-tested r =
      rw (answer_is t rs p used root values nulls ok r, le-ltb 4096 (tree_count rs root) (tree-small (tree_count rs root) c counted small))
      (go (eqb (row_fault t (row_at t values r) (get_or nulls r 0)) 0) _ _)
    where
      go : (b : Bool) (x : Truth) (k : ℕ) → b ≡ is_tested (cond b (Tested x) (Refused k))
      go true x k = refl
      go false x k = refl

  pub all_tested : all (row_fits t values nulls) (length nulls)
      ≡ all (λ i. is_tested (answer_at t rs p used root values nulls i)) (length nulls)
  all_tested = all_same (row_fits t values nulls) (λ i. is_tested (answer_at t rs p used root values nulls i)) (length nulls) fits-tested

  -- and its answer is then the truth of the root
  tested-is : (r : ℕ) → row_fits t values nulls r ≡ true
      → Tested (chain_truth rs p (length t) values nulls root r) ≡ answer_at t rs p used root values nulls r
  unfolding row_fits chain_truth chain_row row_at
  tested-is r e =
      row-tested t rs p (row_at t values r) (get_or nulls r 0) used root ok c counted small _ refl
      (eqb-true (row_fault t (row_at t values r) (get_or nulls r 0)) 0 e) _ refl
      ∙ sym (answer_is t rs p used root values nulls ok r)

  pub judged-of : (classes : List ℕ) → all (row_fits t values nulls) (length nulls) ≡ true
      → Classed rs p (length t) values nulls root classes (length nulls)
      → Judged (answer_at t rs p used root values nulls) classes (length nulls)
  unfolding Judged Classed
  judged-of classes fit s r h =
      s r h ∙ ap class_of (tested-is r (all_holds (row_fits t values nulls) r (length nulls) h fit))

module _ (t rs p : List ℕ) (used root : ℕ) (values nulls : List ℕ) (ok : Checked t rs p used root)
    (long : length values ≡ 8 * length t * length nulls) where
  row-long : (r : ℕ) → r < length nulls → length (chain_row (length t) values r) ≡ 8 * length t
  unfolding chain_row
  row-long r h =
      let e = row-end (8 * length t) r (length nulls) h in
      length-take-le (8 * length t) (drop (8 * length t * r) values)
      (subst (λ k. 8 * length t ≤ k) (sym (length-drop (8 * length t * r) values)) (omega (arith, e, long)))

  pub evaluates_of : length nulls ≤ 1024 → Evaluates rs p (length t) values nulls root
  evaluates_of short =
      let u = checked-used t rs p used root ok in
      let r = ok.root-used in
      record {
        narrow = columns-small t rs p used root ok;
        short = short;
        long = long;
        small = omega (arith, u, r);
        evaluable = λ i h. checked-evaluable t rs p (chain_row (length t) values i) used root ok (row-long i h) root ok.root-used;
      }

-- ---- the rows of a block
pub block-ready : (rs p : List ℕ) (columns : ℕ) (values nulls : List ℕ) (root base rows : ℕ)
    → Evaluates rs p columns values nulls root → base < length nulls → rows ≡ min (length nulls - base) 64
    → Ready rs p columns values nulls base rows root
block-ready rs p columns values nulls root base rows ok h e =
    record {
      some = omega (arith, h, e);
      few = omega (arith, e);
      narrow = ok.narrow;
      within = omega (arith, h, e);
      short = ok.short;
      long = ok.long;
      evaluable = ok.evaluable;
    }

class_told : (b c : Bool) (t : Truth) → b ≡ is_true t → c ≡ is_unknown t → cond b 2 (cond c 1 0) ≡ truth_class t
class_told b c False eb ec = rw (eb, ec)
class_told b c Unknown eb ec = rw (eb, ec)
class_told b c True eb ec = rw eb

pub classes_told : (classes : List ℕ) (base rows : ℕ) (m : Masks) → rows ≤ 64
    → ((i : ℕ) → i < rows → get_or classes (base + i) 0 ≡ cond (bit m.truths i) 2 (cond (bit m.unknowns i) 1 0))
    → (f : ℕ → Truth) → Tells rows m f → (i : ℕ) → i < rows → get_or classes (base + i) 0 ≡ truth_class (f i)
unfolding Tells
classes_told classes base rows m few s f t i h =
    let q = t i (omega (arith, few, h)) h in
    s i h ∙ class_told (bit m.truths i) (bit m.unknowns i) (f i) q.0 q.1

module _ (rs p : List ℕ) (columns : ℕ) (values nulls : List ℕ) (root : ℕ) where
  pub classed_none : (classes : List ℕ) → Classed rs p columns values nulls root classes 0
  unfolding Classed
  classed_none classes r h = absurd (omega arith)

  pub classed_more : (old classes : List ℕ) (base rows : ℕ)
      → ((i : ℕ) → i < rows → get_or classes (base + i) 0 ≡ truth_class (chain_truth rs p columns values nulls root (base + i)))
      → ((j : ℕ) → j < base → get_or classes j 0 ≡ get_or old j 0) → Classed rs p columns values nulls root old base
      → Classed rs p columns values nulls root classes (base + rows)
  unfolding Classed
  classed_more old classes base rows new kept s r h =
      ⊎_elim (λ (l : r < base). kept r l ∙ s r l)
      (λ (l : base ≤ r).
      let e : base + (r - base) ≡ r = omega (arith, l) in
      subst (λ k. get_or classes k 0 ≡ truth_class (chain_truth rs p columns values nulls root k)) e
      (new (r - base) (omega (arith, l, h))))
      (lt-or_le r base)

  pub classed_done : (classes : List ℕ) (i n : ℕ) → i ≡ n → Classed rs p columns values nulls root classes i
      → Classed rs p columns values nulls root classes n
  classed_done classes i n e s = subst (λ k. Classed rs p columns values nulls root classes k) e s
