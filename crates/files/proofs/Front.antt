-- Checking looks at the used records alone: a screen without what stands behind them is checked if the screen is.
-- Assumes nothing.
use Prim.Native.Nat.{ℕ, ◌+◌, ◌*◌, ◌/◌, ◌%◌, ◌≤◌, ◌<◌}
use mathlib.Core.Path.{◌≡◌, refl, sym, ◌∙◌, ap}
use mathlib.Core.Bool.{Bool, true, false, cond, not, ◌&&◌}
use mathlib.Core.List.{List}
use native.Mathlib.Omega.{arith}
use lib.Dec.{leb, eqb}
use lib.ListN.{length, get_or, take}
use lib.Seq.{get_or-take, length-take-le}
use borrow.Author.Tests.{le-leb}
use Rattle.records.specs.Bytes.{word}
use Rattle.records.specs.Record.{node, fields_at, decode, record_at, inputs}
use Rattle.records.specs.declared.record.Node.{Node}
use Rattle.records.specs.declared.record.Record.{Record}
use Rattle.records.specs.declared.record.Record.TheVariants as kind
use Rattle.records.proofs.Laws.{and_right}
use Rattle.record_check.specs.Fit.{type_of, type_at, types_ok}
use Rattle.checking.specs.Check.{sizes_ok_in, check_answer_in}
use Rattle.checking.specs.Checked.{CheckedRecordIn, CheckedIn}
use Rattle.checking.specs.Answer as check
use Rattle.checking.proofs.Accepted.{Below, checked-in, checked-accepted_in, checked-used_in, checked-lent_in, inputs-below_in}

module _ (t rs out p : List ℕ) (n : ℕ) (same : (m : ℕ) → m < n → record_at out (node m) ≡ record_at rs (node m)) where
  type_same : (x : Node) → x.0 < n → type_at t out x ≡ type_at t rs x
  unfolding type_at
  type_same x h = ap (type_of t) (same x.0 h)

  types_same : (r : Record) → Below n (inputs r) → types_ok t out r ≡ types_ok t rs r
  unfolding types_ok
  types_same kind.Invalid b = refl
  types_same (kind.Column c) b = refl
  types_same (kind.Literal ty v) b = refl
  types_same (kind.Null ty) b = refl
  types_same (kind.Binary o x y) b = rw (type_same x b.0, type_same y b.1.0)
  types_same (kind.Not x) b = rw (type_same x b.0)
  types_same (kind.IsNull x) b = rw (type_same x b.0)
  types_same (kind.IsNotNull x) b = rw (type_same x b.0)
  types_same (kind.IsBetween k x low high) b =
      rw (type_same x b.0, type_same low b.1.0, type_same high b.1.1.0)
  types_same (kind.List ty marked start count) b = refl
  types_same (kind.IsIn equal x list) b = rw (type_same x b.0, same list.0 b.1.0)

-- the fields of a used record
fields-front : (rs : List ℕ) (m n : ℕ) → 16 * n + 16 ≤ m → fields_at (take m rs) (node n) ≡ fields_at rs (node n)
unfolding fields_at word
fields-front rs m n h =
    let g : (i : ℕ) → i < m → get_or (take m rs) i 0 ≡ get_or rs i 0 = λ i l. get_or-take m rs i 0 l in
    rw (
      g (16 * n) (omega arith),
      g (16 * n + 1) (omega arith),
      g (16 * n + 2) (omega arith),
      g (16 * n + 3) (omega arith),
      g (16 * n + 4) (omega arith),
      g (16 * n + 4 + 1) (omega arith),
      g (16 * n + 4 + 2) (omega arith),
      g (16 * n + 4 + 3) (omega arith),
      g (16 * n + 8) (omega arith),
      g (16 * n + 8 + 1) (omega arith),
      g (16 * n + 8 + 2) (omega arith),
      g (16 * n + 8 + 3) (omega arith),
      g (16 * n + 12) (omega arith),
      g (16 * n + 12 + 1) (omega arith),
      g (16 * n + 12 + 2) (omega arith),
      g (16 * n + 12 + 3) (omega arith),
    )

module _ (text : ℕ) (t rs p : List ℕ) (used root : ℕ) (ok : CheckedIn text t rs p used root) where
  abbrev front : List ℕ
  front = take (16 * used) rs

  record_front : (n : ℕ) → n < used → record_at front (node n) ≡ record_at rs (node n)
  unfolding record_at
  record_front n h = ap decode (fields-front rs (16 * used) n (omega arith))

  sizes-front : sizes_ok_in text front p used ≡ true
  unfolding sizes_ok_in
  sizes-front =
      let l : length front ≡ 16 * used =
      length-take-le (16 * used) rs (checked-lent_in text t rs p used root ok) in
      let a = and_right (leb used 4096)
      (leb used (length rs / 16) && (eqb (length p % 8) 0 && cond (leb text 8193) (leb (length p / 8) 8192) false))
      ok.sizes in
      let b = and_right (leb used (length rs / 16))
      (eqb (length p % 8) 0 && cond (leb text 8193) (leb (length p / 8) 8192) false) a in
      let c : used ≤ length front / 16 = omega (arith, l) in
      rw (le-leb used 4096 (checked-used_in text t rs p used root ok), le-leb used (length front / 16) c, b)

  checked-record : (n : ℕ) → n < used → CheckedRecordIn text t front p n
  checked-record n h =
      let k = ok.records n h in
      let e = record_front n h in
      let same : (m : ℕ) → m < n → record_at front (node m) ≡ record_at rs (node m) = λ m l. record_front m (omega arith) in
      let b = inputs-below_in text t rs p used root ok n h in
      record {
        shape = rw (fields-front rs (16 * used) n (omega arith)) k.shape;
        reach = rw e k.reach;
        served = rw e k.served;
        types = rw e (types_same t rs front p n same (record_at rs (node n)) b ∙ k.types);
      }

  checked-front : CheckedIn text t front p used root
  unfolding type_at
  checked-front =
      record {
        table = ok.table;
        sizes = sizes-front;
        root-used = ok.root-used;
        records = checked-record;
        root-truth = ap (type_of t) (record_front root ok.root-used) ∙ ok.root-truth;
      }

pub accepted-front : (text : ℕ) (t rs p : List ℕ) (used root : ℕ) → check_answer_in text t rs p used root ≡ check.Accepted
    → check_answer_in text t (take (16 * used) rs) p used root ≡ check.Accepted
accepted-front text t rs p used root e =
    checked-accepted_in text t (take (16 * used) rs) p used root
    (checked-front text t rs p used root (checked-in text t rs p used root e))
