-- Records that have no fault, written behind used records that have none; text is what is lent beside the pool.
use mathlib.Core.Path.{◌≡◌, refl, sym, ◌∙◌, ap, subst}
use mathlib.Core.Bool.{Bool, true, false, cond, not, true≢false}
use mathlib.Core.List.{List, [], ◌∷◌}
use Prim.Native.Nat.{ℕ, suc, ◌+◌, ◌*◌, ◌/◌, ◌%◌, ◌≤◌, ◌<◌}
use native.Mathlib.Omega.{arith}
use lib.Dec.{eqb, ltb, leb}
use lib.ListN.{length, get_or}
use borrow.Author.Tests.{lt-ltb, eq-eqb, ltb-true, ltb-false, leb-true}
use Rattle.records.specs.Bytes.{all}
use Rattle.records.specs.Record.{node, fields_at, decode, record_at, encode}
use Rattle.records.specs.Shape.{known_type_in, in_type_in, max_code, uses, known_ok_in, zero_or, unused_ok}
use Rattle.records.specs.Shape.{literal_ok_in, shape_ok_in}
use Rattle.records.specs.declared.record.Node.{Node}
use Rattle.records.specs.declared.record.Record.{Record}
use Rattle.records.specs.declared.record.Record.TheVariants as kind
use Rattle.records.proofs.Laws.{and_left, and_right, by-test}
use Rattle.records.proofs.Loops.{all_holds}
use Rattle.records.proofs.RoundTrips.{decode-encode}
use Rattle.record_check.specs.Fit.{reach_ok_in, served_ok, type_of, type_at, same_type, binary_fits, types_ok}
use Rattle.checking.specs.Check.{types_known_in, table_ok_in}
use Rattle.checking.specs.Checked.{CheckedRecordIn}
use Rattle.truth.specs.Comparison.{Comparison, Eq, NotEq, Lt, LtEq, Gt, GtEq}
use Rattle.constraints.specs.Comparisons.{ColumnComparison}
use Rattle.constraints.specs.Payload.{payload}
use Rattle.constraints.specs.Values.{is_empty}
use Rattle.merge.specs.Rebuild.{comparison_of, value_of, comparison_nodes, comparisons_end, and_root, ands_end, fold_root}
use Rattle.merge.specs.Rebuild.{fold_used}
use Rattle.merge.specs.Write.{literal_type}
use Rattle.merge.specs.Write.{write_record, write_comparison, write_comparisons, write_ands, fold_bytes}
use Rattle.merge.proofs.Accepted.{one, two, three}
use Rattle.merge.proofs.Chains.{Every, every_map}
use Rattle.merge.proofs.Literals.{WrittenP}
use Rattle.merge.proofs.RebuiltBytes.{Fit, column_record, literal_record, comparison_record, and_record}
use Rattle.merge.proofs.RebuiltBytes.{column-words, literal-words, comparison_words, and_words}
use Rattle.merge.proofs.RebuiltBytes.{comparisons-end, ands_end_lem}
use Rattle.merge.proofs.Types.{InColumn, opens}
use Rattle.merge.proofs.Written.{Words, length-write, fields-new, fields-old}

-- The records below u have no fault.
abbrev pub AllChecked : ℕ → List ℕ → List ℕ → List ℕ → ℕ → Type 0
AllChecked text t rs p u = (n : ℕ) → n < u → CheckedRecordIn text t rs p n

-- The records below u are the same.
abbrev pub SameBelow : List ℕ → List ℕ → ℕ → Type 0
SameBelow rs out u = (n : ℕ) → n < u → record_at out (node n) ≡ record_at rs (node n)

-- ---- A record asks only of the records below it.
module _ (text : ℕ) (t rs out p : List ℕ) (n : ℕ) (same : SameBelow rs out n) where
  type_same : (x : Node) → x.0 < n → type_at t out x ≡ type_at t rs x
  unfolding type_at
  type_same x h = ap (type_of t) (same x.0 h)

  types_same : (r : Record) → reach_ok_in text t p r (node n) ≡ true → types_ok t out r ≡ types_ok t rs r
  unfolding reach_ok_in types_ok
  types_same kind.Invalid h = refl
  types_same (kind.Column c) h = refl
  types_same (kind.Literal ty v) h = refl
  types_same (kind.Null ty) h = refl
  types_same (kind.Binary o x y) h =
      let b = two n x.0 y.0 h in rw (type_same x b.0, type_same y b.1)
  types_same (kind.Not x) h = rw (type_same x (one n x.0 h))
  types_same (kind.IsNull x) h = rw (type_same x (one n x.0 h))
  types_same (kind.IsNotNull x) h = rw (type_same x (one n x.0 h))
  types_same (kind.IsBetween k x low high) h =
      let b = three n x.0 low.0 high.0 h in
      rw (type_same x b.0, type_same low b.1, type_same high b.2)
  types_same (kind.List ty marked start count) h = refl
  types_same (kind.IsIn equal x list) h =
      let b = two n x.0 list.0 h in rw (type_same x b.0, same list.0 b.1)

-- Record u has no fault if the record r that it decodes to has none over the records below u.
checked-as :
    (text : ℕ) (t rs out p : List ℕ) (n : ℕ) (r : Record) → SameBelow rs out n → record_at out (node n) ≡ r →
    shape_ok_in text (fields_at out (node n)) ≡ true → reach_ok_in text t p r (node n) ≡ true → served_ok r ≡ true →
    types_ok t rs r ≡ true → CheckedRecordIn text t out p n
checked-as text t rs out p n r same e shape reach served types =
    record {
      shape = shape;
      reach = ap (λ q. reach_ok_in text t p q (node n)) e ∙ reach;
      served = ap served_ok e ∙ served;
      types = ap (types_ok t out) e ∙ types_same text t rs out p n same r reach ∙ types;
    }

-- ---- From rs to out, faultless records were written from u on and below end.
pub record Extends (text : ℕ) (t rs out p : List ℕ) (u end : ℕ) : Type 0 where
  pub lent : length out ≡ length rs
  pub same : SameBelow rs out u
  pub all : AllChecked text t out p end

extends_none : (text : ℕ) (t rs p : List ℕ) (u : ℕ) → AllChecked text t rs p u → Extends text t rs rs p u u
extends_none text t rs p u h = record { lent = refl; same = λ n k. refl; all = h }

pub extends_then :
    (text : ℕ) (t rs mid out p : List ℕ) (u m end : ℕ) → u ≤ m → Extends text t rs mid p u m → Extends text t mid out p m end →
    Extends text t rs out p u end
extends_then text t rs mid out p u m end l a b =
    record {
      lent = b.lent ∙ a.lent;
      same = λ n h. b.same n (omega arith) ∙ a.same n h;
      all = b.all;
    }

-- What is asked of a record r that is to be written at u.
pub record New (text : ℕ) (t rs p : List ℕ) (u : ℕ) (r : Record) : Type 0 where
  pub words : Words (encode r)
  pub shape : shape_ok_in text (encode r) ≡ true
  pub reach : reach_ok_in text t p r (node u) ≡ true
  pub served : served_ok r ≡ true
  pub types : types_ok t rs r ≡ true

module _ (t rs p : List ℕ) (u : ℕ) (r : Record) (room : 16 * u + 16 ≤ length rs) (w : Words (encode r)) where
  abbrev out : List ℕ
  out = write_record rs u r

  pub put_is : record_at out (node u) ≡ r
  unfolding record_at
  put_is = ap decode (fields-new rs u (encode r) room w) ∙ decode-encode r

  put_same : SameBelow rs out u
  unfolding record_at
  put_same n h = ap decode (fields-old rs u (encode r) room n h)

  -- it is a record of its own type
  pub put-type : type_at t out (node u) ≡ type_of t r
  unfolding type_at
  put-type = ap (type_of t) put_is

pub put-extends :
    (text : ℕ) (t rs p : List ℕ) (u : ℕ) (r : Record) → 16 * u + 16 ≤ length rs → AllChecked text t rs p u → New text t rs p u r →
    Extends text t rs (write_record rs u r) p u (suc u)
put-extends text t rs p u r room h new =
    record {
      lent = length-write rs u r room;
      same = put_same t rs p u r room new.words;
      all = λ n k. by-test (ltb n u) (λ e. old n (ltb-true n u e)) (λ e. last n k (ltb-false n u e));
    }
  where
    o : List ℕ
    o = write_record rs u r

    same : SameBelow rs o u
    same = put_same t rs p u r room new.words

    old : (n : ℕ) → n < u → CheckedRecordIn text t o p n
    old n l =
        let k = h n l in
        checked-as text t rs o p n (record_at rs (node n)) (λ m i. same m (omega arith)) (same n l)
        (ap (shape_ok_in text) (fields-old rs u (encode r) room n l) ∙ k.shape) k.reach k.served k.types

    here : CheckedRecordIn text t o p u
    here =
        checked-as text t rs o p u r same (put_is t rs p u r room new.words)
        (ap (shape_ok_in text) (fields-new rs u (encode r) room new.words) ∙ new.shape) new.reach new.served
        new.types

    last : (n : ℕ) → n < suc u → u ≤ n → CheckedRecordIn text t o p n
    last n k l = let e : u ≡ n = omega arith in subst (λ m. CheckedRecordIn text t o p m) e here

-- ---- The four records that a rebuilt chain writes.
column-new : (text : ℕ) (t rs p : List ℕ) (u c : ℕ) → c < length t → c < 4294967296 → New text t rs p u (column_record c)
unfolding encode shape_ok_in known_ok_in unused_ok literal_ok_in max_code zero_or uses reach_ok_in served_ok types_ok
column-new text t rs p u c h w =
    record {
      words = column-words c w;
      shape = refl;
      reach = lt-ltb c (length t) h;
      served = refl;
      types = refl;
    }

literal-new :
    (text : ℕ) (t rs p : List ℕ) (u ty v : ℕ) → known_type_in text ty ≡ true → in_type_in text ty v ≡ true → v < 18446744073709551616 →
    New text t rs p u (literal_record ty v)
unfolding encode shape_ok_in known_ok_in unused_ok literal_ok_in max_code zero_or uses reach_ok_in served_ok types_ok
literal-new text t rs p u ty v known h w =
    let e : v % 4294967296 + 4294967296 * (v / 4294967296) ≡ v = omega arith in
    record {
      words = literal-words ty v w;
      shape = rw (known, e, h);
      reach = refl;
      served = refl;
      types = refl;
    }

-- a type that is known is over 0
over_zero : (text ty : ℕ) → known_type_in text ty ≡ true → ltb 0 ty ≡ true
unfolding known_type_in
over_zero text ty h = let l : 1 ≤ ty = leb-true 1 ty (and_left _ _ h) in lt-ltb 0 ty (omega arith)

comparison_new :
    (text : ℕ) (t rs p : List ℕ) (u : ℕ) (o : Comparison) (x y ty : ℕ) → x < u → y < u → u < 4294967296 →
    known_type_in text ty ≡ true → type_at t rs (node x) ≡ ty → type_at t rs (node y) ≡ ty →
    New text t rs p u (comparison_record o x y)
unfolding encode shape_ok_in known_ok_in unused_ok literal_ok_in max_code zero_or uses reach_ok_in served_ok types_ok
    binary_fits same_type
comparison_new text t rs p u o x y ty i j small known a b =
    record {
      words = comparison_words o x y (omega arith) (omega arith);
      shape = shape_of o;
      reach = reach_of;
      served = served-of o;
      types = types_of o;
    }
  where
    shape_of : (o : Comparison) → shape_ok_in text (encode (comparison_record o x y)) ≡ true
    shape_of Eq = refl
    shape_of NotEq = refl
    shape_of Lt = refl
    shape_of LtEq = refl
    shape_of Gt = refl
    shape_of GtEq = refl

    reach_of : reach_ok_in text t p (comparison_record o x y) (node u) ≡ true
    reach_of = rw (lt-ltb x u i, lt-ltb y u j)

    served-of : (o : Comparison) → served_ok (comparison_record o x y) ≡ true
    served-of Eq = refl
    served-of NotEq = refl
    served-of Lt = refl
    served-of LtEq = refl
    served-of Gt = refl
    served-of GtEq = refl

    one_type : same_type (type_at t rs (node x)) (type_at t rs (node y)) ≡ true
    one_type = rw (a, b, over_zero text ty known, eq-eqb ty ty refl)

    types_of : (o : Comparison) → types_ok t rs (comparison_record o x y) ≡ true
    types_of Eq = one_type
    types_of NotEq = one_type
    types_of Lt = one_type
    types_of LtEq = one_type
    types_of Gt = one_type
    types_of GtEq = one_type

and_new :
    (text : ℕ) (t rs p : List ℕ) (u x y : ℕ) → x < u → y < u → u < 4294967296 → type_at t rs (node x) ≡ 3 →
    type_at t rs (node y) ≡ 3 → New text t rs p u (and_record x y)
unfolding encode shape_ok_in known_ok_in unused_ok literal_ok_in max_code zero_or uses reach_ok_in served_ok types_ok
    binary_fits
and_new text t rs p u x y i j small a b =
    record {
      words = and_words x y (omega arith) (omega arith);
      shape = refl;
      reach = rw (lt-ltb x u i, lt-ltb y u j);
      served = refl;
      types = rw (a, b);
    }

-- ---- Truths below u.
abbrev pub TruthBelow : List ℕ → List ℕ → ℕ → ℕ → Type 0
TruthBelow t rs u n = (n < u) × (type_at t rs (node n) ≡ 3)

pub truth-kept :
    (text : ℕ) (t rs out p : List ℕ) (u end : ℕ) → u ≤ end → Extends text t rs out p u end → (n : ℕ) → TruthBelow t rs u n →
    TruthBelow t out end n
truth-kept text t rs out p u end l x n h =
    let k : n < u = h.0 in (omega arith, type_same text t rs out p u x.same (node n) k ∙ h.1)

-- ---- A comparison: column, literal, binary record.
-- The literal is of its column's type.
literal-of_column : (t : List ℕ) (c : ℕ) → literal_type t c ≡ get_or t c 0
literal-of_column t c = refl

comparison_truth : (t : List ℕ) (o : Comparison) (x y : ℕ) → type_of t (comparison_record o x y) ≡ 3
unfolding type_of
comparison_truth t Eq x y = refl
comparison_truth t NotEq x y = refl
comparison_truth t Lt x y = refl
comparison_truth t LtEq x y = refl
comparison_truth t Gt x y = refl
comparison_truth t GtEq x y = refl

module _ (text : ℕ) (t p : List ℕ) (table : table_ok_in text t ≡ true) where
  known : (c : ℕ) → c < length t → known_type_in text (get_or t c 0) ≡ true
  unfolding table_ok_in types_known_in
  known c h =
      all_holds (λ (k : ℕ). known_type_in text (get_or t k 0)) c (length t) h (and_right (leb (length t) 64) _ table)

  comparison_extends :
      (rs : List ℕ) (u : ℕ) (x : ℕ × ColumnComparison ℕ) → 16 * u + 48 ≤ length rs → suc (suc u) < 4294967296 →
      x.0 < 4294967296 → value_of x.1 < 18446744073709551616 → InColumn text t x.0 (value_of x.1) →
      AllChecked text t rs p u →
      Extends text t rs (write_comparison t u x rs) p u (suc (suc (suc u)))
      × TruthBelow t (write_comparison t u x rs) (suc (suc (suc u))) (suc (suc u))
  unfolding type_of
  comparison_extends rs u x room small wc wv typed h = (
    extends_then text t rs rs2 (write_comparison t u x rs) p u (suc (suc u)) (suc (suc (suc u))) (omega arith)
        (extends_then text t rs rs1 rs2 p u (suc u) (suc (suc u)) (omega arith) x1 x2) x3,
    (omega arith, three-truth),
  )
    where
      c : ℕ
      c = x.0

      v : ℕ
      v = value_of x.1

      ty : ℕ
      ty = get_or t c 0

      lt : ℕ
      lt = literal_type t c

      is : ty ≡ lt
      is = sym (literal-of_column t c)

      o : Comparison
      o = comparison_of x.1

      rs1 : List ℕ
      rs1 = write_record rs u (column_record c)

      rs2 : List ℕ
      rs2 = write_record rs1 (suc u) (literal_record lt v)

      new1 : New text t rs p u (column_record c)
      new1 = column-new text t rs p u c typed.0 wc

      room1 : 16 * u + 16 ≤ length rs
      room1 = omega arith

      x1 : Extends text t rs rs1 p u (suc u)
      x1 = put-extends text t rs p u (column_record c) room1 h new1

      new2 : New text t rs1 p (suc u) (literal_record lt v)
      new2 =
          literal-new text t rs1 p (suc u) lt v (subst (λ s. known_type_in text s ≡ true) is (known c typed.0))
          (subst (λ s. in_type_in text s v ≡ true) is typed.1) wv

      room2 : 16 * suc u + 16 ≤ length rs1
      room2 = rw x1.lent (omega arith)

      x2 : Extends text t rs1 rs2 p (suc u) (suc (suc u))
      x2 = put-extends text t rs1 p (suc u) (literal_record lt v) room2 x1.all new2

      column-type : type_at t rs2 (node u) ≡ ty
      column-type =
          type_same text t rs1 rs2 p (suc u) x2.same (node u) (omega arith)
          ∙ put-type t rs p u (column_record c) room1 new1.words

      literal-type : type_at t rs2 (node (suc u)) ≡ ty
      literal-type = put-type t rs1 p (suc u) (literal_record lt v) room2 new2.words ∙ sym is

      new3 : New text t rs2 p (suc (suc u)) (comparison_record o u (suc u))
      new3 =
          comparison_new text t rs2 p (suc (suc u)) o u (suc u) ty (omega arith) (omega arith) small (known c typed.0)
          column-type literal-type

      room3 : 16 * suc (suc u) + 16 ≤ length rs2
      room3 = rw (x2.lent, x1.lent) (omega arith)

      x3 : Extends text t rs2 (write_comparison t u x rs) p (suc (suc u)) (suc (suc (suc u)))
      x3 = put-extends text t rs2 p (suc (suc u)) (comparison_record o u (suc u)) room3 x2.all new3

      three-truth : type_at t (write_comparison t u x rs) (node (suc (suc u))) ≡ 3
      three-truth =
          put-type t rs2 p (suc (suc u)) (comparison_record o u (suc u)) room3 new3.words
          ∙ comparison_truth t o u (suc u)

  -- all of them, and their nodes are Truths
  pub comparisons-extend :
      (l : List (ℕ × ColumnComparison ℕ)) (rs : List ℕ) (u : ℕ) → 16 * comparisons_end u l ≤ length rs →
      comparisons_end u l ≤ 4096 → Fit l → WrittenP payload (InColumn text t) (opens text t) l → AllChecked text t rs p u →
      Extends text t rs (write_comparisons t u l rs) p u (comparisons_end u l)
      × Every (TruthBelow t (write_comparisons t u l rs) (comparisons_end u l)) (comparison_nodes u l)
  comparisons-extend [] rs u room few f w h = (extends_none text t rs p u h, tt)
  comparisons-extend (x ∷ l) rs u room few f w h =
      let k : suc (suc (suc u)) ≤ comparisons_end (suc (suc (suc u))) l = comparisons-end l (suc (suc (suc u))) in
      let a = comparison_extends rs u x (omega arith) (omega arith) f.0.0 f.0.1 w.0 h in
      let b = comparisons-extend l (write_comparison t u x rs) (suc (suc (suc u))) (rw a.0.lent room) few f.1
      w.1 a.0.all in (
        extends_then text t rs (write_comparison t u x rs) (write_comparisons t u (x ∷ l) rs) p u (suc (suc (suc u)))
            (comparisons_end u (x ∷ l)) (omega arith) a.0 b.0,
        (
          truth-kept text t (write_comparison t u x rs) (write_comparisons t u (x ∷ l) rs) p (suc (suc (suc u)))
              (comparisons_end u (x ∷ l)) k b.0 (suc (suc u)) a.1,
          b.1,
        ),
      )

-- ---- The Ands: their root is a Truth, and used.
module _ (text : ℕ) (t p : List ℕ) where
  ands_extend :
      (l : List ℕ) (rs : List ℕ) (u acc : ℕ) → 16 * ands_end u l ≤ length rs → ands_end u l ≤ 4096 →
      TruthBelow t rs u acc → Every (TruthBelow t rs u) l → AllChecked text t rs p u →
      Extends text t rs (write_ands u acc l rs) p u (ands_end u l)
      × TruthBelow t (write_ands u acc l rs) (ands_end u l) (and_root u acc l)
  unfolding type_of
  ands_extend [] rs u acc room few a b h = (extends_none text t rs p u h, a)
  ands_extend (n ∷ l) rs u acc room few a b h =
      let k : suc u ≤ ands_end (suc u) l = ands_end_lem l (suc u) in
      let r : 16 * u + 16 ≤ length rs = omega arith in
      let new = and_new text t rs p u acc n a.0 b.0.0 (omega arith) a.1 b.0.1 in
      let x = put-extends text t rs p u (and_record acc n) r h new in
      let y = ands_extend l (write_record rs u (and_record acc n)) (suc u) u (rw x.lent room) few
      (omega arith, and_truth rs u acc n r new.words)
      (every_map (TruthBelow t rs u) (TruthBelow t (write_record rs u (and_record acc n)) (suc u))
      (truth-kept text t rs (write_record rs u (and_record acc n)) p u (suc u) (omega arith) x) l b.1) x.all in (
        extends_then text t rs (write_record rs u (and_record acc n)) (write_ands u acc (n ∷ l) rs) p u (suc u)
            (ands_end u (n ∷ l)) (omega arith) x y.0,
        y.1,
      )
    where
      and_truth :
          (rs : List ℕ) (u x y : ℕ) → 16 * u + 16 ≤ length rs → Words (encode (and_record x y)) →
          type_at t (write_record rs u (and_record x y)) (node u) ≡ 3
      and_truth rs u x y r w = put-type t rs p u (and_record x y) r w

  pub fold-extends :
      (l : List ℕ) (rs : List ℕ) (u : ℕ) → is_empty l ≡ false → 16 * fold_used u l ≤ length rs →
      fold_used u l ≤ 4096 → Every (TruthBelow t rs u) l → AllChecked text t rs p u →
      Extends text t rs (fold_bytes u rs l) p u (fold_used u l)
      × TruthBelow t (fold_bytes u rs l) (fold_used u l) (fold_root u l)
  fold-extends [] rs u full room few b h = absurd (true≢false full)
  fold-extends (n ∷ l) rs u full room few b h = ands_extend l rs u n room few b.0 b.1 h

-- The false literal of "nothing passes".
pub false-new : (text : ℕ) (t rs p : List ℕ) (u : ℕ) → New text t rs p u (literal_record 3 0)
unfolding known_type_in in_type_in
false-new text t rs p u = literal-new text t rs p u 3 0 (known (eqb text 0)) (typed (eqb text 0)) (omega arith)
  where
    known : (b : Bool) → leb 3 (cond b 3 4) ≡ true
    known true = refl
    known false = refl

    typed : (b : Bool) → cond b true true ≡ true
    typed true = refl
    typed false = refl
