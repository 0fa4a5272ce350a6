-- The round trips of specs/RoundTrip.
use Prim.Native.Nat.{ℕ, zero, suc, ◌+◌, ◌*◌, ◌/◌, ◌%◌, ◌≤◌, ◌<◌}
use mathlib.Core.Bool.{Bool, true, false, cond, ◌&&◌, and-true}
use mathlib.Core.Path.{◌≡◌, refl, sym, ap}
use native.Mathlib.Omega.{arith}
use lib.Dec.{eqb, leb}
use borrow.Author.Tests.{eqb-true, leb-true}
use Rattle.records.specs.Operator.{operator_at, code_of}
use Rattle.records.specs.Record.{closed_at, closed_code, flag_code, fields, decode, encode}
use Rattle.records.specs.Shape.{Ty, A, B, C, known_type_in, max_code, uses, known_ok_in, zero_or, unused_ok, literal_ok_in, shape_ok_in}
use Rattle.records.specs.RoundTrip.{DecodeOfEncode, EncodeOfDecode, ShapeOfEncode}
use Rattle.records.specs.declared.operator.Operator.{Operator}
use Rattle.records.specs.declared.operator.Operator.TheVariants.{Eq, EqValidity, NotEq, NotEqValidity, Lt, LtEq, Gt, GtEq, Plus, Minus, Multiply, RustDivide, TrueDivide, FloorDivide, Modulus, And, Or, Xor, LogicalAnd, LogicalOr}
use Rattle.records.specs.declared.record.Fields.{Fields}
use Rattle.records.specs.declared.record.ClosedInterval.{ClosedInterval}
use Rattle.records.specs.declared.record.ClosedInterval.TheVariants as closed
use Rattle.records.specs.declared.record.Record.TheVariants as kind
use Rattle.records.proofs.Laws.{and_left, and_right}
use Rattle.records.proofs.Loops.{all_holds}
use Rattle.records.specs.Bytes.{all}

-- the operator of an operator's code is itself
pub operator-back : (o : Operator) → operator_at (code_of o) ≡ o
unfolding operator_at
operator-back Eq = refl
operator-back EqValidity = refl
operator-back NotEq = refl
operator-back NotEqValidity = refl
operator-back Lt = refl
operator-back LtEq = refl
operator-back Gt = refl
operator-back GtEq = refl
operator-back Plus = refl
operator-back Minus = refl
operator-back Multiply = refl
operator-back RustDivide = refl
operator-back TrueDivide = refl
operator-back FloorDivide = refl
operator-back Modulus = refl
operator-back And = refl
operator-back Or = refl
operator-back Xor = refl
operator-back LogicalAnd = refl
operator-back LogicalOr = refl

-- below 20, the code of a code's operator is itself: one test over the whole table
pub code_back : (k : ℕ) → k ≤ 19 → code_of (operator_at k) ≡ k
unfolding operator_at all
code_back k h =
    eqb-true (code_of (operator_at k)) k (all_holds (λ (i : ℕ). eqb (code_of (operator_at i)) i) k 20 (omega arith) refl)

closed_back : (k : ClosedInterval) → closed_at (closed_code k) ≡ k
unfolding closed_at
closed_back closed.Both = refl
closed_back closed.Left = refl
closed_back closed.Right = refl
closed_back closed.None = refl

flag_back : (b : Bool) → eqb (flag_code b) 1 ≡ b
flag_back true = refl
flag_back false = refl

-- 01: byte 0 kind, .. literal's value in bytes 8-15
pub decode-encode : DecodeOfEncode
unfolding decode encode
decode-encode kind.Invalid = refl
decode-encode (kind.Column c) = refl
decode-encode (kind.Literal ty v) = ap (kind.Literal ty) (omega arith)
decode-encode (kind.Null ty) = refl
decode-encode (kind.Binary o x y) = ap (λ q. kind.Binary q x y) (operator-back o)
decode-encode (kind.Not x) = refl
decode-encode (kind.IsNull x) = refl
decode-encode (kind.IsNotNull x) = refl
decode-encode (kind.IsBetween k x low high) = ap (λ q. kind.IsBetween q x low high) (closed_back k)
decode-encode (kind.List ty marked start count) = ap (λ q. kind.List ty q start count) (flag_back marked)
decode-encode (kind.IsIn equal x list) = ap (λ q. kind.IsIn q x list) (flag_back equal)

closed_code-back : (k : ℕ) → k ≤ 3 → closed_code (closed_at k) ≡ k
unfolding closed_at all
closed_code-back k h =
    eqb-true (closed_code (closed_at k)) k (all_holds (λ (i : ℕ). eqb (closed_code (closed_at i)) i) k 4 (omega arith) refl)

flag_code-back : (k : ℕ) → k ≤ 1 → flag_code (eqb k 1) ≡ k
unfolding all
flag_code-back k h =
    eqb-true (flag_code (eqb k 1)) k (all_holds (λ (i : ℕ). eqb (flag_code (eqb i 1)) i) k 2 (omega arith) refl)

-- what the absence of the fault 4 says of each field
record Shaped (text kind code ty z a b c : ℕ) : Type 0 where
  least : 1 ≤ kind
  most : kind ≤ 10
  code_low : code ≤ max_code kind
  type_fits : cond (uses Ty kind) (known_type_in text ty) (eqb ty 0) ≡ true
  zero-zero : z ≡ 0
  a_used : zero_or (uses A kind) a ≡ true
  b_used : zero_or (uses B kind) b ≡ true
  c_used : zero_or (uses C kind) c ≡ true

shaped : (text : ℕ) (f : Fields) → shape_ok_in text f ≡ true → Shaped text f.kind f.code f.ty f.zero f.a f.b f.c
unfolding shape_ok_in known_ok_in unused_ok
shaped text f e =
    let known = and_left (known_ok_in text f) (unused_ok f && literal_ok_in text f) e in
    let unused = and_left (unused_ok f) (literal_ok_in text f) (and_right (known_ok_in text f) (unused_ok f && literal_ok_in text f) e) in
    let typed = cond (uses Ty f.kind) (known_type_in text f.ty) (eqb f.ty 0) in
    let k1 = and_right (leb 1 f.kind) (leb f.kind 10 && (leb f.code (max_code f.kind) && typed)) known in
    let k2 = and_right (leb f.kind 10) (leb f.code (max_code f.kind) && typed) k1 in
    let ua = zero_or (uses A f.kind) f.a in
    let ub = zero_or (uses B f.kind) f.b in
    let uc = zero_or (uses C f.kind) f.c in
    let u1 = and_right (eqb f.zero 0) (ua && (ub && uc)) unused in
    let u2 = and_right ua (ub && uc) u1 in
    record {
      least = leb-true 1 f.kind (and_left (leb 1 f.kind) (leb f.kind 10 && (leb f.code (max_code f.kind) && typed)) known);
      most = leb-true f.kind 10 (and_left (leb f.kind 10) (leb f.code (max_code f.kind) && typed) k1);
      code_low = leb-true f.code (max_code f.kind) (and_left (leb f.code (max_code f.kind)) typed k2);
      type_fits = and_right (leb f.code (max_code f.kind)) typed k2;
      zero-zero = eqb-true f.zero 0 (and_left (eqb f.zero 0) (ua && (ub && uc)) unused);
      a_used = and_left ua (ub && uc) u1;
      b_used = and_left ub uc u2;
      c_used = and_right ub uc u2;
    }

abbrev raw : ℕ → ℕ → ℕ → ℕ → ℕ → ℕ → ℕ → Fields
raw kind code ty z a b c = record { kind = kind; code = code; ty = ty; zero = z; a = a; b = b; c = c }

same-fields : (kind code ty z a b c code' ty' a' b' c' : ℕ) → code' ≡ code → ty' ≡ ty → z ≡ 0 → a' ≡ a → b' ≡ b → c' ≡ c
    → fields kind code' ty' a' b' c' ≡ raw kind code ty z a b c
same-fields kind code ty z a b c code' ty' a' b' c' ec et ez ea eb ed = rw (ec, et, ez, ea, eb, ed)

back : (text kind code ty z a b c : ℕ) → b < 4294967296 → Shaped text kind code ty z a b c
    → encode (decode (raw kind code ty z a b c)) ≡ raw kind code ty z a b c
unfolding encode decode max_code zero_or uses
back text zero code ty z a b c h s = let l = s.least in absurd (omega (arith, l))
back text (suc zero) code ty z a b c h s =
    same-fields 1 code ty z a b c _ _ _ _ _ (let l = s.code_low in omega (arith, l)) (sym (eqb-true ty 0 s.type_fits)) s.zero-zero
    refl (sym (eqb-true b 0 s.b_used)) (sym (eqb-true c 0 s.c_used))
back text (suc (suc zero)) code ty z a b c h s =
    same-fields 2 code ty z a b c _ _ _ _ _ (let l = s.code_low in omega (arith, l)) refl s.zero-zero
    (sym (eqb-true a 0 s.a_used)) (omega arith) (omega arith)
back text (suc (suc (suc zero))) code ty z a b c h s =
    same-fields 3 code ty z a b c _ _ _ _ _ (let l = s.code_low in omega (arith, l)) refl s.zero-zero
    (sym (eqb-true a 0 s.a_used)) (sym (eqb-true b 0 s.b_used)) (sym (eqb-true c 0 s.c_used))
back text (suc (suc (suc (suc zero)))) code ty z a b c h s =
    same-fields 4 code ty z a b c _ _ _ _ _ (code_back code s.code_low) (sym (eqb-true ty 0 s.type_fits)) s.zero-zero
    refl refl (sym (eqb-true c 0 s.c_used))
back text (suc (suc (suc (suc (suc zero))))) code ty z a b c h s =
    same-fields 5 code ty z a b c _ _ _ _ _ (let l = s.code_low in omega (arith, l)) (sym (eqb-true ty 0 s.type_fits)) s.zero-zero
    refl (sym (eqb-true b 0 s.b_used)) (sym (eqb-true c 0 s.c_used))
back text (suc (suc (suc (suc (suc (suc zero)))))) code ty z a b c h s =
    same-fields 6 code ty z a b c _ _ _ _ _ (let l = s.code_low in omega (arith, l)) (sym (eqb-true ty 0 s.type_fits)) s.zero-zero
    refl (sym (eqb-true b 0 s.b_used)) (sym (eqb-true c 0 s.c_used))
back text (suc (suc (suc (suc (suc (suc (suc zero))))))) code ty z a b c h s =
    same-fields 7 code ty z a b c _ _ _ _ _ (let l = s.code_low in omega (arith, l)) (sym (eqb-true ty 0 s.type_fits)) s.zero-zero
    refl (sym (eqb-true b 0 s.b_used)) (sym (eqb-true c 0 s.c_used))
back text (suc (suc (suc (suc (suc (suc (suc (suc zero)))))))) code ty z a b c h s =
    same-fields 8 code ty z a b c _ _ _ _ _ (closed_code-back code s.code_low) (sym (eqb-true ty 0 s.type_fits)) s.zero-zero
    refl refl refl
back text (suc (suc (suc (suc (suc (suc (suc (suc (suc zero))))))))) code ty z a b c h s =
    same-fields 9 code ty z a b c _ _ _ _ _ (flag_code-back code s.code_low) refl s.zero-zero
    refl refl (sym (eqb-true c 0 s.c_used))
back text (suc (suc (suc (suc (suc (suc (suc (suc (suc (suc zero)))))))))) code ty z a b c h s =
    same-fields 10 code ty z a b c _ _ _ _ _ (flag_code-back code s.code_low) (sym (eqb-true ty 0 s.type_fits)) s.zero-zero
    refl refl (sym (eqb-true c 0 s.c_used))
back text (suc (suc (suc (suc (suc (suc (suc (suc (suc (suc (suc k))))))))))) code ty z a b c h s = let l = s.most in absurd (omega (arith, l))

-- fields without the fault 4 are those that encode their record
pub encode-decode : EncodeOfDecode
encode-decode text f h e = back text f.kind f.code f.ty f.zero f.a f.b f.c h (shaped text f e)

code_low : (o : Operator) → leb (code_of o) 19 ≡ true
code_low Eq = refl
code_low EqValidity = refl
code_low NotEq = refl
code_low NotEqValidity = refl
code_low Lt = refl
code_low LtEq = refl
code_low Gt = refl
code_low GtEq = refl
code_low Plus = refl
code_low Minus = refl
code_low Multiply = refl
code_low RustDivide = refl
code_low TrueDivide = refl
code_low FloorDivide = refl
code_low Modulus = refl
code_low And = refl
code_low Or = refl
code_low Xor = refl
code_low LogicalAnd = refl
code_low LogicalOr = refl

closed_code-low : (k : ClosedInterval) → leb (closed_code k) 3 ≡ true
closed_code-low closed.Both = refl
closed_code-low closed.Left = refl
closed_code-low closed.Right = refl
closed_code-low closed.None = refl

flag_code-low : (b : Bool) → leb (flag_code b) 1 ≡ true
flag_code-low true = refl
flag_code-low false = refl

-- what encodes a record is without the fault 4 exactly if the record is
pub shape-encode : ShapeOfEncode
unfolding encode shape_ok_in known_ok_in unused_ok literal_ok_in max_code zero_or uses
shape-encode text kind.Invalid = refl
shape-encode text (kind.Column c) = refl
shape-encode text (kind.Literal ty v) =
    let e : v % 4294967296 + 4294967296 * (v / 4294967296) ≡ v = omega arith in rw e
shape-encode text (kind.Null ty) = rw and-true
shape-encode text (kind.Binary o x y) = rw (code_low o)
shape-encode text (kind.Not x) = refl
shape-encode text (kind.IsNull x) = refl
shape-encode text (kind.IsNotNull x) = refl
shape-encode text (kind.IsBetween k x low high) = rw (closed_code-low k)
shape-encode text (kind.List ty marked start count) = rw (flag_code-low marked, and-true)
shape-encode text (kind.IsIn equal x list) = rw (flag_code-low equal)
