-- A record of the screen's numbers: its fields, and what they say.
use mathlib.Core.Path.{◌≡◌, refl, ◌∙◌, ap}
use mathlib.Core.Bool.{Bool, true, false, cond}
use mathlib.Core.List.{List}
use Prim.Native.Nat.{ℕ, ◌+◌, ◌*◌, ◌%◌, ◌<◌}
use native.Mathlib.Omega.{arith}
use lib.Dec.{eqb}
use lib.ListN.{get_or}
use borrow.Author.Tests.{eq-eqb, ne_eqb}
use Rattle.records.specs.Bytes.{word}
use Rattle.records.specs.Record.{node, fields_at, decode, record_at, inputs}
use Rattle.records.specs.declared.record.Fields.{Fields}
use Rattle.records.specs.declared.record.Record.{Record}
use Rattle.records.specs.declared.record.Record.TheVariants as kind
use Rattle.numbered_screen.specs.Numbered.{number_type, number_byte, Numbered}

-- Another byte stays.
byte_stays : (n k v : ℕ) → k < 16 → (k ≡ 2 → ⊥) → number_byte (16 * n + k) v ≡ v
unfolding number_byte
byte_stays n k v h d =
    ap (λ b. cond b (number_type v) v) (ne_eqb ((16 * n + k) % 16) 2 (λ e. d (omega (arith, e, h))))

type_byte : (n v : ℕ) → number_byte (16 * n + 2) v ≡ number_type v
unfolding number_byte
type_byte n v = ap (λ b. cond b (number_type v) v) (eq-eqb ((16 * n + 2) % 16) 2 (omega arith))

abbrev pub number_fields : Fields → Fields
number_fields f =
    record { kind = f.kind; code = f.code; ty = number_type f.ty; zero = f.zero; a = f.a; b = f.b; c = f.c }

module _ (rs records : List ℕ) (used : ℕ)
    (bytes : (i : ℕ) → i < 16 * used → get_or records i 0 ≡ number_byte i (get_or rs i 0)) where
  at : (n k : ℕ) → n < used → k < 16 → (k ≡ 2 → ⊥) → get_or records (16 * n + k) 0 ≡ get_or rs (16 * n + k) 0
  at n k h l d = bytes (16 * n + k) (omega arith) ∙ byte_stays n k (get_or rs (16 * n + k) 0) l d

  -- four bytes of a field
  four : (n k : ℕ) → n < used → 3 < k → k < 13 → word records (16 * n + k) ≡ word rs (16 * n + k)
  unfolding word
  four n k h l m =
      λ i. at n k h (omega arith) (λ e. omega (arith, e)) i
      + 256 * next 1 (omega arith) i + 65536 * next 2 (omega arith) i + 16777216 * next 3 (omega arith) i
    where
      next : (j : ℕ) → j < 4 → get_or records (16 * n + k + j) 0 ≡ get_or rs (16 * n + k + j) 0
      next j q =
          ap (λ i. get_or records i 0) (let e : 16 * n + k + j ≡ 16 * n + (k + j) = omega arith in e)
          ∙ at n (k + j) h (omega arith) (λ e. omega (arith, e))
          ∙ ap (λ i. get_or rs i 0) (let e : 16 * n + (k + j) ≡ 16 * n + k + j = omega arith in e)

  pub fields-numbered : (n : ℕ) → n < used → fields_at records (node n) ≡ number_fields (fields_at rs (node n))
  unfolding fields_at
  fields-numbered n h =
      λ i. record {
        kind = first i;
        code = at n 1 h (omega arith) (λ e. omega (arith, e)) i;
        ty = (bytes (16 * n + 2) (omega arith) ∙ type_byte n (get_or rs (16 * n + 2) 0)) i;
        zero = at n 3 h (omega arith) (λ e. omega (arith, e)) i;
        a = four n 4 h (omega arith) (omega arith) i;
        b = four n 8 h (omega arith) (omega arith) i;
        c = four n 12 h (omega arith) (omega arith) i;
      }
    where
      first : get_or records (16 * n) 0 ≡ get_or rs (16 * n) 0
      first =
          ap (λ i. get_or records i 0) (let e : 16 * n ≡ 16 * n + 0 = omega arith in e)
          ∙ at n 0 h (omega arith) (λ e. omega (arith, e))
          ∙ ap (λ i. get_or rs i 0) (let e : 16 * n + 0 ≡ 16 * n = omega arith in e)

-- What the fields say.
abbrev pub number_record : Record → Record
number_record kind.Invalid = kind.Invalid
number_record (kind.Column c) = kind.Column c
number_record (kind.Literal ty v) = kind.Literal (number_type ty) v
number_record (kind.Null ty) = kind.Null (number_type ty)
number_record (kind.Binary o x y) = kind.Binary o x y
number_record (kind.Not x) = kind.Not x
number_record (kind.IsNull x) = kind.IsNull x
number_record (kind.IsNotNull x) = kind.IsNotNull x
number_record (kind.IsBetween ends x low high) = kind.IsBetween ends x low high
number_record (kind.List ty marked start count) = kind.List (number_type ty) marked start count
number_record (kind.IsIn equal x list) = kind.IsIn equal x list

either : (b : Bool) (x y u v : Record) → x ≡ number_record u → y ≡ number_record v → cond b x y ≡ number_record (cond b u v)
either true x y u v h k = h
either false x y u v h k = k

pub decode-numbered : (f : Fields) → decode (number_fields f) ≡ number_record (decode f)
unfolding decode
decode-numbered f =
    either (eqb f.kind 1) _ _ _ _ refl
    (either (eqb f.kind 2) _ _ _ _ refl
    (either (eqb f.kind 3) _ _ _ _ refl
    (either (eqb f.kind 4) _ _ _ _ refl
    (either (eqb f.kind 5) _ _ _ _ refl
    (either (eqb f.kind 6) _ _ _ _ refl
    (either (eqb f.kind 7) _ _ _ _ refl
    (either (eqb f.kind 8) _ _ _ _ refl
    (either (eqb f.kind 9) _ _ _ _ refl
    (either (eqb f.kind 10) _ _ _ _ refl refl)))))))))

pub inputs-numbered : (r : Record) → inputs (number_record r) ≡ inputs r
inputs-numbered kind.Invalid = refl
inputs-numbered (kind.Column c) = refl
inputs-numbered (kind.Literal ty v) = refl
inputs-numbered (kind.Null ty) = refl
inputs-numbered (kind.Binary o x y) = refl
inputs-numbered (kind.Not x) = refl
inputs-numbered (kind.IsNull x) = refl
inputs-numbered (kind.IsNotNull x) = refl
inputs-numbered (kind.IsBetween ends x low high) = refl
inputs-numbered (kind.List ty marked start count) = refl
inputs-numbered (kind.IsIn equal x list) = refl

module _ (t rs : List ℕ) (used : ℕ) (table records : List ℕ) (are : Numbered t rs used table records) where
  pub record_numbered : (n : ℕ) → n < used → record_at records (node n) ≡ number_record (record_at rs (node n))
  unfolding record_at
  record_numbered n h =
      ap decode (fields-numbered rs records used are.bytes n h) ∙ decode-numbered (fields_at rs (node n))
