-- Document 01, 'Records'. Record n is 16 bytes at 16 n: byte 0 kind, 1 code, 2 type, 3 zero; A = bytes 4-7, B = 8-11,
-- C = 12-15, little-endian. `fields_at` reads them as numbers, `decode` gives the record they mean, `encode` the fields of a
-- record. `decode` looks only at the fields that a kind uses; that the others are zero is `shape_ok` (Shape).
use Rattle.std.specs.Prelude.{ℕ, ◌+◌, ◌*◌, ◌/◌, ◌%◌, List, [], ◌∷◌, Bool, true, false, cond, get_or, eqb}
use Rattle.records.specs.Bytes.{word}
use Rattle.records.specs.Operator.{operator_at, code_of}
use Rattle.records.specs.declared.record.Node.{Node}
use Rattle.records.specs.declared.record.Column as column
use Rattle.records.specs.declared.record.Fields.{Fields}
use Rattle.records.specs.declared.record.ClosedInterval.{ClosedInterval}
use Rattle.records.specs.declared.record.ClosedInterval.TheVariants as closed
use Rattle.records.specs.declared.record.Record.{Record}
use Rattle.records.specs.declared.record.Record.TheVariants as kind
use Rattle.records.specs.declared.record.Inputs.{Inputs}
use Rattle.records.specs.declared.record.Inputs.TheVariants.{Zero, One, Two, Three}

abbrev pub node : ℕ → Node
node n = record { 0 = n }

abbrev pub column_number : ℕ → column.Column
column_number c = record { 0 = c }

-- the sixteen bytes of record n, as numbers
unfoldable pub fields_at : List ℕ → Node → Fields
fields_at rs n =
    record {
      kind = get_or rs (16 * n.0) 0;
      code = get_or rs (16 * n.0 + 1) 0;
      ty = get_or rs (16 * n.0 + 2) 0;
      zero = get_or rs (16 * n.0 + 3) 0;
      a = word rs (16 * n.0 + 4);
      b = word rs (16 * n.0 + 8);
      c = word rs (16 * n.0 + 12);
    }

-- is_between's code: which ends are closed
unfoldable pub closed_at : ℕ → ClosedInterval
closed_at code = cond (eqb code 0) closed.Both (cond (eqb code 1) closed.Left (cond (eqb code 2) closed.Right closed.None))

-- the ten kinds; a literal's value is B and C together
unfoldable pub decode : Fields → Record
decode f =
    cond (eqb f.kind 1) (kind.Column (column_number f.a))
    (cond (eqb f.kind 2) (kind.Literal f.ty (f.b + 4294967296 * f.c))
    (cond (eqb f.kind 3) (kind.Null f.ty)
    (cond (eqb f.kind 4) (kind.Binary (operator_at f.code) (node f.a) (node f.b))
    (cond (eqb f.kind 5) (kind.Not (node f.a))
    (cond (eqb f.kind 6) (kind.IsNull (node f.a))
    (cond (eqb f.kind 7) (kind.IsNotNull (node f.a))
    (cond (eqb f.kind 8) (kind.IsBetween (closed_at f.code) (node f.a) (node f.b) (node f.c))
    (cond (eqb f.kind 9) (kind.List f.ty (eqb f.code 1) f.a f.b)
    (cond (eqb f.kind 10) (kind.IsIn (eqb f.code 1) (node f.a) (node f.b))
    kind.Invalid)))))))))

-- record n of the bytes
unfoldable pub record_at : List ℕ → Node → Record
record_at rs n = decode (fields_at rs n)

abbrev pub closed_code : ClosedInterval → ℕ
closed_code closed.Both = 0
closed_code closed.Left = 1
closed_code closed.Right = 2
closed_code closed.None = 3

abbrev pub flag_code : Bool → ℕ
flag_code true = 1
flag_code false = 0

abbrev pub fields : ℕ → ℕ → ℕ → ℕ → ℕ → ℕ → Fields
fields kind code ty a b c = record { kind = kind; code = code; ty = ty; zero = 0; a = a; b = b; c = c }

-- the fields that say a record; what a kind does not use is zero
unfoldable pub encode : Record → Fields
encode kind.Invalid = fields 0 0 0 0 0 0
encode (kind.Column c) = fields 1 0 0 c.0 0 0
encode (kind.Literal ty v) = fields 2 0 ty 0 (v % 4294967296) (v / 4294967296)
encode (kind.Null ty) = fields 3 0 ty 0 0 0
encode (kind.Binary o x y) = fields 4 (code_of o) 0 x.0 y.0 0
encode (kind.Not x) = fields 5 0 0 x.0 0 0
encode (kind.IsNull x) = fields 6 0 0 x.0 0 0
encode (kind.IsNotNull x) = fields 7 0 0 x.0 0 0
encode (kind.IsBetween k x low high) = fields 8 (closed_code k) 0 x.0 low.0 high.0
encode (kind.List ty marked start count) = fields 9 (flag_code marked) ty start count 0
encode (kind.IsIn equal x list) = fields 10 (flag_code equal) 0 x.0 list.0 0

-- the node numbers that a record names, in order
abbrev pub inputs : Record → List ℕ
inputs kind.Invalid = []
inputs (kind.Column c) = []
inputs (kind.Literal ty v) = []
inputs (kind.Null ty) = []
inputs (kind.Binary o x y) = x.0 ∷ y.0 ∷ []
inputs (kind.Not x) = x.0 ∷ []
inputs (kind.IsNull x) = x.0 ∷ []
inputs (kind.IsNotNull x) = x.0 ∷ []
inputs (kind.IsBetween k x low high) = x.0 ∷ low.0 ∷ high.0 ∷ []
inputs (kind.List ty marked start count) = []
inputs (kind.IsIn equal x list) = x.0 ∷ list.0 ∷ []

-- the code's form of them
abbrev pub list_of : Inputs → List ℕ
list_of Zero = []
list_of (One x) = x.0 ∷ []
list_of (Two x y) = x.0 ∷ y.0 ∷ []
list_of (Three x y z) = x.0 ∷ y.0 ∷ z.0 ∷ []
