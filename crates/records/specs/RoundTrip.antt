-- Decoding and encoding a record are each other's inverse, on every record and on all fields without the fault 4; and what
-- encoding gives is without it exactly if the record is of a kind and its types and its literal are known.
use Rattle.std.specs.Prelude.{ℕ, ◌<◌, Bool, true, false, ◌&&◌, ◌≡◌}
use Rattle.records.specs.Record.{decode, encode}
use Rattle.records.specs.Shape.{known_type_in, in_type_in, shape_ok_in}
use Rattle.records.specs.declared.record.Fields.{Fields}
use Rattle.records.specs.declared.record.Record.{Record}
use Rattle.records.specs.declared.record.Record.TheVariants as kind

-- what encodes a record decodes to it
abbrev pub DecodeOfEncode : Type 0
DecodeOfEncode = (r : Record) → decode (encode r) ≡ r

-- fields without the fault 4 are those that encode their record; a field of four bytes is below 2^32
abbrev pub EncodeOfDecode : Type 0
EncodeOfDecode = (text : ℕ) (f : Fields) → f.b < 4294967296 → shape_ok_in text f ≡ true → encode (decode f) ≡ f

-- of a kind, its type known, a literal of its type
abbrev pub record_ok : ℕ → Record → Bool
record_ok text kind.Invalid = false
record_ok text (kind.Column c) = true
record_ok text (kind.Literal ty v) = known_type_in text ty && in_type_in text ty v
record_ok text (kind.Null ty) = known_type_in text ty
record_ok text (kind.Binary o x y) = true
record_ok text (kind.Not x) = true
record_ok text (kind.IsNull x) = true
record_ok text (kind.IsNotNull x) = true
record_ok text (kind.IsBetween k x low high) = true
record_ok text (kind.List ty marked start count) = known_type_in text ty
record_ok text (kind.IsIn equal x list) = true

-- what encodes a record is without the fault 4 exactly if the record is
abbrev pub ShapeOfEncode : Type 0
ShapeOfEncode = (text : ℕ) (r : Record) → shape_ok_in text (encode r) ≡ record_ok text r
