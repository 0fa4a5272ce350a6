-- What checking establishes: the one fact that the layers above cite.
use Rattle.std.specs.Prelude.{ℕ, ◌<◌, List, true, ◌≡◌}
use Rattle.records.specs.Record.{node, fields_at, record_at}
use Rattle.records.specs.Shape.{shape_ok_in}
use Rattle.record_check.specs.Fit.{reach_ok_in, served_ok, types_ok, type_at}
use Rattle.checking.specs.Check.{table_ok_in, sizes_ok_in}

-- record n has none of the faults 4, 5, 6, 7
pub record CheckedRecordIn (text : ℕ) (t rs p : List ℕ) (n : ℕ) : Type 0 where
  pub shape : shape_ok_in text (fields_at rs (node n)) ≡ true
  pub reach : reach_ok_in text t p (record_at rs (node n)) (node n) ≡ true
  pub served : served_ok (record_at rs (node n)) ≡ true
  pub types : types_ok t rs (record_at rs (node n)) ≡ true

-- an accepted screen: within its limits, every used record without a fault, the root a used record and a Truth
pub record CheckedIn (text : ℕ) (t rs p : List ℕ) (used root : ℕ) : Type 0 where
  pub table : table_ok_in text t ≡ true
  pub sizes : sizes_ok_in text rs p used ≡ true
  pub root-used : root < used
  pub records : (n : ℕ) → n < used → CheckedRecordIn text t rs p n
  pub root-truth : type_at t rs (node root) ≡ 3

-- the same where no text pool is lent
abbrev pub CheckedRecord : List ℕ → List ℕ → List ℕ → ℕ → Type 0
CheckedRecord t rs p n = CheckedRecordIn 0 t rs p n

abbrev pub Checked : List ℕ → List ℕ → List ℕ → ℕ → ℕ → Type 0
Checked t rs p used root = CheckedIn 0 t rs p used root
