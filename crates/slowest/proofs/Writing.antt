-- The loops that write the table and the records from the front.
use mathlib.Core.Path.{◌≡◌, refl, sym, ◌∙◌, ap}
use mathlib.Core.Bool.{true}
use mathlib.Core.List.{List, [], ◌∷◌, ◌++◌}
use Prim.Native.Nat.{ℕ, suc, ◌+◌, ◌*◌, ◌/◌, ◌≤◌, ◌<◌}
use native.Mathlib.Omega.{arith}
use native.Mathlib.Numerals.{add-one}
use lib.Dec.{leb}
use borrow.Author.Tests.{leb-true}
use Rattle.records.proofs.Laws.{and_left, and_right}
use lib.ListN.{length, set, replicate, length-replicate, replicate-append-replicate}
use Rattle.records.specs.Record.{encode}
use Rattle.records.specs.declared.record.Record.{Record}
use Rattle.merge.specs.Write.{splice, field_bytes, write_record}
use Rattle.merge.proofs.Splices.{set-splice, splice-splice}
use Rattle.slowest.specs.Answers.{known_count, has_room}
use Rattle.slowest.specs.Screen.{slowest_record, bytes_to, slowest_table, slowest_bytes}
use Rattle.slowest.proofs.Records.{bytes-length}

pub none_written : (l : List ℕ) → l ≡ splice l 0 []
unfolding splice
none_written l = refl

pub table-turn : (l out : List ℕ) (i : ℕ) → i < length l → out ≡ splice l 0 (replicate i 1)
    → set out i 1 ≡ splice l 0 (replicate (i + 1) 1)
table-turn l out i h e =
    let n : length (slowest_table i) ≡ i = length-replicate {A = ℕ} i 1 in
    ap (λ x. set x i 1) e ∙ set-splice l 0 i 1 (replicate i 1) (omega (arith, n)) h
    ∙ ap (splice l 0) (replicate-append-replicate {A = ℕ} i 1 1)

pub none-built : (n : ℕ) (l : List ℕ) → l ≡ splice l 0 (bytes_to n 0)
unfolding bytes_to
none-built n l = none_written l

pub records-turn : (n : ℕ) (l mid out : List ℕ) (i : ℕ) (r : Record) → 16 * i + 16 ≤ length l
    → mid ≡ splice l 0 (bytes_to n i) → r ≡ slowest_record n i → out ≡ write_record mid i r
    → out ≡ splice l 0 (bytes_to n (i + 1))
unfolding bytes_to
records-turn n l mid out i r h em er eo =
    let b : length (bytes_to n i) ≡ 16 * i = bytes-length n i in
    eo ∙ ap (λ x. write_record x i r) em ∙ ap (λ x. write_record (splice l 0 (bytes_to n i)) i x) er
    ∙ splice-splice l 0 (16 * i) (bytes_to n i) (field_bytes (encode (slowest_record n i))) (omega (arith, b)) h
    ∙ rw (add-one)

pub table-end : (l out : List ℕ) (i n : ℕ) → i ≤ n → n ≤ i → out ≡ splice l 0 (replicate i 1)
    → out ≡ splice l 0 (slowest_table n)
table-end l out i n a b e =
    let q : i ≡ n = omega (arith, a, b) in e ∙ ap (λ k. splice l 0 (slowest_table k)) q

pub records-end : (n : ℕ) (l out : List ℕ) (i : ℕ) → i ≤ 3 * n → 3 * n ≤ i → out ≡ splice l 0 (bytes_to n i)
    → out ≡ splice l 0 (slowest_bytes n)
records-end n l out i a b e =
    let q : i ≡ 3 * n = omega (arith, a, b) in e ∙ ap (λ k. splice l 0 (bytes_to n k)) q

-- ---- What the tests tell.
pub count-known : (n : ℕ) → known_count n ≡ true → (2 ≤ n) × (n ≤ 64)
count-known n e = (leb-true 2 n (and_left (leb 2 n) (leb n 64) e), leb-true n 64 (and_right (leb 2 n) (leb n 64) e))

pub room-known : (table records n : ℕ) → has_room table records n ≡ true → (n ≤ table) × (48 * n ≤ records)
room-known table records n e =
    let a : n ≤ table = leb-true n table (and_left (leb n table) (leb n (records / 48)) e) in
    let b : n ≤ records / 48 = leb-true n (records / 48) (and_right (leb n table) (leb n (records / 48)) e) in
    (a, omega (arith, b))
