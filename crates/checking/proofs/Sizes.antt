-- What the limits of 01 give: used is at most 4,096, and the used records lie in the bytes lent.
use Prim.Native.Nat.{ℕ, ◌*◌, ◌/◌, ◌%◌, ◌≤◌}
use mathlib.Core.List.{List}
use mathlib.Core.Bool.{Bool, true, false, cond, ◌&&◌, true≢false}
use lib.Dec.{leb, eqb}
use mathlib.Core.Path.{◌≡◌, sym}
use native.Mathlib.Omega.{arith}
use lib.ListN.{length}
use borrow.Author.Tests.{leb-true}
use Rattle.records.proofs.Laws.{and_left, and_right}
use Rattle.checking.specs.Check.{types_known_in, table_ok_in, sizes_ok_in, types_known, table_ok, sizes_ok}

pub used-small_in : (text : ℕ) (rs p : List ℕ) (used : ℕ) → sizes_ok_in text rs p used ≡ true → used ≤ 4096
unfolding sizes_ok_in
used-small_in text rs p used e = leb-true used 4096 (and_left _ _ e)

pub used-lent_in : (text : ℕ) (rs p : List ℕ) (used : ℕ) → sizes_ok_in text rs p used ≡ true → 16 * used ≤ length rs
unfolding sizes_ok_in
used-lent_in text rs p used e =
    let f = and_right (leb used 4096) (leb used (length rs / 16) && (eqb (length p % 8) 0 && cond (leb text 8193) (leb (length p / 8) 8192) false)) e in
    let h : used ≤ length rs / 16 =
    leb-true used (length rs / 16) (and_left (leb used (length rs / 16)) (eqb (length p % 8) 0 && cond (leb text 8193) (leb (length p / 8) 8192) false) f) in
    omega arith

pub pool-small_in : (text : ℕ) (rs p : List ℕ) (used : ℕ) → sizes_ok_in text rs p used ≡ true → length p / 8 ≤ 8192
unfolding sizes_ok_in
pool-small_in text rs p used e =
    let f = and_right (leb used 4096) (leb used (length rs / 16) && (eqb (length p % 8) 0 && cond (leb text 8193) (leb (length p / 8) 8192) false)) e in
    let g = and_right (leb used (length rs / 16)) (eqb (length p % 8) 0 && cond (leb text 8193) (leb (length p / 8) 8192) false) f in
    leb-true (length p / 8) 8192 (go (leb text 8193) (and_right (eqb (length p % 8) 0) _ g))
  where
    go : (b : Bool) → cond b (leb (length p / 8) 8192) false ≡ true → leb (length p / 8) 8192 ≡ true
    go true h = h
    go false h = absurd (true≢false (sym h))

pub table-known_in : (text : ℕ) (t : List ℕ) → table_ok_in text t ≡ true → types_known_in text t ≡ true
unfolding table_ok_in
table-known_in text t e = and_right (leb (length t) 64) (types_known_in text t) e

-- the same where no text pool is lent
pub used-small : (rs p : List ℕ) (used : ℕ) → sizes_ok rs p used ≡ true → used ≤ 4096
used-small = used-small_in 0

pub used-lent : (rs p : List ℕ) (used : ℕ) → sizes_ok rs p used ≡ true → 16 * used ≤ length rs
used-lent = used-lent_in 0

pub pool-small : (rs p : List ℕ) (used : ℕ) → sizes_ok rs p used ≡ true → length p / 8 ≤ 8192
pool-small = pool-small_in 0

pub table-known : (t : List ℕ) → table_ok t ≡ true → types_known t ≡ true
table-known = table-known_in 0
