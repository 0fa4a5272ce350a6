-- Searching the symbols of a list in the pool from left to right: what is left to search decides.
use mathlib.Core.Path.{◌≡◌, sym, ◌∙◌, ap}
use mathlib.Core.Bool.{Bool, true, false, ◌||◌}
use mathlib.Core.List.{List}
use mathlib.Core.Option.{Option, none, some}
use Prim.Native.Nat.{ℕ, suc, ◌+◌, ◌-◌, ◌<◌, ◌≤◌}
use native.Mathlib.Numerals.{add-one}
use native.Mathlib.Omega.{arith}
use lib.Dec.{eqb}
use lib.IntN.{ℤ}
use lib.ListN.{get_or}
use Rattle.records.specs.Bytes.{value_at}
use Rattle.records.specs.Shape.{in_pool}
use Rattle.records.specs.declared.record.Fields.{Fields}
use Rattle.truth.specs.Order.{is_equal}
use Rattle.truth.specs.Halves.{ord_z, key}
use Rattle.truth.specs.Evaluate.{member_of}
use Rattle.truth.specs.FromBytes.{values_from}
use Rattle.truth.specs.Membership.{mem, known_in3}
use Rattle.std.specs.declared.cmp.Ordering.{Ordering}
use Rattle.membership.proofs.Memberships.{in3-null, in3-known}
use Rattle.symbols.specs.Symbol.{symbol, cmp_bytes, symbol_key}
use Rattle.symbols.proofs.Keys.{key-order}
use Rattle.symbol_values.specs.SymbolValues.{PooledFrom, symbol_member}

-- the entry at i of a list of symbols is one
pub pooled-at : (size : ℕ) (p : List ℕ) (start count i : ℕ) → PooledFrom size p start count → start ≤ i → i < start + count →
    in_pool size (value_at p i) ≡ true
pooled-at size p start count i h l u =
    let e : start + (i - start) ≡ i = omega arith in rw e at (h (i - start) (omega arith))

module _ (text : List ℕ) where
  abbrev pub holds_symbol : ℤ → List ℕ → Bool
  holds_symbol k values = mem (symbol_key text) ord_z k values

  list-step : (p : List ℕ) (k : ℤ) (i end : ℕ) → i < end →
      holds_symbol k (values_from p i (end - i)) ≡
      (is_equal (ord_z.cmp k (symbol_key text (value_at p i))) || holds_symbol k (values_from p (suc i) (end - suc i)))
  unfolding values_from
  list-step p k i end h = let e : end - i ≡ suc (end - suc i) = omega arith in rw e

  -- what the code compares are bytes
  by_bytes : (size a b : ℕ) → ((q : ℕ) → get_or text q 0 < 256) → in_pool size a ≡ true → in_pool size b ≡ true → (o : Ordering) →
      o ≡ cmp_bytes (symbol text a) (symbol text b) → (r e : Bool) → r ≡ is_equal o → r ≡ e →
      is_equal (ord_z.cmp (symbol_key text a) (symbol_key text b)) ≡ e
  by_bytes size a b below ha hb o eo r e er q =
      ap is_equal (sym (eo ∙ key-order text below size a b ha hb)) ∙ sym er ∙ q

  module _ (p : List ℕ) (v i end : ℕ) (whole : Bool)
      (left : holds_symbol (symbol_key text v) (values_from p i (end - i)) ≡ whole) (h : i < end) (size : ℕ)
      (below : (q : ℕ) → get_or text q 0 < 256) (hv : in_pool size v ≡ true) (hw : in_pool size (value_at p i) ≡ true)
      (o : Ordering) (eo : o ≡ cmp_bytes (symbol text v) (symbol text (value_at p i))) (r : Bool) (er : r ≡ is_equal o) where
    pub list-more : r ≡ false → holds_symbol (symbol_key text v) (values_from p (i + 1) (end - (i + 1))) ≡ whole
    list-more q =
        rw (add-one i) (sym (list-step p (symbol_key text v) i end h
        ∙ rw (by_bytes size v (value_at p i) below hv hw o eo r false er q)) ∙ left)

    pub list-found : r ≡ true → true ≡ whole
    list-found q =
        sym (list-step p (symbol_key text v) i end h ∙ rw (by_bytes size v (value_at p i) below hv hw o eo r true er q)) ∙ left

  pub list_done : (p : List ℕ) (k : ℤ) (i end : ℕ) (whole : Bool) → holds_symbol k (values_from p i (end - i)) ≡ whole →
      end ≤ i → false ≡ whole
  unfolding values_from
  list_done p k i end whole left h = let e : end - i ≡ 0 = omega arith in (rw e at left)

  pub list-start : (p : List ℕ) (k : ℤ) (start count : ℕ) → holds_symbol k (values_from p start (start + count - start)) ≡
      holds_symbol k (values_from p start count)
  list-start p k start count = let e : start + count - start ≡ count = omega arith in rw e

  -- a null is found, or not, whatever the values
  pub member-null : (p : List ℕ) (f : Fields) (equal : Bool) →
      member_of p f equal none ≡ symbol_member text p f equal none
  unfolding symbol_member member_of
  member-null p f equal =
      in3-null key ord_z equal (eqb f.code 1) (values_from p f.a f.b)
      ∙ sym (in3-null (symbol_key text) ord_z equal (eqb f.code 1) (values_from p f.a f.b))

  pub member-known : (p : List ℕ) (f : Fields) (equal : Bool) (k : ℤ) →
      known_in3 equal (eqb f.code 1) (holds_symbol k (values_from p f.a f.b)) ≡ symbol_member text p f equal (some k)
  unfolding symbol_member
  member-known p f equal k = sym (in3-known (symbol_key text) ord_z equal (eqb f.code 1) (values_from p f.a f.b) k)
