-- The keys of two values compare as their bytes do, and only equal bytes have equal keys.
use mathlib.Core.Path.{◌≡◌, refl, sym, ◌∙◌, ap}
use mathlib.Core.Bool.{true, true≢false}
use mathlib.Core.List.{List}
use Prim.Native.Nat.{ℕ, zero, suc, ◌+◌, ◌<◌, compare}
use native.Mathlib.Omega.{arith}
use lib.IntN.{pos}
use lib.ListN.{get_or, length}
use Rattle.truth.specs.Order.{View, less_view, equal_view, greater_view, is_equal}
use Rattle.truth.specs.Halves.{ordering, ord_z, twice}
use Rattle.std.specs.declared.cmp.Ordering.{Ordering}
use Rattle.std.specs.declared.cmp.Ordering.TheVariants.{Equal}
use Rattle.truth.proofs.Orders.{cmp-eq, total-z}
use Rattle.records.specs.Shape.{start_of, length_of, in_pool}
use Rattle.symbols.specs.Symbol.{bytes_from, symbol, less_bytes, cmp_bytes}
use Rattle.symbols.specs.Symbol.{number_of, symbol_number, symbol_key}
use Rattle.symbols.proofs.Orders.{less_n, view_n, Bytes, none, more, number-order, total-bytes}
use Rattle.symbols.proofs.Comparing.{short, number-less, number-equal, number-greater}

-- Numbers compare as those in halves.
pub doubled : (m n : ℕ) → ordering (compare m n) ≡ ordering (compare (m + m) (n + n))
doubled m n = go (view_n m n)
  where
    go : {o : Ordering} → View less_n m n o → o ≡ ordering (compare (m + m) (n + n))
    go (less_view h) = sym (number-less (m + m) (n + n) (omega (arith, h)))
    go (equal_view e) = sym (number-equal (m + m) (n + n) (omega (arith, e)))
    go (greater_view h) = sym (number-greater (m + m) (n + n) (omega (arith, h)))

module _ (text : List ℕ) (below : (q : ℕ) → get_or text q 0 < 256) where
  are_bytes : (s n : ℕ) → Bytes (bytes_from text s n)
  unfolding bytes_from
  are_bytes s zero = none
  are_bytes s (suc n) = more (below s) (are_bytes (suc s) n)

  length-bytes : (s n : ℕ) → length (bytes_from text s n) ≡ n
  unfolding bytes_from
  length-bytes s zero = refl
  length-bytes s (suc n) = ap suc (length-bytes (suc s) n)

  module _ (size a b : ℕ) (ha : in_pool size a ≡ true) (hb : in_pool size b ≡ true) where
    -- Symbols compare as their numbers.
    pub symbol-order : cmp_bytes (symbol text a) (symbol text b)
        ≡ ordering (compare (symbol_number text a) (symbol_number text b))
    unfolding symbol symbol_number
    symbol-order =
        let la = length-bytes (start_of a) (length_of a) in
        let lb = length-bytes (start_of b) (length_of b) in
        let ka = short size a ha in
        let kb = short size b hb in
        number-order 16 _ _ (are_bytes _ _) (are_bytes _ _) (omega (arith, la, ka)) (omega (arith, lb, kb))

    -- 02, 2.10: the ordered-type facts of Int, Day and Truth serve Text unchanged.
    pub key-order : cmp_bytes (symbol text a) (symbol text b) ≡ ord_z.cmp (symbol_key text a) (symbol_key text b)
    key-order = symbol-order ∙ doubled (symbol_number text a) (symbol_number text b)

    -- Equal bytes are equal values wherever they lie, and only they.
    pub same_key : symbol text a ≡ symbol text b → symbol_key text a ≡ symbol_key text b
    unfolding symbol_number
    same_key e = ap (λ l. twice (pos (number_of 16 l))) e

    pub same_bytes : symbol_key text a ≡ symbol_key text b → symbol text a ≡ symbol text b
    same_bytes e = go (total-bytes.view (symbol text a) (symbol text b)) (key-order ∙ cmp-eq total-z e)
      where
        go : {o : Ordering} → View less_bytes (symbol text a) (symbol text b) o → o ≡ Equal → symbol text a ≡ symbol text b
        go (less_view h) q = absurd (true≢false (sym (ap is_equal q)))
        go (equal_view f) q = f
        go (greater_view h) q = absurd (true≢false (sym (ap is_equal q)))
