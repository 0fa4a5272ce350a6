-- Ranks as values of 64 bits: their keys compare as the keys of the symbols, so that what is proved of keys holds of both.
use mathlib.Core.Path.{◌≡◌, sym, ◌∙◌, ap}
use mathlib.Core.List.{List}
use Prim.Native.Nat.{ℕ, ◌+◌, ◌≤◌, ◌<◌}
use native.Mathlib.Omega.{arith}
use lib.IntN.{ℤ, pos}
use lib.ListN.{length, get_or}
use mir.Syntax.{w64}
use mir.ValLaws.{to_z_pos}
use Rattle.truth.specs.Halves.{ord_z, twice, key}
use Rattle.symbols.specs.Symbol.{symbol_key}
use Rattle.symbols.proofs.Keys.{doubled, key-order}
use Rattle.symbol_ranks.specs.Ranks.{Ranked, Pooled}

small-key : (r : ℕ) → r < 9223372036854775808 → key r ≡ pos (r + r)
small-key r h = ap twice (to_z_pos w64 r h)

pub rank-keys : {text values : List ℕ} {n : ℕ} {ranks : List ℕ} → ((q : ℕ) → get_or text q 0 < 256) → Pooled text values n
    → n ≤ 9223372036854775808 → Ranked text values n ranks → (i j : ℕ) → i < n → j < n
    → ord_z.cmp (key (get_or ranks i 0)) (key (get_or ranks j 0))
    ≡ ord_z.cmp (symbol_key text (get_or values i 0)) (symbol_key text (get_or values j 0))
rank-keys {text} {values} {n} {ranks} bytes p h r i j a b =
    let x = get_or ranks i 0 in
    let y = get_or ranks j 0 in
    let u : x < 9223372036854775808 = let w = r.below i a in omega arith in
    let v : y < 9223372036854775808 = let w = r.below j b in omega arith in
    ap (λ (z : ℤ). ord_z.cmp z (key y)) (small-key x u) ∙ ap (λ (z : ℤ). ord_z.cmp (pos (x + x)) z) (small-key y v)
    ∙ sym (doubled x y) ∙ r.compares i j a b
    ∙ key-order text bytes (length text) (get_or values i 0) (get_or values j 0) (p.pooled i a) (p.pooled j b)
