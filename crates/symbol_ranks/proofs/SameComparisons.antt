-- Symbols are merged as their ranks (02, 2.10): what stands at places compares by its symbols as by its ranks. A place is
-- any number, and one that is not below n stands for place 0: so a screen of places is written without proofs, which
-- places that carried the proof that they are below n would ask for, and below n it is what stands there
-- (`within-below`).
use mathlib.Core.Path.{◌≡◌, refl, sym, ◌∙◌}
use mathlib.Core.Bool.{Bool, true, false, cond}
use mathlib.Core.List.{List}
use Prim.Native.Nat.{ℕ, zero, suc, ◌≤◌, ◌<◌}
use native.Mathlib.Omega.{arith}
use lib.Dec.{ltb}
use lib.ListN.{get_or}
use borrow.Author.Tests.{lt-ltb, le-ltb, ltb-true}
use Rattle.truth.specs.Halves.{ord_z, key}
use Rattle.truth.proofs.Orders.{cmp-refl, total-z}
use Rattle.constraints.specs.Payload.{payload}
use Rattle.constraints.proofs.Carried.{Carries}
use Rattle.symbols.specs.Symbol.{symbol_key}
use Rattle.symbol_ranks.specs.Ranks.{Ranked, Pooled}
use Rattle.symbol_ranks.proofs.RankKeys.{rank-keys}

-- The place that i stands for, and what stands there.
abbrev pub within : ℕ → ℕ → ℕ
within n i = cond (ltb i n) i 0

abbrev pub standing : List ℕ → ℕ → ℕ → ℕ
standing l n i = get_or l (within n i) 0

pub within-below : (n i : ℕ) → i < n → within n i ≡ i
within-below n i h = rw (lt-ltb i n h)

below : (n i : ℕ) → within (suc n) i < suc n
below n i = go (ltb i (suc n)) (ltb-true i (suc n))
  where
    go : (b : Bool) → (b ≡ true → i < suc n) → cond b i 0 < suc n
    go true h = h refl
    go false h = omega arith

none_below : (i : ℕ) → within 0 i ≡ 0
none_below i = rw (le-ltb i 0 (omega arith))

module _ {text values ranks : List ℕ} (bytes : (q : ℕ) → get_or text q 0 < 256) where
  pub places-compare : (n : ℕ) → Pooled text values n → n ≤ 9223372036854775808 → Ranked text values n ranks →
      (i j : ℕ) → ord_z.cmp (symbol_key text (standing values n i)) (symbol_key text (standing values n j)) ≡
      ord_z.cmp (key (standing ranks n i)) (key (standing ranks n j))
  places-compare zero p h r i j =
      rw (none_below i, none_below j)
      (cmp-refl total-z (symbol_key text (get_or values 0 0)) ∙ sym (cmp-refl total-z (key (get_or ranks 0 0))))
  places-compare (suc n) p h r i j = sym (rank-keys bytes p h r _ _ (below n i) (below n j))

-- ---- Beside values of other types: whether it is a symbol, and its place; else the 64 bits.
abbrev pub standing_or_not : List ℕ → ℕ → Bool × ℕ → ℕ
standing_or_not l n v = cond v.0 (standing l n v.1) v.1

abbrev pub ranks_carry_all : (ranks : List ℕ) (n : ℕ) → Carries payload (standing_or_not ranks n)
unfolding payload
ranks_carry_all ranks n =
    record {
      opened = λ held excluded. excluded;
      opened-key = λ held excluded. refl;
      opens = λ held excluded. refl;
    }

-- What opens a bound, said for the crates above, which are not handed the body.
pub ranks_opened : (ranks : List ℕ) (n : ℕ) (held excluded : Bool × ℕ) → (ranks_carry_all ranks n).opened held excluded ≡ excluded
unfolding payload
ranks_opened ranks n held excluded = refl
