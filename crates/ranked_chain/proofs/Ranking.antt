-- The screen of numbers of an accepted screen, put together. Assumes nothing.
use mathlib.Core.Path.{◌≡◌, refl, sym, ◌∙◌, ap, subst}
use mathlib.Core.List.{List}
use Prim.Native.Nat.{ℕ, ◌+◌, ◌*◌, ◌/◌, ◌≤◌, ◌<◌}
use native.Mathlib.Omega.{arith}
use lib.ListN.{length, get_or, set}
use lib.Seq.{get_or-set_same, get_or-set_other}
use Rattle.checking.proofs.Accepted.{checked-lent_in}
use Rattle.symbol_ranks.specs.Ranks.{Pooled}
use Rattle.symbol_screens.specs.Placed.{place_count, Standing}
use Rattle.symbol_screens.specs.Rewriting.{lent}
use Rattle.ranked_screen.specs.Screen.{Accepted, RankedPool}
use Rattle.ranked_screen.proofs.Placing.{standing-pooled}
use Rattle.ranked_screen.proofs.Reading.{accepted-sizes}
use Rattle.sorted.proofs.Parts.{last}
use Rattle.text_order.specs.Codes.{code_of}
use Rattle.ranked_chain.specs.RankedChain.{ListsPooled, Numbered, WideRecords, ChainRanks}
use Rattle.ranked_chain.proofs.RaisedLists.{lists-pooled}

module _ (text rs p : List ℕ) (used : ℕ) (ok : Accepted text rs p used) where
  pub places-few : place_count p used ≤ 12288
  places-few = let s = accepted-sizes text rs p used ok in omega (arith, s.used_low, s.pool-low)

  pub accepted-lent : 16 * used ≤ length rs
  accepted-lent = checked-lent_in (lent text) ok.table rs p used ok.root ok.checked

  pub accepted-lists : ListsPooled rs used
  accepted-lists =
      lists-pooled (lent text) ok.table rs p used ok.root ok.checked (accepted-sizes text rs p used ok).pool-low

  pub chain-ranks : (C values wide out pool : List ℕ) → place_count p used ≤ length values → Standing (length text) rs p used values
      → Numbered C values (place_count p used) wide → WideRecords rs wide (length p / 8) used out
      → RankedPool p wide used (2 * (length p / 8)) pool → ChainRanks text rs p used C out pool
  chain-ranks C values wide out pool room st numbered records held =
      record {
        values = values;
        wide = wide;
        standing = st;
        pooled = standing-pooled text rs p values used room st;
        numbered = numbered;
        records = records;
        held = held;
      }

-- ---- One number more.
pub numbered-none : (C values numbers : List ℕ) → Numbered C values 0 numbers
numbered-none C values numbers = record { coded = λ i h. absurd (omega (arith, h)) }

pub numbered_more : (C values : List ℕ) (n : ℕ) (old : List ℕ) (x : ℕ) → n < length old → x ≡ code_of C (get_or values n 0)
    → Numbered C values n old → Numbered C values (n + 1) (set old n x)
numbered_more C values n old x room e s =
    record {
      coded = λ i h.
          last i n h
          (λ (g : i < n). get_or-set_other old n i x 0 (λ q. omega (arith, q, g)) ∙ s.coded i g)
          (λ (g : i ≡ n). subst (λ j. get_or (set old n x) j 0 ≡ code_of C (get_or values j 0)) (sym g)
          (get_or-set_same old n x 0 room ∙ e));
    }
