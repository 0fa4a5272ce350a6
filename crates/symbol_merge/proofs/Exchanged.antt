-- A screen whose records and screen of ranks are exchanged: what is read of both, and what is put back.
use mathlib.Core.Path.{◌≡◌, sym, ◌∙◌, ap, subst}
use mathlib.Core.List.{List}
use Prim.Native.Nat.{ℕ, ◌*◌, ◌≤◌, ◌<◌}
use native.Mathlib.Omega.{arith}
use lib.ListN.{length}
use Rattle.checking.specs.Checked.{CheckedIn}
use Rattle.checking.proofs.Accepted.{checked-lent_in}
use Rattle.truth.specs.FromBytes.{aexpr_of}
use Rattle.ranked_screen.specs.Screen.{RanksOf}
use Rattle.symbol_screens.specs.Rewriting.{lent}
use Rattle.symbol_merge.specs.Fronts.{fronted}
use Rattle.symbol_merge.proofs.Fronts.{fronted-length, fronted-back, read_fronted}

module _ (text t rs p : List ℕ) (used root : ℕ) (ok : CheckedIn (lent text) t rs p used root) (vs ranks src pool : List ℕ)
    (of : RanksOf text rs p used vs ranks src pool) (long : 16 * used ≤ length src) (mixed own : List ℕ)
    (e : mixed ≡ fronted (16 * used) src rs) (f : own ≡ fronted (16 * used) rs src) where
  sent_long : 16 * used ≤ length rs
  sent_long = checked-lent_in (lent text) t rs p used root ok

  pub ranks_in : RanksOf text rs p used vs ranks mixed pool
  ranks_in =
      record {
        standing = of.standing;
        pooled = of.pooled;
        ranked = of.ranked;
        reads = λ n h. ap (λ l. aexpr_of l pool n) e ∙ read_fronted used src rs pool long sent_long n h ∙ of.reads n h;
      }

  pub sent_in : (n : ℕ) → n < used → aexpr_of own p n ≡ aexpr_of rs p n
  sent_in n h = ap (λ l. aexpr_of l p n) f ∙ read_fronted used rs src p sent_long long n h

  pub whole : length mixed ≡ length rs
  whole = ap length e ∙ fronted-length (16 * used) src rs

  pub mixed_long : 16 * used ≤ length mixed
  mixed_long = let h = sent_long in let w = whole in omega (arith, h, w)

  pub own_long : 16 * used ≤ length own
  own_long = let w : length own ≡ length src = ap length f ∙ fronted-length (16 * used) rs src in omega (arith, w, long)

  pub put_back : fronted (16 * used) own mixed ≡ rs
  put_back = (λ i. fronted (16 * used) (f i) (e i)) ∙ fronted-back (16 * used) src rs long sent_long
