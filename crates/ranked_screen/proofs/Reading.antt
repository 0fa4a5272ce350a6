-- The records and the pool of ranks are read as the screen of ranks. Assumes nothing.
use mathlib.Core.Path.{◌≡◌, refl, sym, ◌∙◌, ap}
use mathlib.Core.Bool.{Bool, true, false, cond, true≢false}
use mathlib.Core.List.{List, ◌∷◌, map}
use Prim.Native.Nat.{ℕ, zero, suc, ◌+◌, ◌-◌, ◌*◌, ◌/◌, ◌%◌, ◌≤◌, ◌<◌}
use native.Mathlib.Omega.{arith}
use lib.Dec.{leb, eqb}
use lib.ListN.{length, get_or}
use borrow.Author.Tests.{lt-ltb, le-ltb, leb-true, eqb-true}
use Rattle.records.specs.Bytes.{value_at}
use Rattle.records.specs.Record.{node, record_at}
use Rattle.records.specs.declared.record.Record.{Record}
use Rattle.records.specs.declared.record.Record.TheVariants as kind
use Rattle.records.proofs.Laws.{and_left, and_right}
use Rattle.record_check.specs.Fit.{list_ok_in, reach_ok_in}
use Rattle.checking.specs.Check.{sizes_ok_in}
use Rattle.truth.specs.AExpr.{Literal, ListLiteral, map_aexpr}
use Rattle.truth.specs.FromBytes.{to_aexpr, aexpr_of, values_from}
use Rattle.merge.proofs.Accepted.{binary-ind}
use Rattle.symbol_ranks.specs.Ranks.{Ranked}
use Rattle.symbol_ranks.proofs.SameComparisons.{within-below, standing, standing_or_not}
use Rattle.symbol_screens.specs.Placed.{number, placed_from, placed_aexpr, placed_at, place_count, Standing}
use Rattle.symbol_screens.specs.Rewriting.{lent}
use Rattle.ranked_screen.specs.Screen.{Accepted, ranked_record, list_start, ListsIn, RankedRecords, pool_value, RankedPool, RanksOf}
use Rattle.ranked_screen.proofs.Placing.{standing-pooled}

-- ---- What an accepted screen has.
pub record Sizes (text p : List ℕ) (used : ℕ) : Type 0 where
  pub used_low : used ≤ 4096
  pub pool-low : length p ≤ 65536
  pub text-low : length text ≤ 8192

module _ (text rs p : List ℕ) (used : ℕ) (ok : Accepted text rs p used) where
  pub accepted-sizes : Sizes text p used
  unfolding sizes_ok_in
  accepted-sizes =
      record {
        used_low = leb-true used 4096 (and_left (leb used 4096) _ h);
        pool-low = go (leb (lent text) 8193) refl last;
        text-low = low (leb (lent text) 8193) refl last;
      }
    where
      h : sizes_ok_in (lent text) rs p used ≡ true
      h = ok.checked.sizes

      whole : eqb (length p % 8) 0 ≡ true
      whole =
          and_left (eqb (length p % 8) 0) _
          (and_right (leb used (length rs / 16)) _ (and_right (leb used 4096) _ h))

      last : cond (leb (lent text) 8193) (leb (length p / 8) 8192) false ≡ true
      last =
          and_right (eqb (length p % 8) 0) _
          (and_right (leb used (length rs / 16)) _ (and_right (leb used 4096) _ h))

      go : (b : Bool) → leb (lent text) 8193 ≡ b → cond b (leb (length p / 8) 8192) false ≡ true → length p ≤ 65536
      go true e k =
          let a = leb-true (length p / 8) 8192 k in
          let b = eqb-true (length p % 8) 0 whole in omega arith
      go false e k = absurd (true≢false (sym k))

      low : (b : Bool) → leb (lent text) 8193 ≡ b → cond b (leb (length p / 8) 8192) false ≡ true → length text ≤ 8192
      low true e k = let a = leb-true (lent text) 8193 e in omega arith
      low false e k = absurd (true≢false (sym k))

-- A list lies in the pool.
abbrev ListIn : ℕ → Record → Type 0
ListIn words kind.Invalid = Unit {0}
ListIn words (kind.Column c) = Unit {0}
ListIn words (kind.Literal ty v) = Unit {0}
ListIn words (kind.Null ty) = Unit {0}
ListIn words (kind.Binary o x y) = Unit {0}
ListIn words (kind.Not x) = Unit {0}
ListIn words (kind.IsNull x) = Unit {0}
ListIn words (kind.IsNotNull x) = Unit {0}
ListIn words (kind.IsBetween ends x low high) = Unit {0}
ListIn words (kind.List ty marked start count) = start + count ≤ words
ListIn words (kind.IsIn equal x list) = Unit {0}

list-in : (text : ℕ) (t p : List ℕ) (n : ℕ) (r : Record) → reach_ok_in text t p r (node n) ≡ true → ListIn (length p / 8) r
unfolding reach_ok_in list_ok_in
list-in text t p n kind.Invalid h = tt
list-in text t p n (kind.Column c) h = tt
list-in text t p n (kind.Literal ty v) h = tt
list-in text t p n (kind.Null ty) h = tt
list-in text t p n (kind.Binary o x y) h = tt
list-in text t p n (kind.Not x) h = tt
list-in text t p n (kind.IsNull x) h = tt
list-in text t p n (kind.IsNotNull x) h = tt
list-in text t p n (kind.IsBetween ends x low high) h = tt
list-in text t p n (kind.List ty marked start count) h =
    leb-true (start + count) (length p / 8) (and_left (leb (start + count) (length p / 8)) _ h)
list-in text t p n (kind.IsIn equal x list) h = tt

start-in : (words : ℕ) (r : Record) → ListIn words r → list_start r ≤ words
unfolding list_start
start-in words kind.Invalid h = omega arith
start-in words (kind.Column c) h = omega arith
start-in words (kind.Literal ty v) h = omega arith
start-in words (kind.Null ty) h = omega arith
start-in words (kind.Binary o x y) h = omega arith
start-in words (kind.Not x) h = omega arith
start-in words (kind.IsNull x) h = omega arith
start-in words (kind.IsNotNull x) h = omega arith
start-in words (kind.IsBetween ends x low high) h = omega arith
start-in words (kind.List ty marked start count) h = omega arith
start-in words (kind.IsIn equal x list) h = omega arith

pub lists-in : (text rs p : List ℕ) (used : ℕ) → Accepted text rs p used → ListsIn rs used (length p / 8)
lists-in text rs p used ok =
    record {
      starts = λ n h.
          start-in (length p / 8) (record_at rs (node n))
          (list-in (lent text) ok.table p n (record_at rs (node n)) (ok.checked.records n h).reach);
    }

-- ---- What is read.
module _ (rs p : List ℕ) (used : ℕ) (ranks pool : List ℕ) (held : RankedPool p ranks used (2 * (length p / 8)) pool) where
  abbrev by : Bool × ℕ → ℕ
  by v = standing_or_not ranks (place_count p used) v

  rank-at : (i : ℕ) → i < place_count p used → get_or ranks i 0 ≡ standing ranks (place_count p used) i
  rank-at i h = ap (λ j. get_or ranks j 0) (sym (within-below (place_count p used) i h))

  -- the ranks stand in front
  rank-value : (k : ℕ) → k < length p / 8 → value_at pool k ≡ standing ranks (place_count p used) (used + k)
  unfolding pool_value
  rank-value k h =
      held.values k (omega arith) ∙ rw (lt-ltb k (length p / 8) h) (rank-at (used + k) (omega arith))

  ranks_from : (start c : ℕ) → start + c ≤ length p / 8 → values_from pool start c ≡ map by (placed_from used start c)
  unfolding values_from
  ranks_from start zero h = refl
  ranks_from start (suc c) h = λ i. rank-value start (omega arith) i ∷ ranks_from (suc start) c (omega arith) i

  -- behind them the values
  moved_value : (k : ℕ) → k < length p / 8 → value_at pool (length p / 8 + k) ≡ value_at p k
  unfolding pool_value
  moved_value k h =
      held.values (length p / 8 + k) (omega arith)
      ∙ (let q : length p / 8 + k - length p / 8 ≡ k = omega arith in
      rw (le-ltb (length p / 8 + k) (length p / 8) (omega arith), q))

  values_moved : (start c : ℕ) → start + c ≤ length p / 8
      → values_from pool (length p / 8 + start) c ≡ map by (map number (values_from p start c))
  unfolding values_from
  values_moved start zero h = refl
  values_moved start (suc c) h =
      let q : suc (length p / 8 + start) ≡ length p / 8 + suc start = omega arith in
      λ i. moved_value start (omega arith) i
      ∷ (ap (λ m. values_from pool m c) q ∙ values_moved (suc start) c (omega arith)) i

  record_read : (n : ℕ) → n < used → (r : Record) → ListIn (length p / 8) r
      → to_aexpr pool (ranked_record (length p / 8) (get_or ranks n 0) r) ≡ map_aexpr by (placed_aexpr used p n r)
  unfolding ranked_record
  record_read n h kind.Invalid l = refl
  record_read n h (kind.Column c) l = refl
  record_read n h (kind.Literal ty v) l = go (eqb ty 4)
    where
      go : (b : Bool) → to_aexpr pool (cond b (kind.Literal 1 (get_or ranks n 0)) (kind.Literal ty v))
          ≡ Literal (by (cond b (true, n) (number v)))
      go true = ap Literal (rank-at n (omega arith))
      go false = refl
  record_read n h (kind.Null ty) l = refl
  record_read n h (kind.Binary o x y) l =
      binary-ind (λ q. q ≡ map_aexpr by (map_aexpr number q)) x.0 y.0 refl (refl, refl) o (λ a c. refl)
      (λ a. (refl, refl)) (λ a d b. refl)
  record_read n h (kind.Not x) l = refl
  record_read n h (kind.IsNull x) l = refl
  record_read n h (kind.IsNotNull x) l = refl
  record_read n h (kind.IsBetween ends x low high) l = refl
  record_read n h (kind.List ty marked start count) l = go (eqb ty 4)
    where
      go : (b : Bool) → to_aexpr pool
          (cond b (kind.List 1 marked start count) (kind.List ty marked (length p / 8 + start) count))
          ≡ ListLiteral marked (map by (cond b (placed_from used start count) (map number (values_from p start count))))
      go true = ap (ListLiteral marked) (ranks_from start count l)
      go false = ap (ListLiteral marked) (values_moved start count l)
  record_read n h (kind.IsIn equal x list) l = refl

pub ranks_of : (text rs p : List ℕ) (used : ℕ) → Accepted text rs p used → (values ranks src pool : List ℕ)
    → place_count p used ≤ length values → Standing (length text) rs p used values
    → Ranked text values (place_count p used) ranks → RankedRecords rs ranks (length p / 8) used src
    → RankedPool p ranks used (2 * (length p / 8)) pool → RanksOf text rs p used values ranks src pool
unfolding aexpr_of placed_at
ranks_of text rs p used ok values ranks src pool room st ranked records held =
    record {
      standing = st;
      pooled = standing-pooled text rs p values used room st;
      ranked = ranked;
      reads = λ n h.
          ap (to_aexpr pool) (records.records n h)
          ∙ rw (lt-ltb n used h)
          (record_read rs p used ranks pool held n h (record_at rs (node n))
          (list-in (lent text) ok.table p n (record_at rs (node n)) (ok.checked.records n h).reach));
    }
