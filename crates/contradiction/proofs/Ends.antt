-- The ends of `contradict`.
use mathlib.Core.Path.{◌≡◌, refl, sym, ◌∙◌, ap, subst}
use mathlib.Core.Bool.{Bool, true, false, cond, ◌&&◌, ◌||◌}
use mathlib.Core.List.{List, [], ◌∷◌, ◌++◌, map, append-nil}
use mathlib.Core.Logic.{inl, inr, ⊎_elim}
use mathlib.Core.Option.{Option, none, some}
use Prim.Native.Nat.{ℕ, zero, suc, ◌+◌, ◌-◌, ◌<◌, ◌≤◌, ◌%◌}
use native.Mathlib.Omega.{arith}
use native.Mathlib.Nat.{eq-or-lt_of_le}
use lib.Dec.{eqb}
use lib.IntN.{ℤ}
use lib.ListN.{length, get_or}
use borrow.Author.Tests.{ne_eqb}
use Rattle.truth.specs.AExpr.{AExpr}
use Rattle.constraints.specs.Column.{Constraint, Lower, Upper, Exclude, Allow, Disallow, Require}
use Rattle.constraints.specs.Lined.{Lined, on_line, lined}
use Rattle.constraints.specs.Mapped.{map_constraint}
use Rattle.constraints.specs.Payload as values
use Rattle.constraints.specs.Resolve.{resolve_deferred}
use Rattle.constraints.specs.Values.{contains}
use Rattle.constraints.proofs.Columns.{obeys_recorded, obeys_recorded_all}
use Rattle.constraints.proofs.Merges.{or_no}
use Rattle.merge.specs.Classify.{Conjunct, Bounds, Normalized, Equality, Recorded, NonNullPair, Opaque, classify}
use Rattle.merge.specs.Collect.{begin, collect, is_in}
use Rattle.merge.specs.Emit.{any_unsat}
use Rattle.merge.specs.Lines.{map_conjunct, lines_from}
use Rattle.merge.proofs.Classified.{classified_as}
use Rattle.merge.proofs.Demand.{halves}
use Rattle.merge.proofs.Passes.{In}
use Rattle.merge.proofs.ReadBack.{AsRead}
use Rattle.merge.proofs.Witness.{HalfPoints}
use Rattle.read_operands.specs.Walk.{first_of}
use Rattle.read_operands.proofs.Walks.{first-length}
use Rattle.reading.specs.Columns.{ColumnsBelow}
use Rattle.column_table.specs.State.{collect_to, resolve_all}
use Rattle.contradiction.specs.Labels.{lines_to, label_at, Labels, told, told_to, dead}
use Rattle.contradiction.proofs.Labelling.{lines_none, lines_step, lines-front, low-place, place-low}
use Rattle.contradiction.proofs.Telling.{All, Placed, BoundsOnly, all_snoc, told-stopped, told-resolved}

-- ---- The columns in the order of their numbers.
in_front : (c d : ℕ) (l : List ℕ) → In lined c l → In lined c (l ++ (d ∷ []))
in_front c d [] i = absurd i
in_front c d (e ∷ l) (inl p) = inl p
in_front c d (e ∷ l) (inr i) = inr (in_front c d l i)

in_last : (c d : ℕ) (l : List ℕ) → c ≡ d → In lined c (l ++ (d ∷ []))
in_last c d [] e = inl e
in_last c d (x ∷ l) e = inr (in_last c d l e)

in_order : (order : List ℕ) (n : ℕ) → ((c : ℕ) → c < n → get_or order c 0 ≡ c) → (c : ℕ) → c < n → In lined c (first_of order n)
unfolding first_of
in_order order zero h c k = absurd (omega (arith, k))
in_order order (suc n) h c k =
    ⊎_elim
    (λ (e : c ≡ n). in_last c (get_or order n 0) (first_of order n) (e ∙ sym (h n (omega arith))))
    (λ (l : c < n). in_front c (get_or order n 0) (first_of order n)
    (in_order order n (λ d q. h d (omega (arith, q))) c l))
    (eq-or-lt_of_le (let m : c ≤ n = omega (arith, k) in m))

not-snoc : (c d : ℕ) (l : List ℕ) → is_in c l ≡ false → eqb c d ≡ false → is_in c (l ++ (d ∷ [])) ≡ false
not-snoc c d [] h e = rw e
not-snoc c d (x ∷ l) h e =
    let r = or_no (eqb c x) (is_in c l) h in ap (λ b. b || is_in c (l ++ (d ∷ []))) r.0 ∙ not-snoc c d l r.1 e

not-before : (order : List ℕ) (n : ℕ) → ((c : ℕ) → c < n → get_or order c 0 ≡ c) → (c : ℕ) → n ≤ c
    → is_in c (first_of order n) ≡ false
unfolding first_of
not-before order zero h c k = refl
not-before order (suc n) h c k =
    let g : (get_or order n 0 ≡ n) = h n (omega arith) in
    not-snoc c (get_or order n 0) (first_of order n) (not-before order n (λ d q. h d (omega (arith, q))) c (omega (arith, k)))
    (ne_eqb c (get_or order n 0) (λ e. absurd (omega (arith, e, g, k))))

-- As `resolve_all` asks.
pub each-once : (order : List ℕ) → ((c : ℕ) → c < 64 → get_or order c 0 ≡ c) → (o : ℕ) → o < 64
    → (get_or order o 0 < 64) × (is_in (get_or order o 0) (first_of order o) ≡ false)
each-once order h o k = (
  subst (λ x. x < 64) (sym (h o k)) k,
  subst (λ x. is_in x (first_of order o) ≡ false) (sym (h o k))
      (not-before order o (λ c q. h c (omega (arith, q, k))) o (omega arith)),
)

-- ---- Values with their lines leave the same room between them.
lined-halves : HalfPoints lined
unfolding lined
lined-halves =
    record {
      hi = halves.hi;
      lo = halves.lo;
      nil = halves.nil;
      hi_above = λ v. halves.hi_above v.bits;
      hi_below = λ v w. halves.hi_below v.bits w.bits;
      lo_below = λ v. halves.lo_below v.bits;
      hi_off = λ v w. halves.hi_off v.bits w.bits;
      lo_off = λ v w. halves.lo_off v.bits w.bits;
      nil_off = λ w. halves.nil_off w.bits;
    }

-- ---- Lines are as the readers make them, and their columns have a place.
module _ (j : ℕ) where
  lined-contains : (k : ℤ) (l : List ℕ) → contains lined k (map (on_line j) l) ≡ contains values.payload k l
  unfolding lined values.payload
  lined-contains k [] = refl
  lined-contains k (v ∷ l) = rw (lined-contains k l)

  lined-recorded : (a : Constraint ℕ) (x : Option ℤ)
      → obeys_recorded lined (map_constraint (on_line j) a) x ≡ obeys_recorded values.payload a x
  lined-recorded (Lower c v) x = refl
  lined-recorded (Upper c v) x = refl
  lined-recorded (Exclude v) x = refl
  lined-recorded (Allow l) none = refl
  lined-recorded (Allow l) (some k) = lined-contains k l
  lined-recorded (Disallow h []) none = refl
  lined-recorded (Disallow h (v ∷ l)) none = refl
  lined-recorded (Disallow h l) (some k) = rw (lined-contains k l)
  lined-recorded (Require n) none = refl
  lined-recorded (Require n) (some k) = refl

  lined-all : (l : List (Constraint ℕ)) (x : Option ℤ)
      → obeys_recorded_all lined (map (map_constraint (on_line j)) l) x ≡ obeys_recorded_all values.payload l x
  lined-all [] x = refl
  lined-all (a ∷ l) x = rw (lined-recorded a x, lined-all l x)

  lined-bounds : (k : Conjunct ℕ) → AsRead values.payload k → BoundsOnly lined (map_conjunct (on_line j) k)
  lined-bounds (Bounds c l) h = λ x. lined-all l x ∙ h x
  lined-bounds (Normalized c l) h = λ x. lined-all l x ∙ h x
  lined-bounds (Equality a b n) h = tt
  lined-bounds (Recorded z n c l) h = tt
  lined-bounds (NonNullPair n a b) h = tt
  lined-bounds (Opaque n) h = tt

  lined-placed : (k : Conjunct ℕ) → ColumnsBelow 64 k → Placed (map_conjunct (on_line j) k)
  lined-placed (Bounds c l) h = h
  lined-placed (Normalized c l) h = h
  lined-placed (Equality a b n) h = h
  lined-placed (Recorded z n c l) h = h
  lined-placed (NonNullPair n a b) h = h
  lined-placed (Opaque n) h = tt

module _ (R : ℕ → AExpr ℕ) (nodes : List ℕ) where
  lines-all : (P : Conjunct Lined → Type 0) (n : ℕ)
      → ((i : ℕ) → i < n → P (map_conjunct (on_line i) (classify R (get_or nodes i 0)))) → All P (lines_to R nodes n)
  lines-all P zero h = subst (All P) (sym (lines_none R nodes)) tt
  lines-all P (suc n) h =
      subst (All P) (sym (lines_step R nodes n))
      (all_snoc P (lines_to R nodes n) (map_conjunct (on_line n) (classify R (get_or nodes n 0)))
      (lines-all P n (λ i k. h i (omega (arith, k)))) (h n (omega arith)))

  collected-is : (n : ℕ) → collect lined (lines_to R nodes n) begin ≡ collect_to R nodes n
  unfolding lines_to collect_to
  collected-is n = refl

  module _ (n : ℕ) (below : (i : ℕ) → i < n → ColumnsBelow 64 (classify R (get_or nodes i 0))) (labels : List ℕ)
      (L : Labels (lines_to R nodes n) labels) where
    only : All (BoundsOnly lined) (lines_to R nodes n)
    only =
        lines-all (BoundsOnly lined) n
        (λ i k. lined-bounds i (classify R (get_or nodes i 0)) (classified_as values.payload R (get_or nodes i 0)))

    placed : All Placed (lines_to R nodes n)
    placed = lines-all Placed n (λ i k. lined-placed i (classify R (get_or nodes i 0)) (below i k))

    low : (c : ℕ) → label_at labels c < 64
    low c = L.low (c % 64) (place-low c)

    -- Telling stopped.
    pub ends_stopped : (b : Bool) → b ≡ true
        → (b ≡ true → (i : ℕ) × (i ≤ n) × ((c : ℕ) × ((told_to labels R nodes i c).unsat ≡ true)))
        → true ≡ dead lined (collect_to R nodes n)
    ends_stopped b e h =
        let r = h e in
        let k : r.0 + (n - r.0) ≡ n = omega (arith, r.1) in
        let m = lines-front R nodes r.0 (n - r.0) in
        sym (ap (dead lined) (sym (collected-is n))
        ∙ told-stopped lined lined-halves (label_at labels) low (lines_to R nodes n) only placed L.one
        (λ row g c q. ap (λ x. row (get_or labels x 0)) (low-place c q) ∙ L.same row g c q)
        (lines_to R nodes r.0) m.0 (ap (lines_to R nodes) (sym k) ∙ m.1) r.2.0 r.2.1)

    -- Every column was resolved.
    pub ends_resolved : (order : List ℕ) → ((c : ℕ) → c < 64 → get_or order c 0 ≡ c) → (unsat : Bool)
        → unsat ≡ (false || any_unsat (first_of order 64) (resolve_all (told_to labels R nodes n)))
        → unsat ≡ dead lined (collect_to R nodes n)
    ends_resolved order h unsat e =
        e
        ∙ told-resolved lined lined-halves (label_at labels) low (lines_to R nodes n) only placed L.one
        (λ row g c q. ap (λ x. row (get_or labels x 0)) (low-place c q) ∙ L.same row g c q)
        (first_of order 64) (in_order order 64 h) (sym (append-nil (lines_to R nodes n)))
        ∙ ap (dead lined) (collected-is n)
