-- Writing in code: one And more, and that the order of the code is that of the definitions.
use mathlib.Core.Path.{◌≡◌, refl, sym, ◌∙◌, ap, subst}
use mathlib.Core.List.{List, [], ◌∷◌, ◌++◌}
use Prim.Native.Nat.{ℕ, zero, suc, ◌+◌, ◌*◌, ◌-◌, ◌≤◌, ◌<◌}
use native.Mathlib.Omega.{arith}
use native.Mathlib.Numerals.{add-one}
use lib.ListN.{length, get_or}
use Rattle.records.specs.Record.{node}
use Rattle.records.specs.declared.operator.Operator.TheVariants as operator
use Rattle.records.specs.declared.record.Record.TheVariants as kind
use Rattle.truth.specs.Comparison.{Comparison}
use Rattle.constraints.specs.Comparisons.{ColumnComparison}
use Rattle.merge.specs.Rebuild.{comparison_of, value_of, comparison_nodes, comparisons_end}
use Rattle.merge.specs.Write.{write_record, write_comparison, write_ands, fold_bytes}
use Rattle.rewrite.specs.Written.{write_compared, acc_at, ands_to}

pub ands_begin : (f : ℕ → ℕ) (u acc : ℕ) → acc ≡ f 0 → acc ≡ acc_at f u 0
unfolding acc_at
ands_begin f u acc e = e

pub ands_none : (f : ℕ → ℕ) (u : ℕ) (rs : List ℕ) → rs ≡ ands_to f u 0 rs
unfolding ands_to
ands_none f u rs = refl

pub acc_turn : (f : ℕ → ℕ) (at u i : ℕ) → 1 ≤ i → u ≡ at + (i - 1) → u ≡ acc_at f at (i + 1 - 1)
unfolding acc_at
acc_turn f at u i h e = let q : i + 1 - 1 ≡ suc (i - 1) = omega arith in rw q e

pub ands_turn : (f : ℕ → ℕ) (at u acc n i : ℕ) (rs₀ rs out : List ℕ) → 1 ≤ i → u ≡ at + (i - 1)
    → acc ≡ acc_at f at (i - 1) → rs ≡ ands_to f at (i - 1) rs₀ → n ≡ f i
    → out ≡ write_record rs u (kind.Binary operator.And (node acc) (node n)) → out ≡ ands_to f at (i + 1 - 1) rs₀
unfolding ands_to
ands_turn f at u acc n i rs₀ rs out h eu ea er en eo =
    let q : i + 1 - 1 ≡ suc (i - 1) = omega arith in
    let g : suc (i - 1) ≡ i = omega arith in
    rw (q, g, ← eu, ← ea, ← er, ← en) eo

pub ands_end_lem : (f : ℕ → ℕ) (at i total : ℕ) (rs₀ rs : List ℕ) → 1 ≤ i → i - 1 ≤ total - 1 → total ≤ i
    → rs ≡ ands_to f at (i - 1) rs₀ → rs ≡ ands_to f at (total - 1) rs₀
ands_end_lem f at i total rs₀ rs h k l e =
    let q : i - 1 ≡ total - 1 = omega arith in subst (λ m. rs ≡ ands_to f at m rs₀) q e

-- ---- Against the definitions of Write.
pub compared-written : (t : List ℕ) (u a : ℕ) (x : ColumnComparison ℕ) (k : Comparison) (v : ℕ) (rs : List ℕ)
    → comparison_of x ≡ k → value_of x ≡ v → write_compared t u a k v rs ≡ write_comparison t u (a, x) rs
unfolding write_compared
compared-written t u a x k v rs e f =
    let p : u + 1 ≡ suc u = omega arith in
    let q : u + 2 ≡ suc (suc u) = omega arith in
    rw (← e, ← f, p, q)

-- The chain's numbers from place i on, as the list's rest.
pub ands_law : (f : ℕ → ℕ) (u acc i : ℕ) (l : List ℕ) (rs : List ℕ) → acc ≡ acc_at f u i
    → ((j : ℕ) → j < length l → f (suc i + j) ≡ get_or l j 0)
    → write_ands (u + i) acc l (ands_to f u i rs) ≡ ands_to f u (i + length l) rs
unfolding ands_to acc_at
ands_law f u acc i [] rs e h = let q : i + 0 ≡ i = omega arith in ap (λ m. ands_to f u m rs) (sym q)
ands_law f u acc i (n ∷ l) rs e h =
    let g : f (suc i) ≡ n = ap f (plus_none i) ∙ h 0 (omega arith) in
    let q : suc (u + i) ≡ u + suc i = omega arith in
    let w : suc i + length l ≡ i + suc (length l) = omega arith in
    ap (λ m. write_ands m (u + i) l
    (write_record (ands_to f u i rs) (u + i) (kind.Binary operator.And (node acc) (node n)))) q
    ∙ ap (λ s. write_ands (u + suc i) (u + i) l s)
    (rw (e, ← g))
    ∙ ands_law f u (u + i) (suc i) l rs refl (λ j k. ap f (plus_more i j) ∙ h (suc j) (omega arith))
    ∙ ap (λ m. ands_to f u m rs) w
  where
    plus_none : (i : ℕ) → suc i ≡ suc i + 0
    plus_none i = omega arith

    plus_more : (i j : ℕ) → suc (suc i) + j ≡ suc i + suc j
    plus_more i j = omega arith

pub fold_law : (f : ℕ → ℕ) (u n : ℕ) (l : List ℕ) (rs : List ℕ)
    → ((j : ℕ) → j < suc (length l) → f j ≡ get_or (n ∷ l) j 0)
    → ands_to f u (length l) rs ≡ fold_bytes u rs (n ∷ l)
unfolding ands_to acc_at
fold_law f u n l rs h =
    let z : u + 0 ≡ u = omega arith in
    let w : length l ≡ 0 + length l = omega arith in
    ap (λ m. ands_to f u m rs) w
    ∙ sym (ap (λ m. write_ands m n l rs) (sym z)
    ∙ ands_law f u n 0 l rs (sym (h 0 (omega arith))) (λ j k. ap f (one-plus j) ∙ h (suc j) (omega arith)))
  where
    one-plus : (j : ℕ) → 1 + j ≡ suc j
    one-plus j = omega arith
