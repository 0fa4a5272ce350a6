-- Two outcomes that one is taken to: where one stops, the other does; and the reasons of both are the same.
use mathlib.Core.Path.{◌≡◌, refl, sym, ◌∙◌, ap}
use mathlib.Core.Bool.{Bool, true, false, cond, true≢false}
use mathlib.Core.List.{List, [], ◌∷◌, map}
use mathlib.Core.Logic.{inl, inr}
use Prim.Native.Nat.{ℕ, suc, ◌<◌, ◌≤◌}
use native.Mathlib.Omega.{arith}
use lib.Dec.{eqb}
use lib.ListN.{length, get_or}
use Rattle.constraints.specs.Comparisons.{ColumnComparison, IsEq, IsLower, IsUpper, IsNotEq}
use Rattle.constraints.specs.Lined.{Lined}
use Rattle.constraints.specs.Mapped.{map_comparison}
use Rattle.constraints.specs.Values.{is_empty}
use Rattle.constraints.proofs.LineKept.{Each}
use Rattle.merge.specs.Emit.{Outcome, Unchanged, NothingPasses, Rebuilt}
use Rattle.merge.specs.Lines.{map_comparisons, map_outcome}
use Rattle.merge.specs.Reasons.{Reason, Bytes, shown_in, reason_of}
use Rattle.merge.specs.Rebuild.{comparison_of, value_of}
use Rattle.symbols.specs.Symbol.{symbol}
use Rattle.symbol_screens.specs.Held.{Held, Number, Symbol, bits_of}
use Rattle.symbol_screens.proofs.ColumnKinds.{is_symbol, kind_at}
use Rattle.symbol_screens.proofs.Places.{held_by}
use Rattle.symbol_reasons.specs.Explained.{held_shown, held_reason}
use Rattle.symbol_reasons.specs.Lined.{LinedHeld}
use Rattle.symbol_sources.specs.Sources.{LinedPlace, comparisons_of}
use Rattle.symbol_sources.proofs.Sources.{held_on}
use Rattle.symbol_columns.proofs.Written.{bits_on}

abbrev is_stopped : {A : Type 0} → Outcome A → Bool
is_stopped Unchanged = false
is_stopped NothingPasses = true
is_stopped (Rebuilt ns cs) = false

abbrev is_rebuilt : {A : Type 0} → Outcome A → Bool
is_rebuilt Unchanged = false
is_rebuilt NothingPasses = false
is_rebuilt (Rebuilt ns cs) = true

abbrev kept_of : {A : Type 0} → Outcome A → List ℕ
kept_of Unchanged = []
kept_of NothingPasses = []
kept_of (Rebuilt ns cs) = ns

module _ {A B C : Type 0} (f : A → B) (g : A → C) where
  pub both-stop : (o : Outcome A) → map_outcome f o ≡ NothingPasses → map_outcome g o ≡ NothingPasses
  both-stop Unchanged e = absurd (true≢false (sym (ap is_stopped e)))
  both-stop NothingPasses e = refl
  both-stop (Rebuilt ns cs) e = absurd (true≢false (sym (ap is_stopped e)))

  pub both-stay : (o : Outcome A) → map_outcome f o ≡ Unchanged → map_outcome g o ≡ Unchanged
  both-stay Unchanged e = refl
  both-stay NothingPasses e = absurd (true≢false (ap is_stopped e))
  both-stay (Rebuilt ns cs) e = absurd (true≢false (ap is_rebuilt e))

pub rebuilt-of : {A B : Type 0} (f : A → B) (o : Outcome A) (ns : List ℕ) (cs : List (ℕ × ColumnComparison B)) →
    map_outcome f o ≡ Rebuilt ns cs → (o ≡ Rebuilt ns (comparisons_of o)) × (cs ≡ map_comparisons f (comparisons_of o))
rebuilt-of f Unchanged ns cs e = absurd (true≢false (sym (ap is_rebuilt e)))
rebuilt-of f NothingPasses ns cs e = absurd (true≢false (sym (ap is_rebuilt e)))
rebuilt-of f (Rebuilt ms ds) ns cs e = (ap (λ l. Rebuilt l ds) (ap kept_of e), sym (ap comparisons_of e))

pub as_many : {A B : Type 0} (f : A → B) (cs : List (ℕ × ColumnComparison A)) → length (map_comparisons f cs) ≡ length cs
as_many f [] = refl
as_many f (x ∷ cs) = ap suc (as_many f cs)

-- ---- values taken in three steps
module _ (values : List ℕ) (count : ℕ) where
  abbrev pub bits_at : LinedPlace → ℕ
  bits_at v = bits_of (held_by values count v.placed)

  one-bits : (x : ColumnComparison LinedPlace) →
      map_comparison bits_of (map_comparison (λ (v : LinedHeld). v.held) (map_comparison (held_on values count) x)) ≡ map_comparison bits_at x
  one-bits (IsEq v) = refl
  one-bits (IsLower c v) = refl
  one-bits (IsUpper c v) = refl
  one-bits (IsNotEq v) = refl

  all_bits : (cs : List (ℕ × ColumnComparison LinedPlace)) →
      map_comparisons bits_of (map_comparisons (λ (v : LinedHeld). v.held) (map_comparisons (held_on values count) cs)) ≡
      map_comparisons bits_at cs
  all_bits [] = refl
  all_bits (x ∷ cs) = λ i. (x.0, one-bits x.1 i) ∷ all_bits cs i

  pub outcome_bits : (o : Outcome LinedPlace) →
      map_outcome bits_of (map_outcome (λ (v : LinedHeld). v.held) (map_outcome (held_on values count) o)) ≡ map_outcome bits_at o
  outcome_bits Unchanged = refl
  outcome_bits NothingPasses = refl
  outcome_bits (Rebuilt ns cs) = ap (Rebuilt ns) (all_bits cs)

  one_plain : (x : ColumnComparison LinedPlace) →
      map_comparison (λ (v : Lined). v.bits) (map_comparison (bits_on values count) x) ≡ map_comparison bits_at x
  one_plain (IsEq v) = refl
  one_plain (IsLower c v) = refl
  one_plain (IsUpper c v) = refl
  one_plain (IsNotEq v) = refl

  pub bits-plain : (cs : List (ℕ × ColumnComparison LinedPlace)) →
      map_comparisons (λ (v : Lined). v.bits) (map_comparisons (bits_on values count) cs) ≡ map_comparisons bits_at cs
  bits-plain [] = refl
  bits-plain (x ∷ cs) = λ i. (x.0, one_plain x.1 i) ∷ bits-plain cs i

  -- ---- the reasons
  module _ (t text : List ℕ) where
    shown-same : (a : ℕ) (v : Held) → is_symbol v ≡ kind_at t a → shown_in t text a (bits_of v) ≡ held_shown text v
    unfolding shown_in
    shown-same a (Number v) e = rw (← e)
    shown-same a (Symbol v) e = rw (← e)

    operator-same : (x : ColumnComparison LinedPlace) →
        comparison_of (map_comparison (bits_on values count) x) ≡ comparison_of (map_comparison (held_on values count) x)
    operator-same (IsEq v) = refl
    operator-same (IsLower true v) = refl
    operator-same (IsLower false v) = refl
    operator-same (IsUpper true v) = refl
    operator-same (IsUpper false v) = refl
    operator-same (IsNotEq v) = refl

    reason_same : (a : ℕ) (x : ColumnComparison LinedPlace) → is_symbol (held_by values count (value_of x).placed) ≡ kind_at t a →
        reason_of (shown_in t text) (a, map_comparison (bits_on values count) x) ≡
        held_reason text (a, map_comparison (held_on values count) x)
    reason_same a x h =
        λ i. record { column = a; operator = operator-same x i; value = value x h i; line = line x i }
      where
        value : (x : ColumnComparison LinedPlace) → is_symbol (held_by values count (value_of x).placed) ≡ kind_at t a →
            shown_in t text a (value_of (map_comparison (bits_on values count) x)).bits ≡
            held_shown text (value_of (map_comparison (held_on values count) x)).held
        value (IsEq v) h = shown-same a (held_by values count v.placed) h
        value (IsLower c v) h = shown-same a (held_by values count v.placed) h
        value (IsUpper c v) h = shown-same a (held_by values count v.placed) h
        value (IsNotEq v) h = shown-same a (held_by values count v.placed) h

        line : (x : ColumnComparison LinedPlace) →
            (value_of (map_comparison (bits_on values count) x)).line ≡ (value_of (map_comparison (held_on values count) x)).line
        line (IsEq v) = refl
        line (IsLower c v) = refl
        line (IsUpper c v) = refl
        line (IsNotEq v) = refl

    pub reasons_same : (cs : List (ℕ × ColumnComparison LinedPlace)) →
        Each (λ (x : ℕ × ColumnComparison LinedPlace). is_symbol (held_by values count (value_of x.1).placed) ≡ kind_at t x.0) cs →
        map (reason_of (shown_in t text)) (map_comparisons (bits_on values count) cs) ≡
        map (held_reason text) (map_comparisons (held_on values count) cs)
    reasons_same [] h = refl
    reasons_same (x ∷ cs) h =
        λ i. reason_same x.0 x.1 (h x (inl refl)) i ∷ reasons_same cs (λ y j. h y (inr j)) i
