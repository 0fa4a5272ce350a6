-- The literals that a merging of ranks stands for. One outcome, told by places with their lines, is taken to the merging of the
-- ranks, which the code computes, and to that of the symbols; each of its values is a literal of the conjunct that gave it.
use mathlib.Core.Path.{◌≡◌, refl, sym, ◌∙◌, ap, subst, fun_ext}
use mathlib.Core.Bool.{Bool, true, false, cond}
use mathlib.Core.List.{List, [], ◌∷◌, map}
use Prim.Native.Nat.{ℕ, suc, ◌≤◌, ◌<◌}
use lib.Dec.{ltb, eqb}
use lib.IntN.{ℤ}
use lib.ListN.{length, get_or}
use Rattle.records.specs.Record.{record_at, node}
use Rattle.records.specs.declared.record.Record.{Record}
use Rattle.checking.specs.Checked.{CheckedIn}
use Rattle.truth.specs.AExpr.{AExpr, Column, Literal, Null, BinaryExpr, Not, IsNull, IsNotNull, IsBetween, ListLiteral, IsIn}
use Rattle.truth.specs.AExpr.{Missing, map_aexpr}
use Rattle.truth.specs.FromBytes.{to_aexpr, aexpr_of, aexpr_at}
use Rattle.constraints.specs.Scalars.{Scalars}
use Rattle.constraints.specs.Column.{Constraint, Lower, Upper, Exclude, Allow, Disallow, Require}
use Rattle.constraints.specs.Comparisons.{ColumnComparison}
use Rattle.constraints.specs.Lined.{Lined, on_line, lined}
use Rattle.constraints.specs.LineKept.{ExcludedValue}
use Rattle.constraints.specs.Mapped.{map_constraint}
use Rattle.constraints.specs.Payload.{payload}
use Rattle.constraints.proofs.Carried.{Carries, along}
use Rattle.constraints.proofs.LineKept.{Each}
use Rattle.constraints.proofs.SameWithin.{SameWithin, ValuesHave, ConstraintHas, ConstraintsHave}
use Rattle.merge.specs.Classify.{Conjunct, Bounds, Normalized, Equality, Recorded, NonNullPair, Opaque, read_conjuncts}
use Rattle.merge.specs.Emit.{Outcome, merge_filter_constraints}
use Rattle.merge.specs.LineBehind.{limit_of}
use Rattle.merge.specs.Lines.{map_conjunct, map_outcome, lines_from}
use Rattle.merge.specs.Rebuild.{comparison_of, value_of}
use Rattle.merge.proofs.Carried.{merge_carried}
use Rattle.merge.proofs.ReadMapped.{read_mapped}
use Rattle.merge.proofs.SameWithin.{ConjunctHas, ConjunctsHave, merge_within}
use Rattle.symbol_ranks.specs.Ranks.{Ranked, Pooled}
use Rattle.symbol_ranks.proofs.SameComparisons.{standing_or_not, ranks_carry_all}
use Rattle.symbol_screens.specs.Held.{Held, Symbol, Number, held, bits_of, holding}
use Rattle.symbol_screens.specs.Reading.{value_type, held_aexpr, held_at}
use Rattle.symbol_screens.specs.Rewriting.{lent}
use Rattle.symbol_screens.specs.Placed.{Placed, placed_at, place_count, Standing}
use Rattle.symbol_screens.proofs.ColumnKinds.{is_symbol, kind_at}
use Rattle.symbol_screens.proofs.Places.{held_by}
use Rattle.symbol_screens.proofs.Ranked.{symbols-carry, alike, ranked_at, reading, places-have}
use Rattle.symbol_reasons.proofs.Carried.{conjunct-same}
use Rattle.symbol_reasons.specs.Lined.{LinedHeld, held_on_line, holding_lined, held_lines_from, lined_outcome_with}
use Rattle.symbol_sources.specs.Sources.{LinedPlace, place_on_line, opened_place, places_from, GivenIn, comparisons_of}
use Rattle.symbol_sources.proofs.Limits.{given-taken}
use Rattle.symbol_sources.proofs.Known.{places_by, written_known}

-- What a place with its lines is taken to: its rank, or what stands there.
abbrev pub rank_on : List ℕ → ℕ → LinedPlace → Lined
rank_on ranks count v = record { bits = standing_or_not ranks count v.placed; line = v.line; opener = v.opener }

abbrev pub held_on : List ℕ → ℕ → LinedPlace → LinedHeld
held_on values count v = held_on_line v.line (held_by values count v.placed)

-- ---- lines of places
lined-ranks : (ranks : List ℕ) (count i : ℕ) (l : List (Conjunct Placed)) →
    lines_from i (map (map_conjunct (standing_or_not ranks count)) l) ≡ map (map_conjunct (rank_on ranks count)) (places_from i l)
unfolding lines_from places_from
lined-ranks ranks count i [] = refl
lined-ranks ranks count i (x ∷ l) =
    λ j. conjunct-same (on_line i) (standing_or_not ranks count) (rank_on ranks count) (place_on_line i) (λ v. refl) x j
    ∷ lined-ranks ranks count (suc i) l j

lined-held : (values : List ℕ) (count i : ℕ) (l : List (Conjunct Placed)) →
    held_lines_from i (map (map_conjunct (held_by values count)) l) ≡ map (map_conjunct (held_on values count)) (places_from i l)
unfolding held_lines_from places_from
lined-held values count i [] = refl
lined-held values count i (x ∷ l) =
    λ j. conjunct-same (held_on_line i) (held_by values count) (held_on values count) (place_on_line i) (λ v. refl) x j
    ∷ lined-held values count (suc i) l j

-- ---- kinds of places with their lines
module _ {T : Type 0} (kind : Placed → T) (at : ℕ → T) where
  abbrev kind_on : LinedPlace → T
  kind_on v = kind v.placed

  values-on : (i : ℕ) (k : T) (l : List Placed) → ValuesHave kind k l → ValuesHave kind_on k (map (place_on_line i) l)
  values-on i k [] h = tt
  values-on i k (v ∷ l) h = (h.0, values-on i k l h.1)

  constraint-on : (i : ℕ) (k : T) (a : Constraint Placed) → ConstraintHas kind k a →
      ConstraintHas kind_on k (map_constraint (place_on_line i) a)
  constraint-on i k (Lower c v) h = h
  constraint-on i k (Upper c v) h = h
  constraint-on i k (Exclude v) h = h
  constraint-on i k (Allow l) h = values-on i k l h
  constraint-on i k (Disallow c l) h = values-on i k l h
  constraint-on i k (Require n) h = tt

  constraints-on : (i : ℕ) (k : T) (l : List (Constraint Placed)) → ConstraintsHave kind k l →
      ConstraintsHave kind_on k (map (map_constraint (place_on_line i)) l)
  constraints-on i k [] h = tt
  constraints-on i k (a ∷ l) h = (constraint-on i k a h.0, constraints-on i k l h.1)

  conjunct-on : (i : ℕ) (x : Conjunct Placed) → ConjunctHas kind at x → ConjunctHas kind_on at (map_conjunct (place_on_line i) x)
  conjunct-on i (Bounds c l) h = constraints-on i (at c) l h
  conjunct-on i (Normalized c l) h = constraints-on i (at c) l h
  conjunct-on i (Equality a b n) h = h
  conjunct-on i (Recorded stops n c l) h = constraints-on i (at c) l h
  conjunct-on i (NonNullPair n a b) h = tt
  conjunct-on i (Opaque n) h = tt

  conjuncts-on : (i : ℕ) (l : List (Conjunct Placed)) → ConjunctsHave kind at l → ConjunctsHave kind_on at (places_from i l)
  unfolding places_from
  conjuncts-on i [] h = tt
  conjuncts-on i (x ∷ l) h = (conjunct-on i x h.0, conjuncts-on (suc i) l h.1)

-- ---- the bits of what is held are the bits that stand in the records
held-bits : (ty v : ℕ) → bits_of (held ty v) ≡ v
held-bits ty v = go (eqb ty 4)
  where
    go : (b : Bool) → bits_of (cond b (Symbol v) (Number v)) ≡ v
    go true = refl
    go false = refl

all_bits : (ty : ℕ) (l : List ℕ) → map bits_of (map (held ty) l) ≡ l
all_bits ty [] = refl
all_bits ty (v ∷ l) = λ i. held-bits ty v i ∷ all_bits ty l i

expression_bits : (ty : ℕ) (e : AExpr ℕ) → map_aexpr bits_of (map_aexpr (held ty) e) ≡ e
expression_bits ty (Column c) = refl
expression_bits ty (Literal v) = ap Literal (held-bits ty v)
expression_bits ty Null = refl
expression_bits ty (BinaryExpr op left right) = refl
expression_bits ty (Not a) = refl
expression_bits ty (IsNull a) = refl
expression_bits ty (IsNotNull a) = refl
expression_bits ty (IsBetween low_closed high_closed a low high) = refl
expression_bits ty (ListLiteral holds_null l) = ap (ListLiteral holds_null) (all_bits ty l)
expression_bits ty (IsIn nulls_equal a list) = refl
expression_bits ty Missing = refl

bits-read : (rs p : List ℕ) (used n : ℕ) → map_aexpr bits_of (held_at rs p used n) ≡ aexpr_at rs p used n
unfolding held_at aexpr_at aexpr_of
bits-read rs p used n = go (ltb n used) (record_at rs (node n))
  where
    go : (b : Bool) (r : Record) → map_aexpr bits_of (cond b (held_aexpr p r) Missing) ≡ cond b (to_aexpr p r) Missing
    go true r = expression_bits (value_type r) (to_aexpr p r)
    go false r = refl

pub bits-conjuncts : (rs p : List ℕ) (used root : ℕ) →
    map (map_conjunct bits_of) (read_conjuncts (held_at rs p used) root) ≡ read_conjuncts (aexpr_at rs p used) root
bits-conjuncts rs p used root =
    sym (read_mapped bits_of (held_at rs p used) root)
    ∙ ap (λ (R : ℕ → AExpr ℕ). read_conjuncts R root) (fun_ext (bits-read rs p used))

-- ---- A checked screen.
module _ (text t rs p : List ℕ) (used root : ℕ) (ok : CheckedIn (lent text) t rs p used root) (values ranks : List ℕ)
    (st : Standing (length text) rs p used values) (count : ℕ) (enough : place_count p used ≤ count) where
  abbrev by : Placed → Held
  by v = held_by values count v

  abbrev sent : List (Conjunct Placed)
  sent = read_conjuncts (placed_at rs p used) root

  abbrev symbols-on : Carries (holding_lined text) (held_on values count)
  unfolding holding_lined
  symbols-on = record { opened = opened_place; opened-key = λ bound excluded. refl; opens = λ bound excluded. refl }

  abbrev ranks_on : Carries lined (rank_on ranks count)
  unfolding lined
  ranks_on = record { opened = opened_place; opened-key = λ bound excluded. refl; opens = λ bound excluded. refl }

  -- What is written of a column, the comparison told by places: of the column's kind, and its 64 bits stand in the records sent,
  -- in the conjunct that gave it.
  abbrev pub Sourced : (ℕ × ColumnComparison LinedPlace) → Type 0
  Sourced x =
      (is_symbol (by (value_of x.1).placed) ≡ kind_at t x.0)
      × GivenIn (read_conjuncts (aexpr_at rs p used) root) (limit_of (comparison_of x.1)) (value_of x.1).line
      (value_of x.1).opener (bits_of (by (value_of x.1).placed))
      × (limit_of (comparison_of x.1) ≡ ExcludedValue → (value_of x.1).opener ≡ 0)

  -- Places with their lines, compared by their ranks.
  abbrev by_rank : Scalars ℤ LinedPlace
  by_rank = places_by (along (ranks_carry_all ranks count))

  ranks_along : along ranks_on ≡ by_rank
  unfolding lined payload
  ranks_along = refl

  -- One outcome, told by places.
  abbrev pub merged : Outcome LinedPlace
  merged = merge_filter_constraints by_rank (places_from 0 sent)

  pub ranks_merged : merge_filter_constraints lined (lines_from 0 (read_conjuncts (ranked_at rs p used ranks count) root)) ≡
      map_outcome (rank_on ranks count) merged
  ranks_merged =
      ap (λ l. merge_filter_constraints lined (lines_from 0 l)) (read_mapped (standing_or_not ranks count) (placed_at rs p used) root)
      ∙ ap (merge_filter_constraints lined) (lined-ranks ranks count 0 sent)
      ∙ sym (merge_carried lined (rank_on ranks count) ranks_on (places_from 0 sent))
      ∙ ap (λ (S : Scalars ℤ LinedPlace). map_outcome (rank_on ranks count) (merge_filter_constraints S (places_from 0 sent))) ranks_along

  read : map (map_conjunct bits_of) (map (map_conjunct by) sent) ≡ read_conjuncts (aexpr_at rs p used) root
  read =
      ap (map (map_conjunct bits_of)) (sym (reading text t rs p used root ok values ranks st count enough))
      ∙ bits-conjuncts rs p used root

  pub sources : Each Sourced (comparisons_of merged)
  sources x i =
      let h = written_known (along (ranks_carry_all ranks count)) sent (λ v. is_symbol (by v)) (kind_at t)
      (places-have text t rs p used root ok values ranks st count enough) x i in (
        h.0,
        subst (λ l. GivenIn l (limit_of (comparison_of x.1)) (value_of x.1).line (value_of x.1).opener
            (bits_of (by (value_of x.1).placed))) read
            (given-taken bits_of (map (map_conjunct by) sent) (limit_of (comparison_of x.1)) (value_of x.1).line
            (value_of x.1).opener (by (value_of x.1).placed)
            (given-taken by sent (limit_of (comparison_of x.1)) (value_of x.1).line (value_of x.1).opener
            (value_of x.1).placed h.1)),
        h.2,
      )

  -- The merging of the symbols, where the text pool is of bytes.
  module _ (bytes : (q : ℕ) → get_or text q 0 < 256) (pooled : Pooled text values count) (small : count ≤ 9223372036854775808)
      (ranked : Ranked text values count ranks) where
    within : SameWithin (λ (v : LinedPlace). is_symbol (by v.placed)) (along symbols-on) (along ranks_on)
    unfolding holding holding_lined lined payload
    within =
        record {
          compares = λ a b e. (alike text values ranks count bytes pooled small ranked).compares a.placed b.placed e;
          opens = λ bound excluded. refl;
          opened-kind = λ bound excluded. refl;
        }

    pub symbols-merged : lined_outcome_with text rs p used root ≡ map_outcome (held_on values count) merged
    symbols-merged =
        ap (λ l. merge_filter_constraints (holding_lined text) (held_lines_from 0 l))
        (reading text t rs p used root ok values ranks st count enough)
        ∙ ap (merge_filter_constraints (holding_lined text)) (lined-held values count 0 sent)
        ∙ sym (merge_carried (holding_lined text) (held_on values count) symbols-on (places_from 0 sent))
        ∙ ap (map_outcome (held_on values count)) (merge_within within (kind_at t) (places_from 0 sent)
        (conjuncts-on (λ v. is_symbol (by v)) (kind_at t) 0 sent
        (places-have text t rs p used root ok values ranks st count enough))
        ∙ ap (λ (S : Scalars ℤ LinedPlace). merge_filter_constraints S (places_from 0 sent)) ranks_along)
