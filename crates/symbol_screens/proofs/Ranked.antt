-- A checked screen with symbols is merged as the screen of their ranks: one outcome, told by places, is taken to what is
-- merged of either, and as many passes are made. So the merging needs no comparison of symbols.
use mathlib.Core.Path.{◌≡◌, refl, sym, ◌∙◌, ap, subst, fun_ext}
use mathlib.Core.Bool.{Bool, true, false, cond, true≢false}
use mathlib.Core.List.{List, [], ◌∷◌, map}
use Prim.Native.Nat.{ℕ, suc, ◌≤◌, ◌<◌}
use lib.IntN.{ℤ}
use lib.ListN.{length, get_or}
use Rattle.checking.specs.Checked.{CheckedIn}
use Rattle.truth.specs.Halves.{ord_z, key}
use Rattle.truth.specs.AExpr.{AExpr, map_aexpr}
use Rattle.constraints.specs.Payload.{payload}
use Rattle.constraints.specs.Column.{Constraint, Lower, Upper, Exclude, Allow, Disallow, Require}
use Rattle.constraints.specs.Mapped.{map_constraint}
use Rattle.constraints.proofs.Carried.{Carries, along}
use Rattle.constraints.proofs.SameWithin.{SameWithin, ValuesHave, ConstraintHas, ConstraintsHave}
use Rattle.merge.specs.Classify.{Conjunct, Bounds, Normalized, Equality, Recorded, NonNullPair, Opaque, read_conjuncts}
use Rattle.merge.specs.Emit.{Outcome, merge_filter_constraints}
use Rattle.merge.specs.Lines.{map_conjunct, map_outcome}
use Rattle.merge.specs.Passes.{merge_passes}
use Rattle.merge.proofs.ReadMapped.{read_mapped}
use Rattle.merge.proofs.SameWithin.{ConjunctHas, ConjunctsHave, translated_within}
use Rattle.merge.proofs.Translated.{Translated}
use Rattle.symbol_ranks.specs.Ranks.{Ranked, Pooled}
use Rattle.symbol_ranks.proofs.SameComparisons.{standing_or_not, ranks_carry_all, ranks_opened, places-compare}
use Rattle.symbol_screens.specs.Held.{Held, Symbol, Number, bits_of, holding}
use Rattle.symbol_screens.specs.Reading.{held_at}
use Rattle.symbol_screens.specs.Rewriting.{lent, outcome_with, rewrite_passes_with}
use Rattle.symbol_screens.specs.Placed.{Placed, placed_at, place_count, Standing}
use Rattle.symbol_screens.proofs.ColumnKinds.{is_symbol, kind_at, conjuncts-have}
use Rattle.symbol_screens.proofs.Places.{held_by, held-placed}

-- ---- Kinds of values that are taken to others.
module _ {A B T : Type 0} (kind : B → T) (f : A → B) where
  values-back : (k : T) (l : List A) → ValuesHave kind k (map f l) → ValuesHave (λ a. kind (f a)) k l
  values-back k [] h = tt
  values-back k (v ∷ l) h = (h.0, values-back k l h.1)

  constraint-back : (k : T) (c : Constraint A) → ConstraintHas kind k (map_constraint f c) → ConstraintHas (λ a. kind (f a)) k c
  constraint-back k (Lower inclusive v) h = h
  constraint-back k (Upper inclusive v) h = h
  constraint-back k (Exclude v) h = h
  constraint-back k (Allow l) h = values-back k l h
  constraint-back k (Disallow counts l) h = values-back k l h
  constraint-back k (Require n) h = tt

  constraints-back : (k : T) (l : List (Constraint A)) → ConstraintsHave kind k (map (map_constraint f) l) →
      ConstraintsHave (λ a. kind (f a)) k l
  constraints-back k [] h = tt
  constraints-back k (c ∷ l) h = (constraint-back k c h.0, constraints-back k l h.1)

  module _ (at : ℕ → T) where
    conjunct-back : (c : Conjunct A) → ConjunctHas kind at (map_conjunct f c) → ConjunctHas (λ a. kind (f a)) at c
    conjunct-back (Bounds c l) h = constraints-back (at c) l h
    conjunct-back (Normalized c l) h = constraints-back (at c) l h
    conjunct-back (Equality a b n) h = h
    conjunct-back (Recorded stops n c l) h = constraints-back (at c) l h
    conjunct-back (NonNullPair n a b) h = tt
    conjunct-back (Opaque n) h = tt

    conjuncts-back : (l : List (Conjunct A)) → ConjunctsHave kind at (map (map_conjunct f) l) →
        ConjunctsHave (λ a. kind (f a)) at l
    conjuncts-back [] h = tt
    conjuncts-back (c ∷ l) h = (conjunct-back c h.0, conjuncts-back l h.1)

-- ---- Places by their symbols, and by their ranks.
module _ (text values ranks : List ℕ) (n : ℕ) where
  abbrev pub symbols-carry : Carries (holding text) (held_by values n)
  unfolding holding
  symbols-carry =
      record {
        opened = λ bound excluded. excluded;
        opened-key = λ bound excluded. refl;
        opens = λ bound excluded. refl;
      }

  symbols_opened : (bound excluded : Placed) → (along symbols-carry).opened bound excluded ≡ excluded
  unfolding symbols-carry
  symbols_opened bound excluded = refl

  both_opened : (bound excluded : Placed) →
      (along symbols-carry).opened bound excluded ≡ (along (ranks_carry_all ranks n)).opened bound excluded
  both_opened bound excluded = symbols_opened bound excluded ∙ sym (ranks_opened ranks n bound excluded)

  pub alike : ((q : ℕ) → get_or text q 0 < 256) → Pooled text values n → n ≤ 9223372036854775808 → Ranked text values n ranks →
      SameWithin (λ (v : Placed). is_symbol (held_by values n v)) (along symbols-carry) (along (ranks_carry_all ranks n))
  unfolding holding payload
  alike bytes pooled small ranked =
      record {
        compares = λ a b e. go a.0 b.0 a.1 b.1 e;
        opens = both_opened;
        opened-kind = λ bound excluded. refl;
      }
    where
      go : (s u : Bool) (i j : ℕ) → is_symbol (held_by values n (s, i)) ≡ is_symbol (held_by values n (u, j)) →
          ord_z.cmp ((holding text).key (held_by values n (s, i))) ((holding text).key (held_by values n (u, j))) ≡
          ord_z.cmp (key (standing_or_not ranks n (s, i))) (key (standing_or_not ranks n (u, j)))
      go true true i j e = places-compare bytes n pooled small ranked i j
      go true false i j e = absurd (true≢false e)
      go false true i j e = absurd (true≢false (sym e))
      go false false i j e = refl

-- The screen of ranks; `count` places have one, those of a row among them.
abbrev pub ranked_at : List ℕ → List ℕ → ℕ → List ℕ → ℕ → ℕ → AExpr ℕ
ranked_at rs p used ranks count m = map_aexpr (standing_or_not ranks count) (placed_at rs p used m)

-- ---- A checked screen.
module _ (text t rs p : List ℕ) (used root : ℕ) (ok : CheckedIn (lent text) t rs p used root) (values ranks : List ℕ)
    (st : Standing (length text) rs p used values) (count : ℕ) (enough : place_count p used ≤ count) where
  abbrev by : Placed → Held
  by v = held_by values count v

  pub reading : read_conjuncts (held_at rs p used) root ≡ map (map_conjunct by) (read_conjuncts (placed_at rs p used) root)
  reading =
      ap (λ (R : ℕ → AExpr Held). read_conjuncts R root)
      (fun_ext (held-placed (length text) t rs p used root ok values st count enough))
      ∙ read_mapped by (placed_at rs p used) root

  pub places-have : ConjunctsHave (λ (v : Placed). is_symbol (by v)) (kind_at t) (read_conjuncts (placed_at rs p used) root)
  places-have =
      conjuncts-back is_symbol by (kind_at t) (read_conjuncts (placed_at rs p used) root)
      (subst (ConjunctsHave is_symbol (kind_at t)) reading (conjuncts-have (lent text) t rs p used root ok))

  -- one outcome, told by places: its literals are those of the symbols' screen by what stands there, and those of the
  -- ranks' screen by the ranks
  pub record RankedAlike : Type 0 where
    pub outcome : Outcome Placed
    pub symbols : outcome_with text rs p used root ≡ map_outcome bits_of (map_outcome by outcome)
    pub ranks_merged : merge_filter_constraints payload (read_conjuncts (ranked_at rs p used ranks count) root) ≡
        map_outcome (standing_or_not ranks count) outcome
    pub passes : rewrite_passes_with text rs p used root ≡ merge_passes payload (read_conjuncts (ranked_at rs p used ranks count) root)

  pub ranked-alike : ((q : ℕ) → get_or text q 0 < 256) → Pooled text values count → count ≤ 9223372036854775808 →
      Ranked text values count ranks → RankedAlike
  unfolding rewrite_passes_with
  ranked-alike bytes pooled small ranked =
      record {
        outcome = both.outcome;
        symbols = ap (λ l. map_outcome bits_of (merge_filter_constraints (holding text) l)) reading ∙
            ap (map_outcome bits_of) both.left;
        ranks_merged = ap (merge_filter_constraints payload) numbers ∙ both.right;
        passes = ap (merge_passes (holding text)) reading ∙ both.passes ∙ sym (ap (merge_passes payload) numbers);
      }
    where
      l : List (Conjunct Placed)
      l = read_conjuncts (placed_at rs p used) root

      numbers : read_conjuncts (ranked_at rs p used ranks count) root ≡ map (map_conjunct (standing_or_not ranks count)) l
      numbers = read_mapped (standing_or_not ranks count) (placed_at rs p used) root

      both : Translated (holding text) payload by (standing_or_not ranks count) l
      both =
          translated_within (symbols-carry text values ranks count) (ranks_carry_all ranks count)
          (alike text values ranks count bytes pooled small ranked) (kind_at t) l places-have
