-- The conjuncts of the screen of ranks, read of its bytes. Assumes nothing.
use mathlib.Core.Path.{◌≡◌, refl, sym, ◌∙◌, ap, subst, fun_ext}
use mathlib.Core.Bool.{Bool, true, false, cond, not, ◌&&◌}
use mathlib.Core.List.{List, [], ◌∷◌, map}
use Prim.Native.Nat.{ℕ, ◌≤◌, ◌<◌}
use native.Mathlib.Omega.{arith}
use lib.Dec.{ltb, leb}
use lib.ListN.{length, get_or}
use borrow.Author.Tests.{ltb-true, lt-ltb, leb-true}
use Rattle.records.specs.Record.{node, record_at}
use Rattle.records.specs.declared.record.Record.{Record}
use Rattle.records.specs.declared.record.Record.TheVariants as kind
use Rattle.records.proofs.Laws.{and_left}
use Rattle.record_check.specs.Fit.{reach_ok_in}
use Rattle.checking.specs.Check.{table_ok_in, types_known_in}
use Rattle.checking.specs.Checked.{CheckedIn}
use Rattle.truth.specs.AExpr.{AExpr, Missing, Inputs, WF, map_aexpr}
use Rattle.truth.specs.FromBytes.{to_aexpr, aexpr_of, aexpr_at}
use Rattle.merge.specs.Minterms.{and_sides, minterms}
use Rattle.merge.specs.Classify.{Operand, AColumn, ALiteral, AList, Other, operand, classify, read_conjuncts}
use Rattle.merge.proofs.Accepted.{binary-ind}
use Rattle.merge.proofs.Chains.{Below}
use Rattle.merge.proofs.Classified.{classify-same}
use Rattle.merge.proofs.Forms.{Forms, classify-ind}
use Rattle.merge.proofs.ReadMapped.{minterms-mapped}
use Rattle.read_operands.specs.Walk.{walked, first_of, record_sides}
use Rattle.read_operands.proofs.Walks.{walked-minterms}
use Rattle.reading.specs.Columns.{ColumnsBelow}
use Rattle.symbol_ranks.proofs.SameComparisons.{standing_or_not}
use Rattle.symbol_screens.specs.Placed.{number, placed_aexpr, placed_at, place_count}
use Rattle.symbol_screens.specs.Rewriting.{lent}
use Rattle.symbol_screens.proofs.Ranked.{ranked_at}
use Rattle.ranked_screen.specs.Screen.{RanksOf}
use Rattle.ranked_reading.proofs.Walking.{mapped_sides, mapped_inputs, record_inputs, sides_walk}
use Rattle.ranked_reading.proofs.Walking.{minterms-below, nodes_below}

-- ---- Records told by places: as sent, but for the values.
placed-sides : (used : ℕ) (p : List ℕ) (n : ℕ) (r : Record) → and_sides (placed_aexpr used p n r) ≡ record_sides r
placed-sides used p n kind.Invalid = refl
placed-sides used p n (kind.Column c) = refl
placed-sides used p n (kind.Literal ty v) = refl
placed-sides used p n (kind.Null ty) = refl
placed-sides used p n (kind.Binary o x y) = mapped_sides number (to_aexpr p (kind.Binary o x y))
placed-sides used p n (kind.Not x) = refl
placed-sides used p n (kind.IsNull x) = refl
placed-sides used p n (kind.IsNotNull x) = refl
placed-sides used p n (kind.IsBetween ends x low high) = refl
placed-sides used p n (kind.List ty holds_null start count) = refl
placed-sides used p n (kind.IsIn nulls_equal x list) = refl

placed-inputs : (used : ℕ) (p : List ℕ) (n : ℕ) (r : Record) → Inputs n (to_aexpr p r) → Inputs n (placed_aexpr used p n r)
placed-inputs used p n kind.Invalid h = h
placed-inputs used p n (kind.Column c) h = h
placed-inputs used p n (kind.Literal ty v) h = h
placed-inputs used p n (kind.Null ty) h = h
placed-inputs used p n (kind.Binary o x y) h = mapped_inputs number n (to_aexpr p (kind.Binary o x y)) h
placed-inputs used p n (kind.Not x) h = h
placed-inputs used p n (kind.IsNull x) h = h
placed-inputs used p n (kind.IsNotNull x) h = h
placed-inputs used p n (kind.IsBetween ends x low high) h = h
placed-inputs used p n (kind.List ty holds_null start count) h = h
placed-inputs used p n (kind.IsIn nulls_equal x list) h = h

-- ---- Columns.
abbrev OperandBelow : Operand ℕ → Type 0
OperandBelow (AColumn c) = c < 64
OperandBelow (ALiteral v) = Unit {0}
OperandBelow (AList l) = Unit {0}
OperandBelow Other = Unit {0}

column-forms : Forms OperandBelow (ColumnsBelow 64)
column-forms =
    record {
      opaque = λ n. tt;
      entered = λ n c h. h;
      compared = λ c o v h k. h;
      normalized = λ c o v h k. h;
      between = λ c i j v w h k l. h;
      equal = λ a b n h k. (h, k);
      paired = λ n a b h k. (h, k);
      recorded = λ z n c x o h. h;
    }

module _ (f : Bool × ℕ → ℕ) (text : ℕ) (t : List ℕ) (few : length t ≤ 64) (used : ℕ) (p : List ℕ) (n : ℕ) where
  placed-operand : (r : Record) → reach_ok_in text t p r (node n) ≡ true
      → OperandBelow (operand (map_aexpr f (placed_aexpr used p n r)))
  unfolding reach_ok_in
  placed-operand kind.Invalid h = tt
  placed-operand (kind.Column c) h = let k = ltb-true c.0 (length t) h in omega arith
  placed-operand (kind.Literal ty v) h = tt
  placed-operand (kind.Null ty) h = tt
  placed-operand (kind.Binary o x y) h =
      binary-ind (λ e. OperandBelow (operand (map_aexpr f (map_aexpr number e)))) x.0 y.0 tt (tt, tt) o (λ e c. tt)
      (λ e. (tt, tt)) (λ e d b. tt)
  placed-operand (kind.Not x) h = tt
  placed-operand (kind.IsNull x) h = tt
  placed-operand (kind.IsNotNull x) h = tt
  placed-operand (kind.IsBetween ends x low high) h = tt
  placed-operand (kind.List ty holds_null start count) h = go _ holds_null _
    where
      go : (l : List ℕ) (m b : Bool) → OperandBelow (cond (not m && b) (AList l) Other)
      go l true b = tt
      go l false true = tt
      go l false false = tt
  placed-operand (kind.IsIn nulls_equal x list) h = tt

-- ---- The screen of ranks of a checked screen.
module _ (text t rs p : List ℕ) (used root : ℕ) (ok : CheckedIn (lent text) t rs p used root) (values ranks src pool : List ℕ)
    (of : RanksOf text rs p used values ranks src pool) where
  abbrev ranked : ℕ → AExpr ℕ
  ranked n = ranked_at rs p used ranks (place_count p used) n

  reach : (n : ℕ) → n < used → reach_ok_in (lent text) t p (record_at rs (node n)) (node n) ≡ true
  reach n h = (ok.records n h).reach

  -- The used records of `src` are those of ranks, and behind them there is none.
  pub ranked-read : (n : ℕ) → aexpr_at src pool used n ≡ ranked n
  unfolding aexpr_at placed_at
  ranked-read n = go (ltb n used) refl
    where
      go : (b : Bool) → ltb n used ≡ b → cond b (aexpr_of src pool n) Missing
          ≡ map_aexpr (standing_or_not ranks (place_count p used)) (cond b (placed_aexpr used p n (record_at rs (node n))) Missing)
      go true e =
          of.reads n (ltb-true n used e)
          ∙ ap (λ b. map_aexpr (standing_or_not ranks (place_count p used)) (cond b (placed_aexpr used p n (record_at rs (node n))) Missing)) e
      go false e = refl

  pub ranked-falls : WF ranked
  unfolding placed_at
  ranked-falls n = go (ltb n used) refl
    where
      go : (b : Bool) → ltb n used ≡ b
          → Inputs n (map_aexpr (standing_or_not ranks (place_count p used)) (cond b (placed_aexpr used p n (record_at rs (node n))) Missing))
      go true e =
          mapped_inputs (standing_or_not ranks (place_count p used)) n (placed_aexpr used p n (record_at rs (node n)))
          (placed-inputs used p n (record_at rs (node n))
          (record_inputs (lent text) t p p n (record_at rs (node n)) (reach n (ltb-true n used e))))
      go false e = tt

  pub ranked-walked : minterms ranked root ≡ minterms (walked rs) root
  unfolding placed_at
  ranked-walked =
      minterms-mapped (standing_or_not ranks (place_count p used)) (placed_at rs p used) root
      ∙ sides_walk (placed_at rs p used) rs used
      (λ n h. rw (lt-ltb n used h) (placed-sides used p n (record_at rs (node n)))) root ok.root-used

  -- The walk over the records of ranks is that over the records sent.
  pub walked_same : minterms (walked src) root ≡ minterms (walked rs) root
  walked_same =
      walked-minterms src pool used root ok.root-used
      ∙ ap (λ (R : ℕ → AExpr ℕ). minterms R root) (fun_ext ranked-read)
      ∙ ranked-walked

  -- What is read of one conjunct.
  pub ranked-classify : (n : ℕ) → n < used → classify (aexpr_of src pool) n ≡ classify ranked n
  ranked-classify n h = classify-same ranked (aexpr_of src pool) used of.reads n h ranked-falls

  -- Its columns lie in the table, which has at most 64.
  read-columns : (n : ℕ) → n < used → ColumnsBelow 64 (classify (aexpr_of src pool) n)
  unfolding placed_at table_ok_in
  read-columns n h =
      subst (ColumnsBelow 64) (sym (ranked-classify n h))
      (classify-ind OperandBelow (ColumnsBelow 64) column-forms ranked (λ x. go x (ltb x used) refl) n)
    where
      few : length t ≤ 64
      few = leb-true (length t) 64 (and_left (leb (length t) 64) (types_known_in (lent text) t) ok.table)

      go : (x : ℕ) (b : Bool) → ltb x used ≡ b → OperandBelow (operand (map_aexpr (standing_or_not ranks (place_count p used))
          (cond b (placed_aexpr used p x (record_at rs (node x))) Missing)))
      go x true e =
          placed-operand (standing_or_not ranks (place_count p used)) (lent text) t few used p x (record_at rs (node x))
          (reach x (ltb-true x used e))
      go x false e = tt

  pub ranked-columns : (n : ℕ) → n < used → ColumnsBelow 64 (classify (aexpr_of src pool) n)
  ranked-columns n h = read-columns n h

  -- The conjuncts of the screen of ranks are those read of its bytes, at the nodes that the walk over the records sent finds.
  pub ranked-conjuncts : read_conjuncts ranked root ≡ map (classify (aexpr_of src pool)) (minterms (walked rs) root)
  ranked-conjuncts =
      ap (map (classify ranked)) ranked-walked
      ∙ all (minterms (walked rs) root) (minterms-below (lent text) t rs p used root ok)
    where
      all : (ns : List ℕ) → Below used ns → map (classify ranked) ns ≡ map (classify (aexpr_of src pool)) ns
      all [] h = refl
      all (n ∷ ns) h = λ i. sym (ranked-classify n h.0) i ∷ all ns h.1 i

  -- The same of the conjuncts in an array.
  pub node-columns : (nodes : List ℕ) (n : ℕ) → first_of nodes n ≡ minterms (walked rs) root → (i : ℕ) → i < n
      → ColumnsBelow 64 (classify (aexpr_of src pool) (get_or nodes i 0))
  node-columns nodes n are i h =
      read-columns (get_or nodes i 0) (nodes_below (lent text) t rs p used root ok nodes n are i h)
