-- The merging of what is read of the screen of ranks is that of the symbols; and what the records sent hold are the
-- symbols' bits. Assumes nothing.
use mathlib.Core.Path.{◌≡◌, refl, sym, ◌∙◌, ap, fun_ext}
use mathlib.Core.Bool.{Bool, true, false, cond}
use mathlib.Core.List.{List, [], ◌∷◌, map}
use Prim.Native.Nat.{ℕ, ◌<◌}
use native.Mathlib.Omega.{arith}
use lib.Dec.{ltb, eqb}
use lib.ListN.{get_or}
use Rattle.records.specs.Record.{node, record_at}
use Rattle.checking.specs.Checked.{CheckedIn}
use Rattle.truth.specs.AExpr.{AExpr, Column, Literal, Null, BinaryExpr, Not, IsNull, IsNotNull, IsBetween, ListLiteral, IsIn, Missing}
use Rattle.truth.specs.AExpr.{map_aexpr}
use Rattle.truth.specs.FromBytes.{to_aexpr, aexpr_of, aexpr_at}
use Rattle.truth.proofs.Agree.{used-same}
use Rattle.constraints.specs.Payload.{payload}
use Rattle.merge.specs.Minterms.{minterms}
use Rattle.merge.specs.Classify.{classify, read_conjuncts}
use Rattle.merge.specs.Emit.{merge_filter_constraints}
use Rattle.merge.specs.Lines.{map_conjunct, map_outcome}
use Rattle.merge.proofs.Chains.{Below}
use Rattle.merge.proofs.Classified.{classify-same}
use Rattle.merge.proofs.ReadMapped.{read_mapped}
use Rattle.read_operands.specs.Walk.{walked}
use Rattle.read_operands.proofs.Walks.{walked-minterms}
use Rattle.symbol_ranks.proofs.SameComparisons.{standing_or_not}
use Rattle.symbol_screens.specs.Held.{Number, Symbol, held, bits_of}
use Rattle.symbol_screens.specs.Reading.{value_type, held_aexpr, held_at}
use Rattle.symbol_screens.specs.Placed.{place_count}
use Rattle.symbol_screens.specs.Rewriting.{lent}
use Rattle.symbol_screens.proofs.Ranked.{RankedAlike, ranked-alike}
use Rattle.ranked_screen.specs.Screen.{RanksOf}
use Rattle.ranked_screen.proofs.Reading.{accepted-sizes}
use Rattle.ranked_reading.proofs.Walking.{falls, minterms-below}
use Rattle.ranked_reading.proofs.Conjuncts.{ranked-conjuncts}

-- ---- The bits of what a record holds are what it holds.
held_back : (ty v : ℕ) → bits_of (held ty v) ≡ v
held_back ty v = go (eqb ty 4)
  where
    go : (b : Bool) → bits_of (cond b (Symbol v) (Number v)) ≡ v
    go true = refl
    go false = refl

values-back : (ty : ℕ) (l : List ℕ) → map bits_of (map (held ty) l) ≡ l
values-back ty [] = refl
values-back ty (v ∷ l) = λ i. held_back ty v i ∷ values-back ty l i

expr_back : (ty : ℕ) (e : AExpr ℕ) → map_aexpr bits_of (map_aexpr (held ty) e) ≡ e
expr_back ty (Column c) = refl
expr_back ty (Literal v) = ap Literal (held_back ty v)
expr_back ty Null = refl
expr_back ty (BinaryExpr op x y) = refl
expr_back ty (Not x) = refl
expr_back ty (IsNull x) = refl
expr_back ty (IsNotNull x) = refl
expr_back ty (IsBetween c d x y z) = refl
expr_back ty (ListLiteral m l) = ap (ListLiteral m) (values-back ty l)
expr_back ty (IsIn e x y) = refl
expr_back ty Missing = refl

pub held-bits : (rs p : List ℕ) (used n : ℕ) → map_aexpr bits_of (held_at rs p used n) ≡ aexpr_at rs p used n
unfolding held_at aexpr_at aexpr_of
held-bits rs p used n = go (ltb n used)
  where
    go : (b : Bool) → map_aexpr bits_of (cond b (held_aexpr p (record_at rs (node n))) Missing)
        ≡ cond b (to_aexpr p (record_at rs (node n))) Missing
    go true = expr_back (value_type (record_at rs (node n))) (to_aexpr p (record_at rs (node n)))
    go false = refl

-- ---- A checked screen.
module _ (text : ℕ) (t rs p : List ℕ) (used root : ℕ) (ok : CheckedIn text t rs p used root) where
  -- What the code reads of the records sent are the conjuncts of symbols, by their bits.
  pub held-conjuncts : map (classify (aexpr_of rs p)) (minterms (walked rs) root)
      ≡ map (map_conjunct bits_of) (read_conjuncts (held_at rs p used) root)
  held-conjuncts =
      all (minterms (walked rs) root) (minterms-below text t rs p used root ok)
      ∙ ap (map (classify (aexpr_at rs p used))) (walked-minterms rs p used root ok.root-used)
      ∙ sym (ap (λ (R : ℕ → AExpr ℕ). read_conjuncts R root) (fun_ext (held-bits rs p used)))
      ∙ read_mapped bits_of (held_at rs p used) root
    where
      all : (ns : List ℕ) → Below used ns → map (classify (aexpr_of rs p)) ns ≡ map (classify (aexpr_at rs p used)) ns
      all [] h = refl
      all (n ∷ ns) h =
          λ i. classify-same (aexpr_at rs p used) (aexpr_of rs p) used (λ a l. sym (used-same rs p used a l)) n h.0
          (falls text t rs p used root ok) i
          ∷ all ns h.1 i

-- ---- Its screen of ranks.
module _ (text t rs p : List ℕ) (used root : ℕ) (ok : CheckedIn (lent text) t rs p used root) (values ranks src pool : List ℕ)
    (of : RanksOf text rs p used values ranks src pool) (bytes : (q : ℕ) → get_or text q 0 < 256) where
  pub ranks_alike :
      RankedAlike text t rs p used root ok values ranks of.standing (place_count p used) (omega arith)
  ranks_alike =
      let s = accepted-sizes text rs p used (record { table = t; root = root; checked = ok }) in
      let u = s.used_low in
      let w = s.pool-low in
      ranked-alike text t rs p used root ok values ranks of.standing (place_count p used) (omega arith) bytes of.pooled
      (omega arith) of.ranked

  -- What is merged of the bytes: the outcome told by places, by their ranks.
  pub ranks_merged : merge_filter_constraints payload (map (classify (aexpr_of src pool)) (minterms (walked rs) root))
      ≡ map_outcome (standing_or_not ranks (place_count p used)) ranks_alike.outcome
  ranks_merged =
      sym (ap (merge_filter_constraints payload) (ranked-conjuncts text t rs p used root ok values ranks src pool of))
      ∙ ranks_alike.ranks_merged
