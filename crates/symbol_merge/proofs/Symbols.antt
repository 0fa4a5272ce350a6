-- What merging a screen with symbols asks and gives, where the records and the screen of ranks are exchanged meanwhile.
use mathlib.Core.Path.{◌≡◌, sym, ◌∙◌, ap, subst}
use mathlib.Core.List.{List, map}
use Prim.Native.Nat.{ℕ, ◌*◌, ◌≤◌, ◌<◌, min}
use lib.ListN.{length, get_or}
use Rattle.checking.specs.Check.{check_answer_in}
use Rattle.checking.specs.Checked.{CheckedIn}
use Rattle.checking.specs.Tree.{tree_count}
use Rattle.checking.specs.Answer as check
use Rattle.checking.proofs.Accepted.{checked-in}
use Rattle.truth.specs.FromBytes.{aexpr_of}
use Rattle.constraints.specs.Payload.{payload}
use Rattle.filter_constraint.specs.Concluded.{lined_to}
use Rattle.filter_constraint.specs.Merges.{Counts, Merges}
use Rattle.merge.specs.Classify.{classify}
use Rattle.merge.specs.Demand.{AreBytes}
use Rattle.merge.specs.Minterms.{minterms}
use Rattle.merge.specs.Passes.{merge_passes}
use Rattle.merge.specs.declared.answer.Rewriting.{Rewriting}
use Rattle.read_operands.specs.Walk.{walked, first_of}
use Rattle.ranked_screen.specs.Screen.{RanksOf}
use Rattle.ranked_reading.proofs.Conjuncts.{node-columns}
use Rattle.rewrite.specs.Told.{ToldConjunct}
use Rattle.reading.specs.Columns.{ColumnsBelow}
use Rattle.symbol_screens.specs.Rewriting.{lent}
use Rattle.symbol_merge.specs.Explains.{Explains}
use Rattle.symbol_merge.specs.Fronts.{fronted}
use Rattle.symbol_merge.proofs.Exchanged.{ranks_in, sent_in, whole, mixed_long, own_long, put_back}
use Rattle.symbol_merge.proofs.Ending.{symbols-count, symbols-explain}
use Rattle.column_constraints.specs.Abstraction.{conjuncts_of}

module _ (text t rs p : List ℕ) (used root : ℕ) (accepted : check_answer_in (lent text) t rs p used root ≡ check.Accepted)
    (trees : List ℕ) (counted : (a : ℕ) → a ≤ root → get_or trees a 0 ≡ min (tree_count rs a) 4097) (low : tree_count rs root ≤ 4096)
    (nodes : List ℕ) (n : ℕ) (are : first_of nodes n ≡ minterms (walked rs) root) (few : n ≤ 128)
    (vs ranks src pool : List ℕ) (of : RanksOf text rs p used vs ranks src pool) (long : 16 * used ≤ length src)
    (mixed own : List ℕ) (e : mixed ≡ fronted (16 * used) src rs) (f : own ≡ fronted (16 * used) rs src) where
  ok : CheckedIn (lent text) t rs p used root
  ok = checked-in (lent text) t rs p used root accepted

  in_ranks : RanksOf text rs p used vs ranks mixed pool
  in_ranks = ranks_in text t rs p used root ok vs ranks src pool of long mixed own e f

  pub long-asked : 16 * used ≤ length own
  long-asked = own_long text t rs p used root ok vs ranks src pool of long mixed own e f

  pub mixed_asked : 16 * used ≤ length mixed
  mixed_asked = mixed_long text t rs p used root ok vs ranks src pool of long mixed own e f

  pub columns-asked : (i : ℕ) → i < n → ColumnsBelow 64 (classify (aexpr_of mixed pool) (get_or nodes i 0))
  columns-asked = node-columns text t rs p used root ok vs ranks mixed pool in_ranks nodes n are

  module _ (kinds first starts counts said second starts₂ counts₂ : List ℕ)
      (tells : (i : ℕ) → i < n → ToldConjunct (conjuncts_of said second starts₂ counts₂ p) i (classify (aexpr_of own p)
      (get_or nodes i 0))) where
    pub counts-asked : Counts (lined_to (aexpr_of mixed pool) nodes n) (conjuncts_of kinds first starts counts pool) t own nodes second
    counts-asked =
        symbols-count text t rs p used root accepted trees counted low nodes n are few vs ranks mixed pool in_ranks own
        (sent_in text t rs p used root ok vs ranks src pool of long mixed own e f) kinds first starts counts said second starts₂
        counts₂ tells long-asked

    pub promised : AreBytes text → (buffer : List ℕ) (r : Rewriting) (out after last : List ℕ) →
        Merges (lined_to (aexpr_of mixed pool) nodes n) (conjuncts_of kinds first starts counts pool) t mixed trees nodes second own text
        buffer used r out after →
        r.passes ≡ merge_passes payload (map (classify (aexpr_of mixed pool)) (first_of nodes n)) →
        last ≡ fronted (16 * used) own out → Explains text t rs p used root buffer r last after
    promised bytes buffer r out after last M k q =
        subst (λ z. Explains text t rs p used root buffer r z after) (sym q)
        (symbols-explain text t rs p used root accepted trees counted low nodes n are few vs ranks mixed pool in_ranks own
        (sent_in text t rs p used root ok vs ranks src pool of long mixed own e f) kinds first starts counts said second starts₂
        counts₂ tells long-asked (whole text t rs p used root ok vs ranks src pool of long mixed own e f) mixed_asked
        (put_back text t rs p used root ok vs ranks src pool of long mixed own e f) bytes buffer r out after M k)
