use Rattle.records.specs.Bytes.{all}
use lib.ListN.{get_or}
use mathlib.Core.Bool.{true}
use mathlib.Core.List.{List}
use mathlib.Core.Path.{◌≡◌}
use Prim.Native.Nat.{ℕ, ◌-◌, ◌≤◌}
use Rattle.truth.specs.FromBytes.{aexpr_of}
use Rattle.merge.specs.Plain.{plain_conjunct}
use Rattle.plain.proofs.plain_conjuncts.Given as goal

abbrev pub invariant-loop-i : goal.invariant-loop-i
invariant-loop-i l =
    (l.i ≤ l.n) × ((p : List ℕ) → all (λ (k : ℕ). plain_conjunct (aexpr_of l.rs p) (get_or l.nodes k 0)) l.i ≡ true)
