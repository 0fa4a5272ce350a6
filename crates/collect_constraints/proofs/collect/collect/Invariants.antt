use mathlib.Core.Path.{◌≡◌}
use Prim.Native.Nat.{◌+◌, ◌-◌, ◌≤◌}
use lib.ListN.{length}
use Rattle.truth.specs.FromBytes.{aexpr_of}
use Rattle.column_constraints.specs.Abstraction.{conjuncts}
use Rattle.column_table.specs.Words.{columns_of}
use Rattle.column_table.specs.State.{Collects, collect_to}
use Rattle.collect_constraints.specs.NullLines.{NullLines}
use Rattle.collect_constraints.proofs.collect.collect.Given as goal

abbrev pub invariant-loop-i : goal.invariant-loop-i
invariant-loop-i l =
    (l.i ≤ l.n) × (l.held.columns ≤ l.i + l.i) × (l.held.keeps + l.held.edges ≤ l.i) × (l.held.bounds ≤ l.i) × (Collects
    (conjuncts l.told l.pool) (columns_of l.cells) l.marks l.seen l.order l.held.columns l.kept l.held.keeps l.lefts l.rights l.equals l.held.edges l.held.bounds l.held.normalized l.held.unsat (collect_to
    (aexpr_of l.rs l.pool) l.nodes l.i) × NullLines (aexpr_of l.rs l.pool) l.nodes l.i (columns_of l.cells)) × (length l.marks ≡ length
    l.initial.marks) × (length l.cells ≡ length l.initial.cells) × (length l.order ≡ length l.initial.order) × (length l.kept ≡ length l.initial.kept) ×
    (length l.lefts ≡ length l.initial.lefts) × (length l.rights ≡ length l.initial.rights) × (length l.equals ≡ length l.initial.equals)
