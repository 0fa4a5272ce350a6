use mathlib.Core.Path.{◌≡◌}
use mathlib.Core.Bool.{true}
use mathlib.Core.List.{[]}
use Prim.Native.Nat.{◌-◌, ◌≤◌}
use lib.ListN.{length}
use Rattle.records.specs.Bytes.{all}
use Rattle.chain_rows.specs.Chain.{is_tested}
use Rattle.chain_rows.specs.Classes.{Judged}
use Rattle.symbol_reduction.specs.Reduction.{Reduced}
use Rattle.symbol_chain.specs.ChainWith.{answer_at_with}
use Rattle.symbol_chain.proofs.each.judge_each.Given as goal

abbrev pub invariant-loop-r : goal.invariant-loop-r
invariant-loop-r l =
    (l.r ≤ length l.nulls) × (length l.classes ≡ length l.initial.classes) × (length l.out ≡ length l.initial.out) × Reduced l.text l.table
    l.records l.pool [] 0 l.used 0 l.out × (all (λ i. is_tested (answer_at_with l.text l.table l.records l.pool l.used l.root.0
    l.values l.nulls i)) l.r ≡ true) × Judged (answer_at_with l.text l.table l.records l.pool l.used l.root.0 l.values l.nulls)
    l.classes l.r
