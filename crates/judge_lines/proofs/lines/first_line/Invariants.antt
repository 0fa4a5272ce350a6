use mathlib.Core.Path.{◌≡◌}
use mathlib.Core.Bool.{not}
use Prim.Native.Nat.{ℕ, ◌-◌, ◌≤◌}
use lib.ListN.{length}
use Rattle.truth.specs.FromBytes.{aexpr_of}
use Rattle.read_operands.specs.Walk.{first_of}
use Rattle.judge_lines.specs.Lines.{without, nothing_passes, first_true}
use Rattle.judge_lines.proofs.lines.first_line.Given as goal

abbrev pub invariant-loop-i : goal.invariant-loop-i
invariant-loop-i l =
    (l.i ≤ l.n) × (l.nodes ≡ l.initial.nodes) × (first_true (λ (k : ℕ). not (nothing_passes (aexpr_of l.rs l.p) (without k (first_of
    l.initial.nodes l.n)))) l.i ≡ l.i) × (length l.marks ≡ length l.initial.marks)
