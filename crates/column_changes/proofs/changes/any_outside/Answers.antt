use mathlib.Core.Path.{refl, ◌∙◌, ap}
use mathlib.Core.List.{List}
use Prim.Native.Nat.{ℕ, ◌+◌}
use borrow.Author.Tests.{tests}
use Rattle.std.proofs.Common.{rules}
use Rattle.records.specs.Bytes.{value_at}
use Rattle.records.proofs.Ranges.{any_by_steps}
use Rattle.truth.specs.FromBytes.{values_from}
use Rattle.column_constraints.specs.Abstraction.{values_of, allowed_by, kinds_in, starts_in, counts_in}
use Rattle.column_constraints.specs.Steps.{any_of, outside}
use Rattle.column_sets.proofs.Lists.{an_none, an_step, list-as}
use Rattle.column_changes.proofs.changes.any_outside.Goals as goal

pub returns : goal.returns
returns c =
    let ks = kinds_in c.args.told.now in
    let ss = starts_in c.args.told.now in
    let cs = counts_in c.args.told.now in
    let p = c.args.pool.now in
    let f = λ (v : ℕ). outside (allowed_by ks ss cs p c.args.marks.now c.args.n) (values_of ss cs p c.args.j) v in
    let s = c.start_at.result in
    any_by_steps (λ (i : ℕ). any_of f (values_from p s i)) (λ (i : ℕ). f (value_at p (s + i))) c.count_at-m.result _ _ _ c.any.ensures.ran
    refl (λ x b q k. search (rules, tests)) (an_none f p s) (an_step f p s)
    ∙ ap (λ (l : List ℕ). any_of f l) (list-as ss cs p c.args.f _ _ c.start_at.ensures c.count_at-m.ensures)
