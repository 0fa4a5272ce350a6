use mathlib.Core.Path.{refl, sym, ◌∙◌, ap}
use mathlib.Core.Bool.{not}
use mathlib.Core.List.{List}
use Prim.Native.Nat.{ℕ, ◌+◌}
use borrow.Author.Tests.{tests}
use Rattle.std.proofs.Common.{rules}
use Rattle.constraints.specs.Payload.{payload}
use Rattle.constraints.specs.Lined.{lined}
use Rattle.constraints.specs.Values.{contains}
use Rattle.records.specs.Bytes.{value_at}
use Rattle.records.proofs.Ranges.{any_by_steps}
use Rattle.truth.specs.FromBytes.{values_from}
use Rattle.column_constraints.specs.Abstraction.{disallowed_by, kinds_in, starts_in, counts_in}
use Rattle.column_constraints.specs.Steps.{any_of}
use Rattle.column_sets.proofs.Lists.{an_none, an_step, widens_any, list-as}
use Rattle.column_changes.proofs.changes.disallowed_widens.Goals as goal

pub kind_set-disallowed-requires : goal.kind_set-disallowed-requires
kind_set-disallowed-requires c = c.requires.1

pub returns : goal.returns
returns c =
    let ss = starts_in c.args.told.now in
    let cs = counts_in c.args.told.now in
    let p = c.args.pool.now in
    let d = disallowed_by (kinds_in c.args.told.now) ss cs p c.args.marks.now c.args.n in
    let f = λ (v : ℕ). not (contains lined (payload.key v) d) in
    let s = c.start_at.result in
    any_by_steps (λ (i : ℕ). any_of f (values_from p s i)) (λ (i : ℕ). f (value_at p (s + i))) c.count_at-m.result _ _ _ c.any.ensures.ran
    refl (λ x b q k. search (rules, tests)) (an_none f p s) (an_step f p s)
    ∙ ap (λ (l : List ℕ). any_of f l) (list-as ss cs p c.args.j _ _ c.start_at.ensures c.count_at-m.ensures)
    ∙ sym (widens_any ss cs p c.args.j d)
