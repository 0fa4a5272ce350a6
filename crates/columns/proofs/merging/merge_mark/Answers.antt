use mathlib.Core.Path.{sym, ◌∙◌, refl}
use Rattle.column_constraints.specs.Abstraction.{conjuncts}
use Rattle.column_constraints.specs.Steps.{merging_of}
use Rattle.columns.proofs.Mergings.{mark-0, mark-1, mark-2, mark_else}
use Rattle.columns.proofs.merging.merge_mark.Goals as goal

pub merge_excluded-requires : goal.merge_excluded-requires
merge_excluded-requires c = (c.requires.fine.0, c.requires.fine.1, sym c.kind_at-k.ensures ∙ c.if-k-eq0.true)

pub returns-then-k-eq0 : goal.returns-then-k-eq0
returns-then-k-eq0 c =
    let tables = conjuncts c.args.told.now c.args.pool.now in
    record { result_after = c.merge_excluded.ensures.result_after tables refl refl ∙ mark-0 tables _ (merging_of tables c.args.own.now c.args.m) (sym c.kind_at-k.ensures ∙ c.if-k-eq0.true); fine_2 = c.merge_excluded.ensures.fine }

pub merge_allowed-requires : goal.merge_allowed-requires
merge_allowed-requires c =
    record { fine = (c.requires.fine.0, c.requires.fine.1, sym c.kind_at-k.ensures ∙ c.if-k-eq1.true); indexed = c.requires.indexed }

pub returns-then-k-eq1 : goal.returns-then-k-eq1
returns-then-k-eq1 c =
    let tables = conjuncts c.args.told.now c.args.pool.now in
    record { result_after = c.merge_allowed.ensures.result_after tables (refl, refl, refl, refl) ∙ mark-1 tables _ (merging_of tables c.args.own.now c.args.m) (sym c.kind_at-k.ensures ∙ c.if-k-eq1.true); fine_2 = c.merge_allowed.ensures.fine_2 }

pub merge_disallowed-requires : goal.merge_disallowed-requires
merge_disallowed-requires c =
    record { fine = (c.requires.fine.0, c.requires.fine.1, sym c.kind_at-k.ensures ∙ c.if-k-eq2.true); indexed = c.requires.indexed }

pub returns-then-k-eq2 : goal.returns-then-k-eq2
returns-then-k-eq2 c =
    let tables = conjuncts c.args.told.now c.args.pool.now in
    record { result_after = c.merge_disallowed.ensures.result_after tables (refl, refl, refl, refl) ∙ mark-2 tables _ (merging_of tables c.args.own.now c.args.m) (sym c.kind_at-k.ensures ∙ c.if-k-eq2.true); fine_2 = c.merge_disallowed.ensures.fine_2 }

pub returns : goal.returns
returns c =
    let tables = conjuncts c.args.told.now c.args.pool.now in
    record { result_after = mark_else tables _ (merging_of tables c.args.own.now c.args.m) _ (sym c.kind_at-k.ensures) c.if-k-eq0.false c.if-k-eq1.false c.if-k-eq2.false; fine_2 = c.requires.fine.0 }
