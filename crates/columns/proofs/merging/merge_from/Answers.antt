use mathlib.Core.Path.{◌∙◌, ap}
use mathlib.Core.Bool.{◌||◌}
use Rattle.column_constraints.specs.Abstraction.{conjuncts, numbered, column_of, bound_of}
use Rattle.column_constraints.specs.Steps.{Merging, take_upper, take_marks}
use Rattle.columns.proofs.Mergings.{merge_law}
use Rattle.columns.proofs.merging.merge_from.Goals as goal

pub merge_marks-m-requires : goal.merge_marks-m-requires
merge_marks-m-requires c =
    record { fine = (rw (c.merge_upper-m2.ensures.len_value, c.merge_lower-m1.ensures.len_value) c.requires.fine.0, c.requires.fine.1); indexed = c.requires.indexed }

pub returns : goal.returns
returns c =
    let tables = conjuncts c.args.told.now c.args.pool.now in
    let a = c.args.own.now in
    let d = numbered c.args.marks.now c.args.d in
    let w = c.merge_marks-m.ensures.result_after ∙ ap (λ (x : Merging). take_marks tables d.marks d.len x) (c.merge_upper-m2.ensures.result_value tables a ∙ ap (λ (x : Merging). take_upper (bound_of d.upper) x) (c.merge_lower-m1.ensures.result_value
    tables a)) ∙ merge_law tables (column_of tables (numbered a c.args.c)) d in
    record {
      fact = (
        ap (λ (x : Merging). x.column) w,
        ap (λ (x : Merging). x.emitted) w,
        ap (λ (x : Merging). x.emitted ||
            x.any) w,
      );
      fine_2 = c.merge_marks-m.ensures.fine_2;
    }
