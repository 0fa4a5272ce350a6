use Rattle.read_operands.specs.Read.{comparison_in}
use Rattle.rewrite.proofs.Telling.{fine-same}
use Rattle.rewrite.proofs.Adding.{told-compared}
use Prim.Native.Nat.{ℕ}
use mathlib.Core.List.{List, map}
use Rattle.column_constraints.specs.Abstraction.{conjuncts, numbered, column_of, values_of}
use Rattle.constraints.specs.Lined.{on_line, lined}
use Rattle.constraints.specs.Column as q
use mathlib.Core.Path.{refl, ◌∙◌, ap}
use Rattle.rewrite.proofs.add.add_says.Goals as goal

pub add_comparison-requires : goal.add_comparison-requires
add_comparison-requires c =
    let tb = conjuncts c.args.told.now c.args.pool.now in (
      c.requires.0,
      c.requires.1,
      told-compared tb c.args.j (comparison_in c.in-Compare.k) c.in-Compare.v.0 (rw c.in-Compare.is at c.requires.2),
    )

pub returns-in-Nothing : goal.returns-in-Nothing
returns-in-Nothing c = record { result_after = rw c.in-Nothing.is; fine = c.requires.0 }

pub returns-in-Compare : goal.returns-in-Compare
returns-in-Compare c =
    let tb = conjuncts c.args.told.now c.args.pool.now in
    record { result_after = rw c.in-Compare.is (c.add_comparison.ensures.result_after tb refl refl); fine = c.add_comparison.ensures.fine }

pub returns-in-Between : goal.returns-in-Between
returns-in-Between c =
    let tb = conjuncts c.args.told.now c.args.pool.now in
    record { result_after = rw c.in-Between.is (c.add_between.ensures.result_value tb c.args.marks.now); fine = fine-same _ _ _ _ c.add_between.ensures.len_value c.requires.0 }

pub returns-in-Allow : goal.returns-in-Allow
unfolding values_of
returns-in-Allow c =
    let tb = conjuncts c.args.told.now c.args.pool.now in
    let h = rw c.in-Allow.is at c.requires.2 in
    record {
      result_after = rw c.in-Allow.is (c.add_allowed.ensures.result_after tb
          h.0.0 ∙ ap (λ (l : List ℕ). q.add_allowed lined (map (on_line c.args.j) l) (column_of tb (numbered c.args.marks.now c.args.c))) h.0.1);
      fine = c.add_allowed.ensures.fine;
    }

pub returns-in-Disallow : goal.returns-in-Disallow
unfolding values_of
returns-in-Disallow c =
    let tb = conjuncts c.args.told.now c.args.pool.now in
    let h = rw c.in-Disallow.is at c.requires.2 in
    record {
      result_after = rw c.in-Disallow.is (c.add_disallowed.ensures.result_after tb refl h.0.0 ∙ ap (λ (l :
          List ℕ). q.add_disallowed lined c.in-Disallow.strict (map (on_line c.args.j) l) (column_of tb (numbered c.args.marks.now c.args.c)))
          h.0.1);
      fine = c.add_disallowed.ensures.fine;
    }

pub returns-in-Require : goal.returns-in-Require
returns-in-Require c =
    let tb = conjuncts c.args.told.now c.args.pool.now in
    record { result_after = rw c.in-Require.is (c.require_nullability.ensures.result_value tb c.args.marks.now); fine = fine-same _ _ _ _ c.require_nullability.ensures.len_value c.requires.0 }
