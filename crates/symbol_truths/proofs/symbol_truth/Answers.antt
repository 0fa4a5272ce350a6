use mathlib.Core.Path.{◌∙◌}
use borrow.Author.Tests.{ne_eqb}
use Rattle.symbol_truths.specs.SymbolTruths.{symbol_truth}
use Rattle.symbol_truths.proofs.NullTests.{null_test_lem}
use Rattle.symbol_values.specs.SymbolValues.{bits_in}
use Rattle.symbol_values.proofs.Beside.{compared-beside, between-beside}
use Rattle.symbol_truths.proofs.symbol_truth.Goals as goal

-- the clauses by their names
named : {A0 A1 A2 : Type 0} → A0 × (A1 × A2) → record { b_in_bounds : A0; pooled_value : A1; pooled_from : A2 }
named p = record { b_in_bounds = p.0; pooled_value = p.1.0; pooled_from = p.1.1 }

pub input_value-y-requires : goal.input_value-y-requires
input_value-y-requires c =
    record { x_in_bounds = (c.requires.right c.if-f-eq4.true).there; column_there = (c.requires.right c.if-f-eq4.true).column }

pub beside_value-requires : goal.beside_value-requires
beside_value-requires c =
    record {
      pooled_value = rw c.input_value-x.ensures c.requires.value.pooled;
      pooled_value_2 = rw c.input_value-y.ensures (c.requires.right c.if-f-eq4.true
          ).pooled;
    }

pub returns-then-f-eq4 : goal.returns-then-f-eq4
unfolding symbol_truth
returns-then-f-eq4 c =
    rw (c.if-f-eq4.true, ← c.input_value-x.ensures, ← c.input_value-y.ensures) (c.compared.ensures ∙ rw (
      c.as_one.ensures,
      c.beside_value.ensures,
    ) (compared-beside c.args.text.now _ (bits_in c.input_value-x.result) (bits_in
    c.input_value-y.result)))

pub input_value-low-requires : goal.input_value-low-requires
input_value-low-requires c =
    record { x_in_bounds = (c.requires.low c.if-f-eq8.true).there; column_there = (c.requires.low c.if-f-eq8.true).column }

pub input_value-high-requires : goal.input_value-high-requires
input_value-high-requires c =
    record { x_in_bounds = (c.requires.high c.if-f-eq8.true).there; column_there = (c.requires.high c.if-f-eq8.true).column }

pub beside_value-requires-then-f-eq8 : goal.beside_value-requires-then-f-eq8
beside_value-requires-then-f-eq8 c =
    record {
      pooled_value = rw c.input_value-x.ensures c.requires.value.pooled;
      pooled_value_2 = rw c.input_value-low.ensures (c.requires.low c.if-f-eq8.true
          ).pooled;
    }

pub beside_value-requires-then-f-eq8-2 : goal.beside_value-requires-then-f-eq8-2
beside_value-requires-then-f-eq8-2 c =
    record {
      pooled_value = rw c.input_value-x.ensures c.requires.value.pooled;
      pooled_value_2 = rw c.input_value-high.ensures (c.requires.high c.if-f-eq8.true
          ).pooled;
    }

pub returns-then-f-eq8 : goal.returns-then-f-eq8
unfolding symbol_truth
returns-then-f-eq8 c =
    rw (
      ne_eqb _ _ c.if-f-eq4.false,
      c.if-f-eq8.true,
      ← c.input_value-x.ensures,
      ← c.input_value-low.ensures,
      ← c.input_value-high.ensures,
    ) (c.between.ensures ∙ rw (c.as_one-then-f-eq8.ensures, c.beside_value-then-f-eq8.ensures, c.beside_value-then-f-eq8-2.ensures)
    (between-beside c.args.text.now _ (bits_in c.input_value-x.result) (bits_in c.input_value-low.result)
    (bits_in c.input_value-high.result)))

pub fields_in-requires : goal.fields_in-requires
fields_in-requires c = (c.requires.list c.if-f-eq10.true).there

pub symbol_member-requires : goal.symbol_member-requires
symbol_member-requires c =
    named (rw c.fields_in.ensures (
      (c.requires.list c.if-f-eq10.true).inside,
      (
        rw c.input_value-x.ensures c.requires.value.pooled,
        (c.requires.list c.if-f-eq10.true).pooled,
      ),
    ))

pub returns-then-f-eq10 : goal.returns-then-f-eq10
unfolding symbol_truth
returns-then-f-eq10 c =
    rw (
      ne_eqb _ _ c.if-f-eq4.false,
      ne_eqb _ _ c.if-f-eq8.false,
      c.if-f-eq10.true,
      ← c.input_value-x.ensures,
      ← c.fields_in.ensures,
    ) c.symbol_member.ensures

pub returns-then-f-eq6 : goal.returns-then-f-eq6
unfolding symbol_truth
returns-then-f-eq6 c =
    rw (
      ne_eqb _ _ c.if-f-eq4.false,
      ne_eqb _ _ c.if-f-eq8.false,
      ne_eqb _ _ c.if-f-eq10.false,
      c.if-f-eq6.true,
      ← c.input_value-x.ensures,
      ← null_test_lem,
    ) (c.from.ensures ∙ rw c.is_null.ensures)

pub returns : goal.returns
unfolding symbol_truth
returns c =
    rw (
      ne_eqb _ _ c.if-f-eq4.false,
      ne_eqb _ _ c.if-f-eq8.false,
      ne_eqb _ _ c.if-f-eq10.false,
      ne_eqb _ _ c.if-f-eq6.false,
      ←
          c.input_value-x.ensures,
      ← null_test_lem,
    ) (c.from-2.ensures ∙ rw c.is_null-2.ensures)
