use Rattle.std.proofs.Common.{◌<◌, refl, ◌∙◌, arith}
use Rattle.records.proofs.Loops.{flag_yes}
use Rattle.masks.proofs.Comparing.{shown-same}
use Rattle.row_blocks.proofs.Worths.{record_there, column-there, column-worth, literal-shown}
use Rattle.row_blocks.proofs.Dividing.{below_one, below_two, ready_at, quotient-shown}
use mathlib.Core.Path.{ap}
use mathlib.Core.Bool.{not}
use Rattle.row_blocks.proofs.quotients.+fill_worth.Goals as goal

pub fields_in-f-requires : goal.fields_in-f-requires
fields_in-f-requires t c = record_there _ _ _ _ _ _ _ c.args.n _ c.requires.ready refl

pub fill_column-requires : goal.fill_column-requires
fill_column-requires t c =
    let r = c.requires.ready in
    record { rows_bound = r.few; columns_bound = r.narrow; c_lt_columns = column-there _ _ _ _ _ _ _ c.args.n _ r c.fields_in-f.ensures c.if-f-eq1.true; rows_in_bounds = r.within; nulls_len_bound = r.short; values_len = r.long; at_in_bounds = c.requires.at_in_bounds }

pub returns-then-f-eq1 : goal.returns-then-f-eq1
returns-then-f-eq1 t c =
    record {
      shown = shown-same _ _ _ _ _ _ (column-worth _ _ _ _ _ _ _ c.args.n _ c.requires.ready c.fields_in-f.ensures
          c.if-f-eq1.true) c.fill_column.ensures.shown;
      by_index = c.fill_column.ensures.by_index;
    }

pub returns-then-f-eq2 : goal.returns-then-f-eq2
returns-then-f-eq2 t c =
    record {
      shown = literal-shown _ _ _ _ _ _ _ c.args.n _ c.requires.ready c.fields_in-f.ensures _ _ c.if-f-eq2.true _ _ _
          c.join.ensures (omega arith) c.biased.ensures c.fill_keys.ensures.by_index;
      by_index = c.fill_keys.ensures.by_index_2;
    }

pub fill_rows-requires : goal.fill_rows-requires
fill_rows-requires t c = record { ready = c.requires.ready; at_in_bounds = c.requires.at_in_bounds }

pub returns-then-not-divides : goal.returns-then-not-divides
returns-then-not-divides t c = record { shown = c.fill_rows.ensures.shown; by_index = c.fill_rows.ensures.by_index }

pub fill_worth-p-requires : goal.fill_worth-p-requires
fill_worth-p-requires t c =
    let d = c.divides.ensures (flag_yes refl (ap not c.if-not-divides.false)) in
    let h : c.pick_input.result < c.args.n.0 = below_one _ _ _ _ _ _ _ c.args.n _ c.requires.ready
    c.fields_in-f.ensures d.0 c.is_deeper-turned.result _ c.pick_input.ensures in (
      omega arith,
      (
        ready_at _ _ _ _ _ _ _ c.args.n _ c.requires.ready c.fields_in-f.ensures d.0 _ h,
        c.requires.at_in_bounds,
      ),
    )

pub overflow_add-at-2 : goal.overflow_add-at-2
overflow_add-at-2 t c =
    let d = c.divides.ensures (flag_yes refl (ap not c.if-not-divides.false)) in
    omega (arith, d.3, c.requires.at_in_bounds)

pub fill_worth-q-requires : goal.fill_worth-q-requires
fill_worth-q-requires t c =
    let d = c.divides.ensures (flag_yes refl (ap not c.if-not-divides.false)) in
    let h : c.pick_input-2.result < c.args.n.0 = below_two _ _ _ _ _ _ _ c.args.n _ c.requires.ready
    c.fields_in-f.ensures d.0 c.is_deeper-turned.result _ c.pick_input-2.ensures in (
      omega arith,
      (
        ready_at _ _ _ _ _ _ _ c.args.n _ c.requires.ready c.fields_in-f.ensures d.0 _ h,
        omega
            (arith, d.3, c.fill_worth-p.auto.keys),
      ),
    )

pub divide_turned-requires : goal.divide_turned-requires
divide_turned-requires t c =
    let d = c.divides.ensures (flag_yes refl (ap not c.if-not-divides.false)) in
    record {
      rows_bound = c.requires.ready.few;
      at_in_bounds = omega (
        arith,
        d.3,
        c.fill_worth-p.auto.keys,
        c.fill_worth-q.auto.keys,
      );
    }

pub returns : goal.returns
returns t c =
    let d = c.divides.ensures (flag_yes refl (ap not c.if-not-divides.false)) in
    record {
      shown = quotient-shown _ _ _ _ _ _ _ c.args.n _ c.requires.ready c.fields_in-f.ensures d.0 d.1 d.2 c.is_deeper-turned.result _ _ c.pick_input.ensures c.pick_input-2.ensures _ _ _ _ _ _ _
          c.fill_worth-p.ensures.shown c.fill_worth-q.ensures.shown c.fill_worth-q.ensures.by_index c.divide_turned.ensures.by_index;
      by_index = λ
          j h. c.divide_turned.ensures.by_index_2 j h ∙ c.fill_worth-q.ensures.by_index j (omega (arith, h)) ∙ c.fill_worth-p.ensures.by_index j
          h;
    }
