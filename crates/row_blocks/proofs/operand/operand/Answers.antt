use Rattle.std.proofs.Common.{sym, refl, ◌∙◌, arith}
use Rattle.masks.proofs.Comparing.{shown-same}
use Rattle.row_blocks.proofs.Worths.{record_there, column-there, column-worth, literal-shown, kept-shown, rest-shown}
use Rattle.row_blocks.proofs.operand.operand.Goals as goal

pub fields_in-f-requires : goal.fields_in-f-requires
fields_in-f-requires c = record_there _ _ _ _ _ _ _ c.args.n _ c.requires.input.ready refl

pub fill_column-requires : goal.fill_column-requires
fill_column-requires c =
    let r = c.requires.input.ready in
    record { rows_bound = r.few; columns_bound = r.narrow; c_lt_columns = column-there _ _ _ _ _ _ _ c.args.n _ r c.fields_in-f.ensures c.if-f-eq1.true; rows_in_bounds = r.within; nulls_len_bound = r.short; values_len = r.long; at_in_bounds = c.requires.at_in_bounds }

pub returns-then-f-eq1 : goal.returns-then-f-eq1
returns-then-f-eq1 c =
    record {
      shown = shown-same _ _ _ _ _ _ (column-worth _ _ _ _ _ _ _ c.args.n _ c.requires.input.ready c.fields_in-f.ensures
          c.if-f-eq1.true) c.fill_column.ensures.shown;
      by_index = c.fill_column.ensures.by_index;
    }

pub returns-then-f-eq2 : goal.returns-then-f-eq2
returns-then-f-eq2 c =
    record {
      shown = literal-shown _ _ _ _ _ _ _ c.args.n _ c.requires.input.ready c.fields_in-f.ensures _ _ c.if-f-eq2.true _ _ _
          c.join.ensures (omega arith) c.biased.ensures c.fill_keys.ensures.by_index;
      by_index = c.fill_keys.ensures.by_index_2;
    }

pub bounds-unknowns-n : goal.bounds-unknowns-n
bounds-unknowns-n c =
    let h = c.requires.input.unknowns_room in
    omega (arith, h)

pub returns-then-is_kept : goal.returns-then-is_kept
returns-then-is_kept c =
    record { shown = kept-shown _ _ _ _ _ _ _ c.args.n _ c.requires.input.ready c.fields_in-f.ensures _ _ (sym c.is_kept.ensures ∙ c.if-is_kept.true) _ _ c.requires.input.held c.fill_keys-then-is_kept.ensures.by_index; by_index = c.fill_keys-then-is_kept.ensures.by_index_2 }

pub fill_worth-requires : goal.fill_worth-requires
fill_worth-requires c = record { ready = c.requires.input.ready; at_in_bounds = c.requires.at_in_bounds }

pub returns : goal.returns
returns c =
    record { shown = rest-shown _ _ _ _ _ _ _ c.args.n _ c.requires.input.ready c.fields_in-f.ensures _ _ c.if-f-eq1.false c.if-f-eq2.false c.if-f-eq4.false (sym c.is_kept.ensures ∙ c.if-is_kept.false); by_index = λ j h. refl }
