use mathlib.Core.Path.{◌∙◌}
use Prim.Native.Nat.{◌≤◌}
use native.Mathlib.Omega.{arith}
use Rattle.check_row.proofs.Answers.{row-refused, few-columns, few-lines, columns-there, row-tested, with-listed}
use Rattle.check_row.proofs.check_of_screen.Goals as goal

-- the clauses by their names
named : {A0 A1 : Type 0} → A0 × A1 → record { answer : A0; listed : A1 }
named p = record { answer = p.0; listed = p.1 }

pub judge_row-requires : goal.judge_row-requires
judge_row-requires c =
    let few : _ ≤ 128 = few-lines c.args.table.now c.args.records.now c.args.pool.now c.args.used c.args.root c.args.row.now c.args.nulls c.plain_lines-lines.result c.plain_lines-lines.ensures.answer _ _ c.plain_lines-lines.ensures.lines c.in-Ok.is in
    record {
      columns_bound = (
        few-columns c.args.table.now c.args.records.now c.args.pool.now c.args.used c.args.root c.args.row.now c.args.nulls c.plain_lines-lines.result c.plain_lines-lines.ensures.answer _ _
            c.plain_lines-lines.ensures.lines c.in-Ok.is,
        omega (arith, few),
      );
      by_index = columns-there c.args.table.now c.args.records.now c.args.pool.now c.args.used c.args.root c.args.row.now c.args.nulls c.plain_lines-lines.result c.plain_lines-lines.ensures.answer _ _ c.plain_lines-lines.ensures.lines c.in-Ok.is;
    }

pub returns-in-Err : goal.returns-in-Err
returns-in-Err c =
    named (with-listed c.args.table.now c.args.records.now c.args.pool.now c.args.used c.args.root c.args.row.now c.args.nulls _ (c.number.ensures ∙ row-refused c.args.table.now c.args.records.now c.args.pool.now c.args.used c.args.root c.args.row.now c.args.nulls c.plain_lines-lines.result c.plain_lines-lines.ensures.answer _ c.in-Err.is))

pub returns-in-Ok : goal.returns-in-Ok
returns-in-Ok c =
    named (with-listed c.args.table.now c.args.records.now c.args.pool.now c.args.used c.args.root c.args.row.now c.args.nulls _ (row-tested c.args.table.now c.args.records.now c.args.pool.now c.args.used c.args.root c.args.row.now c.args.nulls c.plain_lines-lines.result c.plain_lines-lines.ensures.answer _ _
    c.plain_lines-lines.ensures.lines c.in-Ok.is _ c.judge_row.ensures))
