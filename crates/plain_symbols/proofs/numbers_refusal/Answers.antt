use Rattle.std.proofs.lemmas.Result.{err_from_is_err_and}
use Rattle.plain_symbols.proofs.Refusals.{refused-alike, plain-alike}
use Rattle.plain_symbols.proofs.numbers_refusal.Goals as goal

pub returns-in_err-plain_lines : goal.returns-in_err-plain_lines
returns-in_err-plain_lines c =
    let q = err_from_is_err_and c.from_residual.result c.from_residual.ensures.1 in
    rw (q.1, q.2) (refused-alike c.args.t.now c.args.rs.now c.args.p.now c.args.used c.args.root
    c.args.table.now c.args.records.now c.requires.numbers c.requires.accepted c.plain_lines.result
    c.plain_lines.ensures.answer _ c.in_err-plain_lines.was)

pub returns-then-only_numbers : goal.returns-then-only_numbers
returns-then-only_numbers c =
    (plain-alike c.args.t.now c.args.rs.now c.args.p.now c.args.used c.args.root c.args.table.now c.args.records.now c.requires.numbers c.requires.accepted c.requires.few c.plain_lines.result c.plain_lines.ensures.answer _ c.in_ok-plain_lines.was c.columns_word-word.result c.columns_word-word.ensures
    c.only_numbers.result c.only_numbers.ensures).0 c.if-only_numbers.true

pub returns : goal.returns
returns c =
    (plain-alike c.args.t.now c.args.rs.now c.args.p.now c.args.used c.args.root c.args.table.now c.args.records.now c.requires.numbers c.requires.accepted c.requires.few c.plain_lines.result c.plain_lines.ensures.answer _ c.in_ok-plain_lines.was c.columns_word-word.result c.columns_word-word.ensures
    c.only_numbers.result c.only_numbers.ensures).1 c.if-only_numbers.false
