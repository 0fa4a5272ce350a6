use borrow.Author.Rules.{rules}
use Prim.Native.Nat.{◌≤◌}
use Rattle.files.proofs.Loading.{held-wide, both-within, both_small}
use Rattle.files.proofs.load.check_held.Goals as goal

pub returns-then-columns-gt64 : goal.returns-then-columns-gt64
returns-then-columns-gt64 c =
    held-wide c.args.f.now _ _ _ _ _ c.requires.f_value c.requires.columns_value c.requires.used_value c.requires.values_value
    c.requires.text_value c.requires.root_value c.if-columns-gt64.true

pub check_columns-requires : goal.check_columns-requires
check_columns-requires c =
    record { f_value = c.requires.f_value; columns_value = c.requires.columns_value; used_value = c.requires.used_value; values_value = c.requires.values_value; text_value = c.requires.text_value; root_value = c.requires.root_value; text_value_2 = c.if-used-values.true; columns_in_bounds = search rules }

pub check_copies-requires : goal.check_copies-requires
check_copies-requires c =
    let w = both_small c.args.used c.args.values c.if-used-values-2.true in
    let u : c.args.used ≤ 64 = w.0 in
    let v : c.args.values ≤ 64 = w.1 in
    record { f_value = c.requires.f_value; columns_value = c.requires.columns_value; used_value = c.requires.used_value; values_value = c.requires.values_value; text_value = c.requires.text_value; root_value = c.requires.root_value; columns_in_bounds = search rules; used_in_bounds = search rules; values_in_bounds = search rules }

pub check_copies-requires-2 : goal.check_copies-requires-2
check_copies-requires-2 c =
    let w = both-within c.args.used c.args.values c.args.text c.if-used-values.false in
    let u : c.args.used ≤ 4096 = w.0 in
    let v : c.args.values ≤ 8192 = w.1 in
    record { f_value = c.requires.f_value; columns_value = c.requires.columns_value; used_value = c.requires.used_value; values_value = c.requires.values_value; text_value = c.requires.text_value; root_value = c.requires.root_value; columns_in_bounds = search rules; used_in_bounds = search rules; values_in_bounds = search rules }
