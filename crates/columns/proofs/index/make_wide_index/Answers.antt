use borrow.Author.Rules.{rules}
use Prim.Native.Nat.{◌≤◌}
use native.Mathlib.Omega.{arith}
use Rattle.columns.proofs.Indexing.{indexed}
use Rattle.columns.proofs.index.make_wide_index.Goals as goal

pub put_lists-requires : goal.put_lists-requires
put_lists-requires c =
    let b : c.sorted_set-k.result ≤ 12288 = search (
      rules,
      c.sorted_set-k.ensures.distinct.end,
      c.gather-n.ensures,
      c.requires.index_len.1,
    ) in
    record {
      rising = (c.sorted_set-k.ensures.distinct.rising, search (rules, c.sorted_set-k.ensures.distinct.end, c.gather-n.ensures));
      k_in_bounds = (
        omega
            (arith, c.requires.index_len.0, b),
        omega (arith, c.requires.index_len.0),
      );
      by_index = c.requires.by_index;
    }

pub returns : goal.returns
returns c =
    let b : c.sorted_set-k.result ≤ 12288 = search (
      rules,
      c.sorted_set-k.ensures.distinct.end,
      c.gather-n.ensures,
      c.requires.index_len.1,
    ) in
    indexed c.args.told.now _ _ _ _ 16384 (omega (arith, c.put_lists.auto.index, c.requires.index_len.0)) (omega (
      arith,
      c.put_lists.auto.index,
      c.requires.index_len.0,
    )) (omega (arith, c.put_lists.auto.index, c.requires.index_len.0, b)) c.put_lists.ensures
