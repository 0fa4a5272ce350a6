use borrow.Author.Rules.{rules}
use Prim.Native.Nat.{◌≤◌}
use native.Mathlib.Omega.{arith}
use Rattle.columns.proofs.Indexing.{indexed}
use Rattle.columns.proofs.index.make_index.Goals as goal

pub put_lists-requires : goal.put_lists-requires
put_lists-requires c =
    let b : c.sorted_set-k.result ≤ 8192 = search (rules, c.sorted_set-k.ensures.distinct.end, c.gather-n.ensures) in
    record {
      rising = (c.sorted_set-k.ensures.distinct.rising, search (rules, b));
      k_in_bounds = (
        omega (arith, c.requires.by_index.1, b),
        omega (
          arith,
          c.requires.by_index.1,
        ),
      );
      by_index = c.requires.by_index_2;
    }

pub returns : goal.returns
returns c =
    let b : c.sorted_set-k.result ≤ 8192 = search (rules, c.sorted_set-k.ensures.distinct.end, c.gather-n.ensures) in
    indexed c.args.told.now _ _ _ _ 8192 (omega (arith, c.put_lists.auto.index, c.requires.by_index.1)) (omega (
      arith,
      c.put_lists.auto.index,
      c.requires.by_index.1,
    )) (omega (arith, c.put_lists.auto.index, c.requires.by_index.1, b)) c.put_lists.ensures
