use Prim.Native.Nat.{ℕ}
use native.Mathlib.Omega.{arith}
use lib.ListN.{length-replicate}
use Rattle.rewrite_symbols.proofs.merge_in.Goals as goal

pub merge_ranked-requires : goal.merge_ranked-requires
merge_ranked-requires g c =
    let places = length-replicate {A = ℕ} g.row.PLACES 0 in
    let records = length-replicate {A = ℕ} g.row.RECORDS 0 in
    let bytes = length-replicate {A = ℕ} g.row.POOL 0 in
    record {
      accepted = c.requires.accepted;
      counted = c.requires.counted;
      small = c.requires.small;
      walked = c.requires.walked;
      there = c.requires.there;
      room = (omega arith, omega arith, omega arith);
      copied = (omega arith, omega arith, omega arith, omega arith);
    }
