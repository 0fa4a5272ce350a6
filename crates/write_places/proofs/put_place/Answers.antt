use borrow.Author.Rules.{rules}
use native.Mathlib.Omega.{arith}
use Rattle.merge.proofs.Splices.{splice-then}
use Rattle.write_places.proofs.put_place.Goals as goal

pub returns : goal.returns
returns c =
    record { row_after = splice-then _ _ _ _ _ c.put_value.ensures c.put_value-2.ensures (omega arith) (omega (arith, c.requires)); whole_bound = search rules }
