use Prim.Native.Nat.{ℕ, ◌+◌}
use mathlib.Core.Path.{refl}
use lib.ListN.{get_or}
use lib.Dec.{eqb}
use Rattle.std.proofs.Common.{rules}
use borrow.Author.Tests.{tests}
use Rattle.file_structure.specs.Read.{zeros_from}
use Rattle.records.proofs.Ranges.{all_in_range}
use Rattle.file_structure.proofs.zeros_from.Goals as goal

pub returns : goal.returns
unfolding zeros_from
returns c = all_in_range (λ (j : ℕ). eqb (get_or c.args.b.now (c.args.at + j) 0) 0) c.args.n _ _ _ c.all.ensures.ran refl (λ x b q k. search (rules, tests))
