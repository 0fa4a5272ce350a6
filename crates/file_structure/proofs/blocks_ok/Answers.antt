use Prim.Native.Nat.{ℕ, ◌/◌}
use mathlib.Core.Path.{refl}
use lib.ListN.{length}
use borrow.Author.Tests.{tests}
use Rattle.std.proofs.Common.{rules}
use Rattle.records.proofs.Ranges.{all_in_range}
use Rattle.file_structure.proofs.Parts.{part_block}
use Rattle.file_structure.specs.Read.{blocks_ok, block_ok, block_at, blocks_in}
use Rattle.file_structure.proofs.blocks_ok.Goals as goal

pub returns : goal.returns
unfolding blocks_ok blocks_in
returns c =
    all_in_range (λ (j : ℕ). block_ok (block_at c.args.f.now j) j) (length c.args.f.now / 512) _ _ _ c.all.ensures.ran refl
    (λ x b q k. search (rules, tests, part_block))
