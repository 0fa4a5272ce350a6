use Prim.Native.Nat.{ℕ, ◌/◌, ◌-◌, ◌+◌}
use mathlib.Core.Path.{refl}
use lib.ListN.{length}
use borrow.Author.Tests.{tests}
use Rattle.std.proofs.Common.{rules}
use Rattle.records.proofs.Ranges.{all_in_range}
use Rattle.file_structure.proofs.Parts.{part_block, part_block_next}
use Rattle.file_structure.specs.Read.{order_ok, follows_ok, block_at, blocks_in}
use Rattle.file_structure.proofs.order_ok.Goals as goal

pub returns : goal.returns
unfolding order_ok blocks_in
returns c =
    all_in_range (λ (j : ℕ). follows_ok (block_at c.args.f.now j) (block_at c.args.f.now (j + 1))) (length c.args.f.now / 512 - 1) _ _ _ c.all.ensures.ran refl
    (λ x b q k. search (rules, tests, part_block, part_block_next))
