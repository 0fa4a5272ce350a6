use Rattle.file_blocks.proofs.Making.{block_made}
use Rattle.file_blocks.proofs.block.block_bytes.Goals as goal

pub returns : goal.returns
returns c =
    block_made _ c.args.content.now c.args.number c.args.kind _ _ c.requires c.put.ensures
    c.item_count-count.ensures c.block_checksum-sum.ensures
