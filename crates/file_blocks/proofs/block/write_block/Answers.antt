use Rattle.file_blocks.proofs.block.write_block.Goals as goal

pub returns : goal.returns
returns c = rw (c.put.ensures, c.block_bytes-b.ensures)
