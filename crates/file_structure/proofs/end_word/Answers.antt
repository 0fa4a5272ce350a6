use Rattle.file_structure.specs.Read.{end_of, blocks_in}
use Rattle.file_structure.proofs.Parts.{part_block}
use Rattle.file_structure.proofs.end_word.Goals as goal

pub returns : goal.returns
unfolding end_of blocks_in
returns c = rw (← part_block c.args.f.now _) c.word_in.ensures
