use Rattle.rewrite.proofs.write.put_word.Goals as goal

pub returns : goal.returns
returns c = cc
