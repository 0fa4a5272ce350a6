use Rattle.checking.proofs.reads.word_of_inputs.Goals as goal

pub returns-in-One : goal.returns-in-One
returns-in-One c = rw (c.in-One.is, c.word_of.ensures)

pub returns-in-Two : goal.returns-in-Two
returns-in-Two c = rw (c.in-Two.is, c.word_of-in-Two-2.ensures, c.word_of-in-Two.ensures)

pub returns-in-Three : goal.returns-in-Three
returns-in-Three c =
    rw (c.in-Three.is, c.word_of-in-Three-3.ensures, c.word_of-in-Three-2.ensures, c.word_of-in-Three.ensures)
