use native.Mathlib.Omega.{arith}
use lib.ListN.{length-set}
use Rattle.column_table.specs.Words.{words_of}
use Rattle.column_table.proofs.Encoding.{seven_set}
use Rattle.column_table.proofs.words.write_words.Goals as goal

pub bounds-words-4 : goal.bounds-words-4
bounds-words-4 c = simp length-set (omega (arith, c.requires))

pub bounds-words-5 : goal.bounds-words-5
bounds-words-5 c = simp length-set (omega (arith, c.requires))

pub bounds-words-6 : goal.bounds-words-6
bounds-words-6 c = simp length-set (omega (arith, c.requires))

pub returns : goal.returns
unfolding words_of
returns c =
    record {
      words_after = rw (
        ← c.small_word.ensures,
        ← c.bound_value.ensures,
        ← c.bound_value-2.ensures,
        ← c.wide.ensures,
        ← c.bound_line.ensures.value,
        ← c.bound_line-2.ensures.value,
      ) (seven_set c.args.words.now _ _ _ _ _ _ _ c.requires);
      line_fits = (c.bound_line.ensures.line_fits, c.bound_line-2.ensures.line_fits);
    }
