use Rattle.row_blocks.proofs.Dividing.{as_turned, as_they_are}
use Rattle.row_blocks.proofs.quotients.divide_turned.Goals as goal

pub returns-then-turned : goal.returns-then-turned
returns-then-turned c =
    record {
      by_index = λ value second s t. c.divide_keys.ensures.by_index value second (as_turned _ _ _ _ _ value second c.if-turned.true t)
          (as_turned _ _ _ _ _ second value c.if-turned.true s);
      by_index_2 = c.divide_keys.ensures.by_index_2;
    }

pub returns : goal.returns
returns c =
    record {
      by_index = λ value second s t. c.divide_keys-2.ensures.by_index value second (as_they_are _ _ _ _ _ second value c.if-turned.false
          s) (as_they_are _ _ _ _ _ value second c.if-turned.false t);
      by_index_2 = c.divide_keys-2.ensures.by_index_2;
    }
