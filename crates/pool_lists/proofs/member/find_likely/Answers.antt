use Rattle.pool_lists.proofs.member.find_likely.Goals as goal

pub returns-then-ones-zeros : goal.returns-then-ones-zeros
returns-then-ones-zeros c =
    c.find_truths.ensures _ _ (record {
      one = c.mask_equal-ones.ensures;
      nought = c.mask_equal-zeros.ensures;
      every = c.if-ones-zeros.true;
    })
