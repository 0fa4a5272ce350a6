use native.Mathlib.Omega.{arith}
use Rattle.checksum.proofs.Words.{first_below, checksum-by_words}
use Rattle.checksum.proofs.block_checksum.Goals as goal

pub overflow_sub-all : goal.overflow_sub-all
overflow_sub-all c =
    first_below _ (λ i. omega (arith, c.type_inv.block i)) _ _ c.word_sum-all.ensures.value c.pair-first.ensures

pub returns : goal.returns
returns c =
    checksum-by_words _ (λ i. omega (arith, c.type_inv.block i)) _ _ _ _ c.requires c.word_sum-all.ensures.value c.pair-first.ensures c.fold_all-folded.ensures.value c.fold_all-folded.ensures.upper_bound c.swap_bytes-swapped.ensures.value
