use native.Mathlib.Omega.{arith}
use Rattle.checking.proofs.Accepted.{checked-lent_in, checked-used_in}
use Rattle.symbol_row_test.proofs.AnswersWith.{text-small}
use Rattle.symbol_chain.proofs.judge_symbols.Goals as goal

pub asked-requires : goal.asked-requires
asked-requires c =
    let r = c.requires.checked_in.root-used in
    (omega (arith, r), checked-used_in _ _ _ _ _ _ c.requires.checked_in, checked-lent_in _ _ _ _ _ _ c.requires.checked_in)

pub is_cheap-requires : goal.is_cheap-requires
is_cheap-requires c = (
  c.requires.nulls_len_bound,
  text-small c.args.text.now _ _ _ _ _ c.requires.checked_in,
)

pub judge_ranked-requires : goal.judge_ranked-requires
judge_ranked-requires c =
    record { checked_in = c.requires.checked_in; root_bound = c.requires.root_bound; used_in_bounds = c.requires.used_in_bounds; reduced = c.requires.reduced; values_len = c.requires.values_len; nulls_len_bound = c.requires.nulls_len_bound; nulls_in_bounds = c.requires.nulls_in_bounds; nulls_nonzero = c.is_cheap.ensures c.if-is_cheap.false }
