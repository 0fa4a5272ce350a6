use Prim.Native.Nat.{ℕ}
use mathlib.Core.Bool.{not}
use lib.Dec.{eqb}
use borrow.Author.Tests.{tests}
use Rattle.std.proofs.Common.{rules}
use Rattle.records.proofs.Ranges.{all_in_slice}
use Rattle.symbol_free.proofs.no_text_column.Goals as goal

pub returns : goal.returns
returns c = all_in_slice (λ (ty : ℕ). not (eqb ty 4)) c.args.t.now _ _ _ c.all.ensures.ran c.iter.ensures.rest (λ x b q k. search (rules, tests))
