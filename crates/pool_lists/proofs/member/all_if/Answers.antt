use mathlib.Core.Path.{refl}
use Rattle.pool_lists.proofs.Members.{every-bit, no_bit}
use Rattle.pool_lists.proofs.member.all_if.Goals as goal

pub returns-then-b : goal.returns-then-b
returns-then-b c = every-bit _ _ c.if-b.true refl

pub returns : goal.returns
returns c = no_bit _ _ c.if-b.false refl
