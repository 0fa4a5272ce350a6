use mathlib.Core.Path.{sym, ◌∙◌, ap}
use mathlib.Core.Bool.{true≢false}
use native.Mathlib.Omega.{arith}
use borrow.Author.Tests.{not-false}
use mathlib.Core.Bool.{not}
use Rattle.text_order.proofs.testing.is_right.Goals as goal

pub returns-then-rank_in-ranks : goal.returns-then-rank_in-ranks
returns-then-rank_in-ranks c = λ e. absurd (true≢false (sym e))

pub returns-then-most_at-d : goal.returns-then-most_at-d
returns-then-most_at-d c = λ e. absurd (true≢false (sym e))

pub returns-then-not-is_above : goal.returns-then-not-is_above
returns-then-not-is_above c = λ e. absurd (true≢false (sym e))

pub returns : goal.returns
returns c =
    λ e. record {
      rank = sym c.rank_in.ensures ∙ c.if-rank_in-ranks.false;
      deep = (omega (arith, c.depth_in-d.ensures, c.most_at.ensures, c.if-most_at-d.false));
      above = (rw c.depth_in-d.ensures at (c.is_above.ensures (not-false _ (ap not c.if-not-is_above.false))));
      linked = (rw (c.depth_in-d.ensures, c.link_in.ensures) at (c.is_linked.ensures e));
    }
