-- Values by their keys. All that follows is over values of any type Val with a key in an ordered type K: two values
-- are equal when their keys are, and "the one already held stays" speaks of values. For Int, Day and Truth a value is
-- its 64 bits and the key is twice the number, so that there is a key between any two neighbouring numbers.
use Rattle.std.specs.Prelude.{◌≡◌}
use Rattle.truth.specs.Order.{Order, Total, opp}
use Rattle.truth.proofs.Orders.{opp-total}
use Rattle.std.specs.declared.cmp.Ordering.{Ordering}

pub record Scalars (K Val : Type 0) : Type 1 where
  pub key : Val → K
  pub order : Order K
  pub total : Total order
  -- What is held of a bound and the excluded value on it that opens it; the Rust holds the excluded value.
  pub opened : Val → Val → Val
  pub opened-key : (bound excluded : Val) → key (opened bound excluded) ≡ key excluded

-- The same values, in the order read backwards: an upper bound is a lower bound there.
abbrev pub opposite : {K Val : Type 0} → Scalars K Val → Scalars K Val
opposite S =
    record {
      key = S.key;
      order = opp S.order;
      total = opp-total S.total;
      opened = S.opened;
      opened-key = S.opened-key;
    }

-- `scalar_cmp`: every comparison of two values goes through it.
abbrev pub scalar_cmp : {K Val : Type 0} → Scalars K Val → Val → Val → Ordering
scalar_cmp S a b = S.order.cmp (S.key a) (S.key b)
