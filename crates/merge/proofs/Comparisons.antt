-- The six ordinary comparisons of a column with a literal, as additions; and other orders.
use mathlib.Core.Path.{◌≡◌, refl, sym}
use mathlib.Core.Bool.{false}
use mathlib.Core.Option.{none, some}
use Rattle.truth.proofs.Orders.{cmp-eq, cmp-gt, cmp-lt}
use Rattle.truth.specs.Comparison.{Comparison, Eq, Gt, GtEq, Lt, LtEq, NotEq, comparison_holds}
use Rattle.truth.specs.Order.{View, equal_view, greater_view, less_view}
use Rattle.std.specs.declared.cmp.Ordering.{Ordering}
use Rattle.constraints.proofs.Columns.{obeys_all}
use Rattle.constraints.specs.Scalars.{Scalars}
use Rattle.merge.specs.Classify.{comparison_constraints}

module _ {K Val : Type 0} (S : Scalars K Val) where
  pub comparison_obeyed : (o : Comparison) (v : Val) (k : K) → obeys_all S (comparison_constraints o v) (some k) ≡
      comparison_holds o (S.order.cmp k (S.key v))
  comparison_obeyed o v k = go o (S.total.view k (S.key v))
    where
      go : (o : Comparison) {r : Ordering} → View S.order.less k (S.key v) r →
          obeys_all S (comparison_constraints o v) (some k) ≡ comparison_holds o r
      go Eq (less_view h) = rw (cmp-gt S.total h)
      go Eq (equal_view h) = rw (cmp-eq S.total h, cmp-eq S.total (sym h))
      go Eq (greater_view h) = rw (cmp-lt S.total h, cmp-gt S.total h)
      go NotEq (less_view h) = rw (cmp-lt S.total h)
      go NotEq (equal_view h) = rw (cmp-eq S.total h)
      go NotEq (greater_view h) = rw (cmp-gt S.total h)
      go Lt (less_view h) = rw (cmp-lt S.total h)
      go Lt (equal_view h) = rw (cmp-eq S.total h)
      go Lt (greater_view h) = rw (cmp-gt S.total h)
      go LtEq (less_view h) = rw (cmp-lt S.total h)
      go LtEq (equal_view h) = rw (cmp-eq S.total h)
      go LtEq (greater_view h) = rw (cmp-gt S.total h)
      go Gt (less_view h) = rw (cmp-gt S.total h)
      go Gt (equal_view h) = rw (cmp-eq S.total (sym h))
      go Gt (greater_view h) = rw (cmp-lt S.total h)
      go GtEq (less_view h) = rw (cmp-gt S.total h)
      go GtEq (equal_view h) = rw (cmp-eq S.total (sym h))
      go GtEq (greater_view h) = rw (cmp-lt S.total h)

  pub comparison_null : (o : Comparison) (v : Val) → obeys_all S (comparison_constraints o v) none ≡ false
  comparison_null Eq v = refl
  comparison_null NotEq v = refl
  comparison_null Lt v = refl
  comparison_null LtEq v = refl
  comparison_null Gt v = refl
  comparison_null GtEq v = refl
