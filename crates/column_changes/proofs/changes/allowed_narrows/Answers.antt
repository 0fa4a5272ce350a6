use mathlib.Core.Path.{◌≡◌, sym, ◌∙◌, ap}
use Prim.Native.Nat.{ℕ}
use native.Mathlib.Omega.{arith}
use lib.ListN.{get_or}
use Rattle.column_constraints.proofs.Pigeon.{marked-at}
use Rattle.column_sets.proofs.Lists.{narrows_first, skip_allowed, none_allowed}
use borrow.Author.Rules.{rules}
use Rattle.column_constraints.specs.Abstraction.{kinds_in, starts_in, counts_in}
use Rattle.column_changes.proofs.changes.allowed_narrows.Goals as goal

pub loop-i-init : goal.loop-i-init
loop-i-init c = (search rules, none_allowed _ _ _ _ _)

pub kind_set-allowed-requires : goal.kind_set-allowed-requires
kind_set-allowed-requires c = c.requires.1

pub slice_bounds-any_outside-end : goal.slice_bounds-any_outside-end
slice_bounds-any_outside-end c = search (rules, c.kind_set-allowed.ensures.size)

pub any_outside-requires : goal.any_outside-requires
any_outside-requires c = record { indexed = c.requires.0; low = (c.requires.1, c.kind_set-allowed.ensures) }

pub returns-then-kind_at-eq1 : goal.returns-then-kind_at-eq1
returns-then-kind_at-eq1 c =
    c.any_outside.ensures ∙ narrows_first (kinds_in c.args.told.now) (starts_in c.args.told.now) (counts_in c.args.told.now)
    c.args.pool.now c.args.marks.now c.args.n _ c.args.j (marked-at c.args.marks.now
    c.loop-i.i c.args.n _ c.loop-i-test.true (sym c.byte-f.ensures)) (sym c.kind_at.ensures ∙ c.if-kind_at-eq1.true)

pub loop-i-preserved : goal.loop-i-preserved
loop-i-preserved c = (
  search rules,
  skip_allowed (kinds_in c.args.told.now) (starts_in c.args.told.now) (counts_in c.args.told.now) c.args.pool.now c.args.marks.now c.loop-i.i c.loop-i.invariant.1 (λ e. c.if-kind_at-eq1.false (c.kind_at.ensures ∙ ap (λ (m : ℕ).
      get_or (kinds_in c.args.told.now) m 0) c.byte-f.ensures ∙ e)),
)

pub returns : goal.returns
returns c =
    let e : c.loop-i.i ≡ c.args.n = omega (arith, c.loop-i.invariant.0, c.loop-i-test.false) in
    let h = rw e at c.loop-i.invariant.1 in
    rw h
