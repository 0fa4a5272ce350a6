use Prim.Native.Nat.{suc, ◌+◌, ◌-◌, ◌<◌}
use mathlib.Core.Path.{◌≡◌, refl, ◌∙◌, subst}
use native.Mathlib.Omega.{arith}
use lib.ListN.{length, length-set, get_or, set}
use Rattle.masks.specs.Block.{Closed}
use Rattle.masks.proofs.Reaching.{Reached, reached_root, reached_more, reached_skip, reached_done}
use borrow.Author.Rules.{rules}
use Rattle.masks.proofs.reach.mark_reached.Goals as goal

-- the clauses by their names
named : {A0 A1 : Type 0} → A0 × A1 → record { root_after : A0; closed : A1 }
named p = record { root_after = p.0; closed = p.1 }

pub loop-n-init : goal.loop-n-init
loop-n-init c =
    let h : c.args.root.0 < length c.args.marks.now = omega (arith, c.requires.root_bound, c.requires.in_bounds) in
    let e : c.args.root.0 ≡ c.args.root.0 + 1 - 1 = omega arith in (
      search rules,
      refl,
      simp length-set c.requires.in_bounds,
      subst (λ z. Reached c.args.records.now (set c.args.marks.now c.args.root.0 1) z (c.args.root.0 + 1)) e (reached_root c.args.records.now c.args.marks.now c.args.root.0 h),
    )

pub loop-n-preserved-then-marks-n : goal.loop-n-preserved-then-marks-n
loop-n-preserved-then-marks-n c =
    let h = c.loop-n-test.true in
    let e : c.loop-n.n ≡ suc (c.loop-n.n - 1) = omega (arith, h) in (
      search rules,
      search rules,
      search rules,
      rw (c.mark-then-marks-n-2.ensures, c.mark-then-marks-n.ensures, c.mark.ensures) (reached_more _ _ _ _ _ _ e
          c.fields_in-f.ensures c.loop-n.invariant.3),
    )

pub loop-n-preserved : goal.loop-n-preserved
loop-n-preserved c =
    let h = c.loop-n-test.true in
    let e : c.loop-n.n ≡ suc (c.loop-n.n - 1) = omega (arith, h) in (
      search rules,
      search rules,
      search rules,
      reached_skip _ _ _ _ _ _ e c.fields_in-f.ensures (rw (← c.is_kept.ensures) c.if-marks-n.false) c.loop-n.invariant.3,
    )

pub shape_of-marks : goal.shape_of-marks
shape_of-marks c = c.loop-n.invariant.1 ∙ length-set c.args.marks.now c.args.root.0 1

pub returns : goal.returns
returns c =
    let e : c.args.root.0 + 1 - 1 ≡ c.args.root.0 = omega arith in
    named (subst (λ z. (get_or c.loop-n.marks z 0 ≡ 1) × Closed c.args.records.now c.loop-n.marks 0 z) e (reached_done _
    _ _ _ (omega arith) c.loop-n.invariant.3))
