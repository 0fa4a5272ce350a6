use Rattle.std.proofs.Common.{sym, refl, true≢false, arith, eqb-true}
use Rattle.records.proofs.Loops.{flag_yes}
use Rattle.row_blocks.proofs.Telling.{line-compared, line-ranged, line-tested}
use mathlib.Core.Path.{ap}
use mathlib.Core.Bool.{not}
use Rattle.row_blocks.proofs.lines.is_line.Goals as goal

pub returns-then-not-is_kind : goal.returns-then-not-is_kind
returns-then-not-is_kind c = λ e. absurd (true≢false (sym e))

pub returns-then-f-gt7 : goal.returns-then-f-gt7
returns-then-f-gt7 c = λ e. absurd (true≢false (sym e))

pub returns-then-f-eq1 : goal.returns-then-f-eq1
returns-then-f-eq1 c = λ e. absurd (true≢false (sym e))

pub returns-then-f-eq3 : goal.returns-then-f-eq3
returns-then-f-eq3 c = λ e. absurd (true≢false (sym e))

pub returns-then-f-eq4 : goal.returns-then-f-eq4
returns-then-f-eq4 c =
    λ e. line-compared _ _ (c.is_kind.ensures (flag_yes refl (ap not c.if-not-is_kind.false))) c.if-f-eq4.true c.if-f-gt7.false c.if-f-eq1.false
    c.if-f-eq3.false (c.is_kind-then-f-eq4.ensures e)

pub returns-then-not-is_kind-2 : goal.returns-then-not-is_kind-2
returns-then-not-is_kind-2 c = λ e. absurd (true≢false (sym e))

pub returns-then-f-eq8 : goal.returns-then-f-eq8
returns-then-f-eq8 c =
    λ e. line-ranged _ _ (c.is_kind.ensures (flag_yes refl (ap not c.if-not-is_kind.false))) c.if-f-eq8.true (c.is_kind-then-f-eq8.ensures
    (flag_yes refl (ap not c.if-not-is_kind-2.false))) (c.is_kind-then-f-eq8-2.ensures e)

pub returns-then-f-eq6 : goal.returns-then-f-eq6
returns-then-f-eq6 c =
    λ e. line-tested _ _ (c.is_kind.ensures (flag_yes refl (ap not c.if-not-is_kind.false))) (omega (arith, c.if-f-eq6.true)) (omega
    (arith, c.if-f-eq6.true))

pub returns : goal.returns
returns c =
    λ e. let k = eqb-true c.args.f.kind 7 e in line-tested _ _ (c.is_kind.ensures (flag_yes refl (ap not c.if-not-is_kind.false))) (omega (arith, k)) (omega (arith, k))
