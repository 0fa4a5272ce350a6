use mathlib.Core.Path.{refl}
use native.Mathlib.Omega.{arith}
use Rattle.filter_constraint.proofs.merging.put_literals.Goals as goal

pub returns-then-own-eq0 : goal.returns-then-own-eq0
returns-then-own-eq0 c =
    record { same = λ h. refl; literals = λ h. absurd (omega (arith, h, c.if-own-eq0.true)); size = refl }

pub to_literals-requires : goal.to_literals-requires
to_literals-requires c = (c.requires.0 (omega (arith, c.if-own-eq0.false)), c.requires.1)

pub returns : goal.returns
returns c =
    record {
      same = λ h. absurd (omega (arith, h, c.if-own-eq0.false));
      literals = λ h. c.to_literals.ensures.by_index;
      size =
          c.to_literals.ensures.cells_len_unchanged;
    }
