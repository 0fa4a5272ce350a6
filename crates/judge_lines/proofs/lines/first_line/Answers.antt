use mathlib.Core.Path.{◌≡◌, refl, ◌∙◌, ap}
use mathlib.Core.Bool.{true, false, not}
use Prim.Native.Nat.{◌<◌}
use native.Mathlib.Omega.{arith}
use lib.ListN.{length, length-set}
use Rattle.truth.specs.FromBytes.{aexpr_of}
use Rattle.column_constraints.specs.Abstraction.{conjuncts}
use Rattle.rewrite.specs.Told.{ToldConjunct}
use Rattle.reading.specs.Columns.{ColumnsBelow}
use Rattle.judge_lines.proofs.LeftOut.{at_set, line-helps, set_back, true-none, true-more, true-found, true-done}
use borrow.Author.Rules.{rules}
use Rattle.judge_lines.proofs.lines.first_line.Goals as goal

pub loop-i-init : goal.loop-i-init
loop-i-init c = (omega arith, refl, true-none _, refl)

pub bounds-nodes-i : goal.bounds-nodes-i
bounds-nodes-i c =
    let z = ap length c.loop-i.invariant.1 in
    omega (arith, z, c.loop-i-test.true, c.requires.n_bound.2)

pub bounds-nodes-i-in-loop-i : goal.bounds-nodes-i-in-loop-i
bounds-nodes-i-in-loop-i c =
    let z = ap length c.loop-i.invariant.1 in
    omega (arith, z, c.loop-i-test.true, c.requires.n_bound.2)

pub lets_nothing_pass-nothing-requires : goal.lets_nothing_pass-nothing-requires
lets_nothing_pass-nothing-requires c =
    let z = ap length c.loop-i.invariant.1 in
    let k : c.loop-i.i < length c.args.nodes.now = omega (arith, c.loop-i-test.true, c.requires.n_bound.2) in
    record {
      n_bound = (
        omega (arith, c.loop-i.invariant.3, c.requires.n_bound.0),
        omega (arith, c.loop-i.invariant.3, c.requires.n_bound.1),
        omega (
          arith,
          z,
          length-set c.loop-i.nodes c.loop-i.i 0,
          c.requires.n_bound.2,
        ),
        c.requires.n_bound.3,
      );
      by_index = at_set (λ j x. ToldConjunct (conjuncts c.args.told.now c.args.p.now) j x) (aexpr_of c.args.rs.now c.args.p.now) c.loop-i.nodes c.args.nodes.now c.loop-i.i c.args.n c.loop-i.invariant.1 c.requires.p_value (λ j. tt) c.requires.by_index k;
      by_index_2 = at_set (λ j x. ColumnsBelow 64 x)
          (aexpr_of c.args.rs.now c.args.p.now) c.loop-i.nodes c.args.nodes.now c.loop-i.i c.args.n
          c.loop-i.invariant.1 c.requires.p_value (λ j. tt) c.requires.by_index_2 k;
    }

pub bounds-nodes-i-in-loop-i-2 : goal.bounds-nodes-i-in-loop-i-2
bounds-nodes-i-in-loop-i-2 c =
    let z = ap length c.loop-i.invariant.1 in
    omega (arith, z, length-set c.loop-i.nodes c.loop-i.i 0, c.loop-i-test.true, c.requires.n_bound.2)

pub shape_of-nodes-then-not-nothing : goal.shape_of-nodes-then-not-nothing
shape_of-nodes-then-not-nothing c = ap length (set_back _ _ _ ∙ c.loop-i.invariant.1)

pub returns-then-not-nothing : goal.returns-then-not-nothing
returns-then-not-nothing c =
    let helps : not c.lets_nothing_pass-nothing.result ≡ true = ap not c.if-not-nothing.true in
    true-found _ _ _ c.loop-i-test.true c.loop-i.invariant.2 (line-helps (aexpr_of c.args.rs.now c.args.p.now) c.loop-i.nodes c.args.nodes.now c.loop-i.i c.args.n _ _ c.loop-i.invariant.1 c.requires.p_value c.loop-i-test.true c.requires.n_bound.2 c.lets_nothing_pass-nothing.ensures helps)

pub loop-i-preserved : goal.loop-i-preserved
loop-i-preserved c = let helps : not c.lets_nothing_pass-nothing.result ≡ false = ap not c.if-not-nothing.false in (
  omega (arith, c.loop-i-test.true),
  set_back _ _ _ ∙ c.loop-i.invariant.1,
  true-more _ _ c.loop-i.invariant.2 (line-helps (aexpr_of c.args.rs.now c.args.p.now) c.loop-i.nodes c.args.nodes.now c.loop-i.i c.args.n _ _ c.loop-i.invariant.1 c.requires.p_value c.loop-i-test.true c.requires.n_bound.2 c.lets_nothing_pass-nothing.ensures helps),
  search rules,
)

pub returns : goal.returns
returns c = true-done _ _ _ c.loop-i.invariant.0 c.loop-i-test.false c.loop-i.invariant.2
