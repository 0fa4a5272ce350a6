use mathlib.Core.Path.{refl, ◌∙◌}
use native.Mathlib.Omega.{arith}
use Rattle.truth.specs.FromBytes.{aexpr_of}
use Rattle.symbol_columns.proofs.Converting.{converted-none, converted-more, converted-all}
use Rattle.symbol_columns.proofs.convert.to_literals.Goals as goal

pub loop-x-init : goal.loop-x-init
loop-x-init c = (
  omega arith,
  (λ p s marks T S. converted-none c.args.t.now (aexpr_of c.args.rs.now p) c.args.nodes.now s marks T _ S),
  refl,
)

pub load-c-requires : goal.load-c-requires
load-c-requires c = (omega (arith, c.loop-x-test.true, c.requires.0), c.loop-x.invariant.2 ∙ c.requires.1)

pub store-requires : goal.store-requires
store-requires c = (omega (arith, c.loop-x-test.true, c.requires.0), c.loop-x.invariant.2 ∙ c.requires.1)

pub loop-x-smaller : goal.loop-x-smaller
loop-x-smaller c = omega (arith, c.loop-x-test.true)

pub loop-x-preserved : goal.loop-x-preserved
loop-x-preserved c = (
  omega (arith, c.loop-x-test.true),
  (λ p s marks T S. converted-more c.args.t.now (aexpr_of c.args.rs.now
      p) c.args.nodes.now s marks T _ _ _ _ _ _ (omega (arith, c.loop-x-test.true, c.requires.0)) (c.loop-x.invariant.1 p s marks
      T S) c.load-c.ensures refl (λ a. c.typed_column-d.ensures.by_index p s a) c.typed_column-d.ensures.len_value c.store.ensures.cells_after),
  c.store.ensures.cells_len_unchanged ∙ c.loop-x.invariant.2,
)

pub shape_of-cells : goal.shape_of-cells
shape_of-cells c = c.loop-x.invariant.2

pub returns : goal.returns
returns c =
    record {
      by_index = (λ p s marks T S. converted-all c.args.t.now (aexpr_of c.args.rs.now p) c.args.nodes.now s
          marks T _ _ (omega (arith, c.loop-x-test.false)) (c.loop-x.invariant.1 p s marks T S));
      cells_len_unchanged = c.loop-x.invariant.2;
    }
