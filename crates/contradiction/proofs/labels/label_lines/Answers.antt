use mathlib.Core.Path.{◌≡◌, refl, sym, ◌∙◌, subst}
use native.Mathlib.Omega.{arith}
use Rattle.truth.specs.FromBytes.{aexpr_of}
use Rattle.contradiction.specs.Labels.{lines_to, Labels}
use Rattle.contradiction.proofs.Labelling.{lines_none, labels_none, labels_more}
use Rattle.contradiction.proofs.labels.label_lines.Goals as goal

pub loop-i-init : goal.loop-i-init
loop-i-init c = (
  omega arith,
  (λ p h. subst (λ l. Labels l c.args.labels.now) (sym (lines_none (aexpr_of c.args.rs.now p) c.args.nodes.now)) (labels_none c.args.labels.now c.requires.1 c.requires.2)),
  refl,
)

pub join_line-requires : goal.join_line-requires
join_line-requires c = c.loop-i.invariant.2 ∙ c.requires.1

pub loop-i-preserved : goal.loop-i-preserved
loop-i-preserved c = (
  omega (arith, c.loop-i-test.true),
  (λ p h. labels_more (aexpr_of c.args.rs.now p) c.args.nodes.now c.loop-i.i c.loop-i.labels _ (h c.loop-i.i c.loop-i-test.true) (c.join_line.ensures.by_index p) (c.loop-i.invariant.1 p h)),
  c.join_line.ensures.labels_len_unchanged ∙ c.loop-i.invariant.2,
)

pub shape_of-labels : goal.shape_of-labels
shape_of-labels c = c.loop-i.invariant.2

pub returns : goal.returns
returns c =
    let e : c.loop-i.i ≡ c.args.n = omega (arith, c.loop-i.invariant.0, c.loop-i-test.false) in
    record {
      by_index = (λ p h. subst (λ m. Labels (lines_to (aexpr_of c.args.rs.now p) c.args.nodes.now m) c.loop-i.labels)
          e (c.loop-i.invariant.1 p h));
      labels_len_unchanged = c.loop-i.invariant.2;
    }
