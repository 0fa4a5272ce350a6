use native.Mathlib.Omega.{arith}
use Rattle.truth.specs.FromBytes.{aexpr_of}
use Rattle.judge_lines.proofs.Answers.{line-passes, line-found, line-none}
use mathlib.Core.Path.{ap}
use mathlib.Core.Bool.{not}
use Rattle.judge_lines.proofs.lines.judge_lines.Goals as goal

pub returns-then-not-lets_nothing_pass : goal.returns-then-not-lets_nothing_pass
returns-then-not-lets_nothing_pass c =
    line-passes (aexpr_of c.args.rs.now c.args.p.now) c.args.nodes.now c.args.n _
    c.lets_nothing_pass.ensures (ap not c.if-not-lets_nothing_pass.true)

pub first_line-i-requires : goal.first_line-i-requires
first_line-i-requires c =
    record {
      n_bound = (
        omega (arith, c.lets_nothing_pass.auto.marks, c.requires.n_bound.0),
        omega (arith, c.lets_nothing_pass.auto.marks, c.requires.n_bound.1),
        c.requires.n_bound.2,
        c.requires.n_bound.3,
      );
      by_index = c.requires.by_index;
      by_index_2 = c.requires.by_index_2;
      p_value = c.requires.p_value;
    }

pub returns-then-i-n : goal.returns-then-i-n
returns-then-i-n c =
    line-found (aexpr_of c.args.rs.now c.args.p.now) c.args.nodes.now c.args.n _
    c.lets_nothing_pass.ensures (ap not c.if-not-lets_nothing_pass.false) _ c.first_line-i.ensures c.if-i-n.true

pub returns : goal.returns
returns c =
    line-none (aexpr_of c.args.rs.now c.args.p.now) c.args.nodes.now c.args.n _
    c.lets_nothing_pass.ensures (ap not c.if-not-lets_nothing_pass.false) _ c.first_line-i.ensures c.if-i-n.false
