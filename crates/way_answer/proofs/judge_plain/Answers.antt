use Prim.Native.Nat.{ℕ}
use native.Mathlib.Omega.{arith}
use lib.ListN.{length-replicate}
use mathlib.Core.Path.{◌∙◌}
use Rattle.checking.proofs.Accepted.{checked}
use Rattle.reading.proofs.Screens.{node-columns}
use Rattle.far_lists.proofs.Sizes.{no_index}
use Rattle.way_answer.proofs.Answers.{zero-says, way-lines}
use Rattle.way_answer.proofs.judge_plain.Goals as goal

pub judge_indexed-requires : goal.judge_indexed-requires
judge_indexed-requires c =
    let ok = checked c.args.t.now c.args.rs.now c.args.p.now c.args.used c.args.root.0 c.requires.accepted in
    let z = length-replicate {A = ℕ} 8192 0 in
    record {
      n_bound = (
        omega (arith, z, c.requires.there.0),
        omega (arith, z),
        c.requires.there.1,
        c.looks_often.ensures
            c.if-looks_often.true,
      );
      by_index = (λ i h. c.read_literals.ensures.by_index c.args.p.now i h);
      by_index_2 = node-columns c.args.t.now c.args.rs.now c.args.p.now c.args.used c.args.root.0 ok c.args.nodes.now
          c.args.n c.requires.walked;
      p_value = zero-says c.args.t.now c.args.rs.now c.args.p.now c.args.used c.args.root.0 c.requires.accepted;
    }

pub returns-then-looks_often : goal.returns-then-looks_often
returns-then-looks_often c =
    c.judge_indexed.ensures ∙ way-lines c.args.t.now c.args.rs.now c.args.p.now c.args.used c.args.root.0 c.requires.accepted c.requires.small c.args.nodes.now c.args.n c.requires.walked c.requires.there.0 c.requires.plain

pub judge_lines-requires : goal.judge_lines-requires
judge_lines-requires c =
    let ok = checked c.args.t.now c.args.rs.now c.args.p.now c.args.used c.args.root.0 c.requires.accepted in
    let z = length-replicate {A = ℕ} 8192 0 in
    record {
      n_bound = (
        omega (arith, z, c.requires.there.0),
        omega (arith, z),
        c.requires.there.1,
        no_index _ _ _
            (omega (arith, length-replicate {A = ℕ} 1 0)),
      );
      by_index = (λ i h. c.read_literals.ensures.by_index c.args.p.now i
          h);
      by_index_2 = node-columns c.args.t.now c.args.rs.now c.args.p.now c.args.used c.args.root.0 ok c.args.nodes.now c.args.n c.requires.walked;
      p_value = zero-says c.args.t.now c.args.rs.now c.args.p.now c.args.used c.args.root.0 c.requires.accepted;
    }

pub returns : goal.returns
returns c =
    c.judge_lines.ensures ∙ way-lines c.args.t.now c.args.rs.now c.args.p.now c.args.used
    c.args.root.0 c.requires.accepted c.requires.small c.args.nodes.now c.args.n c.requires.walked c.requires.there.0 c.requires.plain
