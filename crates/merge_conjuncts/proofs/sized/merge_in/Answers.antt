use Prim.Native.Nat.{ℕ}
use native.Mathlib.Omega.{arith}
use lib.ListN.{length-replicate}
use Rattle.checking.proofs.Accepted.{checked, checked-used}
use Rattle.reading.proofs.Screens.{node-columns}
use Rattle.merge_conjuncts.proofs.Merged.{rewrite-merged}
use Rattle.merge_conjuncts.proofs.sized.merge_in.Goals as goal

-- the clauses by their names
named : {A0 A1 A2 A3 A4 : Type 0} → A0 × (A1 × (A2 × (A3 × A4))) → record { answer : A0; bytes : A1; passes : A2; text : A3; length : A4 }
named p = record { answer = p.0; bytes = p.1.0; passes = p.1.1.0; text = p.1.1.1.0; length = p.1.1.1.1 }

pub merge_read-requires : goal.merge_read-requires
merge_read-requires g c =
    let ok = checked c.args.t.now c.args.rs.now c.args.p.now c.args.used c.args.root.0 c.requires.accepted in
    let z = length-replicate {A = ℕ} g.row.MARKS 0 in
    record {
      n_bound = (
        omega (arith, z, c.requires.there.0),
        omega (arith, z),
        checked-used c.args.t.now c.args.rs.now c.args.p.now c.args.used c.args.root.0 ok,
        c.requires.there.1,
      );
      room = (
        omega (
          arith,
          length-replicate {A = ℕ} g.row.TWICE 0,
          c.requires.there.0,
        ),
        omega (
          arith,
          length-replicate {A = ℕ} g.row.N 0,
          c.requires.there.0,
        ),
        omega (arith, length-replicate {A = ℕ} g.row.N 0, c.requires.there.0),
        omega (arith, length-replicate {A = ℕ} g.row.N 0, c.requires.there.0),
        omega (
          arith,
          length-replicate {A = ℕ} g.row.N 0,
          c.requires.there.0,
        ),
      );
      by_index = (λ i h. c.read_literals.ensures.by_index c.args.p.now i h);
      by_index_2 = node-columns c.args.t.now c.args.rs.now c.args.p.now c.args.used c.args.root.0
          ok c.args.nodes.now c.args.n c.requires.walked;
    }

pub returns : goal.returns
returns g c =
    named (rewrite-merged c.args.t.now c.args.rs.now c.args.p.now c.args.used c.args.root.0 c.requires.accepted c.args.trees.now c.requires.counted c.requires.small c.args.nodes.now c.args.n c.requires.walked (omega arith) c.merge_read.result _ c.args.reasons.now _ c.merge_read.ensures)
