use Prim.Native.Nat.{ℕ}
use native.Mathlib.Omega.{arith}
use lib.ListN.{length-replicate}
use Rattle.checking.proofs.Accepted.{checked}
use Rattle.reading.proofs.Screens.{node-columns}
use Rattle.far_lists.proofs.Sizes.{no_index}
use Rattle.plain_lines.proofs.Refusals.{table-few}
use Rattle.show_row.proofs.Answers as answers
use Rattle.show_row.proofs.show_plain.Goals as goal

-- the clauses by their names
named : {A0 A1 A2 : Type 0} → A0 × (A1 × A2) → record { value : A0; row_after : A1; low_shown : A2 }
named p = record { value = p.0; row_after = p.1.0; low_shown = p.1.1 }

pub show_indexed-requires : goal.show_indexed-requires
show_indexed-requires c =
    let ok = checked c.args.t.now c.args.rs.now c.args.p.now c.args.used c.args.root.0 c.requires.accepted in
    let z = length-replicate {A = ℕ} 8192 0 in
    let few = table-few c.args.t.now c.args.rs.now c.args.p.now c.args.used c.args.root.0 ok in
    record {
      n_bound = (
        omega (arith, z, c.requires.there.0),
        omega (arith, z),
        c.requires.there.1,
        c.travels_far.ensures
            c.if-travels_far.true,
        omega (arith, few),
        omega (arith, c.requires.room),
      );
      by_index = (λ i h. c.read_literals.ensures.by_index c.args.p.now i h);
      by_index_2 = node-columns c.args.t.now c.args.rs.now c.args.p.now c.args.used c.args.root.0 ok c.args.nodes.now c.args.n c.requires.walked;
    }

pub returns-then-travels_far : goal.returns-then-travels_far
returns-then-travels_far c =
    named (answers.show-plain c.args.t.now c.args.rs.now c.args.p.now c.args.used c.args.root.0 _ c.requires.accepted c.requires.small c.args.nodes.now c.args.n c.requires.walked c.requires.there.0 c.requires.plain c.requires.room _ _ _ c.show_indexed.ensures.value
    c.show_indexed.ensures.row_after c.show_indexed.ensures.low_wholes)

pub show_lines-requires : goal.show_lines-requires
show_lines-requires c =
    let ok = checked c.args.t.now c.args.rs.now c.args.p.now c.args.used c.args.root.0 c.requires.accepted in
    let z = length-replicate {A = ℕ} 8192 0 in
    let few = table-few c.args.t.now c.args.rs.now c.args.p.now c.args.used c.args.root.0 ok in
    record {
      n_bound = (
        omega (arith, z, c.requires.there.0),
        omega (arith, z),
        c.requires.there.1,
        no_index _ _ _
            (omega (arith, length-replicate {A = ℕ} 1 0)),
        omega (arith, few),
        omega (arith, c.requires.room),
      );
      by_index = (λ i h. c.read_literals.ensures.by_index c.args.p.now i h);
      by_index_2 = node-columns c.args.t.now c.args.rs.now c.args.p.now c.args.used c.args.root.0 ok c.args.nodes.now c.args.n c.requires.walked;
    }

pub returns : goal.returns
returns c =
    named (answers.show-plain c.args.t.now c.args.rs.now c.args.p.now c.args.used c.args.root.0 _ c.requires.accepted c.requires.small c.args.nodes.now c.args.n c.requires.walked c.requires.there.0 c.requires.plain c.requires.room _ _ _ c.show_lines.ensures.value c.show_lines.ensures.row_after c.show_lines.ensures.low_wholes)
