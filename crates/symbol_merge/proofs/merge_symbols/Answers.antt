use mathlib.Core.Path.{sym, ◌∙◌}
use Prim.Native.Nat.{ℕ}
use native.Mathlib.Omega.{arith}
use lib.ListN.{length-replicate}
use Rattle.column_constraints.specs.Abstraction.{kinds_in, values_in, starts_in, counts_in}
use Rattle.checking.proofs.Accepted.{checked-in, checked-used_in, checked-lent_in}
use Rattle.symbol_screens.specs.Rewriting.{lent}
use Rattle.symbol_merge.proofs.Symbols.{long-asked, mixed_asked, columns-asked, counts-asked, promised}
use Rattle.symbol_merge.proofs.merge_symbols.Goals as goal

pub exchange_front-requires : goal.exchange_front-requires
exchange_front-requires c = (
  checked-lent_in (lent c.args.text.now) c.args.t.now c.args.rs.now c.args.p.now c.args.used c.args.root.0 (checked-in (lent c.args.text.now) c.args.t.now c.args.rs.now c.args.p.now c.args.used c.args.root.0 c.requires.accepted),
  c.requires.copied,
)

pub take_kinds-requires : goal.take_kinds-requires
take_kinds-requires c =
    let y = length-replicate {A = ℕ} 256 0 in
    record {
      n_in_bounds = (
        omega (arith, y, c.read_literals-2.auto.told, c.requires.there.0),
        omega (
          arith,
          c.read_literals.auto.told,
          c.read_literals-2.auto.told,
          y,
        ),
      );
      by_index = (λ i l. c.read_literals.ensures.by_index_2 i l ∙ sym
          (c.read_literals-2.ensures.by_index_2 i l));
    }

pub merge_ranks-r-requires : goal.merge_ranks-r-requires
merge_ranks-r-requires c =
    record {
      n_bound = (
        c.requires.there.0,
        checked-used_in (lent c.args.text.now) c.args.t.now c.args.rs.now c.args.p.now c.args.used c.args.root.0 (checked-in (lent c.args.text.now) c.args.t.now c.args.rs.now c.args.p.now c.args.used c.args.root.0 c.requires.accepted),
        c.requires.there.1,
        c.requires.there.2,
        c.requires.there.3,
      );
      by_index = (λ i h. c.read_literals-2.ensures.by_index c.args.pool.now i h);
      by_index_2 = columns-asked c.args.text.now c.args.t.now c.args.rs.now c.args.p.now c.args.used c.args.root.0 c.requires.accepted c.args.trees.now c.requires.counted c.requires.small c.args.nodes.now c.args.n c.requires.walked c.requires.there.0 c.requires.ranked.0 c.requires.ranked.1 c.args.src.now c.args.pool.now c.requires.ranked.2 c.requires.copied c.exchange_front.new.rs c.exchange_front.new.src c.exchange_front.ensures.rs_after c.exchange_front.ensures.src_after;
      counts = (rw c.take_kinds.ensures.bits_unchanged
          (counts-asked c.args.text.now c.args.t.now c.args.rs.now c.args.p.now c.args.used c.args.root.0 c.requires.accepted c.args.trees.now c.requires.counted c.requires.small c.args.nodes.now c.args.n c.requires.walked c.requires.there.0 c.requires.ranked.0
          c.requires.ranked.1 c.args.src.now c.args.pool.now c.requires.ranked.2 c.requires.copied c.exchange_front.new.rs c.exchange_front.new.src c.exchange_front.ensures.rs_after
          c.exchange_front.ensures.src_after (kinds_in c.read_literals-2.new.told) (values_in c.read_literals-2.new.told) (starts_in c.read_literals-2.new.told) (counts_in c.read_literals-2.new.told)
          (kinds_in c.read_literals.new.told) (values_in c.read_literals.new.told) (starts_in
          c.read_literals.new.told) (counts_in c.read_literals.new.told) (c.read_literals.ensures.by_index
          c.args.p.now)));
      bits_value = c.take_kinds.ensures.bits_after;
    }

pub put_front-requires : goal.put_front-requires
put_front-requires c =
    let w = mixed_asked c.args.text.now c.args.t.now c.args.rs.now c.args.p.now c.args.used c.args.root.0 c.requires.accepted c.args.trees.now c.requires.counted c.requires.small
    c.args.nodes.now c.args.n c.requires.walked c.requires.there.0 c.requires.ranked.0 c.requires.ranked.1 c.args.src.now c.args.pool.now c.requires.ranked.2 c.requires.copied c.exchange_front.new.rs c.exchange_front.new.src
    c.exchange_front.ensures.rs_after c.exchange_front.ensures.src_after in
    let k = c.merge_ranks-r.auto.rs in (
      omega (arith, w, k),
      long-asked c.args.text.now c.args.t.now c.args.rs.now c.args.p.now c.args.used c.args.root.0 c.requires.accepted c.args.trees.now c.requires.counted c.requires.small c.args.nodes.now c.args.n c.requires.walked c.requires.there.0 c.requires.ranked.0 c.requires.ranked.1 c.args.src.now c.args.pool.now c.requires.ranked.2 c.requires.copied c.exchange_front.new.rs c.exchange_front.new.src
          c.exchange_front.ensures.rs_after c.exchange_front.ensures.src_after,
    )

pub shape_of-rs : goal.shape_of-rs
shape_of-rs c = c.put_front.auto.rs ∙ c.merge_ranks-r.auto.rs ∙ c.exchange_front.auto.rs

pub shape_of-src : goal.shape_of-src
shape_of-src c = c.exchange_front.auto.src

pub returns : goal.returns
returns c =
    record {
      explains = (λ bytes. promised c.args.text.now c.args.t.now c.args.rs.now c.args.p.now c.args.used c.args.root.0 c.requires.accepted c.args.trees.now c.requires.counted c.requires.small c.args.nodes.now c.args.n c.requires.walked c.requires.there.0 c.requires.ranked.0
          c.requires.ranked.1 c.args.src.now c.args.pool.now c.requires.ranked.2 c.requires.copied c.exchange_front.new.rs c.exchange_front.new.src c.exchange_front.ensures.rs_after
          c.exchange_front.ensures.src_after (kinds_in c.read_literals-2.new.told) (values_in c.read_literals-2.new.told) (starts_in c.read_literals-2.new.told) (counts_in c.read_literals-2.new.told)
          (kinds_in c.read_literals.new.told) (values_in c.read_literals.new.told) (starts_in
          c.read_literals.new.told) (counts_in c.read_literals.new.told) (c.read_literals.ensures.by_index
          c.args.p.now) bytes c.args.reasons.now c.merge_ranks-r.result c.merge_ranks-r.new.rs _ _ (rw
          c.take_kinds.ensures.bits_unchanged at c.merge_ranks-r.ensures.merges) c.merge_ranks-r.ensures.passes_value c.put_front.ensures);
    }
