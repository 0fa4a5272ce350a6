use mathlib.Core.Path.{◌≡◌, refl, sym, ◌∙◌, subst}
use mathlib.Core.Bool.{Bool, true, false, not, ◌&&◌}
use Prim.Native.Nat.{ℕ, ◌<◌, ◌≤◌}
use native.Mathlib.Omega.{arith}
use borrow.Author.Tests.{le-ltb}
use lib.Dec.{ltb}
use Rattle.column_table.specs.Words.{columns_of}
use Rattle.column_table.specs.State.{Collects}
use Rattle.collect_constraints.proofs.Collecting.{collect-none, collect-more, collected-all}
use Rattle.collect_constraints.proofs.NullLines.{with_nulls, nulls_none, nulls_all}
use Rattle.collect_constraints.proofs.collect.collect.Goals as goal

pub loop-i-init : goal.loop-i-init
loop-i-init c = (
  omega arith,
  omega arith,
  omega arith,
  omega arith,
  (
    collect-none _ _ _ _ _ _ _ _ _ _ c.requires.n_bound.4,
    nulls_none _ _ (columns_of c.args.cells.now),
  ),
  refl,
  refl,
  refl,
  refl,
  refl,
  refl,
  refl,
)

pub bounds-nodes-i : goal.bounds-nodes-i
bounds-nodes-i c =
    let h : c.loop-i.i < c.args.n = c.loop-i-test.true in
    omega (arith, h, c.requires.n_bound.2)

pub collect_conjunct-held-requires : goal.collect_conjunct-held-requires
collect_conjunct-held-requires c =
    let h : c.loop-i.i < c.args.n = c.loop-i-test.true in
    record {
      fits = (
        record {
          size = c.loop-i.invariant.6 ∙ c.requires.n_bound.3;
          narrow = omega (arith, c.loop-i.invariant.5, c.requires.n_bound.1);
          fine = c.loop-i.invariant.4.0.shows.fine;
        },
        omega (arith, h, c.loop-i.invariant.5, c.requires.n_bound.0),
        c.loop-i.invariant.4.0.entered.seen_size,
        omega (arith, h, c.loop-i.invariant.1, c.loop-i.invariant.7, c.requires.n_bound.5),
        omega (
          arith,
          h,
          c.loop-i.invariant.1,
          c.requires.n_bound.0,
          c.requires.n_bound.1,
        ),
        omega (arith, h, c.loop-i.invariant.2, c.loop-i.invariant.8, c.requires.n_bound.6),
        omega (
          arith,
          h,
          c.loop-i.invariant.2,
          c.loop-i.invariant.9,
          c.requires.n_bound.7,
        ),
        omega (arith, h, c.loop-i.invariant.2, c.loop-i.invariant.10, c.requires.n_bound.8),
        omega (
          arith,
          h,
          c.loop-i.invariant.2,
          c.loop-i.invariant.11,
          c.requires.n_bound.9,
        ),
        omega (arith, h, c.loop-i.invariant.2, c.requires.n_bound.0, c.requires.n_bound.1),
        omega (
          arith,
          h,
          c.loop-i.invariant.2,
          c.requires.n_bound.0,
          c.requires.n_bound.1,
        ),
        omega (arith, h, c.loop-i.invariant.3, c.requires.n_bound.0, c.requires.n_bound.1),
      );
      told_conjunct = c.requires.by_index _ h;
      columns_below = c.requires.by_index_2 _ h;
    }

pub loop-i-preserved : goal.loop-i-preserved
loop-i-preserved c =
    let h : c.loop-i.i < c.args.n = c.loop-i-test.true in
    let live = c.if-held.false in (
      omega (arith, h),
      omega (arith, c.loop-i.invariant.1, c.collect_conjunct-held.ensures.columns_bound.0),
      omega (arith, c.loop-i.invariant.2, c.collect_conjunct-held.ensures.columns_bound.1),
      omega (
        arith,
        c.loop-i.invariant.3,
        c.collect_conjunct-held.ensures.columns_bound.2,
      ),
      with_nulls _ _ _ _ _ _ _ _ c.loop-i.invariant.4 (subst (Collects _ _ _ _ _ _ _ _ _ _ _ _ _ _ _)
          (sym (collect-more _ _ _ _ c.loop-i.invariant.4.0.stops live)) (c.collect_conjunct-held.ensures.collects _ c.loop-i.invariant.4.0 live)) c.collect_conjunct-held.ensures.columns_bound.5 (λ C. C.shows) (λ C. C.shows),
      c.collect_conjunct-held.ensures.columns_bound.4 ∙ c.loop-i.invariant.5,
      c.collect_conjunct-held.ensures.columns_bound.3 ∙ c.loop-i.invariant.6,
      c.collect_conjunct-held.auto.order ∙ c.loop-i.invariant.7,
      c.collect_conjunct-held.auto.kept
          ∙ c.loop-i.invariant.8,
      c.collect_conjunct-held.auto.lefts ∙ c.loop-i.invariant.9,
      c.collect_conjunct-held.auto.rights ∙ c.loop-i.invariant.10,
      c.collect_conjunct-held.auto.equals ∙ c.loop-i.invariant.11,
    )

-- nothing is read behind a column that became impossible
stopped : (b s : Bool) → s ≡ true → (b && not s) ≡ false
stopped true s e = rw e refl
stopped false s e = refl

-- or behind the last conjunct
past : (i n : ℕ) (s : Bool) → n ≤ i → (ltb i n && not s) ≡ false
past i n s h = rw (le-ltb i n h) refl

pub returns-then-held : goal.returns-then-held
returns-then-held c =
    record {
      collects = (c.loop-i.seen, collected-all _ _ _ _ _ _ _ _ _ _ _ _ _ _ _ _ _ _ _ c.loop-i.invariant.4.0 c.loop-i.invariant.0 (stopped (ltb c.loop-i.i c.args.n) _ c.if-held.true));
      columns_bound = (
        omega (arith, c.loop-i.invariant.0, c.loop-i.invariant.1),
        omega (arith, c.loop-i.invariant.0, c.loop-i.invariant.2),
        omega (
          arith,
          c.loop-i.invariant.0,
          c.loop-i.invariant.3,
        ),
        c.loop-i.invariant.6 ∙ c.requires.n_bound.3,
        c.loop-i.invariant.5,
        nulls_all _ _ _ _ _ (columns_of c.loop-i.cells) c.loop-i.invariant.0 c.loop-i.invariant.4.0.stops (stopped (ltb c.loop-i.i c.args.n) _ c.if-held.true) c.loop-i.invariant.4.1,
      );
    }

pub returns : goal.returns
returns c =
    record {
      collects = (c.loop-i.seen, collected-all _ _ _ _ _ _ _ _ _ _ _ _ _ _ _ _ _ _ _ c.loop-i.invariant.4.0 c.loop-i.invariant.0 (past c.loop-i.i c.args.n c.loop-i.held.unsat c.loop-i-test.false));
      columns_bound = (
        omega (arith, c.loop-i.invariant.0, c.loop-i.invariant.1),
        omega (arith, c.loop-i.invariant.0, c.loop-i.invariant.2),
        omega (
          arith,
          c.loop-i.invariant.0,
          c.loop-i.invariant.3,
        ),
        c.loop-i.invariant.6 ∙ c.requires.n_bound.3,
        c.loop-i.invariant.5,
        nulls_all _ _ _ _ _ (columns_of c.loop-i.cells) c.loop-i.invariant.0 c.loop-i.invariant.4.0.stops (past c.loop-i.i c.args.n c.loop-i.held.unsat c.loop-i-test.false) c.loop-i.invariant.4.1,
      );
    }
