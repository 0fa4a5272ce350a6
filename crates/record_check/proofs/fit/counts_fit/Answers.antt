use Rattle.record_check.proofs.Outsides.{counts-tell}
use borrow.Author.Rules.{rules}
use Rattle.record_check.proofs.fit.counts_fit.Goals as goal

pub returns-then-counts-eq0 : goal.returns-then-counts-eq0
returns-then-counts-eq0 c = c.all_fit.ensures

pub bounds-counts-end : goal.bounds-counts-end
bounds-counts-end c = let h = c.requires.counts_of c.if-counts-eq0.false in search (rules, h.0)

pub bounds-counts-from : goal.bounds-counts-from
bounds-counts-from c = let h = c.requires.counts_of c.if-counts-eq0.false in search (rules, h.0)

pub returns : goal.returns
returns c =
    counts-tell c.args.text c.args.p.now c.args.counts.now c.args.ty c.args.start c.args.count
    (c.requires.counts_of c.if-counts-eq0.false).1 c.requires.count_in_bounds
