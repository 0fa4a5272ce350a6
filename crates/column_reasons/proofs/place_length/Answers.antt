use mathlib.Core.Path.{refl}
use native.Mathlib.Omega.{arith}
use Rattle.merge.specs.Reasons.{shown_in}
use Rattle.column_reasons.proofs.Places.{text-none, text-one}
use Rattle.column_reasons.proofs.place_length.Goals as goal

pub returns-in-Vacant : goal.returns-in-Vacant
returns-in-Vacant c =
    record {
      by_index = λ text. rw (c.in-Vacant.is, text-none (shown_in c.args.t.now text) c.args.a.0) refl;
      upper_bound = omega
          arith;
    }

pub returns-in-Eq : goal.returns-in-Eq
returns-in-Eq c =
    record { by_index = λ text. rw (c.in-Eq.is, text-one (shown_in c.args.t.now text) c.args.a.0 _) (c.limit_length.ensures.by_index text); upper_bound = c.limit_length.ensures.upper_bound }

pub returns-in-Gt : goal.returns-in-Gt
returns-in-Gt c =
    record { by_index = λ text. rw (c.in-Gt.is, text-one (shown_in c.args.t.now text) c.args.a.0 _) (c.limit_length-in-Gt.ensures.by_index text); upper_bound = c.limit_length-in-Gt.ensures.upper_bound }

pub returns-in-GtEq : goal.returns-in-GtEq
returns-in-GtEq c =
    record { by_index = λ text. rw (c.in-GtEq.is, text-one (shown_in c.args.t.now text) c.args.a.0 _) (c.limit_length-in-GtEq.ensures.by_index text); upper_bound = c.limit_length-in-GtEq.ensures.upper_bound }

pub returns-in-Lt : goal.returns-in-Lt
returns-in-Lt c =
    record { by_index = λ text. rw (c.in-Lt.is, text-one (shown_in c.args.t.now text) c.args.a.0 _) (c.limit_length-in-Lt.ensures.by_index text); upper_bound = c.limit_length-in-Lt.ensures.upper_bound }

pub returns-in-LtEq : goal.returns-in-LtEq
returns-in-LtEq c =
    record { by_index = λ text. rw (c.in-LtEq.is, text-one (shown_in c.args.t.now text) c.args.a.0 _) (c.limit_length-in-LtEq.ensures.by_index text); upper_bound = c.limit_length-in-LtEq.ensures.upper_bound }

pub returns-in-NotEq : goal.returns-in-NotEq
returns-in-NotEq c =
    record { by_index = λ text. rw (c.in-NotEq.is, text-one (shown_in c.args.t.now text) c.args.a.0 _) (c.limit_length-in-NotEq.ensures.by_index text); upper_bound = c.limit_length-in-NotEq.ensures.upper_bound }
