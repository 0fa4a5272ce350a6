use mathlib.Core.Path.{refl}
use native.Mathlib.Omega.{arith}
use Rattle.merge.specs.Reasons.{shown_in}
use Rattle.column_reasons.proofs.Places.{text-none, text-one}
use Rattle.column_reasons.proofs.Places.{splice-none}
use Rattle.column_reasons.proofs.write_place.Goals as goal

pub write_limit-requires : goal.write_limit-requires
write_limit-requires c = rw (c.in-Eq.is, text-one (shown_in c.args.t.now c.args.text.now) c.args.a.0 _) at c.requires

pub write_limit-requires-in-Gt : goal.write_limit-requires-in-Gt
write_limit-requires-in-Gt c = rw (c.in-Gt.is, text-one (shown_in c.args.t.now c.args.text.now) c.args.a.0 _) at c.requires

pub write_limit-requires-in-GtEq : goal.write_limit-requires-in-GtEq
write_limit-requires-in-GtEq c = rw (c.in-GtEq.is, text-one (shown_in c.args.t.now c.args.text.now) c.args.a.0 _) at c.requires

pub write_limit-requires-in-Lt : goal.write_limit-requires-in-Lt
write_limit-requires-in-Lt c = rw (c.in-Lt.is, text-one (shown_in c.args.t.now c.args.text.now) c.args.a.0 _) at c.requires

pub write_limit-requires-in-LtEq : goal.write_limit-requires-in-LtEq
write_limit-requires-in-LtEq c = rw (c.in-LtEq.is, text-one (shown_in c.args.t.now c.args.text.now) c.args.a.0 _) at c.requires

pub write_limit-requires-in-NotEq : goal.write_limit-requires-in-NotEq
write_limit-requires-in-NotEq c = rw (c.in-NotEq.is, text-one (shown_in c.args.t.now c.args.text.now) c.args.a.0 _) at c.requires

pub returns-in-Vacant : goal.returns-in-Vacant
returns-in-Vacant c =
    record {
      value = rw (c.in-Vacant.is, text-none (shown_in c.args.t.now c.args.text.now) c.args.a.0)
          (omega arith);
      s_after = rw (
        c.in-Vacant.is,
        text-none (shown_in c.args.t.now c.args.text.now) c.args.a.0,
        splice-none c.args.s.now c.args.at,
      ) refl;
    }

pub returns-in-Eq : goal.returns-in-Eq
returns-in-Eq c =
    record {
      value = rw (c.in-Eq.is, text-one (shown_in c.args.t.now c.args.text.now) c.args.a.0 _)
          c.write_limit.ensures.value;
      s_after = rw (
        c.in-Eq.is,
        text-one (shown_in c.args.t.now c.args.text.now) c.args.a.0 _,
      ) c.write_limit.ensures.s_after;
    }

pub returns-in-Gt : goal.returns-in-Gt
returns-in-Gt c =
    record {
      value = rw (c.in-Gt.is, text-one (shown_in c.args.t.now c.args.text.now) c.args.a.0 _)
          c.write_limit-in-Gt.ensures.value;
      s_after = rw (
        c.in-Gt.is,
        text-one (shown_in c.args.t.now c.args.text.now)
            c.args.a.0 _,
      ) c.write_limit-in-Gt.ensures.s_after;
    }

pub returns-in-GtEq : goal.returns-in-GtEq
returns-in-GtEq c =
    record {
      value = rw (c.in-GtEq.is, text-one (shown_in c.args.t.now c.args.text.now) c.args.a.0 _)
          c.write_limit-in-GtEq.ensures.value;
      s_after = rw (
        c.in-GtEq.is,
        text-one (shown_in c.args.t.now c.args.text.now)
            c.args.a.0 _,
      ) c.write_limit-in-GtEq.ensures.s_after;
    }

pub returns-in-Lt : goal.returns-in-Lt
returns-in-Lt c =
    record {
      value = rw (c.in-Lt.is, text-one (shown_in c.args.t.now c.args.text.now) c.args.a.0 _)
          c.write_limit-in-Lt.ensures.value;
      s_after = rw (
        c.in-Lt.is,
        text-one (shown_in c.args.t.now c.args.text.now)
            c.args.a.0 _,
      ) c.write_limit-in-Lt.ensures.s_after;
    }

pub returns-in-LtEq : goal.returns-in-LtEq
returns-in-LtEq c =
    record {
      value = rw (c.in-LtEq.is, text-one (shown_in c.args.t.now c.args.text.now) c.args.a.0 _)
          c.write_limit-in-LtEq.ensures.value;
      s_after = rw (
        c.in-LtEq.is,
        text-one (shown_in c.args.t.now c.args.text.now)
            c.args.a.0 _,
      ) c.write_limit-in-LtEq.ensures.s_after;
    }

pub returns-in-NotEq : goal.returns-in-NotEq
returns-in-NotEq c =
    record {
      value = rw (c.in-NotEq.is, text-one (shown_in c.args.t.now c.args.text.now) c.args.a.0 _)
          c.write_limit-in-NotEq.ensures.value;
      s_after = rw (
        c.in-NotEq.is,
        text-one (shown_in c.args.t.now c.args.text.now)
            c.args.a.0 _,
      ) c.write_limit-in-NotEq.ensures.s_after;
    }
