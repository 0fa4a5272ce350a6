use mathlib.Core.Path.{◌∙◌, ap, refl}
use Rattle.constraints.specs.Lined.{Lined, lined}
use Rattle.constraints.specs.Column as q
use Rattle.column_constraints.specs.Abstraction.{numbered, column_of, bound_of}
use Rattle.constraints.specs.Resolve as z
use Rattle.constraints.specs.declared.column.ExcludedResolution.TheVariants.{Drop, Keep, TightenLower}
use Rattle.constraints.specs.declared.column.ExcludedResolution.TheVariants.{TightenUpper}
use Rattle.resolve_deferred.proofs.Resolutions.{applied}
use Rattle.resolve_deferred.proofs.resolve.apply_excluded.Goals as goal

pub returns-in-Drop : goal.returns-in-Drop
returns-in-Drop c =
    record {
      result_after = (λ t e f. applied Drop _ _ (column_of t (numbered c.args.own.now c.args.c)) _ _
          (c.classify_excluded-f.ensures t c.args.own.now)
          c.limit_at-v.ensures c.in-Drop.is refl);
      fine = c.requires.0;
    }

pub returns-in-Keep : goal.returns-in-Keep
returns-in-Keep c =
    record {
      result_after = (λ t e f. applied Keep _ _ (column_of t (numbered c.args.own.now c.args.c)) _ _
          (c.classify_excluded-f.ensures t c.args.own.now)
          c.limit_at-v.ensures c.in-Keep.is
          (c.insert_excluded.ensures.result_after t e f));
      fine = c.insert_excluded.ensures.fine;
    }

pub returns-in-TightenLower : goal.returns-in-TightenLower
returns-in-TightenLower c =
    record {
      result_after = (λ t e f. applied TightenLower _ _ (column_of t (numbered c.args.own.now c.args.c)) _ _
          (c.classify_excluded-f.ensures t c.args.own.now)
          c.limit_at-v.ensures c.in-TightenLower.is
          (c.open_lower.ensures.result_value t c.args.own.now ∙
          ap (λ (v : Lined). q.set_lower (z.open_at lined (bound_of c.args.c.lower) v) (column_of t (numbered c.args.own.now c.args.c))) c.limit_at-v.ensures));
      fine = rw c.open_lower.ensures.len_value c.requires.0;
    }

pub returns-in-TightenUpper : goal.returns-in-TightenUpper
returns-in-TightenUpper c =
    record {
      result_after = (λ t e f. applied TightenUpper _ _ (column_of t (numbered c.args.own.now c.args.c)) _ _
          (c.classify_excluded-f.ensures t c.args.own.now)
          c.limit_at-v.ensures c.in-TightenUpper.is
          (c.open_upper.ensures.result_value t c.args.own.now ∙
          ap (λ (v : Lined). q.set_upper (z.open_at lined (bound_of c.args.c.upper) v) (column_of t (numbered c.args.own.now c.args.c))) c.limit_at-v.ensures));
      fine = rw c.open_upper.ensures.len_value c.requires.0;
    }
