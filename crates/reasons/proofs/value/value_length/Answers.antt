use native.Mathlib.Omega.{arith}
use mathlib.Core.Path.{sym, ap, ◌∙◌}
use lib.ListN.{length}
use Rattle.reasons.proofs.Values.{shown-symbol, shown-number}
use Rattle.reasons.proofs.value.value_length.Goals as goal

pub returns-then-is_text : goal.returns-then-is_text
returns-then-is_text c =
    record {
      by_index = λ text. c.symbol_length.ensures.by_index text ∙ sym (ap length (shown-symbol _ text _ _ (sym c.is_text.ensures ∙
          c.if-is_text.true)));
      upper_bound = c.symbol_length.ensures.upper_bound;
    }

pub returns : goal.returns
returns c =
    record { by_index = λ text. c.signed_length.ensures.value ∙ sym (ap length (shown-number _ text _ _ (sym c.is_text.ensures ∙ c.if-is_text.false))); upper_bound = omega (arith, c.signed_length.ensures.upper_bound) }
