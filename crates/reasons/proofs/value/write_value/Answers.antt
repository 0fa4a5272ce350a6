use mathlib.Core.Path.{sym, ◌∙◌}
use Rattle.reasons.proofs.Values.{shown-symbol, shown-number}
use Rattle.reasons.proofs.value.write_value.Goals as goal

-- the clauses by their names
named : {A0 A1 : Type 0} → A0 × A1 → record { value : A0; buffer_after : A1 }
named p = record { value = p.0; buffer_after = p.1 }

pub write_symbol-requires : goal.write_symbol-requires
write_symbol-requires c = rw (shown-symbol _ _ _ _ (sym c.is_text.ensures ∙ c.if-is_text.true)) at c.requires

pub returns-then-is_text : goal.returns-then-is_text
returns-then-is_text c =
    named (rw (shown-symbol _ _ _ _ (sym c.is_text.ensures ∙ c.if-is_text.true)) (c.write_symbol.ensures.value, c.write_symbol.ensures.s_after))

pub write_signed-requires : goal.write_signed-requires
write_signed-requires c = rw (shown-number _ _ _ _ (sym c.is_text.ensures ∙ c.if-is_text.false)) at c.requires

pub returns : goal.returns
returns c =
    named (rw (shown-number _ _ _ _ (sym c.is_text.ensures ∙ c.if-is_text.false)) (c.write_signed.ensures.value, c.write_signed.ensures.s_after))
