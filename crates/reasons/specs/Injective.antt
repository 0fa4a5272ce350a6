-- 02, 2.6: two different lists of reasons never give the same text.
use Rattle.std.specs.Prelude.{◌≡◌, List}
use Rattle.merge.specs.Reasons.{Reason}
use Rattle.reasons.specs.Text.{reasons_text}

abbrev pub DifferentTexts : Type 0
DifferentTexts = (a b : List Reason) → reasons_text a ≡ reasons_text b → a ≡ b
