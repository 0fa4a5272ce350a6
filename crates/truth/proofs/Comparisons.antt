-- core's tests of a comparison's answer that are the negations of others.
-- Assumes nothing.
use Rattle.std.proofs.Common.{◌≡◌, refl, Ordering, Less, Equal, Greater, is_le, is_ge}
use Rattle.std.specs.Ordering.{is_ne}
use Rattle.std.specs.Prelude.{not}
use Rattle.truth.specs.Order.{is_less, is_equal, is_greater}

pub is_ne_lem : (o : Ordering) → is_ne o ≡ not (is_equal o)
is_ne_lem Less = refl
is_ne_lem Equal = refl
is_ne_lem Greater = refl

pub is_le_lem : (o : Ordering) → is_le o ≡ not (is_greater o)
is_le_lem Less = refl
is_le_lem Equal = refl
is_le_lem Greater = refl

pub is_ge_lem : (o : Ordering) → is_ge o ≡ not (is_less o)
is_ge_lem Less = refl
is_ge_lem Equal = refl
is_ge_lem Greater = refl
