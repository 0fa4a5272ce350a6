-- A totally ordered type, by its three-way comparison.
use Rattle.std.specs.Prelude.{◌≡◌, Bool, true, false}
use Rattle.std.specs.declared.cmp.Ordering.{Ordering}
use Rattle.std.specs.declared.cmp.Ordering.TheVariants.{Less, Equal, Greater}

-- What an answer of the comparison says of a and b.
pub data View {K : Type 0} (less : K → K → Type 0) (a b : K) : Ordering → Type 0 where
  less_view : less a b → View less a b Less
  equal_view : a ≡ b → View less a b Equal
  greater_view : less b a → View less a b Greater

-- A type with its comparison.
pub record Order (K : Type 0) : Type 1 where
  pub less : K → K → Type 0
  pub cmp : K → K → Ordering

-- The comparison tells a total order.
pub record Total {K : Type 0} (O : Order K) : Type 0 where
  pub view : (a b : K) → View O.less a b (O.cmp a b)
  pub irrefl : {a : K} → O.less a a → ⊥
  pub trans : {a b c : K} → O.less a b → O.less b c → O.less a c

-- The order read backwards: an upper bound is a lower bound there.
abbrev pub opp : {K : Type 0} → Order K → Order K
opp O = record { less = λ a b. O.less b a; cmp = λ a b. O.cmp b a }

-- Of `cmp bound key`: `above true` is bound ≤ key, `above false` is bound < key.
abbrev pub above : Bool → Ordering → Bool
above closed Less = true
above closed Equal = closed
above closed Greater = false

abbrev pub is_equal : Ordering → Bool
is_equal Less = false
is_equal Equal = true
is_equal Greater = false

abbrev pub is_less : Ordering → Bool
is_less Less = true
is_less Equal = false
is_less Greater = false

abbrev pub is_greater : Ordering → Bool
is_greater Less = false
is_greater Equal = false
is_greater Greater = true
