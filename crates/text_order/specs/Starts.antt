-- What is tested of the words of the starts.
use Rattle.std.specs.Prelude.{◌≡◌, cond, List, ◌⊎◌, ℕ, ◌+◌, ◌-◌, ◌*◌, ◌≤◌, ◌<◌, ltb, length, get_or}
use Rattle.symbols.specs.Symbol.{symbol, cmp_bytes}
use Rattle.std.specs.declared.cmp.Ordering.TheVariants.{Less, Equal}
use Rattle.text_order.specs.Codes.{rank_in, depth_in, link_in}

-- How many bytes a symbol has at most, from place s of so many on.
unfoldable pub most_at : ℕ → ℕ → ℕ
most_at size s = cond (ltb (size - s) 16) (size - s) 16

-- l bytes from place s on, as a value.
unfoldable pub part_at : ℕ → ℕ → ℕ
part_at s l = s + 4294967296 * l

abbrev pub full_at : ℕ → ℕ → ℕ
full_at size s = part_at s (most_at size s)

-- The first places hold the longest symbols of the starts.
pub record Starts (size n : ℕ) (values : List ℕ) : Type 0 where
  pub full : (s : ℕ) → s < n → get_or values s 0 ≡ full_at size s

-- The longest symbol of a start of the rank before is below d + 1 bytes from s on.
pub record Above (text ranks : List ℕ) (s d : ℕ) : Type 0 where
  pub before : ℕ
  pub inside : before < length text
  pub next : get_or ranks before 0 + 1 ≡ get_or ranks s 0
  pub less : cmp_bytes (symbol text (full_at (length text) before)) (symbol text (part_at s (d + 1))) ≡ Less

-- d bytes from s on stand at the link too, which has fewer in common with the one before it.
pub record Linked (text C : List ℕ) (s d link : ℕ) : Type 0 where
  pub inside : link < length text
  pub long : d ≤ most_at (length text) link
  pub falls : depth_in (get_or C link 0) < d
  pub same : cmp_bytes (symbol text (part_at s d)) (symbol text (part_at link d)) ≡ Equal

pub record Tested (text ranks C : List ℕ) (s : ℕ) : Type 0 where
  pub rank : rank_in (get_or C s 0) ≡ get_or ranks s 0
  pub deep : depth_in (get_or C s 0) < most_at (length text) s
  pub above : (get_or ranks s 0 ≡ 0) ⊎ Above text ranks s (depth_in (get_or C s 0))
  pub linked : (depth_in (get_or C s 0) ≡ 0) ⊎ Linked text C s (depth_in (get_or C s 0)) (link_in (get_or C s 0))
