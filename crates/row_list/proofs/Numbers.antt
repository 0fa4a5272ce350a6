-- Counting classes and writing the list: what a turn of each loop adds. Assumes nothing.
use mathlib.Core.Path.{◌≡◌, refl, sym, ◌∙◌, ap}
use mathlib.Core.Bool.{Bool, true, false, cond}
use mathlib.Core.List.{List, [], ◌∷◌, ◌++◌, append-nil}
use Prim.Native.Nat.{ℕ, zero, suc, ◌+◌, ◌*◌, ◌/◌, ◌%◌, ◌≤◌, ◌<◌}
use native.Mathlib.Omega.{arith}
use native.Mathlib.Numerals.{add-one}
use lib.ListN.{length, get_or, set, take, drop, length-append, take-append-drop}
use lib.Seq.{length-take-le, drop-cons, set_at}
use Rattle.file_blocks.specs.Format.{overwrite}
use Rattle.file_blocks.proofs.Lists.{overwrite-none, overwrite-more, length-overwrite}
use Rattle.row_list.specs.Numbers.{count, numbers, bytes_of}

-- ---- counting
pub count_none : (f : ℕ → Bool) → 0 ≡ count f 0
unfolding count
count_none f = refl

pub count-more : (f : ℕ → Bool) (i n k : ℕ) → n ≡ count f i → k ≡ cond (f i) 1 0 → n + k ≡ count f (i + 1)
unfolding count
count-more f i n k e ek = rw (add-one, e, ek)

pub one-small : (b : Bool) (k : ℕ) → k ≡ cond b 1 0 → k ≤ 1
one-small true k e = omega (arith, e)
one-small false k e = omega (arith, e)

-- ---- the list
pub put_small : (b : Bool) (at r : ℕ) → r ≡ at + cond b 2 0 → r ≤ at + 2
put_small true at r e = omega (arith, e)
put_small false at r e = omega (arith, e)

set-overwrite : (l : List ℕ) (at v : ℕ) → at < length l → set l at v ≡ overwrite l at (v ∷ [])
unfolding overwrite
set-overwrite l at v h =
    ap (λ x. set x at v) (sym (take-append-drop at l) ∙ ap (λ r. take at l ++ r) (drop-cons l at 0 h))
    ∙ set_at (take at l) (get_or l at 0) (drop (suc at) l) v at (length-take-le at l (omega arith))
    ∙ rw add-one

-- two bytes stored
pub two_bytes : (l : List ℕ) (at a b : ℕ) → at + 2 ≤ length l
    → set (set l at a) (at + 1) b ≡ overwrite l at (a ∷ b ∷ [])
two_bytes l at a b h =
    let g : at < length l = omega arith in
    let e : set l at a ≡ overwrite l at (a ∷ []) = set-overwrite l at a g in
    let k : length (overwrite l at (a ∷ [])) ≡ length l = length-overwrite l at (a ∷ []) (omega arith) in
    ap (λ x. set x (at + 1) b) e ∙ set-overwrite (overwrite l at (a ∷ [])) (at + 1) b (omega (arith, k))
    ∙ overwrite-more l at (at + 1) (a ∷ []) (b ∷ []) refl (omega arith)

bytes-append : (a b : List ℕ) → bytes_of (a ++ b) ≡ bytes_of a ++ bytes_of b
unfolding bytes_of
bytes-append [] b = refl
bytes-append (n ∷ a) b = ap (λ l. n % 256 ∷ n / 256 ∷ l) (bytes-append a b)

numbers-next : (f : ℕ → Bool) (i : ℕ)
    → bytes_of (numbers f (i + 1)) ≡ bytes_of (numbers f i) ++ bytes_of (cond (f i) (i ∷ []) [])
unfolding numbers
numbers-next f i = rw add-one (bytes-append (numbers f i) (cond (f i) (i ∷ []) []))

pub list-none : (f : ℕ → Bool) (old : List ℕ) → old ≡ overwrite old 0 (bytes_of (numbers f 0))
unfolding numbers bytes_of
list-none f old = sym (overwrite-none old 0)

pub place_none : (f : ℕ → Bool) → 0 ≡ length (bytes_of (numbers f 0))
unfolding numbers bytes_of
place_none f = refl

pub place-more : (f : ℕ → Bool) (i at r : ℕ) → at ≡ length (bytes_of (numbers f i)) → r ≡ at + cond (f i) 2 0
    → r ≡ length (bytes_of (numbers f (i + 1)))
unfolding bytes_of
place-more f i at r e er =
    er ∙ rw (e) (sym (ap length (numbers-next f i) ∙ length-append (bytes_of (numbers f i)) (bytes_of (cond (f i) (i ∷ []) []))
    ∙ ap (λ n. length (bytes_of (numbers f i)) + n) (go (f i))))
  where
    go : (b : Bool) → length (bytes_of (cond b (i ∷ []) [])) ≡ cond b 2 0
    go true = refl
    go false = refl

pub list-more : (f : ℕ → Bool) (old l out : List ℕ) (i at : ℕ) → at ≡ length (bytes_of (numbers f i))
    → at + 2 ≤ length old → l ≡ overwrite old 0 (bytes_of (numbers f i))
    → out ≡ cond (f i) (overwrite l at (i % 256 ∷ i / 256 ∷ [])) l → out ≡ overwrite old 0 (bytes_of (numbers f (i + 1)))
unfolding bytes_of
list-more f old l out i at ea h el eo =
    eo ∙ go (f i) ∙ ap (λ b. overwrite old 0 b) (sym (numbers-next f i))
  where
    go : (b : Bool) → cond b (overwrite l at (i % 256 ∷ i / 256 ∷ [])) l
        ≡ overwrite old 0 (bytes_of (numbers f i) ++ bytes_of (cond b (i ∷ []) []))
    go true =
        ap (λ x. overwrite x at (i % 256 ∷ i / 256 ∷ [])) el
        ∙ overwrite-more old 0 at (bytes_of (numbers f i)) (i % 256 ∷ i / 256 ∷ []) (omega (arith, ea)) h
    go false = el ∙ ap (λ b. overwrite old 0 b) (sym (append-nil (bytes_of (numbers f i))))
