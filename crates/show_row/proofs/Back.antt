-- The row read back from its bytes and its null marks.
use mathlib.Core.Path.{◌≡◌, refl, sym, ◌∙◌, ap}
use mathlib.Core.Bool.{Bool, true, false, cond, ◌&&◌, ◌||◌, true≢false}
use mathlib.Core.List.{List, ◌++◌}
use mathlib.Core.Option.{Option, none, some}
use Prim.Native.Nat.{ℕ, zero, suc, ◌+◌, ◌*◌, ◌/◌, ◌%◌, ◌^◌, ◌-◌, ◌≤◌, ◌<◌}
use native.Mathlib.Omega.{arith}
use lib.Bits.{bit_or, or_lt}
use lib.Dec.{eqb, ltb}
use lib.Pow.{pow-lt}
use lib.ListN.{length, get_or, take, get_or-append}
use lib.Seq.{get_or-append-add, get_or-take, length-take-le}
use borrow.Author.Tests.{ltb-true, ltb-false, lt-ltb, eq-eqb, eqb-true}
use Rattle.records.specs.Bytes.{word, value_at, all}
use Rattle.constraints.specs.Payload.{payload}
use Rattle.constraints.specs.Bound.{Bound, absent, at}
use Rattle.constraints.specs.Column.{ColumnConstraints}
use Rattle.constraints.specs.Resolve.{is_feasible, fixed_value}
use Rattle.merge.specs.Write.{splice}
use Rattle.merge.proofs.Splices.{word_back, splice-in, splice-after, length-splice}
use Rattle.masks.specs.Masks.{mask_to}
use Rattle.masks.proofs.Bits.{mask_bit}
use Rattle.places.specs.Places.{whole_at, half_at, place_ok, places_ok, is_half}
use Rattle.row_shown.specs.declared.place.Place.{Place}
use Rattle.row_shown.specs.Shown.{exactly, smallest, list_place, upper_place, lower_place, fixed_place, place_by, value_place}
use Rattle.row_shown.specs.Shown.{place_bytes, places_bytes}
use Rattle.write_places.proofs.Writing.{places-length}

-- ---- One place among the bytes.
place-bytes : (f : ℕ → Place) (n c j : ℕ) → c < n → j < 16 → get_or (places_bytes f n) (16 * c + j) 0 ≡ get_or (place_bytes (f c)) j 0
unfolding places_bytes
place-bytes f zero c j h k = absurd (omega arith)
place-bytes f (suc n) c j h k = go (ltb c n) refl (λ l. place-bytes f n c j l k)
  where
    go : (b : Bool) → ltb c n ≡ b → (c < n → get_or (places_bytes f n) (16 * c + j) 0 ≡ get_or (place_bytes (f c)) j 0)
        → get_or (places_bytes f n ++ place_bytes (f n)) (16 * c + j) 0 ≡ get_or (place_bytes (f c)) j 0
    go true e ih =
        let l : c < n = ltb-true c n e in
        get_or-append (places_bytes f n) (place_bytes (f n)) 0 (16 * c + j) (omega (arith, places-length f n, l, k)) ∙ ih l
    go false e ih =
        let q : c ≡ n = omega (arith, ltb-false c n e, h) in
        let i : 16 * c + j ≡ length (places_bytes f n) + j = omega (arith, places-length f n, q) in
        ap (λ m. get_or (places_bytes f n ++ place_bytes (f n)) m 0) i
        ∙ get_or-append-add (places_bytes f n) (place_bytes (f n)) j 0 ∙ ap (λ m. get_or (place_bytes (f m)) j 0) (sym q)

value-back : (x : ℕ) → x < 2 ^ 64 → (y z : ℕ) → y ≡ x % 4294967296 → z ≡ x / 4294967296 → y + 4294967296 * z ≡ x
value-back x h y z ey ez = omega (arith, ey, ez)

-- A list that has the bytes of the places.
module _ (f : ℕ → Place) (n : ℕ) (row : List ℕ)
    (has : (i : ℕ) → i < 16 * n → get_or row i 0 ≡ get_or (places_bytes f n) i 0) where
  byte_at : (c j : ℕ) → c < n → j < 16 → (i : ℕ) → i ≡ 16 * c + j → get_or row i 0 ≡ get_or (place_bytes (f c)) j 0
  byte_at c j h k i e =
      has i (omega (arith, e, h, k)) ∙ ap (λ m. get_or (places_bytes f n) m 0) e ∙ place-bytes f n c j h k

  pub whole_back : (c : ℕ) → c < n → (f c).whole < 2 ^ 64 → whole_at row c ≡ (f c).whole
  unfolding value_at word
  whole_back c h l =
      rw (
        byte_at c 0 h (omega arith) (8 * (2 * c)) (omega arith),
        byte_at c 1 h (omega arith) (8 * (2 * c) + 1) (omega arith),
        byte_at c 2 h (omega arith) (8 * (2 * c) + 2) (omega arith),
        byte_at c 3 h (omega arith) (8 * (2 * c) + 3) (omega arith),
        byte_at c 4 h (omega arith) (8 * (2 * c) + 4) (omega arith),
        byte_at c 5 h (omega arith) (8 * (2 * c) + 4 + 1) (omega arith),
        byte_at c 6 h (omega arith) (8 * (2 * c) + 4 + 2) (omega arith),
        byte_at c 7 h (omega arith) (8 * (2 * c) + 4 + 3) (omega arith),
      )
      (value-back (f c).whole l _ _ (word_back ((f c).whole % 4294967296) (omega arith))
      (word_back ((f c).whole / 4294967296) (omega arith)))

  pub half_back : (c : ℕ) → c < n → (f c).half < 2 ^ 64 → half_at row c ≡ (f c).half
  unfolding value_at word
  half_back c h l =
      rw (
        byte_at c 8 h (omega arith) (8 * (2 * c + 1)) (omega arith),
        byte_at c 9 h (omega arith) (8 * (2 * c + 1) + 1) (omega arith),
        byte_at c 10 h (omega arith) (8 * (2 * c + 1) + 2) (omega arith),
        byte_at c 11 h (omega arith) (8 * (2 * c + 1) + 3) (omega arith),
        byte_at c 12 h (omega arith) (8 * (2 * c + 1) + 4) (omega arith),
        byte_at c 13 h (omega arith) (8 * (2 * c + 1) + 4 + 1) (omega arith),
        byte_at c 14 h (omega arith) (8 * (2 * c + 1) + 4 + 2) (omega arith),
        byte_at c 15 h (omega arith) (8 * (2 * c + 1) + 4 + 3) (omega arith),
      )
      (value-back (f c).half l _ _ (word_back ((f c).half % 4294967296) (omega arith))
      (word_back ((f c).half / 4294967296) (omega arith)))

-- The row buffer has them, and so has its part that is as long as they are.
pub row_has : (f : ℕ → Place) (n : ℕ) (old : List ℕ) → (i : ℕ) → i < 16 * n
    → get_or (splice old 0 (places_bytes f n)) i 0 ≡ get_or (places_bytes f n) i 0
row_has f n old i h =
    let e : i ≡ 0 + i = omega arith in
    ap (λ m. get_or (splice old 0 (places_bytes f n)) m 0) e
    ∙ splice-in old 0 (places_bytes f n) i (omega arith) (omega (arith, places-length f n, h))

pub part_has : (f : ℕ → Place) (n : ℕ) (old : List ℕ) → (i : ℕ) → i < 16 * n
    → get_or (take (16 * n) (splice old 0 (places_bytes f n))) i 0 ≡ get_or (places_bytes f n) i 0
part_has f n old i h = get_or-take (16 * n) (splice old 0 (places_bytes f n)) i 0 h ∙ row_has f n old i h

pub behind-kept : (f : ℕ → Place) (n : ℕ) (old : List ℕ) (i : ℕ) → 16 * n ≤ i
    → get_or (splice old 0 (places_bytes f n)) i 0 ≡ get_or old i 0
behind-kept f n old i h =
    let l = places-length f n in
    let e : i ≡ 0 + (length (places_bytes f n) + (i - 16 * n)) = omega (arith, l, h) in
    let g : 0 + length (places_bytes f n) + (i - 16 * n) ≡ i = omega (arith, l, h) in
    ap (λ m. get_or (splice old 0 (places_bytes f n)) m 0) e
    ∙ splice-after old 0 (places_bytes f n) (i - 16 * n) (omega arith) ∙ ap (λ m. get_or old m 0) g

pub row-size : (f : ℕ → Place) (n : ℕ) (old : List ℕ) → 16 * n ≤ length old
    → length (splice old 0 (places_bytes f n)) ≡ length old
row-size f n old h = length-splice old 0 (places_bytes f n) (omega (arith, places-length f n, h))

-- ---- Null marks.
pub marks-low : (f : ℕ → Bool) (n : ℕ) → mask_to f n < 2 ^ n
unfolding mask_to
marks-low f zero = omega arith
marks-low f (suc n) = go (f n) (marks-low f n)
  where
    up : 2 ^ n < 2 ^ suc n
    up = pow-lt (omega arith)

    go : (b : Bool) → mask_to f n < 2 ^ n → cond b (bit_or (mask_to f n) (2 ^ n)) (mask_to f n) < 2 ^ suc n
    go true h = or_lt (suc n) (mask_to f n) (2 ^ n) (omega (arith, h, up)) up
    go false h = omega (arith, h, up)

-- ---- Half parts.
half_fits : (x : ℕ) → is_half x ≡ true → x < 2 ^ 64
half_fits x h = go (eqb x 0) refl (eqb x 1) refl (eqb x 18446744073709551615) refl h
  where
    go : (a : Bool) → eqb x 0 ≡ a → (b : Bool) → eqb x 1 ≡ b → (c : Bool) → eqb x 18446744073709551615 ≡ c
        → (a || (b || c)) ≡ true → x < 2 ^ 64
    go true e b f c g h = let q = eqb-true x 0 e in omega (arith, q)
    go false e true f c g h = let q = eqb-true x 1 f in omega (arith, q)
    go false e false f true g h = let q = eqb-true x 18446744073709551615 g in omega (arith, q)
    go false e false f false g h = absurd (true≢false (sym h))

value-half : (cc : ColumnConstraints ℕ) → is_half (value_place cc).half ≡ true
unfolding value_place
value-half cc = by cc.allowed
  where
    listed : (o : Option ℕ) → is_half (list_place o).half ≡ true
    listed none = refl
    listed (some v) = refl

    upper : (u : Bound ℕ) → is_half (upper_place u).half ≡ true
    upper absent = refl
    upper (at i v) = refl

    lower : (l u : Bound ℕ) → is_half (lower_place l u).half ≡ true
    lower absent u = upper u
    lower (at i v) u = refl

    fixed : (o : Option ℕ) (l u : Bound ℕ) → is_half (fixed_place o l u).half ≡ true
    fixed none l u = lower l u
    fixed (some v) l u = refl

    by : (o : Option (List ℕ)) → is_half (place_by o cc).half ≡ true
    by none = fixed (fixed_value payload cc) cc.lower cc.upper
    by (some l) = listed (smallest (is_feasible payload cc) l)

-- ---- A row of columns that are null or have a value's place.
module _ (null : ℕ → Bool) (table : ℕ → ColumnConstraints ℕ) where
  abbrev place : ℕ → Place
  place c = cond (null c) (exactly 0) (value_place (table c))

  pub half_low : (c : ℕ) → (place c).half < 2 ^ 64
  half_low c = go (null c)
    where
      go : (b : Bool) → (cond b (exactly 0) (value_place (table c))).half < 2 ^ 64
      go true = omega arith
      go false = half_fits (value_place (table c)).half (value-half (table c))

  shaped : (c : ℕ) (b : Bool) → null c ≡ b → place_ok b (place c).whole (place c).half ≡ true
  unfolding place_ok
  shaped c true e = ap (λ b. eqb (cond b (exactly 0) (value_place (table c))).whole 0
      && eqb (cond b (exactly 0) (value_place (table c))).half 0) e
  shaped c false e = ap (λ b. is_half (cond b (exactly 0) (value_place (table c))).half) e ∙ value-half (table c)

  all_below_lem : (p : ℕ → Bool) (n : ℕ) → ((i : ℕ) → i < n → p i ≡ true) → all p n ≡ true
  unfolding all
  all_below_lem p zero h = refl
  all_below_lem p (suc n) h = rw (all_below_lem p n (λ i k. h i (omega arith)), h n (omega arith))

  pub row-shaped : (n : ℕ) (old : List ℕ) → 16 * n ≤ length old → ((c : ℕ) → c < n → (place c).whole < 2 ^ 64)
      → places_ok n (take (16 * n) (splice old 0 (places_bytes place n))) (mask_to null n) ≡ true
  unfolding places_ok
  row-shaped n old room low =
      rw (
        eq-eqb (length (take (16 * n) (splice old 0 (places_bytes place n)))) (16 * n)
            (length-take-le (16 * n) (splice old 0 (places_bytes place n)) (omega (arith, row-size place n old room, room))),
        lt-ltb (mask_to null n) (2 ^ n) (marks-low null n),
      )
      (all_below_lem _ n (λ c h. rw (
        mask_bit null n c h,
        whole_back place n (take (16 * n) (splice old 0 (places_bytes place n))) (part_has place n old) c h (low c h),
        half_back place n (take (16 * n) (splice old 0 (places_bytes place n))) (part_has place n old) c h (half_low c),
      ) (shaped c (null c) refl)))
