-- What the loop over the columns writes.
use mathlib.Core.Path.{◌≡◌, refl, sym, ◌∙◌, ap, subst}
use mathlib.Core.Bool.{Bool, true, false, not, cond, ◌||◌, true≢false}
use mathlib.Core.List.{List, ◌++◌}
use Prim.Native.Nat.{ℕ, zero, suc, ◌+◌, ◌*◌, ◌/◌, ◌%◌, ◌^◌, ◌≤◌, ◌<◌}
use native.Mathlib.Omega.{arith}
use native.Mathlib.Numerals.{add-one}
use lib.Bits.{bit_or}
use lib.Dec.{ltb}
use lib.ListN.{length, get_or, set, length-append}
use borrow.Author.Tests.{ltb-true, ltb-false, ne_eqb}
use Rattle.constraints.specs.Column as q
use Rattle.constraints.specs.Column.{is_null_required}
use Rattle.column_constraints.specs.Abstraction.{Conjuncts, numbered, column_of}
use Rattle.column_constraints.specs.declared.column.ColumnConstraints.{ColumnConstraints}
use Rattle.merge.specs.Collect.{is_in}
use Rattle.merge.specs.Write.{splice, word_bytes}
use Rattle.merge.proofs.Splices.{splice-splice}
use Rattle.masks.proofs.Bits.{mask_none}
use Rattle.masks.proofs.Blocks.{mark_more}
use Rattle.read_operands.specs.Walk.{first_of}
use Rattle.column_table.specs.Rows.{row_of}
use Rattle.column_table.specs.State.{ColumnTable, Shows}
use Rattle.column_table.specs.Words.{past_column}
use Rattle.column_table.proofs.Arrays.{is_in-snoc}
use Rattle.row_shown.specs.declared.place.Place.{Place}
use Rattle.row_shown.specs.Shown.{exactly, value_place, null_in, place_in, place_bytes, places_bytes}
use Rattle.row_shown.specs.Bits.{bits_column}
use Rattle.write_places.specs.Written.{RowWritten}

-- ---- Bytes.
pub places-length : (f : ℕ → Place) (n : ℕ) → length (places_bytes f n) ≡ 16 * n
unfolding places_bytes
places-length f zero = refl
places-length f (suc n) =
    length-append (places_bytes f n) (place_bytes (f n))
    ∙ (let e = places-length f n in let k : length (places_bytes f n) + 16 ≡ 16 * suc n = omega (arith, e) in k)

-- ---- The columns that entered.
pub entered-none : (order : List ℕ) (c : ℕ) → is_in c (first_of order 0) ≡ false
unfolding first_of
entered-none order c = refl

pub entered-more : (order : List ℕ) (c i : ℕ) → is_in c (first_of order i) ≡ false → (get_or order i 0 ≡ c → ⊥)
    → is_in c (first_of order (i + 1)) ≡ false
unfolding first_of
entered-more order c i h d =
    rw (add-one, is_in-snoc c (get_or order i 0) (first_of order i), h) (ne_eqb c (get_or order i 0) (λ e. d (sym e)))

-- ---- Whether the column is null, and its place.
pub null_unread : (b c : Bool) → not b ≡ true → true ≡ (not b || c)
null_unread true c h = absurd (true≢false (sym h))
null_unread false c h = refl

pub null_read : (b c r : Bool) → not b ≡ false → r ≡ c → r ≡ (not b || c)
null_read true c r h e = e
null_read false c r h e = absurd (true≢false h)

pub place-null : (b : Bool) (p x y : Place) → b ≡ true → p ≡ x → p ≡ cond b x y
place-null true p x y h e = e
place-null false p x y h e = absurd (true≢false (sym h))

pub place-value : (b : Bool) (p x y : Place) → b ≡ false → p ≡ y → p ≡ cond b x y
place-value true p x y h e = absurd (true≢false h)
place-value false p x y h e = e

-- ---- One column more. The arrays stand for the table T.
module _ (t : Conjuncts) (table : List ColumnConstraints) (marks : List ℕ) (T : ColumnTable) (S : Shows t table marks T)
    (order old : List ℕ) where
  abbrev bits : ℕ → q.ColumnConstraints ℕ
  bits c = bits_column (T c)

  pub row-none : RowWritten order bits 0 old old 0
  unfolding places_bytes splice
  row-none = record { marks = mask_none (null_in order bits); bytes = refl; low = λ c h. absurd (omega arith) }

  pub row_more : (c : ℕ) → c < 64 → (k : ColumnConstraints) → k ≡ get_or table c past_column
      → (b : Bool) → b ≡ (not (is_in c order) || is_null_required k.nullability)
      → (p : Place) → p ≡ cond b (exactly 0) (value_place (bits_column (column_of t (numbered (row_of marks c) k))))
      → p.whole < 2 ^ 64 → (row row' : List ℕ) (nulls nulls' : ℕ) → row' ≡ splice row (16 * c) (place_bytes p)
      → nulls' ≡ cond b (bit_or nulls (2 ^ c)) nulls → 16 * c + 16 ≤ length old
      → RowWritten order bits c old row nulls → RowWritten order bits (c + 1) old row' nulls'
  unfolding places_bytes
  row_more c l k ek b eb p ep low row row' nulls nulls' er en room w =
      record {
        marks = mark_more (null_in order bits) c nulls nulls' b null w.marks en;
        bytes =
            er ∙ ap (λ x. splice x (16 * c) (place_bytes p)) w.bytes
            ∙ splice-splice old 0 (16 * c) (places_bytes (place_in order bits) c) (place_bytes p)
            start room
            ∙ ap (λ x. splice old 0 (places_bytes (place_in order bits) c ++ place_bytes x)) place
            ∙ ap (λ m. splice old 0 (places_bytes (place_in order bits) m)) next;
        low = λ d h. lower d h (ltb d c) refl;
      }
    where
      next : suc c ≡ c + 1
      next = omega arith

      start : 0 + length (places_bytes (place_in order bits) c) ≡ 16 * c
      start = omega (arith, places-length (place_in order bits) c)

      shown : column_of t (numbered (row_of marks c) k) ≡ T c
      shown = ap (λ k. column_of t (numbered (row_of marks c) k)) ek ∙ S.column c l

      null : b ≡ null_in order bits c
      null = eb ∙ ap (λ x. not (is_in c order) || is_null_required x.nullability) shown

      place : p ≡ place_in order bits c
      place =
          ep ∙ ap (λ x. cond b (exactly 0) (value_place (bits_column x))) shown
          ∙ ap (λ x. cond x (exactly 0) (value_place (bits c))) null

      lower : (d : ℕ) → d < c + 1 → (x : Bool) → ltb d c ≡ x → (place_in order bits d).whole < 2 ^ 64
      lower d h true e = w.low d (ltb-true d c e)
      lower d h false e =
          let same : c ≡ d = omega (arith, ltb-false d c e) in
          subst (λ m. (place_in order bits m).whole < 2 ^ 64) same (subst (λ x. x.whole < 2 ^ 64) place low)
