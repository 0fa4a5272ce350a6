-- Bytes copied, and bytes written one behind the other.
-- Assumes nothing.
use Prim.Native.Nat.{ℕ, zero, suc, ◌+◌, ◌-◌, ◌*◌, ◌≤◌, ◌<◌}
use mathlib.Core.Path.{◌≡◌, refl, sym, ◌∙◌, ap}
use mathlib.Core.List.{List, [], ◌∷◌, ◌++◌, append_assoc, append-nil}
use native.Mathlib.Numerals.{add-one}
use native.Mathlib.Nat.{add_assoc}
use native.Mathlib.Omega.{arith}
use lib.ListN.{length, get_or, set, take, drop, replicate, length-append, length-drop, length-replicate, drop_of_length-le}
use lib.Seq.{length-take-le, take-suc, drop-cons, set_at, append_snoc, take_at, drop_at, drop-drop, take_all}
use Rattle.file_blocks.specs.Format.{overwrite}

-- one more byte of s copied to the front of d
pub copied_more : (s d : List ℕ) (i : ℕ) → i < length s → i < length d
    → set (take i s ++ drop i d) i (get_or s i 0) ≡ take (i + 1) s ++ drop (i + 1) d
copied_more s d i h k =
    ap (λ r. set (take i s ++ r) i (get_or s i 0)) (drop-cons d i 0 k)
    ∙ set_at (take i s) (get_or d i 0) (drop (suc i) d) (get_or s i 0) i (length-take-le i s (omega arith))
    ∙ sym (append_snoc (take i s) (get_or s i 0) (drop (suc i) d))
    ∙ rw (add-one, take-suc s i 0 h)

pub overwrite-none : (l : List ℕ) (at : ℕ) → overwrite l at [] ≡ l
unfolding overwrite
overwrite-none l at = rw (native.Mathlib.Nat.add-zero at) (lib.ListN.take-append-drop at l)

pub length-overwrite : (l : List ℕ) (at : ℕ) (vs : List ℕ) → at + length vs ≤ length l
    → length (overwrite l at vs) ≡ length l
unfolding overwrite
length-overwrite l at vs h =
    let a : at ≤ length l = omega arith in
    simp (length-append, length-drop, length-take-le at l a) (omega arith)

-- bytes written, then bytes right behind them, are the bytes of both written
pub overwrite-more : (l : List ℕ) (at j : ℕ) (vs ws : List ℕ) → at + length vs ≡ j → j + length ws ≤ length l
    → overwrite (overwrite l at vs) j ws ≡ overwrite l at (vs ++ ws)
unfolding overwrite
overwrite-more l at j vs ws e h =
    let a : at ≤ length l = omega arith in
    let p : length (take at l ++ vs) ≡ j = simp (length-append, length-take-le at l a) e in
    simp (
      ← append_assoc (take at l) vs (drop (at + length vs) l),
      take_at (take at l ++ vs) (drop (at + length vs) l) j
          p,
      ← drop-drop (length ws) j (take at l ++ vs ++ drop (at + length vs) l),
      drop_at (take at l ++ vs)
          (drop (at + length vs) l) j p,
    )
    (simp (append_assoc, drop-drop, length-append, add_assoc))

-- the front of what was written there
pub overwrite-front : (l : List ℕ) (vs : List ℕ) (n : ℕ) → length vs ≡ n → take n (overwrite l 0 vs) ≡ vs
unfolding overwrite
overwrite-front l vs n e = take_at vs (drop (0 + length vs) l) n e

-- a part lent from `at` on, which then holds vs in front, is vs written at `at`
pub lent_back : (l : List ℕ) (at : ℕ) (vs : List ℕ) → at ≤ length l
    → take at l ++ ((vs ++ drop (length vs) (take (length l - at) (drop at l))) ++ drop (length l - at) (drop at l))
    ≡ overwrite l at vs
unfolding overwrite
lent_back l at vs h =
    let e : length (drop at l) ≤ length l - at = let d = length-drop at l in omega (arith, d) in
    rw (
      drop_of_length-le (drop at l) e,
      append-nil,
      take_all (length l - at) (drop at l) e,
      drop-drop (length vs) at l,
    )

pub drop-zeros : (n m : ℕ) → drop n (replicate {A = ℕ} (n + m) 0) ≡ replicate m 0
drop-zeros n m =
    ap (λ (l : List ℕ). drop n l) (sym (lib.ListN.replicate-append-replicate n m 0))
    ∙ drop_at (replicate n 0) (replicate m 0) n (length-replicate n 0)
