-- Bytes written in a list, and read back.
use Prim.Native.Nat.{ℕ, ◌+◌, ◌*◌, ◌≤◌, ◌<◌, ◌/◌, ◌%◌}
use mathlib.Core.Path.{◌≡◌, ◌∙◌, ap, sym}
use mathlib.Core.List.{List, [], ◌∷◌, ◌++◌, append_assoc}
use native.Mathlib.Numerals.{add-one}
use native.Mathlib.Nat.{add_assoc, div-div-eq-div-mul}
use native.Mathlib.Omega.{arith}
use lib.ListN.{length, set, take, drop, length-append, length-drop, get_or, get_or-append}
use lib.Seq.{set_split, take_at, drop_at, drop-drop, length-take-le, get_or-append-add, get_or-take, get_or-drop}
use Rattle.merge.specs.Write.{splice}

abbrev pub joined : ℕ → ℕ → ℕ → ℕ → ℕ
joined a b c d = a + 256 * b + 65536 * c + 16777216 * d

pub splice-one : (l : List ℕ) (i v : ℕ) → i < length l → set l i v ≡ splice l i (v ∷ [])
unfolding splice
splice-one l i v h = set_split l i v h ∙ rw (← add-one)

pub length-splice : (l : List ℕ) (i : ℕ) (vs : List ℕ) → i + length vs ≤ length l → length (splice l i vs) ≡ length l
unfolding splice
length-splice l i vs h =
    let h1 : i ≤ length l = omega arith in
    simp (length-append, length-drop, length-take-le i l h1) (omega arith)

pub splice-splice : (l : List ℕ) (i j : ℕ) (vs ws : List ℕ) → i + length vs ≡ j → j + length ws ≤ length l
    → splice (splice l i vs) j ws ≡ splice l i (vs ++ ws)
unfolding splice
splice-splice l i j vs ws e h =
    let h1 : i ≤ length l = omega arith in
    let p : length (take i l ++ vs) ≡ j = simp (length-append, length-take-le i l h1) e in
    simp (
      ← append_assoc (take i l) vs (drop (i + length vs) l),
      take_at (take i l ++ vs) (drop (i + length vs) l) j
          p,
      ← drop-drop (length ws) j (take i l ++ vs ++ drop (i + length vs) l),
      drop_at (take i l ++ vs)
          (drop (i + length vs) l) j p,
    )
    (simp (append_assoc, drop-drop, length-append, add_assoc))

pub set-splice : (l : List ℕ) (i j b : ℕ) (vs : List ℕ) → i + length vs ≡ j → j < length l
    → set (splice l i vs) j b ≡ splice l i (vs ++ (b ∷ []))
set-splice l i j b vs e h =
    splice-one (splice l i vs) j b (rw (length-splice l i vs (omega arith)) h) ∙
    splice-splice l i j vs (b ∷ []) e (omega arith)

pub set4 : (l : List ℕ) (i a b c d : ℕ) → i + 4 ≤ length l
    → set (set (set (set l i a) (i + 1) b) (i + 2) c) (i + 3) d ≡ splice l i (a ∷ b ∷ c ∷ d ∷ [])
set4 l i a b c d h =
    rw (
      splice-one l i a (omega arith),
      set-splice l i (i + 1) b (a ∷ []) (omega arith) (omega arith),
      set-splice l i (i + 2) c (a ∷ b ∷ []) (omega arith) (omega arith),
      set-splice l i (i + 3) d (a ∷ b ∷ c ∷ []) (omega arith) (omega arith),
    )

-- one splice, then the next right behind it, is the splice of both
pub splice-then : (l : List ℕ) {l1 l2 : List ℕ} (i j : ℕ) (vs ws : List ℕ) → l1 ≡ splice l i vs → l2 ≡
    splice l1 j ws → i + length vs ≡ j → j + length ws ≤ length l
    → l2 ≡ splice l i (vs ++ ws)
splice-then l i j vs ws p q e h = q ∙ rw p (splice-splice l i j vs ws e h)

word-parts : (x y z w : ℕ) → x ≡ 256 * y + x % 256 → y ≡ 256 * z + y % 256 → z ≡ 256 * w + z % 256 → x < 4294967296 →
    joined (x % 256) (y % 256) (z % 256) (w % 256) ≡ x
word-parts x y z w e f g h = omega arith

pub word_back : (x : ℕ) → x < 4294967296 → joined (x % 256) (x / 256 % 256) (x / 65536 % 256) (x / 16777216 % 256) ≡ x
word_back x h =
    let a : x / 256 / 256 ≡ x / 65536 = div-div-eq-div-mul x 256 256 in
    let b : x / 65536 / 256 ≡ x / 16777216 = div-div-eq-div-mul x 65536 256 in
    word-parts x (x / 256) (x / 65536) (x / 16777216) (omega arith) (omega (arith, a)) (omega (arith, b)) h

pub splice-before : (l : List ℕ) (at : ℕ) (vs : List ℕ) (i : ℕ) → at ≤ length l → i < at → get_or (splice l at vs) i 0 ≡
    get_or l i 0
unfolding splice
splice-before l at vs i h k = get_or-append (take at l) _ 0 i (rw (length-take-le at l h) k) ∙ get_or-take at l i 0 k

pub splice-in : (l : List ℕ) (at : ℕ) (vs : List ℕ) (i : ℕ) → at ≤ length l → i < length vs →
    get_or (splice l at vs) (at + i) 0 ≡ get_or vs i 0
unfolding splice
splice-in l at vs i h k =
    ap (λ (m : ℕ). get_or (take at l ++ (vs ++ drop (at + length vs) l)) (m + i) 0) (sym (length-take-le at l h))
    ∙ get_or-append-add (take at l) (vs ++ drop (at + length vs) l) i 0
    ∙ get_or-append vs _ 0 i k

pub splice-after : (l : List ℕ) (at : ℕ) (vs : List ℕ) (j : ℕ) → at ≤ length l →
    get_or (splice l at vs) (at + (length vs + j)) 0 ≡ get_or l (at + length vs + j) 0
unfolding splice
splice-after l at vs j h =
    ap (λ (m : ℕ). get_or (take at l ++ (vs ++ drop (at + length vs) l)) (m + (length vs + j)) 0)
    (sym (length-take-le at l h))
    ∙ get_or-append-add (take at l) (vs ++ drop (at + length vs) l) (length vs + j) 0
    ∙ get_or-append-add vs (drop (at + length vs) l) j 0
    ∙ get_or-drop (at + length vs) l j 0
