-- Writing in code: bytes side by side, the words of a line.
use mathlib.Core.Path.{◌≡◌, refl, sym, ◌∙◌, ap, subst}
use mathlib.Core.List.{List, [], ◌∷◌, ◌++◌, append_assoc}
use Prim.Native.Nat.{ℕ, zero, suc, ◌+◌, ◌*◌, ◌-◌, ◌/◌, ◌%◌, ◌<◌, ◌≤◌}
use native.Mathlib.Omega.{arith}
use native.Mathlib.Numerals.{add-one}
use lib.Dec.{ltb}
use lib.IntN.{ℤ, pos, negsuc}
use lib.ListN.{length, set, take, drop, length-append, length-drop}
use lib.Seq.{set_split, take-set-le, drop_at, length-take-le}
use mir.Syntax.{w64}
use mir.Val.{to_z}
use borrow.Author.Tests.{lt-ltb, le-ltb}
use Rattle.merge.specs.Write.{splice}
use Rattle.merge.proofs.Splices.{splice-one, set-splice, splice-then}
use Rattle.merge.specs.Reasons.{Reason}
use Rattle.decimals.specs.Decimal.{last_digit, decimal, signed}
use Rattle.reasons.specs.Text.{operator_name, value_text, reason_text}

-- ---- bytes side by side

pub set2 : (l : List ℕ) (i a b : ℕ) → i + 2 ≤ length l → set (set l i a) (i + 1) b ≡ splice l i (a ∷ b ∷ [])
set2 l i a b h =
    rw (splice-one l i a (omega arith), set-splice l i (i + 1) b (a ∷ []) (omega arith) (omega arith))

pub set3 : (l : List ℕ) (i a b c : ℕ) → i + 3 ≤ length l
    → set (set (set l i a) (i + 1) b) (i + 2) c ≡ splice l i (a ∷ b ∷ c ∷ [])
set3 l i a b c h =
    rw (set2 l i a b (omega arith), set-splice l i (i + 2) c (a ∷ b ∷ []) (omega arith) (omega arith))

-- ---- a line

-- four words, each with the byte that closes it, one behind the other
pub four_words : (l : List ℕ) {l1 l2 l3 l4 : List ℕ} (at b c d : ℕ) (u v w x : List ℕ)
    → l1 ≡ splice l at u → at + length u ≡ b → l2 ≡ splice l1 b v → b + length v ≡ c
    → l3 ≡ splice l2 c w → c + length w ≡ d → l4 ≡ splice l3 d x → d + length x ≤ length l
    → l4 ≡ splice l at (u ++ (v ++ (w ++ x)))
four_words l at b c d u v w x e1 f1 e2 f2 e3 f3 e4 h =
    let p = splice-then l at b u v e1 e2 f1 (omega arith) in
    let q = splice-then l at c (u ++ v) w p e3 (simp length-append (omega arith)) (omega arith) in
    let r = splice-then l at d ((u ++ v) ++ w) x q e4 (simp length-append (omega arith)) (omega arith) in
    rw (append_assoc (u ++ v) w x, append_assoc u v (w ++ x)) at r

pub line-words : (r : Reason)
    → (decimal r.column ++ (32 ∷ [])) ++ ((operator_name r.operator ++ (32 ∷ []))
    ++ ((value_text r.value ++ (32 ∷ [])) ++ (decimal r.line ++ (10 ∷ [])))) ≡ reason_text r
unfolding reason_text
line-words r = simp append_assoc

pub line-length : (r : Reason)
    → length (reason_text r) ≡ length (decimal r.column) + 1 + (length (operator_name r.operator) + 1)
    + (length (value_text r.value) + 1) + (length (decimal r.line) + 1)
unfolding reason_text
line-length r = simp length-append (omega arith)
