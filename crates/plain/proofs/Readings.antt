-- A conjunct is plain by how the merging reads it, and by whether it is a negation.
use mathlib.Core.Path.{◌≡◌, refl, sym, ◌∙◌, ap}
use mathlib.Core.Bool.{Bool, true, false, not, ◌&&◌, ◌||◌, and-true, true≢false}
use mathlib.Core.List.{List, [], ◌∷◌}
use Prim.Native.Nat.{ℕ}
use Rattle.records.specs.Record.{record_at}
use Rattle.records.specs.declared.record.Node.{Node}
use Rattle.records.specs.declared.record.Record.{Record}
use Rattle.records.specs.declared.record.Record.TheVariants as kind
use Rattle.truth.specs.AExpr.{AExpr, Column, Literal, Null, BinaryExpr, Not, IsNull, IsNotNull, IsBetween}
use Rattle.truth.specs.AExpr.{ListLiteral, IsIn, Missing}
use Rattle.truth.specs.FromBytes.{to_aexpr, aexpr_of}
use Rattle.merge.specs.Classify.{Conjunct, Bounds, Normalized, Equality, Recorded, NonNullPair, Opaque, classify}
use Rattle.merge.specs.Plain.{plain_conjunct}
use Rattle.merge.proofs.PlainForms as forms
use Rattle.merge.proofs.PlainForms.{plain-same}
use Rattle.merge.proofs.Forms.{read_ind}
use Rattle.merge.proofs.Accepted.{binary-ind}
use Rattle.read_operands.specs.Read.{conjunct_in}
use Rattle.read_operands.specs.declared.operands.Conjunct as code
use Rattle.plain.specs.Forms.{is_negation, says_something}

abbrev pub is_not : AExpr ℕ → Bool
is_not (Column c) = false
is_not (Literal v) = false
is_not Null = false
is_not (BinaryExpr op x y) = false
is_not (Not x) = true
is_not (IsNull x) = false
is_not (IsNotNull x) = false
is_not (IsBetween c d x y z) = false
is_not (ListLiteral m l) = false
is_not (IsIn e x y) = false
is_not Missing = false

-- What is read of a conjunct, with whether it is a negation, tells whether it is plain.
abbrev pub read_plain : Bool → Conjunct ℕ → Bool
read_plain b (Bounds c l) = true
read_plain b (Normalized c l) = true
read_plain b (Equality x y n) = not b
read_plain b (Recorded stops n c l) = says_something l
read_plain b (NonNullPair n x y) = false
read_plain b (Opaque n) = false

one_same : (R : ℕ → AExpr ℕ) (n : ℕ) → plain_conjunct R n ≡ forms.plain_conjunct R n
one_same R n = sym (and-true (plain_conjunct R n)) ∙ plain-same R (n ∷ []) ∙ and-true (forms.plain_conjunct R n)

pub plain-read : (R : ℕ → AExpr ℕ) (n : ℕ) → plain_conjunct R n ≡ read_plain (is_not (R n)) (classify R n)
plain-read R n = one_same R n ∙ read_ind R n (λ x o. Unit {0}) (λ r p c. p ≡ read_plain (is_not r) c)
    (record {
      opaque = λ r. refl;
      entered = λ r x c h. refl;
      compared = λ o x y c v h k. refl;
      swapped = λ o x y c v h k. refl;
      equal = λ x y a b h k. refl;
      paired = λ o x y a b h k. refl;
      not_compared = λ o a x y c v g h k. refl;
      not_swapped = λ o a x y c v g h k. refl;
      not_unequal = λ a x y b d g h k. refl;
      not_paired = λ o a x y b d g h k. refl;
      between = λ i j x y z c v w h k l. refl;
      listed = λ e x y c l h k. refl;
      unlisted = λ e a x y c l g h k. refl;
      null = λ x c h. refl;
      non_null = λ x c h. refl;
      not_null = λ a x c g h. refl;
      not_non_null = λ a x c g h. refl;
    }) (λ x. tt)

negation-read : (p : List ℕ) (r : Record) → is_not (to_aexpr p r) ≡ is_negation r
negation-read p kind.Invalid = refl
negation-read p (kind.Column c) = refl
negation-read p (kind.Literal ty v) = refl
negation-read p (kind.Null ty) = refl
negation-read p (kind.Binary o x y) =
    binary-ind (λ r. is_not r ≡ false) x.0 y.0 refl (refl, refl) o (λ e c. refl) (λ e. (refl, refl)) (λ e d b. refl)
negation-read p (kind.Not x) = refl
negation-read p (kind.IsNull x) = refl
negation-read p (kind.IsNotNull x) = refl
negation-read p (kind.IsBetween ends x low high) = refl
negation-read p (kind.List ty marked start count) = refl
negation-read p (kind.IsIn equal x list) = refl

-- An arm of the match on what is read.
pub plain-arm : (rs p : List ℕ) (n : Node) (k a : code.Conjunct) → conjunct_in p n.0 k ≡ classify (aexpr_of rs p) n.0
    → k ≡ a → read_plain (is_negation (record_at rs n)) (conjunct_in p n.0 a) ≡ plain_conjunct (aexpr_of rs p) n.0
unfolding aexpr_of
plain-arm rs p n k a e f =
    ap (λ b. read_plain b (conjunct_in p n.0 a)) (sym (negation-read p (record_at rs n)))
    ∙ ap (λ x. read_plain (is_not (aexpr_of rs p n.0)) (conjunct_in p n.0 x)) (sym f)
    ∙ ap (read_plain (is_not (aexpr_of rs p n.0))) e
    ∙ sym (plain-read (aexpr_of rs p) n.0)

-- What the test `set & !number` leaves of `not set || number`.
pub set_other : (r s a b : Bool) → r ≡ a → s ≡ b → (r && not s) ≡ true → (not a || b) ≡ false
set_other r s a b e f h = rw (← e, ← f) (go r s h)
  where
    go : (r s : Bool) → (r && not s) ≡ true → (not r || s) ≡ false
    go true true h = absurd (true≢false (sym h))
    go true false h = refl
    go false s h = absurd (true≢false (sym h))

pub set-not_other : (r s a b : Bool) → r ≡ a → s ≡ b → (r && not s) ≡ false → (not a || b) ≡ true
set-not_other r s a b e f h = rw (← e, ← f) (go r s h)
  where
    go : (r s : Bool) → (r && not s) ≡ false → (not r || s) ≡ true
    go true true h = refl
    go true false h = absurd (true≢false h)
    go false s h = refl
