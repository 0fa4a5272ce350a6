-- The root of a plain screen reaches no division.
use mathlib.Core.Path.{◌≡◌, refl, sym, ◌∙◌, ap, subst}
use mathlib.Core.Bool.{Bool, true, false, not, ◌&&◌, ◌||◌, cond, true≢false, and-eq-true_iff, and_assoc}
use mathlib.Core.List.{List, [], ◌∷◌, ◌++◌}
use mathlib.Core.Option.{Option, none, some, none-ne-some, some-injective}
use Prim.Native.Nat.{ℕ, zero, suc, ◌<◌}
use native.Mathlib.Omega.{arith}
use lib.Dec.{leb, eqb}
use lib.ListN.{length}
use Rattle.records.specs.Bytes.{all}
use Rattle.records.specs.Course.{up_to, course}
use Rattle.records.proofs.Courses.{course-law}
use Rattle.truth.specs.Comparison.{Gt}
use Rattle.truth.specs.AExpr.{AExpr, Column, Literal, Null, BinaryExpr, Not, IsNull, IsNotNull, IsBetween, ListLiteral}
use Rattle.truth.specs.AExpr.{IsIn, Missing, BinaryOp, Compare, EqValidity, NotEqValidity, FloorDivide, Modulus, And, Or}
use Rattle.truth.specs.AExpr.{Xor, LogicalAnd, LogicalOr, Inputs, WF}
use Rattle.merge.specs.Minterms.{and_sides, minterms, minterms_by}
use Rattle.merge.specs.Classify.{Operand, AColumn, ALiteral, AList, Other, operand, Conjunct}
use Rattle.merge.specs.Plain as plain
use Rattle.merge.specs.Plain.{divides, division_step, reaches_division}
use Rattle.merge.proofs.Chains.{Sides, sides_below, minterms-law}
use Rattle.merge.proofs.Forms.{ReadForms, read_ind}
use Rattle.merge.proofs.PlainForms.{plain_conjunct, plain_conjuncts, plain-same}

division-same : {Val : Type 0} (n : ℕ) (U W : ℕ → Bool) → ((a : ℕ) → a < n → U a ≡ W a) → (r : AExpr Val) →
    Inputs n r → division_step U r ≡ division_step W r
division-same n U W h (Column c) i = refl
division-same n U W h (Literal v) i = refl
division-same n U W h Null i = refl
division-same n U W h (BinaryExpr b x y) i = rw (h x i.0, h y i.1)
division-same n U W h (Not x) i = h x i
division-same n U W h (IsNull x) i = h x i
division-same n U W h (IsNotNull x) i = h x i
division-same n U W h (IsBetween c d x y z) i = rw (h x i.0, h y i.1, h z i.2)
division-same n U W h (ListLiteral m l) i = refl
division-same n U W h (IsIn e x y) i = rw (h x i.0, h y i.1)
division-same n U W h Missing i = refl

no : {A : Type 0} → false ≡ true → A
no e = absurd (true≢false (sym e))

module _ {Val : Type 0} (R : ℕ → AExpr Val) (wf : WF R) where
  abbrev reach : ℕ → Bool
  reach n = reaches_division R n

  reach-law : (n : ℕ) → reach n ≡ division_step reach (R n)
  reach-law n =
      course-law (λ a. false) (λ W i. division_step W (R i)) n (λ U W h. division-same n U W h (R n) (wf n))

  reach_of : (n : ℕ) (r : AExpr Val) → R n ≡ r → reach n ≡ division_step reach r
  reach_of n r e = reach-law n ∙ ap (division_step reach) e

  -- an operand that is a column, a literal or a list reaches none
  abbrev Free : ℕ → Operand Val → Type 0
  Free x (AColumn c) = reach x ≡ false
  Free x (ALiteral v) = reach x ≡ false
  Free x (AList l) = reach x ≡ false
  Free x Other = Unit {0}

  seen : (x : ℕ) → Free x (operand (R x))
  seen x = go (R x) (reach-law x)
    where
      list : (b : Bool) (l : List Val) → reach x ≡ false → Free x (cond b (AList l) Other)
      list true l e = e
      list false l e = tt

      go : (r : AExpr Val) → reach x ≡ division_step reach r → Free x (operand r)
      go (Column c) e = e
      go (Literal v) e = e
      go Null e = tt
      go (BinaryExpr b y z) e = tt
      go (Not y) e = tt
      go (IsNull y) e = tt
      go (IsNotNull y) e = tt
      go (IsBetween c d y z w) e = tt
      go (ListLiteral m l) e = list (not m && leb (length l) 100) l e
      go (IsIn k y z) e = tt
      go Missing e = tt

  forms : (n : ℕ) → ReadForms R n Free (λ r p c. p ≡ true → division_step reach r ≡ false)
  forms n =
      record {
        opaque = λ r e. no e;
        entered = λ r x c h e. no e;
        compared = λ o x y c v h k e. rw (h, k);
        swapped = λ o x y c v h k e. rw (h, k);
        equal = λ x y a b h k e. rw (h, k);
        paired = λ o x y a b h k e. no e;
        between = λ i j x y z c v w h k l e. rw (h, k, l);
        listed = λ i x y c l h k e. rw (h, k);
        unlisted = λ i a x y c l g h k e. reach_of a (IsIn i x y) g ∙ rw (h, k);
        null = λ x c h e. h;
        non_null = λ x c h e. h;
        not_null = λ a x c g h e. reach_of a (IsNull x) g ∙ h;
        not_non_null = λ a x c g h e. reach_of a (IsNotNull x) g ∙ h;
        not_compared = λ o a x y c v g h k e. reach_of a (BinaryExpr (Compare o) x y) g ∙ rw (h, k);
        not_swapped = λ o a x y c v g h k e. reach_of a (BinaryExpr (Compare o) x y) g ∙ rw (h, k);
        not_unequal = λ a x y b d g h k e. no e;
        not_paired = λ o a x y b d g h k e. no e;
      }

  conjunct-free : (n : ℕ) → plain_conjunct R n ≡ true → reach n ≡ false
  conjunct-free n h =
      reach-law n ∙ read_ind R n Free (λ r p c. p ≡ true → division_step reach r ≡ false) (forms n) seen h

  -- an And reaches what its sides reach
  and_reach : (r : AExpr Val) (s : ℕ × ℕ) → and_sides r ≡ some s → reach s.0 ≡ false → reach s.1 ≡ false →
      division_step reach r ≡ false
  and_reach (Column c) s e h k = absurd (none-ne-some _ e)
  and_reach (Literal v) s e h k = absurd (none-ne-some _ e)
  and_reach Null s e h k = absurd (none-ne-some _ e)
  and_reach (BinaryExpr b x y) s e h k = go b e
    where
      both : ◌≡◌ {A = Option (ℕ × ℕ)} (some (x, y)) (some s) → (reach x || reach y) ≡ false
      both q =
          subst (λ z. (reach z.0 || reach z.1) ≡ false) (sym (some-injective _ _ q)) (rw (h, k))

      go : (b : BinaryOp) → and_sides {Val = Val} (BinaryExpr b x y) ≡ some s → (divides b || (reach x || reach y)) ≡ false
      go (Compare o) e = absurd (none-ne-some _ e)
      go EqValidity e = absurd (none-ne-some _ e)
      go NotEqValidity e = absurd (none-ne-some _ e)
      go FloorDivide e = absurd (none-ne-some _ e)
      go Modulus e = absurd (none-ne-some _ e)
      go And e = both e
      go Or e = absurd (none-ne-some _ e)
      go Xor e = absurd (none-ne-some _ e)
      go LogicalAnd e = both e
      go LogicalOr e = absurd (none-ne-some _ e)
  and_reach (Not x) s e h k = absurd (none-ne-some _ e)
  and_reach (IsNull x) s e h k = absurd (none-ne-some _ e)
  and_reach (IsNotNull x) s e h k = absurd (none-ne-some _ e)
  and_reach (IsBetween c d x y z) s e h k = absurd (none-ne-some _ e)
  and_reach (ListLiteral m l) s e h k = absurd (none-ne-some _ e)
  and_reach (IsIn i x y) s e h k = absurd (none-ne-some _ e)
  and_reach Missing s e h k = absurd (none-ne-some _ e)

  plain-append : (l m : List ℕ) → plain_conjuncts R (l ++ m) ≡ (plain_conjuncts R l && plain_conjuncts R m)
  plain-append [] m = refl
  plain-append (n ∷ l) m =
      rw (plain-append l m) (sym (and_assoc (plain_conjunct R n) (plain_conjuncts R l) (plain_conjuncts R m)))

  root-free : (m n : ℕ) → n < m → plain_conjuncts R (minterms R n) ≡ true → reach n ≡ false
  root-free zero n h k = absurd (omega arith)
  root-free (suc m) n h k =
      go (and_sides (R n)) refl (sides_below n (R n) (wf n))
      (subst (λ l. plain_conjuncts R l ≡ true) (minterms-law R n (wf n)) k)
      (λ a l q. root-free m a (omega arith) q)
    where
      go :
          (s : Option (ℕ × ℕ)) → and_sides (R n) ≡ s → Sides (λ a. a < n) s →
          plain_conjuncts R (minterms_by n (λ a. minterms R a) s) ≡ true →
          ((a : ℕ) → a < n → plain_conjuncts R (minterms R a) ≡ true → reach a ≡ false) → reach n ≡ false
      go none e b q ih = conjunct-free n ((and-eq-true_iff (plain_conjunct R n) true).0 q).0
      go (some s) e b q ih =
          let d = (and-eq-true_iff (plain_conjuncts R (minterms R s.0)) (plain_conjuncts R (minterms R s.1))).0
          (sym (plain-append (minterms R s.0) (minterms R s.1)) ∙ q) in
          reach-law n ∙ and_reach (R n) s e (ih s.0 b.0 d.0) (ih s.1 b.1 d.1)

  pub plain-unreached :
      (root : ℕ) → plain.plain_conjuncts R (minterms R root) ≡ true → reaches_division R root ≡ false
  plain-unreached root h = root-free (suc root) root (omega arith) (sym (plain-same R (minterms R root)) ∙ h)

-- c0 > 3, and behind it c0 // 3, which the root does not reach: a plain screen, with all rows.
abbrev behind : ℕ → AExpr ℕ
behind n =
    cond (eqb n 0) (Column 0)
    (cond (eqb n 1) (Literal 3)
    (cond (eqb n 2) (BinaryExpr (Compare Gt) 0 1) (cond (eqb n 3) (BinaryExpr FloorDivide 0 1) Missing)))

unreached_plain : (plain.plain_screen (1 ∷ []) behind 2 ≡ true) × (reaches_division behind 2 ≡ false)
unfolding up_to course all
unreached_plain = (refl, refl)
