-- The columns that a plain screen reads: they are in the table, and those that entered are Int or Day columns.
use mathlib.Core.Path.{◌≡◌, refl, sym, ◌∙◌, ap, subst}
use mathlib.Core.Bool.{Bool, true, false, not, cond, ◌&&◌, ◌||◌, true≢false, and-eq-true_iff}
use mathlib.Core.List.{List, [], ◌∷◌, ◌++◌, map}
use Prim.Native.Nat.{ℕ, zero, suc, ◌<◌}
use native.Mathlib.Omega.{arith}
use lib.Dec.{eqb, ltb, leb}
use lib.ListN.{length}
use borrow.Author.Tests.{eqb-true, ltb-true}
use Rattle.records.specs.Record.{node, record_at}
use Rattle.records.specs.declared.record.Record.{Record}
use Rattle.records.specs.declared.record.Record.TheVariants as kind
use Rattle.record_check.specs.Fit.{reach_ok, reach_ok_in}
use Rattle.checking.specs.Checked.{Checked}
use Rattle.truth.specs.AExpr.{AExpr, Column, Literal, Null, BinaryExpr, Not, IsNull, IsNotNull, IsBetween}
use Rattle.truth.specs.AExpr.{ListLiteral, IsIn, Missing, Inputs, WF, Compare}
use Rattle.truth.specs.FromBytes.{to_aexpr, aexpr_of, aexpr_at}
use Rattle.constraints.specs.Payload.{payload}
use Rattle.merge.specs.Classify.{Conjunct, Bounds, Normalized, Equality, Recorded, NonNullPair, Opaque, classify}
use Rattle.merge.specs.Classify.{Operand, AColumn, ALiteral, AList, Other, operand}
use Rattle.merge.specs.Minterms.{and_sides, minterms}
use Rattle.merge.specs.Collect.{Collected, begin, collect, collect_one, enter, is_in}
use Rattle.merge.specs.Plain.{reads_column, reads_step, plain_conjunct, plain_conjuncts}
use Rattle.merge.proofs.Accepted.{binary-ind, inputs-fall}
use Rattle.merge.proofs.Chains.{Every, Sides, sides_binary, minterms-have}
use Rattle.merge.proofs.Forms.{ReadForms, read_ind}
use Rattle.merge.proofs.PlainForms as forms
use Rattle.merge.proofs.PlainForms.{plain-same}
use Rattle.merge.proofs.Passes.{eqb-self}
use Rattle.merge.proofs.Typed.{reads_column-law}

or_elim : (a b : Bool) (A : Type 0) → (a || b) ≡ true → (a ≡ true → A) → (b ≡ true → A) → A
or_elim true b A h f g = f refl
or_elim false b A h f g = g h

or_left : (a b : Bool) → a ≡ true → (a || b) ≡ true
or_left a b h = ap (λ x. x || b) h

or_right : (a b : Bool) → b ≡ true → (a || b) ≡ true
or_right true b h = refl
or_right false b h = h

module _ (t rs p : List ℕ) (used root : ℕ) (ok : Checked t rs p used root) where
  abbrev R : ℕ → AExpr ℕ
  R n = aexpr_at rs p used n

  pub good : WF R
  good n = inputs-fall t rs p used root ok n

  -- ---- A column that a checked record names is in the table.
  abbrev InTable : AExpr ℕ → Type 0
  InTable (Column c) = c < length t
  InTable (Literal v) = Unit {0}
  InTable Null = Unit {0}
  InTable (BinaryExpr b x y) = Unit {0}
  InTable (Not x) = Unit {0}
  InTable (IsNull x) = Unit {0}
  InTable (IsNotNull x) = Unit {0}
  InTable (IsBetween i j x y z) = Unit {0}
  InTable (ListLiteral m l) = Unit {0}
  InTable (IsIn e x y) = Unit {0}
  InTable Missing = Unit {0}

  record_in : (n : ℕ) (r : Record) → reach_ok t p r (node n) ≡ true → InTable (to_aexpr p r)
  unfolding reach_ok_in
  record_in n kind.Invalid h = tt
  record_in n (kind.Column c) h = ltb-true c.0 (length t) h
  record_in n (kind.Literal ty v) h = tt
  record_in n (kind.Null ty) h = tt
  record_in n (kind.Binary o x y) h =
      binary-ind InTable x.0 y.0 tt (tt, tt) o (λ e c. tt) (λ e. (tt, tt)) (λ e d b. tt)
  record_in n (kind.Not x) h = tt
  record_in n (kind.IsNull x) h = tt
  record_in n (kind.IsNotNull x) h = tt
  record_in n (kind.IsBetween k x low high) h = tt
  record_in n (kind.List ty marked start count) h = tt
  record_in n (kind.IsIn equal x list) h = tt

  table-in : (n : ℕ) → InTable (R n)
  unfolding aexpr_at aexpr_of
  table-in n = go (ltb n used) refl
    where
      go : (b : Bool) → ltb n used ≡ b → InTable (cond b (to_aexpr p (record_at rs (node n))) Missing)
      go true e = record_in n (record_at rs (node n)) (ok.records n (ltb-true n used e)).reach
      go false e = tt

  reads-step : (n c : ℕ) (r : AExpr ℕ) → Inputs n r → InTable r → reads_step c (λ i. reads_column R i c) r ≡ true
      → ((a : ℕ) → a < n → reads_column R a c ≡ true → c < length t) → c < length t
  reads-step n c (Column d) i h e ih = subst (λ x. x < length t) (sym (eqb-true c d e)) h
  reads-step n c (Literal v) i h e ih = absurd (true≢false (sym e))
  reads-step n c Null i h e ih = absurd (true≢false (sym e))
  reads-step n c (BinaryExpr b x y) i h e ih =
      or_elim (reads_column R x c) (reads_column R y c) (c < length t) e (ih x i.0) (ih y i.1)
  reads-step n c (Not x) i h e ih = ih x i e
  reads-step n c (IsNull x) i h e ih = ih x i e
  reads-step n c (IsNotNull x) i h e ih = ih x i e
  reads-step n c (IsBetween j k x y z) i h e ih =
      or_elim (reads_column R x c) (reads_column R y c || reads_column R z c) (c < length t) e (ih x i.0)
      (λ f. or_elim (reads_column R y c) (reads_column R z c) (c < length t) f (ih y i.1) (ih z i.2))
  reads-step n c (ListLiteral m l) i h e ih = absurd (true≢false (sym e))
  reads-step n c (IsIn k x y) i h e ih =
      or_elim (reads_column R x c) (reads_column R y c) (c < length t) e (ih x i.0) (ih y i.1)
  reads-step n c Missing i h e ih = absurd (true≢false (sym e))

  reads-under : (m n c : ℕ) → n < m → reads_column R n c ≡ true → c < length t
  reads-under zero n c h e = absurd (omega arith)
  reads-under (suc m) n c h e =
      reads-step n c (R n) (good n) (table-in n) (sym (reads_column-law R n c (good n)) ∙ e)
      (λ a k. reads-under m a c (omega arith))

  pub reads_in : (n c : ℕ) → reads_column R n c ≡ true → c < length t
  reads_in n c e = reads-under (suc n) n c (omega arith) e

  -- ---- What holds of the columns that the root reads holds of those that each line reads.
  module _ (P : ℕ → Type 0) where
    abbrev Through : ℕ → Type 0
    Through n = (c : ℕ) → reads_column R n c ≡ true → P c

    through_sides : (n : ℕ) → Through n → Sides Through (and_sides (R n))
    through_sides n h = go (R n) (λ c e. h c (reads_column-law R n c (good n) ∙ e))
      where
        go : (r : AExpr ℕ) → ((c : ℕ) → reads_step c (λ i. reads_column R i c) r ≡ true → P c) → Sides Through (and_sides r)
        go (Column d) k = tt
        go (Literal v) k = tt
        go Null k = tt
        go (BinaryExpr b x y) k =
            sides_binary Through b x y (
              (λ c e. k c (or_left (reads_column R x c) (reads_column R y c) e)),
              (λ c e. k c (or_right (reads_column R x c) (reads_column R y c) e)),
            )
        go (Not x) k = tt
        go (IsNull x) k = tt
        go (IsNotNull x) k = tt
        go (IsBetween a b x y z) k = tt
        go (ListLiteral m l) k = tt
        go (IsIn e x y) k = tt
        go Missing k = tt

    pub lines-read : ((c : ℕ) → reads_column R root c ≡ true → P c) → Every Through (minterms R root)
    lines-read h = minterms-have R good Through through_sides root h

  -- ---- What holds of the columns that a plain conjunct reads holds of those that it says something of.
  abbrev Has : (ℕ → Type 0) → Conjunct ℕ → Type 0
  Has P (Bounds c l) = P c
  Has P (Normalized c l) = P c
  Has P (Equality a b n) = P a × P b
  Has P (Recorded z n c l) = P c
  Has P (NonNullPair n a b) = P a × P b
  Has P (Opaque n) = Unit {0}

  abbrev Seen : ℕ → Operand ℕ → Type 0
  Seen x (AColumn c) = reads_column R x c ≡ true
  Seen x (ALiteral v) = Unit {0}
  Seen x (AList l) = Unit {0}
  Seen x Other = Unit {0}

  seen : (x : ℕ) → Seen x (operand (R x))
  seen x = go (R x) refl
    where
      go : (r : AExpr ℕ) → R x ≡ r → Seen x (operand r)
      go (Column c) e =
          reads_column-law R x c (good x) ∙ ap (reads_step c (λ i. reads_column R i c)) e ∙ eqb-self c
      go (Literal v) e = tt
      go Null e = tt
      go (BinaryExpr b y z) e = tt
      go (Not y) e = tt
      go (IsNull y) e = tt
      go (IsNotNull y) e = tt
      go (IsBetween i j a b c) e = tt
      go (ListLiteral m l) e = list m (leb (length l) 100)
        where
          list : (m b : Bool) → Seen x (cond (not m && b) (AList l) Other)
          list true b = tt
          list false true = tt
          list false false = tt
      go (IsIn i y z) e = tt
      go Missing e = tt

  module _ (P : ℕ → Type 0) where
    abbrev Reads : AExpr ℕ → Type 0
    Reads r = (c : ℕ) → reads_step c (λ i. reads_column R i c) r ≡ true → P c

    abbrev C : AExpr ℕ → Bool → Conjunct ℕ → Type 0
    C r plain x = plain ≡ true → Reads r → Has P x

    -- The inputs of a record that is negated.
    inner : (a : ℕ) (r : AExpr ℕ) → R a ≡ r → Reads (Not a) → Reads r
    inner a r e k c h = k c (reads_column-law R a c (good a) ∙ ap (reads_step c (λ i. reads_column R i c)) e ∙ h)

    first : (x y c : ℕ) → reads_column R x c ≡ true → (reads_column R x c || reads_column R y c) ≡ true
    first x y c h = or_left (reads_column R x c) (reads_column R y c) h

    second : (x y c : ℕ) → reads_column R y c ≡ true → (reads_column R x c || reads_column R y c) ≡ true
    second x y c h = or_right (reads_column R x c) (reads_column R y c) h

    read_forms : (n : ℕ) → ReadForms R n Seen C
    read_forms n =
        record {
          opaque = λ r e k. tt;
          entered = λ r x c p e k. absurd (true≢false (sym e));
          compared = λ o x y c v p q e k. k c (first x y c p);
          swapped = λ o x y c v p q e k. k c (second x y c q);
          equal = λ x y a b p q e k. (k a (first x y a p), k b (second x y b q));
          paired = λ o x y a b p q e k. (k a (first x y a p), k b (second x y b q));
          not_compared = λ o a x y c v h p q e k. inner a (BinaryExpr (Compare o) x y) h k c (first x y c p);
          not_swapped = λ o a x y c v h p q e k. inner a (BinaryExpr (Compare o) x y) h k c (second x y c q);
          not_unequal = λ a x y b d h p q e k. absurd (true≢false (sym e));
          not_paired = λ o a x y b d h p q e k. absurd (true≢false (sym e));
          between = λ i j x y z c v w p q r e k. k c (or_left (reads_column R x c) (reads_column R y c || reads_column R z c) p);
          listed = λ i x y c l p q e k. k c (first x y c p);
          unlisted = λ i a x y c l h p q e k. inner a (IsIn i x y) h k c (first x y c p);
          null = λ x c p e k. k c p;
          non_null = λ x c p e k. k c p;
          not_null = λ a x c h p e k. inner a (IsNull x) h k c p;
          not_non_null = λ a x c h p e k. inner a (IsNotNull x) h k c p;
        }

    says-has : (n : ℕ) → forms.plain_conjunct R n ≡ true → ((c : ℕ) → reads_column R n c ≡ true → P c) → Has P (classify R n)
    says-has n h k =
        read_ind R n Seen C (read_forms n) seen h (λ c e. k c (reads_column-law R n c (good n) ∙ e))

    -- ---- So of the columns that entered.
    enter-all : (c : ℕ) (l : List ℕ) → P c → ((d : ℕ) → is_in d l ≡ true → P d) → (d : ℕ) → is_in d (enter c l) ≡ true → P d
    enter-all c l h k d e = go (is_in c l) e
      where
        last : (l : List ℕ) → ((d : ℕ) → is_in d l ≡ true → P d) → is_in d (l ++ (c ∷ [])) ≡ true → P d
        last [] k e = or_elim (eqb d c) false (P d) e (λ q. subst P (sym (eqb-true d c q)) h) (λ q. absurd (true≢false (sym q)))
        last (x ∷ l) k e =
            or_elim (eqb d x) (is_in d (l ++ (c ∷ []))) (P d) e
            (λ q. k d (or_left (eqb d x) (is_in d l) q))
            (λ q. last l (λ y r. k y (or_right (eqb y x) (is_in y l) r)) q)

        go : (b : Bool) → is_in d (cond b l (l ++ (c ∷ []))) ≡ true → P d
        go true e = k d e
        go false e = last l k e

    one-all : (x : Conjunct ℕ) (s : Collected ℕ) → Has P x → ((d : ℕ) → is_in d s.order ≡ true → P d)
        → (d : ℕ) → is_in d (collect_one payload x s).order ≡ true → P d
    one-all (Bounds c l) s h k = enter-all c s.order h k
    one-all (Normalized c l) s h k = enter-all c s.order h k
    one-all (Equality a b n) s h k = enter-all b (enter a s.order) h.1 (enter-all a s.order h.0 k)
    one-all (Recorded z n c l) s h k = enter-all c s.order h k
    one-all (NonNullPair n a b) s h k = enter-all b (enter a s.order) h.1 (enter-all a s.order h.0 k)
    one-all (Opaque n) s h k = k

    collect-all : (l : List ℕ) (s : Collected ℕ) → forms.plain_conjuncts R l ≡ true
        → Every (λ n. (c : ℕ) → reads_column R n c ≡ true → P c) l → ((d : ℕ) → is_in d s.order ≡ true → P d)
        → (d : ℕ) → is_in d (collect payload (map (classify R) l) s).order ≡ true → P d
    collect-all [] s h k g = g
    collect-all (n ∷ l) s h k g =
        let b = (and-eq-true_iff (forms.plain_conjunct R n) (forms.plain_conjuncts R l)).0 h in
        collect-all l (cond s.unsat s (collect_one payload (classify R n) s)) b.1 k.1
        (go s.unsat (says-has n b.0 k.0))
      where
        go : (b : Bool) → Has P (classify R n)
            → (d : ℕ) → is_in d (cond b s (collect_one payload (classify R n) s)).order ≡ true → P d
        go true h = g
        go false h = one-all (classify R n) s h g

    -- Of the lines of a plain screen.
    pub entered-have : (l : List ℕ) → plain_conjuncts R l ≡ true
        → Every (λ n. (c : ℕ) → reads_column R n c ≡ true → P c) l
        → (d : ℕ) → is_in d (collect payload (map (classify R) l) begin).order ≡ true → P d
    entered-have l h k =
        collect-all l begin (sym (plain-same R l) ∙ h) k (λ d e. absurd (true≢false (sym e)))
