-- The lines of a plain screen with one left out, in words of rows.
use mathlib.Core.Path.{◌≡◌, refl, ap}
use mathlib.Core.Bool.{Bool, true, false, and-eq-true_iff}
use mathlib.Core.List.{List, [], ◌∷◌}
use Prim.Native.Nat.{ℕ, zero, suc, ◌<◌}
use native.Mathlib.Omega.{arith}
use lib.ListN.{length, get_or}
use Rattle.checking.specs.Checked.{Checked}
use Rattle.truth.specs.AExpr.{AExpr}
use Rattle.truth.specs.FromBytes.{aexpr_at}
use Rattle.merge.specs.Minterms.{minterms}
use Rattle.merge.specs.Plain.{plain_screen, plain_conjunct, plain_conjuncts}
use Rattle.merge.proofs.Chains.{all_true, Every}
use Rattle.merge.proofs.Sound.{and_both}
use Rattle.judge_lines.specs.Lines.{without, nothing_passes}
use Rattle.judge_lines.proofs.Rows as rows
use Rattle.in_the_way.specs.Calls.{SomePasses, NonePasses}

plain-without : (R : ℕ → AExpr ℕ) (i : ℕ) (l : List ℕ) → plain_conjuncts R l ≡ true → plain_conjuncts R (without i l) ≡ true
plain-without R zero [] h = h
plain-without R zero (n ∷ l) h = ((and-eq-true_iff (plain_conjunct R n) (plain_conjuncts R l)).0 h).1
plain-without R (suc i) [] h = h
plain-without R (suc i) (n ∷ l) h =
    let b = (and-eq-true_iff (plain_conjunct R n) (plain_conjuncts R l)).0 h in
    and_both (plain_conjunct R n) (plain_conjuncts R (without i l)) b.0 (plain-without R i l b.1)

every-without : (P : ℕ → Type 0) (i : ℕ) (l : List ℕ) → Every P l → Every P (without i l)
every-without P zero [] h = tt
every-without P zero (n ∷ l) h = h.1
every-without P (suc i) [] h = tt
every-without P (suc i) (n ∷ l) h = (h.0, every-without P i l h.1)

every_true : (N : ℕ → Bool) (l : List ℕ) → all_true N l ≡ true → (j : ℕ) → j < length l → N (get_or l j 0) ≡ true
every_true N [] h j k = absurd (omega arith)
every_true N (n ∷ l) h zero k = ((and-eq-true_iff (N n) (all_true N l)).0 h).0
every_true N (n ∷ l) h (suc j) k = every_true N l ((and-eq-true_iff (N n) (all_true N l)).0 h).1 j (omega arith)

true-every : (N : ℕ → Bool) (l : List ℕ) → ((j : ℕ) → j < length l → N (get_or l j 0) ≡ true) → all_true N l ≡ true
true-every N [] h = refl
true-every N (n ∷ l) h =
    and_both (N n) (all_true N l) (h 0 (omega arith)) (true-every N l (λ j k. h (suc j) (omega arith)))

out_of : (N : ℕ → Bool) (i : ℕ) (l : List ℕ) → all_true N (without i l) ≡ true
    → (j : ℕ) → j < length l → (j ≡ i → ⊥) → N (get_or l j 0) ≡ true
out_of N i [] h j k d = absurd (omega arith)
out_of N zero (n ∷ l) h zero k d = absurd (d refl)
out_of N zero (n ∷ l) h (suc j) k d = every_true N l h j (omega arith)
out_of N (suc i) (n ∷ l) h zero k d = ((and-eq-true_iff (N n) (all_true N (without i l))).0 h).0
out_of N (suc i) (n ∷ l) h (suc j) k d =
    out_of N i l ((and-eq-true_iff (N n) (all_true N (without i l))).0 h).1 j (omega arith) (λ e. d (ap suc e))

into : (N : ℕ → Bool) (i : ℕ) (l : List ℕ)
    → ((j : ℕ) → j < length l → (j ≡ i → ⊥) → N (get_or l j 0) ≡ true) → all_true N (without i l) ≡ true
into N zero [] h = refl
into N (suc i) [] h = refl
into N zero (n ∷ l) h = true-every N l (λ j k. h (suc j) (omega arith) (λ e. absurd (omega (arith, e))))
into N (suc i) (n ∷ l) h =
    and_both (N n) (all_true N (without i l)) (h 0 (omega arith) (λ e. absurd (omega (arith, e))))
    (into N i l (λ j k d. h (suc j) (omega arith) (λ e. d (let q : j ≡ i = omega (arith, e) in q))))

module _ (t rs p : List ℕ) (used root : ℕ) (ok : Checked t rs p used root)
    (plain : plain_screen t (aexpr_at rs p used) root ≡ true) where
  abbrev R : ℕ → AExpr ℕ
  R n = aexpr_at rs p used n

  pub line-passes : (i : ℕ) → nothing_passes R (without i (minterms R root)) ≡ false → SomePasses t rs p used root i
  line-passes i e =
      let r = rows.some_row t rs p used root ok plain (without i (minterms R root))
      (plain-without R i (minterms R root) (rows.parts t rs p used root ok plain).1)
      (every-without (rows.Numeric t rs p used root ok) i (minterms R root) (rows.all_numeric t rs p used root ok plain)) e in
      record { row = r.0; is = r.1; passed = out_of (rows.M t rs p used root ok r.0) i (minterms R root) r.2 }

  pub line-none : (i : ℕ) → nothing_passes R (without i (minterms R root)) ≡ true → NonePasses t rs p used root i
  line-none i e row is h =
      rows.none_true t rs p used root ok (without i (minterms R root)) e row
      (into (rows.M t rs p used root ok row) i (minterms R root) h)
