-- The steps of the loops, and what a line's form gives.
use mathlib.Core.Path.{◌≡◌, refl, sym, ◌∙◌, ap, subst}
use mathlib.Core.Bool.{Bool, true, false, cond, true≢false}
use mathlib.Core.List.{List, [], ◌∷◌, ◌++◌, map}
use mathlib.Core.Logic.{⊎_elim}
use Prim.Native.Nat.{ℕ, zero, suc, ◌+◌, ◌<◌, ◌≤◌, ◌%◌}
use native.Mathlib.Omega.{arith}
use native.Mathlib.Nat.{eq-or-lt_of_le}
use lib.Dec.{eqb}
use lib.ListN.{length, get_or, set, replicate}
use lib.Seq.{get_or-set_same, get_or-set_other}
use Rattle.truth.specs.AExpr.{AExpr}
use Rattle.truth.specs.FromBytes.{aexpr_of}
use Rattle.constraints.specs.Column.{Constraint, add_all}
use Rattle.constraints.specs.Lined.{Lined, on_line, lined}
use Rattle.constraints.specs.Mapped.{map_constraint}
use Rattle.column_constraints.specs.Abstraction.{Conjuncts}
use Rattle.column_constraints.specs.declared.column.ColumnConstraints.{ColumnConstraints}
use Rattle.merge.specs.Classify.{Conjunct, classify}
use Rattle.merge.specs.Collect.{add_to, require_non_null}
use Rattle.merge.specs.Lines.{map_conjunct, lines_from}
use Rattle.merge.proofs.Sound.{upd_self}
use Rattle.read_operands.specs.Read.{conjunct_in}
use Rattle.read_operands.specs.declared.operands.Conjunct as code
use Rattle.read_operands.specs.Walk.{first_of}
use Rattle.column_table.specs.Words.{past_column}
use Rattle.column_table.specs.State.{ColumnTable, Shows, Added, collect_to}
use Rattle.collect_constraints.proofs.Collecting.{collect-none}
use Rattle.contradiction.specs.Labels.{lines_to, renamed, label_at, Joins, tell_one, tell_all, told, Tells, told_to, ToldLines}
use Rattle.contradiction.proofs.Labelling.{lines_more}

-- ---- Arrays of labels.
pub number_more : (a : List ℕ) (c : ℕ) → c < length a → ((k : ℕ) → k < c → get_or a k 0 ≡ k)
    → (k : ℕ) → k < c + 1 → get_or (set a c c) k 0 ≡ k
number_more a c l h k g =
    ⊎_elim
    (λ (e : k ≡ c). ap (λ x. get_or (set a c c) x 0) e ∙ get_or-set_same a c c 0 l ∙ sym e)
    (λ (q : k < c). get_or-set_other a c k c 0 (λ e. absurd (omega (arith, e, q))) ∙ h k q)
    (eq-or-lt_of_le (let m : k ≤ c = omega (arith, g) in m))

module _ (a b : List ℕ) (from to c v : ℕ) (l : c < length a) (e : v ≡ renamed from to (get_or a c 0))
    (back : (k : ℕ) → c ≤ k → get_or a k 0 ≡ get_or b k 0) where
  pub rename_front : ((k : ℕ) → k < c → get_or a k 0 ≡ renamed from to (get_or b k 0)) → (k : ℕ) → k < c + 1
      → get_or (set a c v) k 0 ≡ renamed from to (get_or b k 0)
  rename_front front k g =
      ⊎_elim
      (λ (q : k ≡ c). ap (λ x. get_or (set a c v) x 0) q ∙ get_or-set_same a c v 0 l ∙ e
      ∙ ap (renamed from to) (back c (omega arith)) ∙ ap (λ x. renamed from to (get_or b x 0)) (sym q))
      (λ (q : k < c). get_or-set_other a c k v 0 (λ p. absurd (omega (arith, p, q))) ∙ front k q)
      (eq-or-lt_of_le (let m : k ≤ c = omega (arith, g) in m))

  pub rename_back : (k : ℕ) → c + 1 ≤ k → get_or (set a c v) k 0 ≡ get_or b k 0
  rename_back k g =
      get_or-set_other a c k v 0 (λ p. absurd (omega (arith, p, g))) ∙ back k (omega (arith, g))

pub joined_at : (old : List ℕ) (a b x y z : ℕ) → x ≡ a % 64 → y ≡ b % 64
    → renamed (get_or old x 0) (get_or old y 0) z ≡ renamed (label_at old a) (label_at old b) z
joined_at old a b x y z e f =
    ap (λ w. renamed (get_or old w 0) (get_or old y 0) z) e ∙ ap (λ w. renamed (label_at old a) (get_or old w 0) z) f

pub label_low : (labels : List ℕ) (a x : ℕ) → ((c : ℕ) → c < 64 → get_or labels c 0 < 64) → x ≡ label_at labels a → x < 64
label_low labels a x h e = subst (λ y. y < 64) (sym e) (h (a % 64) (omega arith))

-- What a line does to the labels, once its form in code is known.
pub joins_as : (rs p : List ℕ) (n : ℕ) (k k' : code.Conjunct) (old new : List ℕ)
    → conjunct_in p n k ≡ classify (aexpr_of rs p) n → k ≡ k' → Joins (conjunct_in p n k') old new
    → Joins (classify (aexpr_of rs p) n) old new
joins_as rs p n k k' old new e h j = subst (λ x. Joins x old new) (ap (conjunct_in p n) (sym h) ∙ e) j

-- ---- What a line told, by its form.
module _ (t : Conjuncts) (table : List ColumnConstraints) (ms : List ℕ) (T U : ColumnTable) where
  pub tell_at : (a b : ℕ) (l : List (Constraint Lined)) (r : Bool) → U ≡ add_to lined a l T → b ≡ a
      → Added t table ms b l r T → Tells t table ms r U
  tell_at a b l r e q A =
      subst (Tells t table ms r) (sym (e ∙ ap (λ d. add_to lined d l T) (sym q)))
      (record {
        shows = A.shows;
        dead = λ h. (b, ap (λ c. c.unsat) (upd_self lined T b (add_all lined l (T b))) ∙ sym A.stops ∙ h);
      })

  pub tell_none : U ≡ T → Shows t table ms T → Tells t table ms false U
  tell_none e S =
      subst (Tells t table ms false) (sym e) (record { shows = S; dead = λ h. absurd (true≢false (sym h)) })

  pub tell_pair : (a b x y : ℕ) → U ≡ require_non_null lined b (require_non_null lined a T) → x ≡ a → y ≡ b
      → Shows t table ms (require_non_null lined y (require_non_null lined x T)) → Tells t table ms false U
  tell_pair a b x y e p q S =
      subst (Tells t table ms false)
      (sym (e ∙ ap (λ d. require_non_null lined b (require_non_null lined d T)) (sym p)
      ∙ ap (λ d. require_non_null lined d (require_non_null lined x T)) (sym q)))
      (record { shows = S; dead = λ h. absurd (true≢false (sym h)) })

-- ---- Lines one by one.
pub told_none : (t : Conjuncts) (table : List ColumnConstraints) (ms labels : List ℕ) (R : ℕ → AExpr ℕ) (nodes : List ℕ)
    → table ≡ replicate 64 past_column → Shows t table ms (told_to labels R nodes 0)
unfolding told lines_to collect_to first_of lines_from
told_none t table ms labels R nodes e =
    (collect-none t table ms R nodes [] [] [] [] [] e).shows

tell_snoc : (f : ℕ → ℕ) (l : List (Conjunct Lined)) (x : Conjunct Lined) (T : ColumnTable)
    → tell_all lined f (l ++ (x ∷ [])) T ≡ tell_one lined f x (tell_all lined f l T)
tell_snoc f [] x T = refl
tell_snoc f (y ∷ l) x T = tell_snoc f l x (tell_one lined f y T)

module _ (t : Conjuncts) (table : List ColumnConstraints) (ms labels : List ℕ) (R : ℕ → AExpr ℕ) (nodes : List ℕ) where
  told_more : (i : ℕ) → told_to labels R nodes (i + 1) ≡
      tell_one lined (label_at labels) (map_conjunct (on_line i) (classify R (get_or nodes i 0))) (told_to labels R nodes i)
  unfolding told
  told_more i =
      ap (told lined (label_at labels)) (lines_more R nodes i)
      ∙ tell_snoc (label_at labels) (lines_to R nodes i) (map_conjunct (on_line i) (classify R (get_or nodes i 0))) _

  module _ (i : ℕ) (b : Bool) (h : (T : ColumnTable) → T ≡ told_to labels R nodes i → Tells t table ms b
      (tell_one lined (label_at labels) (map_conjunct (on_line i) (classify R (get_or nodes i 0))) T)) where
    pub shows_more : Shows t table ms (told_to labels R nodes (i + 1))
    shows_more = subst (Shows t table ms) (sym (told_more i)) (h (told_to labels R nodes i) refl).shows

    pub told-stop : (n : ℕ) → i < n → b ≡ true → ToldLines t table ms labels R nodes n true
    told-stop n l e =
        record {
          stopped = λ q. (
            i + 1,
            omega (arith, l),
            subst (λ T. (c : ℕ) × ((T c).unsat ≡ true)) (sym (told_more i)) ((h (told_to labels R nodes i) refl).dead e),
          );
          shows = λ q. absurd (true≢false q);
          fine = (h (told_to labels R nodes i) refl).shows.fine;
        }

  pub told-end : (i n : ℕ) → i ≤ n → n ≤ i → Shows t table ms (told_to labels R nodes i)
      → ToldLines t table ms labels R nodes n false
  told-end i n l g S =
      let e : i ≡ n = omega (arith, l, g) in
      record {
        stopped = λ q. absurd (true≢false (sym q));
        shows = λ q. subst (λ m. Shows t table ms (told_to labels R nodes m)) e S;
        fine = S.fine;
      }
