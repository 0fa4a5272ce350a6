-- The kept equalities: one edge more.
use Rattle.merge.proofs.Sound.{kept_by}
use mathlib.Core.Path.{◌≡◌, refl, sym, ◌∙◌, ap, subst}
use mathlib.Core.Bool.{Bool, true, false, not, cond, ◌&&◌, ◌||◌, true≢false, or-false}
use mathlib.Core.List.{List, [], ◌∷◌, ◌++◌, append_assoc, append-nil}
use mathlib.Core.Option.{Option, none, some}
use Prim.Native.Nat.{ℕ, zero, suc, ◌+◌, ◌-◌, ◌<◌, ◌≤◌, ◌%◌}
use native.Mathlib.Omega.{arith}
use native.Mathlib.Numerals.{add-one}
use lib.ListN.{length, get_or, set}
use lib.Dec.{ltb, eqb}
use borrow.Author.Tests.{eq-eqb, ne_eqb, ltb-false}
use Rattle.constraints.specs.Column as q
use Rattle.constraints.specs.Column.{merge_from, merge_emitted, merge_any}
use Rattle.constraints.specs.Lined.{Lined, lined}
use Rattle.constraints.specs.Resolve.{fixed_at}
use Rattle.column_constraints.specs.Abstraction.{Conjuncts, numbered, column_of, Fine}
use Rattle.column_constraints.specs.declared.column.ColumnConstraints.{ColumnConstraints}
use Rattle.merge.specs.Collect.{update}
use Rattle.merge.specs.Emit.{is_fixed, kept_equalities, dropped_equality}
use Rattle.read_operands.specs.Walk.{first_of}
use Rattle.read_operands.proofs.Walks.{first-kept}
use Rattle.column_table.specs.Rows.{stride, row_of, RowsKept}
use Rattle.column_table.specs.Words.{past_column}
use Rattle.column_table.specs.State.{column_at, ColumnTable, Shows, Keeps, edges_of, Kept}
use Rattle.column_table.proofs.Arrays.{keeps-more, low-slot}
use Rattle.column_table.proofs.Propagating.{or_assoc}

-- ---- the kept equalities
kept-snoc : (T : ColumnTable) (es : List (ℕ × ℕ × ℕ)) (e : ℕ × ℕ × ℕ)
    → kept_equalities lined T (es ++ (e ∷ [])) ≡
    kept_equalities lined T es ++ kept_by (fixed_at lined (T e.0).lower (T e.0).upper) e.2 []
kept-snoc T [] e = refl
kept-snoc T (f ∷ es) e =
    ap (kept_by (fixed_at lined (T f.0).lower (T f.0).upper) f.2) (kept-snoc T es e)
    ∙ go (fixed_at lined (T f.0).lower (T f.0).upper)
  where
    go : (o : Option Lined) → kept_by o f.2 (kept_equalities lined T es ++ kept_by (fixed_at lined (T e.0).lower
        (T e.0).upper) e.2 []) ≡ kept_by o f.2 (kept_equalities lined T es) ++ kept_by (fixed_at lined
        (T e.0).lower (T e.0).upper) e.2 []
    go none = refl
    go (some v) = refl

dropped_snoc : (T : ColumnTable) (es : List (ℕ × ℕ × ℕ)) (e : ℕ × ℕ × ℕ)
    → dropped_equality lined T (es ++ (e ∷ [])) ≡
    (dropped_equality lined T es || is_fixed (fixed_at lined (T e.0).lower (T e.0).upper))
dropped_snoc T [] e = or-false (is_fixed (fixed_at lined (T e.0).lower (T e.0).upper))
dropped_snoc T (f ∷ es) e =
    ap (λ b. is_fixed (fixed_at lined (T f.0).lower (T f.0).upper) || b) (dropped_snoc T es e)
    ∙ or_assoc (is_fixed (fixed_at lined (T f.0).lower (T f.0).upper)) (dropped_equality lined T es)
    (is_fixed (fixed_at lined (T e.0).lower (T e.0).upper))

pub kept-none : (T : ColumnTable) (lefts rights equals kept : List ℕ) (keeps : ℕ) (l : List ℕ) → Keeps kept keeps l
    → Kept T (edges_of lefts rights equals 0) kept keeps false l
unfolding edges_of
kept-none T lefts rights equals kept keeps l K =
    record { keeping = subst (Keeps kept keeps) (sym (append-nil l)) K; drops = refl }

pub kept_more :
    (t : Conjuncts) (table : List ColumnConstraints) (ms : List ℕ) (T : ColumnTable) (lefts rights equals kept : List ℕ) (keeps keeps' e x : ℕ)
    (dropped fixed : Bool) (l : List ℕ) → Shows t table ms T
    → Kept T (edges_of lefts rights equals e) kept keeps dropped l
    → get_or lefts e 0 < 64 → keeps < length kept → x ≡ get_or lefts e 0 % 64
    → fixed ≡ is_fixed (fixed_at lined (column_of t (column_at table ms x)).lower
    (column_of t (column_at table ms x)).upper)
    → keeps' ≡ cond fixed keeps (keeps + 1)
    → Kept T (edges_of lefts rights equals (e + 1)) (set kept keeps (get_or equals e 0)) keeps' (dropped || fixed) l
unfolding edges_of
kept_more t table ms T lefts rights equals kept keeps keeps' e x dropped fixed l S K la lk ex ef ek =
    rw (add-one)
    (record {
      keeping = subst (Keeps (set kept keeps (get_or equals e 0)) keeps')
          (append_assoc l (kept_equalities lined T es) (kept_by at_left (get_or equals e 0) [])
          ∙ ap (λ m. l ++ m) (sym (kept-snoc T es (a, get_or rights e 0, get_or equals e 0))))
          (go at_left fixed ef' ek);
      drops = ap (λ b. b || fixed) K.drops
          ∙ ap (λ b. dropped_equality lined T es || b) ef'
          ∙ sym (dropped_snoc T es (a, get_or rights e 0, get_or equals e 0));
    })
  where
    a : ℕ
    a = get_or lefts e 0

    es : List (ℕ × ℕ × ℕ)
    es = edges_of lefts rights equals e

    at_left : Option Lined
    at_left = fixed_at lined (T a).lower (T a).upper

    shown : column_of t (column_at table ms x) ≡ T a
    shown = ap (λ y. column_of t (column_at table ms y)) (low-slot a x la ex) ∙ S.column a la

    ef' : fixed ≡ is_fixed at_left
    ef' = ef ∙ ap (λ c. is_fixed (fixed_at lined c.lower c.upper)) shown

    go : (o : Option Lined) (f : Bool) → f ≡ is_fixed o → keeps' ≡ cond f keeps (keeps + 1)
        → Keeps (set kept keeps (get_or equals e 0)) keeps' (l ++ kept_equalities lined T es ++ kept_by o (get_or equals e 0) [])
    go none f ef ek =
        subst (λ k. Keeps (set kept keeps (get_or equals e 0)) k (l ++ kept_equalities lined T es ++ (get_or equals e 0 ∷ [])))
        (sym (ek ∙ ap (λ b. cond b keeps (keeps + 1)) ef))
        (keeps-more kept keeps (get_or equals e 0) (l ++ kept_equalities lined T es) lk K.keeping)
    go (some v) f ef ek =
        subst (λ k. Keeps (set kept keeps (get_or equals e 0)) k (l ++ kept_equalities lined T es ++ []))
        (sym (ek ∙ ap (λ b. cond b keeps (keeps + 1)) ef))
        (record {
          listed = first-kept kept keeps (get_or equals e 0) keeps (omega arith) ∙ K.keeping.listed
              ∙ sym (append-nil (l ++ kept_equalities lined T es));
        })
