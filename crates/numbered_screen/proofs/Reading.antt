-- What does not ask for types reads the same of the screen and of its numbers; and when written bytes are its numbers.
use mathlib.Core.Path.{◌≡◌, refl, sym, ◌∙◌, ap, fun_ext}
use mathlib.Core.Bool.{Bool, true, false, cond}
use mathlib.Core.List.{List, [], ◌∷◌}
use Prim.Native.Nat.{ℕ, zero, suc, ◌+◌, ◌*◌, ◌≤◌, ◌<◌}
use native.Mathlib.Omega.{arith}
use lib.Dec.{ltb}
use lib.ListN.{length, get_or, take}
use lib.Seq.{length-take-le, get_or-take}
use borrow.Author.Tests.{ltb-true, ltb-false}
use Rattle.records.specs.Record.{node, record_at, inputs}
use Rattle.records.specs.declared.record.Record.{Record}
use Rattle.records.specs.declared.record.Record.TheVariants as kind
use Rattle.records.proofs.Courses.{course-agree}
use Rattle.checking.specs.Tree.{sum_at, tree_step, tree_count}
use Rattle.truth.specs.AExpr.{Missing}
use Rattle.truth.specs.FromBytes.{to_aexpr, aexpr_of, aexpr_at}
use Rattle.numbered_screen.specs.Numbered.{number_type, number_byte, Numbered}
use Rattle.numbered_screen.proofs.Fields.{number_record, inputs-numbered, record_numbered}

expression_same : (p : List ℕ) (r : Record) → to_aexpr p (number_record r) ≡ to_aexpr p r
expression_same p kind.Invalid = refl
expression_same p (kind.Column c) = refl
expression_same p (kind.Literal ty v) = refl
expression_same p (kind.Null ty) = refl
expression_same p (kind.Binary o x y) = refl
expression_same p (kind.Not x) = refl
expression_same p (kind.IsNull x) = refl
expression_same p (kind.IsNotNull x) = refl
expression_same p (kind.IsBetween ends x low high) = refl
expression_same p (kind.List ty marked start count) = refl
expression_same p (kind.IsIn equal x list) = refl

sum_same : (C D : ℕ → ℕ) → ((a : ℕ) → C a ≡ D a) → (l : List ℕ) → sum_at C l ≡ sum_at D l
sum_same C D h [] = refl
sum_same C D h (x ∷ l) = rw (h x, sum_same C D h l)

module _ (t rs : List ℕ) (used : ℕ) (table records : List ℕ) (are : Numbered t rs used table records) where
  number_read : (p : List ℕ) (n : ℕ) → aexpr_at records p used n ≡ aexpr_at rs p used n
  unfolding aexpr_at aexpr_of
  number_read p n = go (ltb n used) refl
    where
      go : (b : Bool) → ltb n used ≡ b
          → cond b (to_aexpr p (record_at records (node n))) Missing ≡ cond b (to_aexpr p (record_at rs (node n))) Missing
      go true e =
          ap (to_aexpr p) (record_numbered t rs used table records are n (ltb-true n used e))
          ∙ expression_same p (record_at rs (node n))
      go false e = refl

  pub numbers-read : (p : List ℕ) → aexpr_at records p used ≡ aexpr_at rs p used
  numbers-read p = fun_ext (number_read p)

  pub trees_same : (root : ℕ) → root < used → tree_count records root ≡ tree_count rs root
  trees_same root h =
      course-agree (λ a. 0) (λ below i. tree_step below (record_at records (node i)))
      (λ below i. tree_step below (record_at rs (node i))) used
      (λ n k C D e. ap (λ l. 1 + sum_at C l) (ap inputs (record_numbered t rs used table records are n k)
      ∙ inputs-numbered (record_at rs (node n))) ∙ ap (λ x. 1 + x) (sum_same C D e (inputs (record_at rs (node n))))) root h

past : (l : List ℕ) (i : ℕ) → length l ≤ i → get_or l i 0 ≡ 0
past [] zero h = refl
past [] (suc i) h = refl
past (x ∷ l) zero h = absurd (omega (arith, h))
past (x ∷ l) (suc i) h = past l i (omega (arith, h))

-- The bytes that `number_table` and `number_records` leave.
pub numbered : (t rs : List ℕ) (used : ℕ) (table records : List ℕ) → length t ≤ length table
    → ((c : ℕ) → c < length t → get_or table c 0 ≡ number_type (get_or t c 0)) → 16 * used ≤ length records
    → ((i : ℕ) → i < 16 * used → get_or records i 0 ≡ number_byte i (get_or rs i 0))
    → Numbered t rs used (take (length t) table) records
unfolding number_type
numbered t rs used table records h types room bytes =
    record { columns = length-take-le (length t) table h; types = at; room = room; bytes = bytes }
  where
    at : (c : ℕ) → get_or (take (length t) table) c 0 ≡ number_type (get_or t c 0)
    at c = go (ltb c (length t)) refl
      where
        none : number_type 0 ≡ 0
        none = refl

        go : (b : Bool) → ltb c (length t) ≡ b → get_or (take (length t) table) c 0 ≡ number_type (get_or t c 0)
        go true e =
            let l : c < length t = ltb-true c (length t) e in get_or-take (length t) table c 0 l ∙ types c l
        go false e =
            let l : length t ≤ c = ltb-false c (length t) e in
            let q = length-take-le (length t) table h in
            past (take (length t) table) c (omega (arith, q, l)) ∙ sym none ∙ ap number_type (sym (past t c l))
