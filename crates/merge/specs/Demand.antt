-- Demand 3 (01, 'Statements and samples'), as statements; they are proved in proofs/Demand.antt. t is the column
-- table, rs the records, p the pool, used and root the screen's; the screen returned is the same with the records at
-- exit and the root and used count answered, or the one sent if the answer is unchanged.
use Rattle.std.specs.Prelude.{◌≡◌, Bool, true, false, cond, List, [], ◌∷◌, ◌⊎◌, ◌↔◌, ℕ, suc, ◌<◌, ℤ, length, get_or}
use Rattle.std.proofs.Math.Option.{Option, none, some}
use Rattle.records.specs.Shape.{in_type}
use Rattle.truth.specs.Halves.{key}
use Rattle.three_valued.specs.Logic.{is_true}
use Rattle.truth.specs.AExpr.{AExpr}
use Rattle.truth.specs.FromBytes.{aexpr_at, truth_in}
use Rattle.merge.specs.declared.answer.RewriteAnswer.{RewriteAnswer}
use Rattle.merge.specs.declared.answer.RewriteAnswer.TheVariants as answer
use Rattle.merge.specs.Plain.{is_number_column, plain_screen, reaches_division}
use Rattle.merge.specs.Rewrite.{rewrite_answer, rewrite_bytes}

-- A row gives each column null or a key. Keys count halves, so in an Int or Day column every key is a whole number or
-- one half way between two neighbouring whole ones, of any size.
abbrev pub Row : Type 0
Row = ℕ → Option ℤ

-- In a Truth column a row holds null or a value of the type, false or true.
abbrev pub NullOrTruth : Option ℤ → Type 0
NullOrTruth none = Unit {0}
NullOrTruth (some k) = (k ≡ key 0) ⊎ (k ≡ key 1)

-- Null or a value of the type ty, given as 64 bits.
pub record InType (ty : ℕ) (k : ℤ) : Type 0 where
  pub bits : ℕ
  pub typed : in_type ty bits ≡ true
  pub is : k ≡ key bits

abbrev pub NullOrTyped : ℕ → Option ℤ → Type 0
NullOrTyped ty none = Unit {0}
NullOrTyped ty (some k) = InType ty k

-- "Where the root sent reaches one [a division], rows have values of the column types only; a record that it does not
-- reach changes neither plainness nor rows" (02, 2.8). R has the records sent, root is the root sent.
pub record IsRow (t : List ℕ) (R : ℕ → AExpr ℕ) (root : ℕ) (row : Row) : Type 0 where
  pub truths : (c : ℕ) → c < length t → is_number_column t c ≡ false → NullOrTruth (row c)
  pub typed : reaches_division R root ≡ true → (c : ℕ) → c < length t → NullOrTyped (get_or t c 0) (row c)

-- A chain is a list of such rows, of any length, none too.
abbrev pub IsChain : List ℕ → (ℕ → AExpr ℕ) → ℕ → List Row → Type 0
IsChain t R root [] = Unit {0}
IsChain t R root (row ∷ chain) = IsRow t R root row × IsChain t R root chain

-- "A row passes on true only", by the row test's rules.
abbrev pub passes : List ℕ → List ℕ → ℕ → ℕ → Row → Bool
passes rs p used root row = is_true (truth_in (aexpr_at rs p used) row root)

-- How many rows of a chain pass.
abbrev pub rows_passing : List ℕ → List ℕ → ℕ → ℕ → List Row → ℕ
rows_passing rs p used root [] = 0
rows_passing rs p used root (row ∷ chain) =
    cond (passes rs p used root row) (suc (rows_passing rs p used root chain)) (rows_passing rs p used root chain)

-- The root and the used count at exit: those answered, or those sent.
abbrev pub root_after : RewriteAnswer → ℕ → ℕ
root_after (answer.Refused k) root = root
root_after answer.Unchanged root = root
root_after (answer.NothingPasses root' used') root = root'
root_after (answer.Rewritten root' used') root = root'

abbrev pub used_after : RewriteAnswer → ℕ → ℕ
used_after (answer.Refused k) used = used
used_after answer.Unchanged used = used
used_after (answer.NothingPasses root' used') used = used'
used_after (answer.Rewritten root' used') used = used'

abbrev pub is_refused : RewriteAnswer → Bool
is_refused (answer.Refused k) = true
is_refused answer.Unchanged = false
is_refused (answer.NothingPasses root used) = false
is_refused (answer.Rewritten root used) = false

abbrev pub is_nothing : RewriteAnswer → Bool
is_nothing (answer.Refused k) = false
is_nothing answer.Unchanged = false
is_nothing (answer.NothingPasses root used) = true
is_nothing (answer.Rewritten root used) = false

-- The bytes of a list are below 256; those that a host lends are.
abbrev pub AreBytes : List ℕ → Type 0
AreBytes l = (i : ℕ) → get_or l i 0 < 256

module _ (t rs p : List ℕ) (used root : ℕ) where
  -- "Demand 3 calls a screen accepted if rewriting refuses it nothing."
  abbrev pub AcceptedScreen : Type 0
  AcceptedScreen = is_refused (rewrite_answer t rs p used root) ≡ false

  -- The row passes under the screen sent; under the screen returned.
  abbrev pub passes_sent : Row → Bool
  passes_sent row = passes rs p used root row

  abbrev pub passes_returned : Row → Bool
  passes_returned row =
      passes (rewrite_bytes t rs p used root) p (used_after (rewrite_answer t rs p used root) used)
      (root_after (rewrite_answer t rs p used root) root) row

  abbrev pub count_sent : List Row → ℕ
  count_sent chain = rows_passing rs p used root chain

  abbrev pub count_returned : List Row → ℕ
  count_returned chain =
      rows_passing (rewrite_bytes t rs p used root) p (used_after (rewrite_answer t rs p used root) used)
      (root_after (rewrite_answer t rs p used root) root) chain

  -- Each row passes under the screen returned exactly when it passes under the screen sent.
  abbrev pub SameRows : Type 0
  SameRows = (row : Row) → IsRow t (aexpr_at rs p used) root row → passes_returned row ≡ passes_sent row

  -- Of every chain as many rows pass under the screen returned as under the screen sent.
  abbrev pub SameCounts : Type 0
  SameCounts =
      (chain : List Row) → IsChain t (aexpr_at rs p used) root chain → count_returned chain ≡ count_sent chain

  -- Where the answer is nothing passes, that is none.
  abbrev pub NothingCounted : Type 0
  NothingCounted =
      is_nothing (rewrite_answer t rs p used root) ≡ true →
      (chain : List Row) → IsChain t (aexpr_at rs p used) root chain → count_sent chain ≡ 0

  -- Of a plain screen, nothing passes is answered exactly when no row at all passes.
  abbrev pub NothingExactly : Type 0
  NothingExactly =
      plain_screen t (aexpr_at rs p used) root ≡ true →
      (is_nothing (rewrite_answer t rs p used root) ≡ true)
      ↔ ((row : Row) → IsRow t (aexpr_at rs p used) root row → passes_sent row ≡ true → ⊥)

-- Demand 3, whole: for every accepted screen.
pub record Demand3 (t rs p : List ℕ) (used root : ℕ) : Type 0 where
  pub rows : SameRows t rs p used root
  pub counts : SameCounts t rs p used root
  pub nothing : NothingCounted t rs p used root
  pub exactly : NothingExactly t rs p used root

abbrev pub Demand3Holds : Type 0
Demand3Holds =
    (t rs p : List ℕ) (used root : ℕ) → AreBytes rs → AcceptedScreen t rs p used root → Demand3 t rs p used root
