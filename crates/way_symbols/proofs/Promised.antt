-- What the call promises of a screen, from what is promised of its numbers.
use mathlib.Core.Path.{◌≡◌, refl, sym, ◌∙◌, ap, subst}
use mathlib.Core.Bool.{Bool, true, false}
use mathlib.Core.List.{List}
use Prim.Native.Nat.{ℕ, ◌≤◌, ◌<◌}
use native.Mathlib.Omega.{arith}
use lib.ListN.{length, get_or}
use Rattle.checking.specs.Checked.{CheckedIn}
use Rattle.three_valued.specs.Logic.{is_true}
use Rattle.truth.specs.AExpr.{AExpr}
use Rattle.truth.specs.FromBytes.{aexpr_at}
use Rattle.merge.specs.Minterms.{minterms}
use Rattle.merge.specs.Plain.{plain_screen}
use Rattle.merge.specs.Demand.{Row}
use Rattle.in_the_way.specs.Calls as calls
use Rattle.in_the_way.specs.Calls.{PassesWithout, WayPromise}
use Rattle.numbered_screen.specs.Numbered.{Numbered}
use Rattle.symbol_screens.specs.Rewriting.{lent}
use Rattle.symbol_screens.specs.Rows.{IsRowWith}
use Rattle.plain_rows.proofs.Rows as rows
use Rattle.way_symbols.specs.Promise.{PassesWithoutWith, NonePassesWith, WayPromiseWith}

-- A refusal promises nothing.
pub promise_refused : (text t rs p : List ℕ) (used root k old : ℕ) → k < 256 → WayPromiseWith text t rs p used root k old
promise_refused text t rs p used root k old small =
    record {
      plain = λ e. absurd (omega (arith, e, small));
      passing = λ e. absurd (omega (arith, e, small));
      nothing = λ e. absurd (omega (arith, e, small));
      found = λ e. absurd (omega (arith, e, small));
      first = λ e. absurd (omega (arith, e, small));
      none = λ e. absurd (omega (arith, e, small));
      several = λ e. absurd (omega (arith, e, small));
    }

module _ (text t rs p : List ℕ) (used root : ℕ) (ok : CheckedIn (lent text) t rs p used root)
    (plain : plain_screen t (aexpr_at rs p used) root ≡ true)
    (table records : List ℕ) (are : Numbered t rs used table records) where
  abbrev lines : List ℕ
  lines = minterms (aexpr_at rs p used) root

  bits : aexpr_at records p used ≡ aexpr_at rs p used
  bits = rows.bits-same text t rs p used root ok plain table records are

  counted : length (minterms (aexpr_at records p used) root) ≡ length lines
  counted = ap (λ (S : ℕ → AExpr ℕ). length (minterms S root)) bits

  -- without line i, of the screen and of its numbers
  out_of : (i : ℕ) (row : Row) → PassesWithout (aexpr_at records p used) (minterms (aexpr_at records p used) root) i row
      → PassesWithoutWith text t rs p used root i (rows.cut text t rs p used root ok plain table records are row)
  out_of i row h j k d =
      ap is_true (rows.line-cut text t rs p used root ok plain table records are row j k)
      ∙ subst (λ (S : ℕ → AExpr ℕ). PassesWithout S (minterms S root) i row) bits h j k d

  into : (i : ℕ) (row : Row) → PassesWithoutWith text t rs p used root i row
      → PassesWithout (aexpr_at records p used) (minterms (aexpr_at records p used) root) i row
  into i row h =
      subst (λ (S : ℕ → AExpr ℕ). PassesWithout S (minterms S root) i row) (sym bits)
      (λ j k d. sym (ap is_true (rows.line-true text t rs p used root ok plain table records are row j k)) ∙ h j k d)

  nobody : (i : ℕ) → calls.NonePasses table records p used root i → NonePassesWith text t rs p used root i
  nobody i h row is k =
      h row (rows.row-of_numbers text t rs p used root ok plain table records are row is) (into i row k)

  pub promise_told : (answer line : ℕ) → WayPromise table records p used root answer line
      → WayPromiseWith text t rs p used root answer line
  promise_told answer line w =
      record {
        plain = λ e. plain;
        passing = λ e.
            let r = w.passing e in (
              rows.cut text t rs p used root ok plain table records are r.0,
              rows.row-of_screen text t rs p used root ok plain table records are r.0 r.1,
              rows.passes-cut text t rs p used root ok plain table records are r.0 ∙ r.2,
            );
        nothing = λ e row is h.
            w.nothing e row (rows.row-of_numbers text t rs p used root ok plain table records are row is)
            (sym (rows.passes-true text t rs p used root ok plain table records are row) ∙ h);
        found = λ e.
            let r = w.found e in (
              subst (λ n. line < n) counted r.0,
              record {
                row = rows.cut text t rs p used root ok plain table records are r.1.row;
                is = rows.row-of_screen text t rs p used root ok plain table records are r.1.row r.1.is;
                passed = out_of line r.1.row r.1.passed;
              },
            );
        first = λ e i k. nobody i (w.first e i k);
        none = λ e i k. nobody i (w.none e i (subst (λ n. i < n) (sym counted) k));
        several = λ e. subst (λ n. 1 < n) counted (w.several e);
      }
