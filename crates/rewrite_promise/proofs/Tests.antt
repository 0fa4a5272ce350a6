-- The row test answers of the screen returned as of the screen sent.
use mathlib.Core.Path.{◌≡◌, refl, sym, subst}
use mathlib.Core.List.{List}
use Prim.Native.Nat.{ℕ, ◌≤◌}
use borrow.Author.Tests.{le-ltb}
use Rattle.checking.specs.Tree.{tree_count}
use Rattle.three_valued.specs.Logic.{is_true}
use Rattle.merge.specs.Demand.{Row}
use Rattle.merge.specs.Usable.{UsableIn, SameTest}
use Rattle.merge.proofs.Usable.{row_answer, same_test}
use Rattle.symbol_screens.specs.Reading.{held_at}
use Rattle.symbol_screens.specs.Rewriting.{lent}
use Rattle.symbol_screens.specs.Rows.{row_keys_with, truth_with, passes_with}
use Rattle.symbol_rows.specs.RowTestWith.{checked_answer_with, row_fault_with, test_row_answer_with}
use Rattle.rewrite_promise.specs.Promises.{SameTestsWith}

-- Of a usable screen it refuses rows only, by what the table asks of them.
usable-test :
    (text t rs p : List ℕ) (used root : ℕ) (values : List ℕ) (nulls : ℕ) → UsableIn (lent text) t rs p used root →
    test_row_answer_with text t rs p used root values nulls
    ≡ row_answer (row_fault_with text t values nulls)
    (truth_with text (held_at rs p used) (row_keys_with text t values nulls) root)
unfolding test_row_answer_with checked_answer_with
usable-test text t rs p used root values nulls u = rw (u.accepted, le-ltb 4096 (tree_count rs root) u.tree)

pub same_tests : (text t rs p : List ℕ) (used root : ℕ) (out : List ℕ) (new_used new_root : ℕ) →
    UsableIn (lent text) t rs p used root → UsableIn (lent text) t out p new_used new_root →
    ((row : Row) → passes_with text out p new_used new_root row ≡ passes_with text rs p used root row) →
    SameTestsWith text t rs p used root out new_used new_root
same_tests text t rs p used root out new_used new_root sent back rows values nulls =
    subst (λ s. SameTest s (test_row_answer_with text t out p new_used new_root values nulls))
    (sym (usable-test text t rs p used root values nulls sent))
    (subst (SameTest (row_answer (row_fault_with text t values nulls)
    (truth_with text (held_at rs p used) (row_keys_with text t values nulls) root)))
    (sym (usable-test text t out p new_used new_root values nulls back))
    (same_test (row_fault_with text t values nulls) (truth_with text (held_at rs p used) (row_keys_with text t values nulls) root)
    (truth_with text (held_at out p new_used) (row_keys_with text t values nulls) new_root)
    (λ e. rows (row_keys_with text t values nulls))))
