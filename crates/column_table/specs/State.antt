-- What the slices of the merging stand for: the tables and lists of `Collected`, Propagate and Emit.
use Rattle.std.specs.Prelude.{◌≡◌, Bool, true, false, cond, ◌||◌, List, [], ◌∷◌, ◌++◌, map, ℕ, zero, suc, ◌+◌, ◌-◌, ◌*◌, ◌<◌, ◌≤◌, length, get_or}
use Rattle.truth.specs.AExpr.{AExpr}
use Rattle.constraints.specs.Column as q
use Rattle.constraints.specs.Comparisons.{ColumnComparison}
use Rattle.constraints.specs.Lined.{Lined, lined}
use Rattle.constraints.specs.Resolve.{resolve_deferred}
use Rattle.column_constraints.specs.Abstraction.{Conjuncts, Numbered, numbered, column_of, Fine}
use Rattle.column_constraints.specs.declared.column.ColumnConstraints.{ColumnConstraints}
use Rattle.merge.specs.Classify.{classify}
use Rattle.merge.specs.Collect.{Table, Collected, begin, collect, is_in, add_to}
use Rattle.merge.specs.Lines.{map_comparisons, lines_from}
use Rattle.merge.specs.Emit.{kept_equalities, dropped_equality, any_unsat, comparisons}
use Rattle.merge.specs.Passes.{pass_times, pass_count, passes_made}
use Rattle.merge.specs.Propagate.{merge_edge, edge_any, edge_emitted, pass, pass_any, pass_emitted, propagate, propagate_emitted}
use Rattle.merge.specs.Write.{write_comparisons}
use Rattle.read_operands.specs.Walk.{first_of}
use Rattle.column_table.specs.Rows.{stride, row_of}
use Rattle.column_table.specs.Words.{past_column, columns_of}

-- The table of merging, of values of 64 bits with their lines.
abbrev pub ColumnTable : Type 0
ColumnTable = Table Lined

-- The column at place a of the array, with its row of numbers.
abbrev pub column_at : List ColumnConstraints → List ℕ → ℕ → Numbered
column_at table marks a = numbered (row_of marks a) (get_or table a past_column)

-- The two arrays stand for the table T, by column numbers.
pub record Shows (t : Conjuncts) (table : List ColumnConstraints) (marks : List ℕ) (T : ℕ → q.ColumnConstraints Lined)
    : Type 0 where
  pub size : length table ≡ 64
  pub column : (a : ℕ) → a < 64 → column_of t (column_at table marks a) ≡ T a
  pub fine : (a : ℕ) → a < 64 → Fine (stride marks) (row_of marks a) (get_or table a past_column).len

-- What every stage asks of the words and the numbers, and leaves: the sizes, and fine numbers in every row.
pub record Fits (cells marks : List ℕ) : Type 0 where
  pub size : length cells ≡ 448
  pub narrow : stride marks ≤ 128
  pub fine : (a : ℕ) → a < 64 → Fine (stride marks) (row_of marks a) (get_or (columns_of cells) a past_column).len

-- The columns that entered, in their order, and a flag for each that did.
pub record Entered (order : List ℕ) (columns : ℕ) (seen : List Bool) (l : List ℕ) : Type 0 where
  pub seen_size : length seen ≡ 64
  pub listed : first_of order columns ≡ l
  pub known : (a : ℕ) → a < 64 → get_or seen a false ≡ is_in a l
  pub distinct : (o : ℕ) → o < columns → is_in (get_or order o 0) (first_of order o) ≡ false
  pub low : (o : ℕ) → o < columns → get_or order o 0 < 64

-- The kept nodes.
pub record Keeps (kept : List ℕ) (keeps : ℕ) (l : List ℕ) : Type 0 where
  pub listed : first_of kept keeps ≡ l

-- The first n edges of three arrays.
unfoldable pub edges_of : List ℕ → List ℕ → List ℕ → ℕ → List (ℕ × ℕ × ℕ)
edges_of lefts rights equals zero = []
edges_of lefts rights equals (suc n) =
    edges_of lefts rights equals n ++ ((get_or lefts n 0, get_or rights n 0, get_or equals n 0) ∷ [])

pub record Edges (lefts rights equals : List ℕ) (edges : ℕ) (l : List (ℕ × ℕ × ℕ)) : Type 0 where
  pub listed : edges_of lefts rights equals edges ≡ l
  pub low-left : (e : ℕ) → e < edges → get_or lefts e 0 < 64
  pub low-right : (e : ℕ) → e < edges → get_or rights e 0 < 64

-- The columns of the first n edges have a place in the table.
abbrev pub EdgesBelow : List ℕ → List ℕ → ℕ → Type 0
EdgesBelow lefts rights n = (e : ℕ) → e < n → (get_or lefts e 0 < 64) × (get_or rights e 0 < 64)

-- ---- Collect: the arrays stand for what was collected.
pub record Collects (t : Conjuncts) (table : List ColumnConstraints) (marks : List ℕ) (seen : List Bool) (order : List ℕ) (columns : ℕ)
    (kept : List ℕ) (keeps : ℕ) (lefts rights equals : List ℕ) (edges bounds : ℕ) (normalized unsat : Bool)
    (s : Collected Lined) : Type 0 where
  pub shows : Shows t table marks s.constraints
  pub entered : Entered order columns seen s.order
  pub keeping : Keeps kept keeps s.opaque
  pub linked : Edges lefts rights equals edges s.edges
  pub bounded : bounds ≡ s.bound_conjuncts
  pub turned : normalized ≡ s.normalized
  pub stops : unsat ≡ s.unsat

-- What the first i nodes of an array gave.
unfoldable pub collect_to : (ℕ → AExpr ℕ) → List ℕ → ℕ → Collected Lined
collect_to R nodes i = collect lined (lines_from 0 (map (classify R) (first_of nodes i))) begin

-- One column with what it is told, over the table that the array stood for; whether the column is then impossible.
pub record Added (t : Conjuncts) (table : List ColumnConstraints) (marks : List ℕ) (a : ℕ) (l : List (q.Constraint Lined))
    (unsat : Bool) (T : ℕ → q.ColumnConstraints Lined) : Type 0 where
  pub shows : Shows t table marks (add_to lined a l T)
  pub stops : unsat ≡ (q.add_all lined l (T a)).unsat

-- ---- Propagate: one edge, over the table that the array stood for.
pub record EdgeMerged (t : Conjuncts) (table : List ColumnConstraints) (marks : List ℕ) (a b : ℕ) (emitted any : Bool)
    (T : ℕ → q.ColumnConstraints Lined) : Type 0 where
  pub shows : Shows t table marks (merge_edge lined a b T)
  pub emits : emitted ≡ edge_emitted lined a b T
  pub changes : any ≡ edge_any lined a b T

-- A pass as far as its edges es, over the table that the array stood for when it began.
pub record EdgesMerged (t : Conjuncts) (table : List ColumnConstraints) (marks : List ℕ) (es : List (ℕ × ℕ × ℕ)) (emitted any : Bool)
    (T : ℕ → q.ColumnConstraints Lined) : Type 0 where
  pub shows : Shows t table marks (pass lined es T)
  pub emits : emitted ≡ pass_emitted lined es T
  pub changes : any ≡ pass_any lined es T

-- After p passes of at most n; what is left to do gives what all give.
pub record Passed (t : Conjuncts) (table : List ColumnConstraints) (marks : List ℕ) (es : List (ℕ × ℕ × ℕ)) (n p : ℕ)
    (emitted going : Bool) (T : ℕ → q.ColumnConstraints Lined) : Type 0 where
  pub shows : Shows t table marks (pass_times lined p es T)
  pub left :
      cond going (propagate lined (n - p) es (pass_times lined p es T)) (pass_times lined p es T) ≡
      propagate lined n es T
  pub emits :
      (emitted || cond going (propagate_emitted lined (n - p) es (pass_times lined p es T)) false) ≡
      propagate_emitted lined n es T
  pub counts :
      p + cond going (pass_count lined (n - p) es (pass_times lined p es T)) 0 ≡ passes_made lined n es T

-- All passes of at most n.
pub record Spread (t : Conjuncts) (table : List ColumnConstraints) (marks : List ℕ) (es : List (ℕ × ℕ × ℕ)) (n : ℕ)
    (emitted : Bool) (passes : ℕ) (T : ℕ → q.ColumnConstraints Lined) : Type 0 where
  pub shows : Shows t table marks (propagate lined n es T)
  pub emits : emitted ≡ propagate_emitted lined n es T
  pub counts : passes ≡ passes_made lined n es T

-- ---- The kept equalities, as far as the edges es.
pub record Kept (table : ℕ → q.ColumnConstraints Lined) (es : List (ℕ × ℕ × ℕ)) (kept : List ℕ) (keeps : ℕ)
    (dropped : Bool) (l : List ℕ) : Type 0 where
  pub keeping : Keeps kept keeps (l ++ kept_equalities lined table es)
  pub drops : dropped ≡ dropped_equality lined table es

-- ---- Resolve.
abbrev pub resolve_all : ColumnTable → ColumnTable
resolve_all T a = resolve_deferred lined (T a)

-- The columns of l resolved, the others not.
abbrev pub resolved_in : List ℕ → ColumnTable → ColumnTable
resolved_in l T a = cond (is_in a l) (resolve_deferred lined (T a)) (T a)

pub record Resolved (t : Conjuncts) (table : List ColumnConstraints) (marks : List ℕ) (l : List ℕ) (held unsat : Bool) (total : ℕ)
    (T : ℕ → q.ColumnConstraints Lined) : Type 0 where
  pub shows : Shows t table marks (resolved_in l T)
  pub stops : unsat ≡ (held || any_unsat l (resolve_all T))
  pub counted : total ≡ length (comparisons lined l (resolve_all T))

-- ---- Write: the table that an array of resolved columns stands for, and the records' bytes with its comparisons cs
-- written from record `used` on.
abbrev pub shown : Conjuncts → List ColumnConstraints → List ℕ → ColumnTable
shown t table marks a = column_of t (column_at table marks a)

-- Comparisons without their lines, as they are written.
abbrev pub bits_of : List (ℕ × ColumnComparison Lined) → List (ℕ × ColumnComparison ℕ)
bits_of cs = map_comparisons (λ (v : Lined). v.bits) cs

pub record Written (t : List ℕ) (used : ℕ) (sent : List ℕ) (cs : List (ℕ × ColumnComparison Lined)) (u : ℕ)
    (rs : List ℕ) : Type 0 where
  pub end : u ≡ used + 3 * length cs
  pub bytes : rs ≡ write_comparisons t used (bits_of cs) sent
  pub size : length rs ≡ length sent
