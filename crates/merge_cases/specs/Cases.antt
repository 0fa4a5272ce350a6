-- The starred cases of 01 ('Cases'), from bytes to the answer and the bytes at exit. c0 and c1 are Int.
use Rattle.std.specs.Prelude.{Bool, true, false, List, [], ◌∷◌, ◌++◌, ℕ, zero, suc}
use Rattle.records.specs.Record.{fields}
use Rattle.merge.specs.declared.answer.RewriteAnswer.{RewriteAnswer}
use Rattle.merge.specs.declared.answer.RewriteAnswer.TheVariants.{Refused, Unchanged, NothingPasses}
use Rattle.merge.specs.declared.answer.RewriteAnswer.TheVariants.{Rewritten}
use Rattle.merge.specs.Write.{field_bytes}
use Rattle.merge.specs.Passes.{rewrite_passes}
use Rattle.merge.specs.Rewrite.{rewrite_answer, rewrite_bytes}

-- ---- Records as bytes.
abbrev pub column : ℕ → List ℕ
column c = field_bytes (fields 1 0 0 c 0 0)

-- An Int literal.
abbrev pub literal : ℕ → List ℕ
literal v = field_bytes (fields 2 0 1 0 v 0)

-- Operator code, left, right.
abbrev pub binary : ℕ → ℕ → ℕ → List ℕ
binary code left right = field_bytes (fields 4 code 0 left right 0)

abbrev pub negation : ℕ → List ℕ
negation a = field_bytes (fields 5 0 0 a 0 0)

abbrev pub is_null : ℕ → List ℕ
is_null a = field_bytes (fields 6 0 0 a 0 0)

-- A list of Int, code 0: start, count.
abbrev pub list : ℕ → ℕ → List ℕ
list start count = field_bytes (fields 9 0 1 start count 0)

-- nulls_equal, value, list.
abbrev pub membership : ℕ → ℕ → ℕ → List ℕ
membership nulls_equal a values = field_bytes (fields 10 nulls_equal 0 a values 0)

-- Code, value, low, high.
abbrev pub between : ℕ → ℕ → ℕ → ℕ → List ℕ
between code a low high = field_bytes (fields 8 code 0 a low high)

-- The false literal of "nothing passes".
abbrev pub false_literal : List ℕ
false_literal = field_bytes (fields 2 0 3 0 0 0)

-- Lent but unused records.
abbrev pub unused : ℕ → List ℕ
unused zero = []
unused (suc n) = field_bytes (fields 0 0 0 0 0 0) ++ unused n

-- Operator codes.
abbrev pub eq : ℕ
eq = 0

abbrev pub not_eq : ℕ
not_eq = 2

abbrev pub lt : ℕ
lt = 4

abbrev pub lt_eq : ℕ
lt_eq = 5

abbrev pub gt : ℕ
gt = 6

abbrev pub gt_eq : ℕ
gt_eq = 7

abbrev pub and : ℕ
and = 15

-- c0 under one comparison with a literal and under another: record 0 is c0, 2 and 4 the comparisons, 5 their And.
abbrev pub two_lines : ℕ → ℕ → ℕ → ℕ → List ℕ
two_lines op v op' v' = column 0 ++ literal v ++ binary op 0 1 ++ literal v' ++ binary op' 0 3 ++ binary and 2 4

-- c0 == c1 and c0 under a comparison with a literal: 2 and 4 the conjuncts, 5 their And.
abbrev pub equal_lines : ℕ → ℕ → List ℕ
equal_lines op v = column 0 ++ column 1 ++ binary eq 0 1 ++ literal v ++ binary op 0 3 ++ binary and 2 4

-- is_null(c0) and Not is_in(c0, [1]): 1 and 4 the conjuncts, 5 their And.
abbrev pub null_not_in : ℕ → List ℕ
null_not_in nulls_equal = column 0 ++ is_null 0 ++ list 0 1 ++ membership nulls_equal 0 2 ++ negation 3 ++ binary and 1 4

-- is_null(c0), doubled six times: record 7 has 64 conjuncts.
abbrev pub many : List ℕ
many =
    column 0 ++ is_null 0 ++ binary and 1 1 ++ binary and 2 2 ++ binary and 3 3 ++ binary and 4 4 ++ binary and 5 5
    ++ binary and 6 6

-- ---- The table.
pub record Case : Type 0 where
  pub table : List ℕ
  pub records : List ℕ
  pub pool : List ℕ
  pub used : ℕ
  pub root : ℕ
  -- what rewriting answers, and the records' bytes at exit
  pub answered : RewriteAnswer
  pub left : List ℕ

-- A screen of Int columns c0, c1, c2 with the pool [1, 2]; `room` more records are lent.
abbrev pub case_of : List ℕ → ℕ → ℕ → ℕ → RewriteAnswer → List ℕ → Case
case_of lines used root room answered added =
    record {
      table = 1 ∷ 1 ∷ 1 ∷ [];
      records = lines ++ unused room;
      pool = 1 ∷ 0 ∷ 0 ∷ 0 ∷ 0 ∷ 0 ∷ 0 ∷ 0 ∷ 2 ∷ 0 ∷ 0 ∷ 0 ∷ 0 ∷ 0 ∷ 0 ∷ 0 ∷ [];
      used = used;
      root = root;
      answered = answered;
      left = lines ++ added;
    }

abbrev pub starred : List Case
starred =
    -- c0>3, c0>5: c0>5, three records added
    case_of (two_lines gt 3 gt 5) 6 5 3 (Rewritten 8 9) (column 0 ++ literal 5 ++ binary gt 6 7)
    -- c0>=3, c0<=3: c0==3
    ∷ case_of (two_lines gt_eq 3 lt_eq 3) 6 5 3 (Rewritten 8 9) (column 0 ++ literal 3 ++ binary eq 6 7)
    -- c0>=3, c0<3: nothing passes
    ∷ case_of (two_lines gt_eq 3 lt 3) 6 5 1 (NothingPasses 6 7) false_literal
    -- c0>3, c0<4: unchanged
    ∷ case_of (two_lines gt 3 lt 4) 6 5 1 Unchanged (unused 1)
    -- c0>=3, c0!=3: c0>3
    ∷ case_of (two_lines gt_eq 3 not_eq 3) 6 5 3 (Rewritten 8 9) (column 0 ++ literal 3 ++ binary gt 6 7)
    -- c0==c1, c0>5: (c0==c1), c0>5, c1>5, eight added
    ∷ case_of (equal_lines gt 5) 6 5 8 (Rewritten 13 14)
    (column 0 ++ literal 5 ++ binary gt 6 7 ++ column 1 ++ literal 5 ++ binary gt 9 10
    ++ binary and 2 8 ++ binary and 12 11)
    -- c0==c1, c0==7: c0==7, c1==7, seven added
    ∷ case_of (equal_lines eq 7) 6 5 7 (Rewritten 12 13)
    (column 0 ++ literal 7 ++ binary eq 6 7 ++ column 1 ++ literal 7 ++ binary eq 9 10 ++ binary and 8 11)
    -- c0==c0 alone: unchanged
    ∷ case_of (column 0 ++ binary eq 0 0) 2 1 1 Unchanged (unused 1)
    -- is_null(c0), c0>1: nothing passes
    ∷ case_of (column 0 ++ is_null 0 ++ literal 1 ++ binary gt 0 2 ++ binary and 1 3) 5 4 1 (NothingPasses 5 6)
    false_literal
    -- is_null(c0), Not is_in(c0,[1]): nothing passes
    ∷ case_of (null_not_in 0) 6 5 1 (NothingPasses 6 7) false_literal
    -- with nulls_equal: unchanged
    ∷ case_of (null_not_in 1) 6 5 1 Unchanged (unused 1)
    ∷ []

-- Cases of 01 that are not starred, and the traps of this trade.
abbrev pub further : List Case
further =
    -- 5<c0, c0>4: c0>5
    case_of (column 0 ++ literal 5 ++ binary lt 1 0 ++ literal 4 ++ binary gt 0 3 ++ binary and 2 4) 6 5 3
    (Rewritten 8 9)
    (column 0 ++ literal 5 ++ binary gt 6 7)
    -- c0==c0, c0==4: c0==4
    ∷ case_of (column 0 ++ binary eq 0 0 ++ literal 4 ++ binary eq 0 2 ++ binary and 1 3) 5 4 3 (Rewritten 7 8)
    (column 0 ++ literal 4 ++ binary eq 5 6)
    -- is_between(c0,1,5) alone: unchanged
    ∷ case_of (column 0 ++ literal 1 ++ literal 5 ++ between 0 0 1 2) 4 3 1 Unchanged (unused 1)
    -- c0 in [1,2], c0>2: nothing passes
    ∷ case_of (column 0 ++ list 0 2 ++ membership 0 0 1 ++ literal 2 ++ binary gt 0 3 ++ binary and 2 4) 6 5 1
    (NothingPasses 6 7)
    false_literal
    -- c0>3, c0>=3: c0>3, since an end is closed only if both are
    ∷ case_of (two_lines gt 3 gt_eq 3) 6 5 3 (Rewritten 8 9) (column 0 ++ literal 3 ++ binary gt 6 7)
    -- c0!=5, c0!=3, c0!=5: c0!=5, c0!=3, in order of insertion
    ∷ case_of (two_lines not_eq 5 not_eq 3 ++ binary and 5 2) 7 6 7 (Rewritten 13 14)
    (column 0 ++ literal 5 ++ binary not_eq 7 8 ++ column 0 ++ literal 3 ++ binary not_eq 10 11 ++ binary and 9 12)
    -- c0 in [1], c0>0, c0>0: the is_in stays
    ∷ case_of
    (column 0 ++ list 0 1 ++ membership 0 0 1 ++ literal 0 ++ binary gt 0 3 ++ binary and 2 4 ++ binary and 5 4) 7 6 4
    (Rewritten 10 11) (column 0 ++ literal 0 ++ binary gt 7 8 ++ binary and 2 9)
    -- c0==c1, c1==c2, c2>5: all three are over 5, which takes two passes
    ∷ case_of
    (column 0 ++ column 1 ++ column 2 ++ binary eq 0 1 ++ binary eq 1 2 ++ literal 5 ++ binary gt 2 5
    ++ binary and 3 4 ++ binary and 7 6)
    9 8 13 (Rewritten 21 22)
    (column 0 ++ literal 5 ++ binary gt 9 10 ++ column 1 ++ literal 5 ++ binary gt 12 13
    ++ column 2 ++ literal 5 ++ binary gt 15 16
    ++ binary and 3 4 ++ binary and 18 11 ++ binary and 19 14 ++ binary and 20 17)
    -- c0>3, c0>5 with room for two records: 11
    ∷ case_of (two_lines gt 3 gt 5) 6 5 2 (Refused 11) (unused 2)
    -- 128 conjuncts pass, 129 give 9; a tree of over 4,096 records gives 8, also where the conjuncts are too many
    ∷ case_of (many ++ binary and 7 7) 9 8 1 Unchanged (unused 1)
    ∷ case_of (many ++ binary and 7 7 ++ binary and 8 1) 10 9 1 (Refused 9) (unused 1)
    ∷ case_of (many ++ binary and 7 7 ++ binary and 8 8 ++ binary and 9 9 ++ binary and 10 10 ++ binary and 11 11) 13
    12 1
    (Refused 8) (unused 1)
    -- a root equal to used: 3
    ∷ case_of (two_lines gt 3 gt 5) 6 6 3 (Refused 3) (unused 3)
    ∷ []

-- Not of c0 under a comparison with what stands at record 1: 2 the comparison, 3 its Not.
abbrev pub not_line : ℕ → List ℕ → List ℕ
not_line op right = column 0 ++ right ++ binary op 0 1 ++ negation 2

-- Cases of negated lines (02, 2.1).
abbrev pub negated_lines : List Case
negated_lines =
    -- Not (c0<3) alone: c0>=3, three added
    case_of (not_line lt (literal 3)) 4 3 3 (Rewritten 6 7) (column 0 ++ literal 3 ++ binary gt_eq 4 5)
    -- Not (3<c0) alone: c0<=3
    ∷ case_of (literal 3 ++ column 0 ++ binary lt 0 1 ++ negation 2) 4 3 3 (Rewritten 6 7)
    (column 0 ++ literal 3 ++ binary lt_eq 4 5)
    -- Not (c0==3), c0>=3: c0>3
    ∷ case_of (not_line eq (literal 3) ++ binary gt_eq 0 1 ++ binary and 3 4) 6 5 3 (Rewritten 8 9)
    (column 0 ++ literal 3 ++ binary gt 6 7)
    -- Not (c0>=3), c0>=3: nothing passes
    ∷ case_of (not_line gt_eq (literal 3) ++ binary and 2 3) 5 4 1 (NothingPasses 5 6) false_literal
    -- Not (c0!=c1) alone: unchanged; with c0>5: the Not stays, c0>5, c1>5, eight added
    ∷ case_of (not_line not_eq (column 1)) 4 3 1 Unchanged (unused 1)
    ∷ case_of (not_line not_eq (column 1) ++ literal 5 ++ binary gt 0 4 ++ binary and 3 5) 7 6 8 (Rewritten 14 15)
    (column 0 ++ literal 5 ++ binary gt 7 8 ++ column 1 ++ literal 5 ++ binary gt 10 11
    ++ binary and 3 9 ++ binary and 13 12)
    -- Not (c0<c1), is_null(c0): nothing passes
    ∷ case_of (not_line lt (column 1) ++ is_null 0 ++ binary and 3 4) 6 5 1 (NothingPasses 6 7) false_literal
    -- Not (c0 EqValidity 3) alone, Not Not (c0<3) alone: unchanged
    ∷ case_of (not_line 1 (literal 3)) 4 3 1 Unchanged (unused 1)
    ∷ case_of (not_line lt (literal 3) ++ negation 3) 5 4 1 Unchanged (unused 1)
    ∷ []

-- What the definitions yield, and what 01 says.
abbrev pub yielded : Case → RewriteAnswer × List ℕ
yielded c = (
  rewrite_answer c.table c.records c.pool c.used c.root,
  rewrite_bytes c.table c.records c.pool c.used c.root,
)

abbrev pub due : Case → RewriteAnswer × List ℕ
due c = (c.answered, c.left)

-- ---- The passes over the equalities (02, 2.13).
pub record PassesCase : Type 0 where
  pub records : List ℕ
  pub used : ℕ
  pub root : ℕ
  pub passes : ℕ

abbrev pub passes_case : List ℕ → ℕ → ℕ → ℕ → PassesCase
passes_case records used root passes = record { records = records; used = used; root = root; passes = passes }

-- is_null(c0), c0==c1: 2 and 3 the conjuncts, 4 their And.
abbrev pub null_equal : List ℕ
null_equal = column 0 ++ column 1 ++ is_null 0 ++ binary eq 0 1 ++ binary and 2 3

abbrev pub passes_cases : List PassesCase
passes_cases =
    -- c0>3, c0>5: no equality, no pass
    passes_case (two_lines gt 3 gt 5) 6 5 0
    -- c0==c0 alone: one pass, a quiet one
    ∷ passes_case (column 0 ++ binary eq 0 0) 2 1 1
    -- is_null(c0), c0==c1: the conflict does not stop the reading; a quiet pass
    ∷ passes_case null_equal 5 4 1
    -- with c0>1 behind them the reading stops there
    ∷ passes_case (null_equal ++ literal 1 ++ binary gt 0 5 ++ binary and 4 6) 8 7 0
    -- c0==c1, c0>5: c1 learns of it, then a quiet one
    ∷ passes_case (equal_lines gt 5) 6 5 2
    -- c0>5, c0==c1, c1==c2: both learn of it in the first
    ∷ passes_case
    (column 0 ++ column 1 ++ column 2 ++ literal 5 ++ binary gt 0 3 ++ binary eq 0 1 ++ binary eq 1 2
    ++ binary and 4 5 ++ binary and 7 6)
    9 8 2
    -- c0>5, c1==c2, c0==c1: from the far end, one column a pass
    ∷ passes_case
    (column 0 ++ column 1 ++ column 2 ++ literal 5 ++ binary gt 0 3 ++ binary eq 1 2 ++ binary eq 0 1
    ++ binary and 4 5 ++ binary and 7 6)
    9 8 3
    ∷ []

abbrev pub passes_yielded : PassesCase → ℕ
passes_yielded c = rewrite_passes c.records [] c.used c.root
