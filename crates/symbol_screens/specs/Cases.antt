-- Screens with symbols and what the definitions must yield of them. s0 is a Text column; the text pool is "SPXaNDXa".
use Rattle.std.specs.Prelude.{List, [], ◌∷◌, ◌++◌}
use Prim.Native.Nat.{ℕ}
use Rattle.records.specs.Record.{fields}
use Rattle.checking.specs.Check.{check_answer_in}
use Rattle.checking.specs.Answer.{CheckAnswer}
use Rattle.checking.specs.Answer as check
use Rattle.merge.specs.declared.answer.RewriteAnswer.{RewriteAnswer}
use Rattle.merge.specs.declared.answer.RewriteAnswer.TheVariants.{Refused, Unchanged, NothingPasses, Rewritten}
use Rattle.merge.specs.Write.{field_bytes}
use Rattle.merge_cases.specs.Cases.{column, binary, negation, false_literal, unused}
use Rattle.symbol_screens.specs.Rewriting.{lent, rewrite_answer_with, rewrite_bytes_with}

abbrev pub pool : List ℕ
pool = 83 ∷ 80 ∷ 88 ∷ 97 ∷ 78 ∷ 68 ∷ 88 ∷ 97 ∷ []

-- A literal of type Text: start, length.
abbrev pub text : ℕ → ℕ → List ℕ
text start count = field_bytes (fields 2 0 4 0 start count)

pub record Case : Type 0 where
  pub records : List ℕ
  pub used : ℕ
  pub root : ℕ
  pub answered : RewriteAnswer
  pub bytes : List ℕ

abbrev pub case : List ℕ → ℕ → ℕ → RewriteAnswer → List ℕ → Case
case records used root answered bytes =
    record { records = records; used = used; root = root; answered = answered; bytes = bytes }

-- s0 op symbol, from record n on: column, literal, comparison.
abbrev pub line : ℕ → ℕ → ℕ → ℕ → List ℕ
line n code start count = column 0 ++ (text start count ++ binary code n (Prim.Native.Nat.suc n))

-- Two lines and their And, records 0 to 6.
abbrev pub both : List ℕ → List ℕ → List ℕ
both a b = a ++ (b ++ binary 15 2 5)

abbrev pub cases : List Case
cases =
    -- s0 == "SPX": stays
    case (line 0 0 0 3 ++ unused 4) 3 2 Unchanged (line 0 0 0 3 ++ unused 4)
    -- s0 >= "a" (at 3), s0 != "a" (at 7): > with the excluded one's start, 7
    ∷ case (both (line 0 7 3 1) (line 3 2 7 1) ++ unused 3) 7 6 (Rewritten 9 10)
    (both (line 0 7 3 1) (line 3 2 7 1) ++ line 7 6 7 1)
    -- s0 >= "a" (at 3), s0 >= "a" (at 7): the one already held, 3
    ∷ case (both (line 0 7 3 1) (line 3 7 7 1) ++ unused 3) 7 6 (Rewritten 9 10)
    (both (line 0 7 3 1) (line 3 7 7 1) ++ line 7 7 3 1)
    -- s0 >= "a" (at 3), s0 <= "a" (at 7): == with the lower bound's start, 3
    ∷ case (both (line 0 7 3 1) (line 3 5 7 1) ++ unused 3) 7 6 (Rewritten 9 10)
    (both (line 0 7 3 1) (line 3 5 7 1) ++ line 7 0 3 1)
    -- s0 >= "SP", s0 >= "SPX": a prefix is below what extends it
    ∷ case (both (line 0 7 0 2) (line 3 7 0 3) ++ unused 3) 7 6 (Rewritten 9 10)
    (both (line 0 7 0 2) (line 3 7 0 3) ++ line 7 7 0 3)
    -- s0 == "SPX", s0 == "NDX": nothing passes
    ∷ case (both (line 0 0 0 3) (line 3 0 4 3) ++ unused 3) 7 6 (NothingPasses 7 8)
    (both (line 0 0 0 3) (line 3 0 4 3) ++ (false_literal ++ unused 2))
    -- s0 < "" : only the empty symbol is there, at the very end of the pool; nothing is below it, but the Rust does not see it
    ∷ case (line 0 4 8 0 ++ unused 4) 3 2 Unchanged (line 0 4 8 0 ++ unused 4)
    -- a symbol past the pool, and one of 17 bytes: 4
    ∷ case (line 0 0 6 3 ++ unused 4) 3 2 (Refused 4) (line 0 0 6 3 ++ unused 4)
    ∷ case (line 0 0 9 0 ++ unused 4) 3 2 (Refused 4) (line 0 0 9 0 ++ unused 4)
    ∷ case (line 0 0 0 17 ++ unused 4) 3 2 (Refused 4) (line 0 0 0 17 ++ unused 4)
    ∷ []

pub record Yield : Type 0 where
  pub answered : RewriteAnswer
  pub bytes : List ℕ

abbrev pub yielded : Case → Yield
yielded c =
    record {
      answered = rewrite_answer_with pool (4 ∷ []) c.records [] c.used c.root;
      bytes = rewrite_bytes_with pool (4 ∷ []) c.records [] c.used c.root;
    }

abbrev pub due : Case → Yield
due c = record { answered = c.answered; bytes = c.bytes }

-- Without a text pool type 4 is unknown: 1; a text pool of 8,192 bytes is the longest: 2.
abbrev pub checked_with : ℕ → CheckAnswer
checked_with lent_text = check_answer_in lent_text (4 ∷ []) (line 0 0 0 3) [] 3 2
