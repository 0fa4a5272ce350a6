-- What a call of saving and one of loading promise: 02, 2.3 and 2.10. Numbers and out-parameters are those of the C interface: 256 is
-- saved or loaded, a number below is a refusal.
use Rattle.std.specs.Prelude.{ℕ, suc, ◌*◌, ◌≤◌, ◌<◌, List, ◌≡◌, length, take, drop}
use Rattle.checking.specs.Check.{check_answer_in}
use Rattle.checking.specs.Answer as check
use Rattle.files.specs.SaveAnswer.{SaveAnswer}
use Rattle.files.specs.SaveAnswer as save
use Rattle.files.specs.LoadAnswer.{LoadAnswer}
use Rattle.files.specs.LoadAnswer as load
use Rattle.file_blocks.specs.Format.{file_of}
use Rattle.files.specs.Answers.{save_answer}
use Rattle.files.specs.RoundTrip.{Survives}

-- saving: 256, with the file's length
abbrev pub save_number : SaveAnswer → ℕ
save_number (save.Refused k) = k
save_number (save.Saved n) = 256

-- the length that stands in its out-parameter after the call, which found `old` there
abbrev pub saved_length : SaveAnswer → ℕ → ℕ
saved_length (save.Refused k) old = old
saved_length (save.Saved n) old = n

-- loading: 256, with the root and the totals
abbrev pub load_number : LoadAnswer → ℕ
load_number (load.Refused k) = k
load_number (load.Loaded root columns used values bytes) = 256

-- the root that stands in its out-parameter after the call, which found `old` there
abbrev pub loaded_root : LoadAnswer → ℕ → ℕ
loaded_root (load.Refused k) old = old
loaded_root (load.Loaded root columns used values bytes) old = root

-- the same of the columns
abbrev pub loaded_columns : LoadAnswer → ℕ → ℕ
loaded_columns (load.Refused k) old = old
loaded_columns (load.Loaded root columns used values bytes) old = columns

-- the same of the used records
abbrev pub loaded_used : LoadAnswer → ℕ → ℕ
loaded_used (load.Refused k) old = old
loaded_used (load.Loaded root columns used values bytes) old = used

-- the same of the values of the pool
abbrev pub loaded_values : LoadAnswer → ℕ → ℕ
loaded_values (load.Refused k) old = old
loaded_values (load.Loaded root columns used values bytes) old = values

-- the same of the bytes of the text pool
abbrev pub loaded_text : LoadAnswer → ℕ → ℕ
loaded_text (load.Refused k) old = old
loaded_text (load.Loaded root columns used values bytes) old = bytes

-- The screen t, rs, p, text, used, root was sent, old stood in the lent file and out stands there. If the answer is 256, the
-- first n bytes are the file of the screen, those behind them keep their values, and loading the file gives the screen back;
-- with a refusal no byte is written.
pub record SavePromise (t rs p text : List ℕ) (used root answer : ℕ) (old out : List ℕ) (n : ℕ) : Type 0 where
  pub written : answer ≡ 256 → take n out ≡ file_of t rs p text used root
  pub behind : answer ≡ 256 → drop n out ≡ drop n old
  pub survives : answer ≡ 256 → Survives t rs p text used root (take n out)
  pub refused : answer < 256 → out ≡ old

-- The file f was sent; t, rs, p and text stand in the lent buffers, and root, columns, used, values and bytes in the
-- out-parameters. If the answer is 256, the screen loaded is accepted by checking, and f is the file that saving it writes; so
-- no two files hold one screen.
pub record LoadPromise (f : List ℕ) (answer : ℕ) (t rs p text : List ℕ) (root columns used values bytes : ℕ) : Type 0 where
  pub accepted : answer ≡ 256
      → check_answer_in (suc (length (take bytes text))) (take columns t) (take (16 * used) rs) (take (8 * values) p) used root
      ≡ check.Accepted
  pub written : answer ≡ 256
      → f ≡ file_of (take columns t) (take (16 * used) rs) (take (8 * values) p) (take bytes text) used root
  pub saved : answer ≡ 256 → (room : ℕ) → length f ≤ room
      → save_answer (take columns t) (take (16 * used) rs) (take (8 * values) p) (take bytes text) used root room
      ≡ save.Saved (length f)
