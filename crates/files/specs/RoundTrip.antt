-- The two statements of 02, 2.3: "A checked screen survives saving and loading, and each accepted file is the one the
-- writer would produce."
use Rattle.std.specs.Prelude.{ℕ, suc, ◌*◌, ◌/◌, ◌≤◌, ◌<◌, List, ◌≡◌, true, length, get_or, take}
use Rattle.checking.specs.Check.{check_answer_in}
use Rattle.checking.specs.Answer as check
use Rattle.files.specs.LoadAnswer as load
use Rattle.files.specs.SaveAnswer as save
use Rattle.file_blocks.specs.Format.{file_of}
use Rattle.file_structure.specs.Read.{structure_ok, held, total, root_of}
use Rattle.files.specs.Answers.{load_answer, save_answer}

-- The file f, loaded into buffers with room for it, gives the screen t, rs, p, text, used, root: the same table, the same used
-- records, the same pool, the same text pool, and the same numbers.
pub record Survives (t rs p text : List ℕ) (used root : ℕ) (f : List ℕ) : Type 0 where
  pub loads : (table records pool bytes : ℕ) → length t ≤ table → 16 * used ≤ records → length p ≤ pool → length text ≤ bytes
      → load_answer f table records pool bytes ≡ load.Loaded root (length t) used (length p / 8) (length text)
  pub table : held 1 f ≡ t
  pub records : held 2 f ≡ take (16 * used) rs
  pub pool : held 3 f ≡ p
  pub symbols : held 5 f ≡ text

-- "A checked screen survives saving and loading."
abbrev pub ScreensSurvive : Type 0
ScreensSurvive = (t rs p text : List ℕ) (used root : ℕ) → check_answer_in (suc (length text)) t rs p used root ≡ check.Accepted
    → Survives t rs p text used root (file_of t rs p text used root)

-- "Each accepted file is the one the writer would produce", from what was loaded; f is a list of bytes. So no two files
-- hold one screen.
abbrev pub FilesAreWritten : Type 0
FilesAreWritten = (f : List ℕ) → ((i : ℕ) → get_or f i 0 < 256) → structure_ok f ≡ true
    → f ≡ file_of (held 1 f) (held 2 f) (held 3 f) (held 5 f) (total 2 f) (root_of f)
