-- What saving and loading answer: 02, 2.3 and 2.10. A refusal writes nothing.
use Rattle.std.specs.Prelude.{ℕ, suc, ◌*◌, ◌/◌, List, Bool, cond, ◌&&◌, length, leb}
use Rattle.checking.specs.Check.{check_answer_in}
use Rattle.checking.specs.Answer.{CheckAnswer}
use Rattle.checking.specs.Answer as check
use Rattle.file_blocks.specs.Format.{file_of, file_length, overwrite}
use Rattle.file_structure.specs.Read.{structure_ok, held, total, root_of}
use Rattle.files.specs.SaveAnswer.{SaveAnswer}
use Rattle.files.specs.SaveAnswer as save
use Rattle.files.specs.LoadAnswer.{LoadAnswer}
use Rattle.files.specs.LoadAnswer as load

-- ---- saving the screen t, rs, p, text, used, root into a lent file of `room` bytes; checking is told one more than the bytes
-- of the text pool

abbrev pub save_if : CheckAnswer → ℕ → ℕ → SaveAnswer
save_if (check.Refused k) length room = save.Refused k
save_if check.Accepted length room = cond (leb length room) (save.Saved length) (save.Refused 14)

-- the checks of the screen, then 14, else the file's length
unfoldable pub save_answer : List ℕ → List ℕ → List ℕ → List ℕ → ℕ → ℕ → ℕ → SaveAnswer
save_answer t rs p text used root room =
    save_if (check_answer_in (suc (length text)) t rs p used root) (file_length p text used) room

-- the bytes that stand in the lent file `old` afterwards
abbrev pub saved_bytes : SaveAnswer → List ℕ → List ℕ → List ℕ
saved_bytes (save.Refused k) old bytes = old
saved_bytes (save.Saved length) old bytes = overwrite old 0 bytes

unfoldable pub save_bytes : List ℕ → List ℕ → List ℕ → List ℕ → ℕ → ℕ → List ℕ → List ℕ
save_bytes t rs p text used root old =
    saved_bytes (save_answer t rs p text used root (length old)) old (file_of t rs p text used root)

-- ---- loading the file f into a lent table, records, pool and text pool of that many bytes

-- 14 unless they hold what the file has: the columns, whole records, whole values, the text
unfoldable pub room_ok : List ℕ → ℕ → ℕ → ℕ → ℕ → Bool
room_ok f table records pool text =
    leb (total 1 f) table
    && (leb (total 2 f) (records / 16) && (leb (total 3 f) (pool / 8) && leb (total 5 f) text))

-- the checks of the screen held; used is the number of records held
unfoldable pub held_answer : List ℕ → CheckAnswer
held_answer f = check_answer_in (suc (length (held 5 f))) (held 1 f) (held 2 f) (held 3 f) (total 2 f) (root_of f)

abbrev pub load_if : CheckAnswer → List ℕ → LoadAnswer
load_if (check.Refused k) f = load.Refused k
load_if check.Accepted f = load.Loaded (root_of f) (total 1 f) (total 2 f) (total 3 f) (total 5 f)

-- 15, then 14, then the checks, else the root and for each kind before the end the total of its counts
unfoldable pub load_answer : List ℕ → ℕ → ℕ → ℕ → ℕ → LoadAnswer
load_answer f table records pool text =
    cond (structure_ok f)
    (cond (room_ok f table records pool text) (load_if (held_answer f) f) (load.Refused 14))
    (load.Refused 15)

-- the bytes that stand in a lent buffer `old` after loading, which is to get `bytes`
abbrev pub loaded_bytes : LoadAnswer → List ℕ → List ℕ → List ℕ
loaded_bytes (load.Refused k) old bytes = old
loaded_bytes (load.Loaded root columns used values text) old bytes = overwrite old 0 bytes
