-- The answers of saving and loading are listed.
use mathlib.Core.Path.{◌≡◌, refl}
use mathlib.Core.Bool.{true}
use mathlib.Core.List.{List, [], ◌∷◌}
use Prim.Native.Nat.{ℕ, suc}
use lib.Dec.{leb}
use lib.ListN.{length}
use Rattle.checking.specs.Check.{check_answer_in}
use Rattle.checking.specs.Answer.{CheckAnswer}
use Rattle.checking.specs.Answer as check
use Rattle.files.specs.Answers.{save_if, save_answer, room_ok, held_answer, load_if, load_answer}
use Rattle.files.specs.Calls.{save_number, load_number}
use Rattle.file_blocks.specs.Format.{file_length}
use Rattle.file_structure.specs.Read.{structure_ok, held, total, root_of}
use Rattle.files.specs.SaveAnswer.{SaveAnswer}
use Rattle.files.specs.SaveAnswer as save
use Rattle.files.specs.LoadAnswer.{LoadAnswer}
use Rattle.files.specs.LoadAnswer as load
use Rattle.listed.proofs.Listed.{pick, refusal_listed}
use Rattle.screen_files.specs.Listed.{save_listed, load_listed}

module _ (t rs p text : List ℕ) (used root : ℕ) where
  pub save_listed_lem : (room : ℕ) → save_listed (save_number (save_answer t rs p text used root room)) ≡ true
  unfolding save_answer
  save_listed_lem room = go (check_answer_in (suc (length text)) t rs p used root) refl
    where
      Ok : SaveAnswer → Type 0
      Ok a = save_listed (save_number a) ≡ true

      go : (a : CheckAnswer) → check_answer_in (suc (length text)) t rs p used root ≡ a → Ok (save_if a (file_length p text used) room)
      go (check.Refused k) e = refusal_listed (suc (length text)) t rs p used root (14 ∷ 256 ∷ []) k e
      go check.Accepted e =
          pick Ok (leb (file_length p text used) room) (save.Saved (file_length p text used)) (save.Refused 14) refl refl

pub load-listed : (f : List ℕ) (table records pool text : ℕ)
    → load_listed (load_number (load_answer f table records pool text)) ≡ true
unfolding load_answer held_answer
load-listed f table records pool text =
    pick Ok (structure_ok f) _ (load.Refused 15)
    (pick Ok (room_ok f table records pool text) _ (load.Refused 14) (go (held_answer f) refl) refl) refl
  where
    Ok : LoadAnswer → Type 0
    Ok a = load_listed (load_number a) ≡ true

    go : (a : CheckAnswer) → held_answer f ≡ a → Ok (load_if a f)
    go (check.Refused k) e =
        refusal_listed (suc (length (held 5 f))) (held 1 f) (held 2 f) (held 3 f) (total 2 f) (root_of f) (14 ∷ 15 ∷ 256 ∷ []) k e
    go check.Accepted e = refl
