-- What the calls of saving and loading ensure, from the answers of the layer below.
use mathlib.Core.Path.{◌≡◌, refl, sym, ◌∙◌, ap, subst}
use mathlib.Core.Bool.{true}
use mathlib.Core.List.{List}
use Prim.Native.Nat.{ℕ, ◌<◌}
use lib.ListN.{length, get_or}
use Rattle.file_blocks.specs.Format.{file_of}
use Rattle.file_structure.specs.Read.{held}
use Rattle.files.specs.Answers.{save_answer, save_bytes, load_answer, loaded_bytes}
use Rattle.files.specs.Calls.{save_number, saved_length, load_number, loaded_root, loaded_columns, loaded_used, loaded_values}
use Rattle.files.specs.Calls.{loaded_text}
use Rattle.files.specs.Calls.{SavePromise, LoadPromise}
use Rattle.files.specs.SaveAnswer.{SaveAnswer}
use Rattle.files.specs.LoadAnswer.{LoadAnswer}
use Rattle.files.proofs.Called.{save_ensures, load-ensures}
use Rattle.screen_files.specs.Listed.{save_listed, load_listed}
use Rattle.screen_files.proofs.Listed.{save_listed_lem, load-listed}

-- r is what the layer below answered, a the case that the call is in
pub save_all : (t rs p text : List ℕ) (used root : ℕ) (old out : List ℕ) (old_length : ℕ) (r a : SaveAnswer) → r ≡ a
    → r ≡ save_answer t rs p text used root (length old) → out ≡ save_bytes t rs p text used root old
    → (save_number a ≡ save_number (save_answer t rs p text used root (length old)))
    × ((save_listed (save_number a) ≡ true)
    × ((saved_length a old_length ≡ saved_length (save_answer t rs p text used root (length old)) old_length)
    × ((out ≡ save_bytes t rs p text used root old)
    × SavePromise t rs p text used root (save_number a) old out (saved_length a old_length))))
save_all t rs p text used root old out old_length r a q e b =
    let all = save_ensures t rs p text used root old out old_length a (sym q ∙ e) b in
    let l = subst (λ n. save_listed n ≡ true) (sym all.0) (save_listed_lem t rs p text used root (length old)) in
    (all.0, (l, all.1))

module _ (f t rs p x t' rs' p' x' : List ℕ) (bytes : (i : ℕ) → get_or f i 0 < 256)
    (old_root old_columns old_used old_values old_text : ℕ) where
  abbrev answer : LoadAnswer
  answer = load_answer f (length t) (length rs) (length p) (length x)

  pub load-all : (r a : LoadAnswer) → r ≡ a → r ≡ load_answer f (length t) (length rs) (length p) (length x)
      → t' ≡ loaded_bytes r t (held 1 f) → rs' ≡ loaded_bytes r rs (held 2 f) → p' ≡ loaded_bytes r p (held 3 f)
      → x' ≡ loaded_bytes r x (held 5 f)
      → (load_number a ≡ load_number answer)
      × ((load_listed (load_number a) ≡ true)
      × ((loaded_root a old_root ≡ loaded_root answer old_root)
      × ((loaded_columns a old_columns ≡ loaded_columns answer old_columns)
      × ((loaded_used a old_used ≡ loaded_used answer old_used)
      × ((loaded_values a old_values ≡ loaded_values answer old_values)
      × ((loaded_text a old_text ≡ loaded_text answer old_text)
      × ((t' ≡ loaded_bytes answer t (held 1 f))
      × ((rs' ≡ loaded_bytes answer rs (held 2 f))
      × ((p' ≡ loaded_bytes answer p (held 3 f))
      × ((x' ≡ loaded_bytes answer x (held 5 f))
      × LoadPromise f (load_number a) t' rs' p' x' (loaded_root a old_root) (loaded_columns a old_columns) (loaded_used a old_used)
      (loaded_values a old_values) (loaded_text a old_text)))))))))))
  load-all r a q e bt br bp bx =
      let g : a ≡ answer = sym q ∙ e in
      let kept : (old held : List ℕ) → loaded_bytes r old held ≡ loaded_bytes answer old held =
      λ old held. ap (λ (y : LoadAnswer). loaded_bytes y old held) e in
      let own : (old held : List ℕ) → loaded_bytes r old held ≡ loaded_bytes a old held =
      λ old held. ap (λ (y : LoadAnswer). loaded_bytes y old held) q in
      let listed = subst (λ (y : LoadAnswer). load_listed (load_number y) ≡ true) (sym g)
      (load-listed f (length t) (length rs) (length p) (length x)) in
      let promise = load-ensures f t rs p x t' rs' p' x' bytes old_root old_columns old_used old_values old_text a g
      (bt ∙ own t (held 1 f)) (br ∙ own rs (held 2 f)) (bp ∙ own p (held 3 f)) (bx ∙ own x (held 5 f)) in (
        ap load_number g,
        (
          listed,
          (
            ap (λ y. loaded_root y old_root) g,
            (
              ap (λ y. loaded_columns y old_columns) g,
              (
                ap (λ y. loaded_used y old_used) g,
                (
                  ap (λ y. loaded_values y old_values) g,
                  (
                    ap (λ y. loaded_text y old_text) g,
                    (
                      bt ∙ kept t (held 1 f),
                      (br ∙ kept rs (held 2 f), (bp ∙ kept p (held 3 f), (bx ∙ kept x (held 5 f), promise))),
                    ),
                  ),
                ),
              ),
            ),
          ),
        ),
      )
