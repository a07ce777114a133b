-- Forms of statements. A form is written as a statement is, with the largest number in the place of each number: `cell 255 39 255`.
use Rattle.std.specs.Prelude.{Option, Some, None, ltb, length, ℕ, suc, Bool, true, false, cond, ◌&&◌, List, [], ◌∷◌}
use Rattle.scenario.specs.Words.{Word, parts_of, words_of, same}
use Rattle.scenario.specs.Numbers.{word_number, within}

-- a number in a form asks for a number that is at most as large, any other word for itself
unfoldable pub fits_word : Word → Word → Bool
fits_word asked w = cond (word_number asked).good (within (word_number asked).value w) (same w asked)

-- as many words as the form has, each as it asks
unfoldable pub fits : List Word → List Word → Bool
fits [] [] = true
fits [] (w ∷ words) = false
fits (asked ∷ form) [] = false
fits (asked ∷ form) (w ∷ words) = fits_word asked w && fits form words

-- a table of forms is one text, with commas between them
abbrev pub forms_of : List ℕ → List (List ℕ)
forms_of = parts_of 44

-- the number of the first form that words fit, from 0 on; or how many forms there are
unfoldable pub form_place : List (List ℕ) → List Word → ℕ
form_place [] words = 0
form_place (form ∷ forms) words = cond (fits (words_of form) words) 0 (suc (form_place forms words))

-- the same as it is handed on: the number of a form, or none
unfoldable pub form_found : List (List ℕ) → List Word → Option ℕ
form_found forms words = cond (ltb (form_place forms words) (length forms)) (Some (form_place forms words)) None
