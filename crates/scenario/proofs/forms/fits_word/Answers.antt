use mathlib.Core.Path.{◌∙◌, ap, sym}
use Rattle.scenario.specs.Words.{words_of, word_at, same}
use Rattle.scenario.specs.Numbers.{word_number, numbered}
use Rattle.scenario.proofs.Fitting as laws
use Rattle.scenario.proofs.Splitting.{compared}
use Rattle.scenario.proofs.forms.fits_word.Goals as goal

pub returns-in-Some : goal.returns-in-Some
returns-in-Some c = c.is_within.ensures ∙ laws.by_limit _ _ _ (ap numbered (sym c.in-Some.is) ∙ c.number_of.ensures ∙ ap word_number c.word.ensures)

pub returns-in-None : goal.returns-in-None
returns-in-None c =
    c.eq.ensures ∙ compared _ _ ∙ ap (λ w. same w c.word-in-None-2.result.now) c.word-in-None.ensures ∙ ap (same (word_at (words_of c.args.line.now) c.args.k)) c.word-in-None-2.ensures
    ∙ laws.by_name _ _ (ap numbered (sym c.in-None.is) ∙ c.number_of.ensures ∙ ap word_number c.word.ensures)
