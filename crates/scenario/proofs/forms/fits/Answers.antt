use mathlib.Core.Path.{◌∙◌, refl}
use native.Mathlib.Omega.{arith}
use Rattle.std.proofs.Common.{rules, tests}
use Rattle.std.proofs.lemmas.Iterator.{YieldsList-from_range}
use Rattle.std.proofs.lemmas.Iterator.Search.{all_from_yields_List}
use Rattle.scenario.specs.Words.{words_of, word_at}
use Rattle.scenario.specs.Forms.{fits_word}
use Rattle.scenario.proofs.Fitting as laws
use Rattle.scenario.proofs.forms.fits.Goals as goal

pub returns-then-all : goal.returns-then-all
returns-then-all c =
    let form = words_of c.args.form.now in
    let words = words_of c.args.line.now in
    let n = c.count_words-n.result in
    let a = all_from_yields_List (λ k. fits_word (word_at form k) (word_at words k)) _ _ c.all.result c.all.ensures.ran (YieldsList-from_range 0 n n refl (omega arith)) (λ x b q k. search (rules, tests)) in
    c.ends.ensures ∙ rw (← a, c.if-all.true) at (laws.fits_all c.args.form.now words n c.count_words-n.ensures)

pub returns-else-all : goal.returns-else-all
returns-else-all c =
    let form = words_of c.args.form.now in
    let words = words_of c.args.line.now in
    let n = c.count_words-n.result in
    let a = all_from_yields_List (λ k. fits_word (word_at form k) (word_at words k)) _ _ c.all.result c.all.ensures.ran (YieldsList-from_range 0 n n refl (omega arith)) (λ x b q k. search (rules, tests)) in
    c.if-all.false ∙ rw (← a, c.if-all.false) at (laws.fits_all c.args.form.now words n c.count_words-n.ensures)
