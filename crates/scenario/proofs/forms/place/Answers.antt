use mathlib.Core.Bool.{not}
use mathlib.Core.Path.{◌∙◌, ap}
use lib.Dec.{eqb}
use lib.ListN.{length}
use Rattle.std.proofs.Common.{rules, tests}
use Rattle.std.proofs.lemmas.Iterator.Consumers.{YieldsList-from_filter, YieldsList-at}
use Rattle.std.proofs.lemmas.Iterator.Search.{position_from_yields_List}
use Rattle.std.proofs.lemmas.Iterator.Splits.{YieldsList-from_slice_split}
use Rattle.scenario.specs.Words.{words_of}
use Rattle.scenario.specs.Forms.{fits, form_found}
use Rattle.scenario.proofs.Splitting as splitting
use Rattle.scenario.proofs.Fitting as laws
use Rattle.scenario.proofs.forms.place.Goals as goal

pub returns : goal.returns
returns c =
    let words = words_of c.args.line.now in
    laws.found_is words _ c.position.result
    (position_from_yields_List (λ form. fits (words_of form) words) _ _ c.position.result c.position.ensures.ran
    (YieldsList-from_filter _ (λ w. not (eqb (length w) 0))
    (YieldsList-at c.filter.ensures.source (YieldsList-from_slice_split _ (λ b. eqb b 44) c.args.table.now c.split.ensures.rest c.split.ensures.done c.split.ensures.closure (λ x b q k. search (rules, tests))))
    c.filter.ensures.closure (λ x b q k. search (rules, tests)))
    (λ x b q k. search (rules, tests)))
    ∙ ap (λ forms. form_found forms words) (splitting.parts_split 44 c.args.table.now)
