-- The invariant: the first k bytes are said by the line's words, and the others are as they were.
use Prim.Native.Nat.{◌+◌}
use mathlib.Core.List.{[]}
use mathlib.Core.Path.{◌≡◌, refl, sym, ◌∙◌, ap}
use native.Mathlib.Omega.{arith}
use native.Mathlib.Numerals.{add-one}
use lib.ListN.{drop, length-set}
use lib.Seq.{get_or-drop}
use Rattle.scenario.specs.Words.{words_of, word_at, uncommented}
use Rattle.scenario.specs.Numbers.{value_of}
use Rattle.scenario.specs.Statements.{first_bytes}
use Rattle.scenario.proofs.Counting as laws
use Rattle.scenario.proofs.bytes.read_bytes.Goals as goal

pub loop-k-init : goal.loop-k-init
unfolding first_bytes
loop-k-init c = (refl, refl)

pub loop-k-preserved : goal.loop-k-preserved
loop-k-preserved c =
    let l = c.loop-k in
    let x = c.args in
    let words = words_of (uncommented x.line.now) in
    let turned : l.k + 1 ≡ 1 + l.k = omega arith in
    let said = c.read_byte.ensures ∙ ap (λ n. value_of 255 (word_at words n)) turned ∙ ap (value_of 255) (sym (get_or-drop 1 words l.k [])) in
    (rw (l.invariant.0, said, add-one l.k) (laws.one_more (drop 1 words) x.bytes.now l.k (omega arith)), simp length-set l.invariant.1)

pub returns : goal.returns
returns c =
    let l = c.loop-k in
    let x = c.args in
    l.invariant.0 ∙ laws.all_there _ x.bytes.now l.k (omega (arith, l.invariant.1)) (omega arith)
