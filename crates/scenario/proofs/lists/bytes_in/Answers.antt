use mathlib.Core.Path.{sym, ◌∙◌}
use native.Mathlib.Omega.{arith}
use Rattle.scenario.specs.Words.{words_of}
use Rattle.scenario.proofs.Counting as laws
use Rattle.scenario.proofs.lists.bytes_in.Goals as goal

pub loop-n-init : goal.loop-n-init
loop-n-init g c pairs h = laws.begin _ _

pub returns-then-ends : goal.returns-then-ends
returns-then-ends g c pairs h =
    laws.so_many _ _ _ (laws.ended _ _ _ _ (c.loop-n.invariant pairs h) (sym c.ends.ensures ∙ c.if-ends.true) (omega arith)) (omega arith)

pub returns-then-not-is_byte : goal.returns-then-not-is_byte
returns-then-not-is_byte g c pairs h =
    laws.too_many _ _ 301 (laws.not_byte _ _ _ _ (c.loop-n.invariant pairs h) (sym c.ends.ensures ∙ c.if-ends.false) (sym (h _ _ c.is_byte.ensures) ∙ c.if-not-is_byte.true)) (omega arith)

pub loop-n-preserved : goal.loop-n-preserved
loop-n-preserved g c pairs h =
    laws.on _ _ _ _ (c.loop-n.invariant pairs h) (sym c.ends.ensures ∙ c.if-ends.false) (sym (h _ _ c.is_byte.ensures) ∙ c.if-not-is_byte.false) (omega arith)

pub returns : goal.returns
returns g c pairs h =
    let x = c.args in
    laws.too_many _ _ _ (laws.full _ (words_of x.line.now) x.from _ (c.loop-n.invariant pairs h) (omega arith)) (omega arith)
