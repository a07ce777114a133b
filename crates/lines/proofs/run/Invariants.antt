use Rattle.lines.proofs.Writing.{Writing}
use Rattle.store.specs.Sheet.{sheets_of}
use Rattle.lines.proofs.run.Given as goal

abbrev pub invariant-loop-byte : goal.invariant-loop-byte
invariant-loop-byte l =
    Writing l.input (sheets_of l.sheets.sizes.now l.sheets.fixed.now) l.initial.kept l.initial.states l.initial.store l.initial.room l.initial.out l.kept l.receiver l.states l.store l.room l.out l.text l.byte-index
