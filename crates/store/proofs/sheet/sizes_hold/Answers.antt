use Prim.Native.Nat.{ℕ}
use mathlib.Core.Bool.{Bool, true, false, ◌&&◌}
use mathlib.Core.List.{List}
use mathlib.Core.Path.{◌≡◌, sym, ◌∙◌}
use lib.ListN.{get_or}
use Rattle.store.specs.Sheet.{size_holds}
use Rattle.store.proofs.Sizes.{size_count, part_holds, by_parts}
use Rattle.store.proofs.sheet.sizes_hold.Goals as goal
use Rattle.store.proofs.sheet.sizes_hold.Goals.{Joined-part_holds-3, then-part_holds, else-part_holds, then-part_holds-2, else-part_holds-2, then-part_holds-3, else-part_holds-3}

-- a test that is asked after one that holds, and after one that fails
after_true : (before asked a b : Bool) → before ≡ true → before ≡ a → asked ≡ b → asked ≡ (a && b)
after_true before asked a b t e f = rw (sym e ∙ t) f

after_false : (before a b : Bool) → before ≡ false → before ≡ a → before ≡ (a && b)
after_false before a b f e = rw (sym e ∙ f) f

-- the parts but the last
abbrev parts_before : List ℕ → Bool
parts_before sizes = part_holds 0 2 sizes && part_holds 2 249 sizes && part_holds 251 3 sizes && size_holds 254 (get_or sizes 254 0)

asked_before : (c : Joined-part_holds-3) → c.if-part_holds-3.value ≡ parts_before c.args.sizes.now
asked_before c =
    let sizes = c.args.sizes.now in
    let a = part_holds 0 2 sizes in
    let b = part_holds 2 249 sizes in
    let d = part_holds 251 3 sizes in
    let e = size_holds 254 (get_or sizes 254 0) in
    let one : c.part_holds.result ≡ a = simp c.from-label_end.ensures at c.part_holds.ensures in
    let two : c.if-part_holds.value ≡ (a && b) =
    elim c.if-part_holds.branch [
      | then-part_holds w ↦ after_true _ _ a b w.if-part_holds.true one (w.value-is ∙ simp (c.from-label_end.ensures, c.from-reserved.ensures) at w.part_holds-then-part_holds.ensures)
      | else-part_holds w ↦ w.value-is ∙ after_false _ a b w.if-part_holds.false one
    ] in
    let three : c.if-part_holds-2.value ≡ (a && b && d) =
    elim c.if-part_holds-2.branch [
      | then-part_holds-2 w ↦ after_true _ _ (a && b) d w.if-part_holds-2.true two (w.value-is ∙ simp (c.from-reserved.ensures, c.from-fixed.ensures) at w.part_holds-then-part_holds-2.ensures)
      | else-part_holds-2 w ↦ w.value-is ∙ after_false _ (a && b) d w.if-part_holds-2.false two
    ] in
    elim c.if-part_holds-3.branch [
      | then-part_holds-3 w ↦ after_true _ _ (a && b && d) e w.if-part_holds-3.true three (w.value-is ∙ simp c.from-fixed.ensures at w.size_holds.ensures)
      | else-part_holds-3 w ↦ w.value-is ∙ after_false _ (a && b && d) e w.if-part_holds-3.false three
    ]

pub returns-then-size_holds : goal.returns-then-size_holds
returns-then-size_holds c =
    let sizes = c.args.sizes.now in
    let count = size_count sizes c.requires in
    let before = asked_before (goal.at.returns-then-size_holds c).Joined-part_holds-3 in
    after_true _ _ (parts_before sizes) (part_holds 255 1 sizes) c.if-size_holds.true before (simp (c.from-fixed.ensures, count) at c.part_holds-then-size_holds.ensures)
    ∙ sym (by_parts sizes count)

pub returns-else-size_holds : goal.returns-else-size_holds
returns-else-size_holds c =
    let sizes = c.args.sizes.now in
    let before = asked_before (goal.at.returns-else-size_holds c).Joined-part_holds-3 in
    after_false _ (parts_before sizes) (part_holds 255 1 sizes) c.if-size_holds.false before
    ∙ sym (by_parts sizes (size_count sizes c.requires))
