-- A STEP OF PROOFS, no part of what the reader promises: a group of a reply, as it is read: what four bytes are depends on their place.
use Rattle.std.specs.Prelude.{ℕ, Bool, true, false, cond, ◌&&◌, List, ltb, eqb, length, get_or}
use Rattle.bank.specs.declared.Group.{Group}
use Rattle.bank.specs.declared.Group.TheVariants.{Cells, End, Checksum, Bad}

-- before the end: 8F v 8F w are two cells; 8F v 8E 01 ends them with one more, 8E 01 8E 01 with none
unfoldable pub group_of : ℕ → ℕ → ℕ → ℕ → Group
group_of a b c d =
    cond (eqb a 0x8F && eqb c 0x8F) Cells
    (cond (eqb a 0x8F && eqb c 0x8E && eqb d 0x01) (End 1)
    (cond (eqb a 0x8E && eqb b 0x01 && eqb c 0x8E && eqb d 0x01) (End 0) Bad))

-- "After 20 groups or an end group, the next is the checksum, though it looks like cells": 8F c 8F 00
unfoldable pub checksum_group : ℕ → ℕ → ℕ → ℕ → Group
checksum_group a b c d = cond (eqb a 0x8F && eqb c 0x8F && eqb d 0x00) (Checksum b) Bad

abbrev four : (ℕ → ℕ → ℕ → ℕ → Group) → List ℕ → Group
four kind bytes = kind (get_or bytes 0 0) (get_or bytes 1 0) (get_or bytes 2 0) (get_or bytes 3 0)

-- the group that some bytes begin with; behind the last one stands "not a byte"
unfoldable pub group_at : Bool → List ℕ → Group
group_at false bytes = cond (ltb (length bytes) 4) Bad (four group_of bytes)
group_at true bytes = cond (eqb (length bytes) 4) (four checksum_group bytes) Bad
