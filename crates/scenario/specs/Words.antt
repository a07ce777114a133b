-- A scenario's line as words.
use Rattle.std.specs.Prelude.{ℕ, zero, suc, ◌+◌, Bool, true, false, cond, ◌&&◌, List, [], ◌∷◌, eqb, length, get_or, drop}
use Prim.Native.Char.{code}
use Prim.Native.String.{String}
use Rattle.scenario.specs.declared.words.Span.{Span}

abbrev pub Word : Type 0
Word = List ℕ

-- a text of the grammar, as its bytes
abbrev pub text : String → List ℕ
text String.[] = []
text (String.◌∷◌ c s) = code c ∷ text s

-- the bytes before the first that is this one
unfoldable pub up_to : ℕ → List ℕ → List ℕ
up_to stop [] = []
up_to stop (b ∷ s) = cond (eqb b stop) [] (b ∷ up_to stop s)

-- "From # to the end of a line is comment."
abbrev pub uncommented : List ℕ → List ℕ
uncommented = up_to 35

-- a text split at a byte: a byte in front of the first piece, and the pieces
abbrev pub in_front : ℕ → List Word → List Word
in_front b [] = (b ∷ []) ∷ []
in_front b (w ∷ ws) = (b ∷ w) ∷ ws

unfoldable pub pieces : ℕ → List ℕ → List Word
pieces stop [] = [] ∷ []
pieces stop (b ∷ s) = cond (eqb b stop) ([] ∷ pieces stop s) (in_front b (pieces stop s))

-- a part is a piece that is not empty
abbrev pub non_empty : List Word → List Word
non_empty [] = []
non_empty ([] ∷ ws) = non_empty ws
non_empty ((b ∷ w) ∷ ws) = (b ∷ w) ∷ non_empty ws

unfoldable pub parts_of : ℕ → List ℕ → List Word
parts_of stop s = non_empty (pieces stop s)

-- "split at spaces into words"
abbrev pub words_of : List ℕ → List Word
words_of = parts_of 32

-- the part at a place, from 0 on; past the last, the empty one
abbrev pub word_at : List Word → ℕ → Word
word_at words k = get_or words k []

-- whether two words are the same
unfoldable pub same : Word → Word → Bool
same [] [] = true
same [] (b ∷ w) = false
same (a ∷ v) [] = false
same (a ∷ v) (b ∷ w) = eqb a b && same v w

-- how many of this byte a text begins with
unfoldable pub leading : ℕ → List ℕ → ℕ
leading stop [] = 0
leading stop (b ∷ s) = cond (eqb b stop) (suc (leading stop s)) 0

-- from a place on, the first place at which this byte does not stand, and the first at which it does; or the end
unfoldable pub past_all : ℕ → List ℕ → ℕ → ℕ
past_all stop s at = at + leading stop (drop at s)

unfoldable pub until_one : ℕ → List ℕ → ℕ → ℕ
until_one stop s at = at + length (up_to stop (drop at s))

-- where the part number k from a place on begins: behind k parts and what stands between them
unfoldable pub start_from : ℕ → List ℕ → ℕ → ℕ → ℕ
start_from stop s zero at = past_all stop s at
start_from stop s (suc k) at = start_from stop s k (until_one stop s (past_all stop s at))

-- where the part number k stands; past the last, the empty span at the text's end
unfoldable pub span_of : ℕ → List ℕ → ℕ → Span
span_of stop s k = record { start = start_from stop s k 0; end = until_one stop s (start_from stop s k 0) }
