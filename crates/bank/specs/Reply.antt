-- The reply of a bank, made from its cells, of which there are at most 40.
use Rattle.std.specs.Prelude.{ℕ, ◌≤◌, cond, List, [], ◌∷◌, ◌++◌, ◌≡◌, ltb, length, drop}
use Rattle.crc.specs.Crc.{crc_of}

-- "Pairs 8F v 8F v"
unfoldable pub pairs_of : List ℕ → List ℕ
pairs_of (v ∷ w ∷ cells) = 0x8F ∷ v ∷ 0x8F ∷ w ∷ pairs_of cells
pairs_of (v ∷ []) = []
pairs_of [] = []

-- "an end group, 8F v 8E 01 for odd n, 8E 01 8E 01 for even n"
unfoldable pub end_of : List ℕ → List ℕ
end_of (v ∷ w ∷ cells) = end_of cells
end_of (v ∷ []) = 0x8F ∷ v ∷ 0x8E ∷ 0x01 ∷ []
end_of [] = 0x8E ∷ 0x01 ∷ 0x8E ∷ 0x01 ∷ []

-- what stands before the checksum group: the pairs, and "below 40 cells an end group"
unfoldable pub body_of : List ℕ → List ℕ
body_of cells = pairs_of cells ++ cond (ltb (length cells) 40) (end_of cells) []

-- "data bytes .. those after 8E included, headers not": each second byte
unfoldable pub data_of : List ℕ → List ℕ
data_of (header ∷ value ∷ bytes) = value ∷ data_of bytes
data_of (header ∷ []) = []
data_of [] = []

-- "c is the CRC .. over data bytes before it"
unfoldable pub checksum_of : List ℕ → ℕ
checksum_of body = crc_of (data_of body)

-- "then 8F c 8F 00", whatever c is
unfoldable pub closed_by : ℕ → List ℕ → List ℕ
closed_by c cells = body_of cells ++ (0x8F ∷ c ∷ 0x8F ∷ 0x00 ∷ [])

-- the reply: closed by the checksum
unfoldable pub reply_of : List ℕ → List ℕ
reply_of cells = closed_by (checksum_of (body_of cells)) cells

-- "of the shape": the bytes are the reply of at most 40 cells, with c in the checksum's place
pub record Shaped (bytes cells : List ℕ) (c : ℕ) : Type 0 where
  pub few : length cells ≤ 40
  pub reads : bytes ≡ closed_by c cells

-- bytes at the front of a room, and what lies past them as it was
abbrev pub at_front : List ℕ → List ℕ → List ℕ
at_front bytes room = bytes ++ drop (length bytes) room
