-- What a module answers to 0x0F, the read of a CV: document 01, "BiDi (001)".
use Rattle.std.specs.Prelude.{ℕ, ◌+◌, List, [], ◌∷◌, ◌++◌, Bool, true, false, cond, replicate, Option, Some, None}
use Rattle.store.specs.Sheet.{Sheets}
use Rattle.cells.specs.declared.settings.Settings.{Settings}
use Rattle.cells.specs.Roles.{owns}
use Rattle.cells.specs.Settings.{effective_number, own_cell_of}

-- "Only the owner answers"; "Common CVs get no answer (H)."
unfoldable pub answers : Settings → ℕ → Bool
answers s cv = owns (effective_number s) cv

-- "8F value; 8E 01 if not readable"
unfoldable pub cell_half : Option ℕ → List ℕ
cell_half (Some value) = 0x8F ∷ value ∷ []
cell_half None = 0x8E ∷ 0x01 ∷ []

-- "8E 02 if the next CV isn't its own"
unfoldable pub own_half : Option (Option ℕ) → List ℕ
own_half (Some cell) = cell_half cell
own_half None = 0x8E ∷ 0x02 ∷ []

-- "from its selected bank, for this CV and the next"
unfoldable pub reply_to : Settings → ℕ → List ℕ → Sheets → List ℕ
reply_to s cv store sheets = own_half (own_cell_of s cv store sheets) ++ own_half (own_cell_of s (cv + 1) store sheets)

-- the answer to a read: whether it is acknowledged, and the reply (0 and not sent without acknowledgement)
pub record ShortReply : Type 0 where
  pub acknowledged : Bool
  pub reply : List ℕ

-- a short reply, and none
abbrev pub replying : List ℕ → ShortReply
replying reply = record { acknowledged = true; reply = reply }

abbrev pub no_reply : ShortReply
no_reply = record { acknowledged = false; reply = replicate 4 0 }

abbrev pub short_as : Option (List ℕ) → ShortReply
short_as (Some reply) = replying reply
short_as None = no_reply

-- THE READ 0x0F of a CV
unfoldable pub read_cv_of : Settings → ℕ → List ℕ → Sheets → ShortReply
read_cv_of s cv store sheets = cond (answers s cv) (replying (reply_to s cv store sheets)) no_reply
