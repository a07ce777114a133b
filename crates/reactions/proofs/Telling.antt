-- What a caller is told of a reply that may be none; and no two answers of the code are told alike.
use Rattle.std.proofs.Common.{ℕ, List, Option, Some, None, Bool, true, false, ◌≡◌, refl, ap, ◌∙◌, length}
use Rattle.bidi.specs.declared.record.Bidi.{Bidi}
use Rattle.bidi.specs.Bidi.{with_reply}
use Rattle.bidi.specs.Read.{short_as}
use Rattle.board.specs.declared.record.Module.{Module}
use Rattle.reactions.specs.declared.reaction.Reaction as code
use Rattle.reactions.specs.Reactions.{Reaction, bytes_if, reply_bytes, reply_count, reacted_as, told_of}

-- what is told of an acknowledgement that may have bytes
abbrev pub telling : Module → Bool → List ℕ → Reaction
telling kept acknowledged bytes = record { kept = kept; acknowledged = acknowledged; length = length (bytes_if acknowledged bytes) }

pub call_bytes : (reply : Option (List ℕ)) (b : Bidi) → reply_bytes reply ≡ bytes_if (with_reply reply b).acknowledged (with_reply reply b).reply
unfolding bytes_if
call_bytes None b = refl
call_bytes (Some bytes) b = refl

pub call_told : (kept : Module) (reply : Option (List ℕ)) (b : Bidi)
    → reacted_as kept (reply_count reply) ≡ telling kept (with_reply reply b).acknowledged (with_reply reply b).reply
unfolding bytes_if
call_told kept None b = refl
call_told kept (Some bytes) b = refl

pub call_left : (reply : Option (List ℕ)) (b : Bidi) → b ≡ (with_reply reply b).bidi
call_left None b = refl
call_left (Some bytes) b = refl

pub read_bytes : (reply : Option (List ℕ)) → reply_bytes reply ≡ bytes_if (short_as reply).acknowledged (short_as reply).reply
unfolding bytes_if
read_bytes None = refl
read_bytes (Some bytes) = refl

pub read_told : (kept : Module) (reply : Option (List ℕ))
    → reacted_as kept (reply_count reply) ≡ telling kept (short_as reply).acknowledged (short_as reply).reply
unfolding bytes_if
read_told kept None = refl
read_told kept (Some bytes) = refl

reply_of : Reaction → Option ℕ
reply_of r = elim r.acknowledged as (λ _. Option ℕ) [ true ↦ Some r.length | false ↦ None ]

reply_back : (kept : Module) (reply : Option ℕ) → reply_of (reacted_as kept reply) ≡ reply
unfolding reply_of
reply_back kept None = refl
reply_back kept (Some length) = refl

kept_back : (kept : Module) (reply : Option ℕ) → (reacted_as kept reply).kept ≡ kept
kept_back kept None = refl
kept_back kept (Some length) = refl

pub told_once : (one other : code.Reaction) → told_of one ≡ told_of other → one ≡ other
told_once one other e =
    let k : one.kept ≡ other.kept = rw (kept_back one.kept one.reply, kept_back other.kept other.reply) at (ap (λ (r : Reaction). r.kept) e) in
    let r : one.reply ≡ other.reply = rw (reply_back one.kept one.reply, reply_back other.kept other.reply) at (ap reply_of e) in
    ap (λ (m : Module). let made : code.Reaction = record { kept = m; reply = one.reply } in made) k
    ∙ ap (λ (n : Option ℕ). let made : code.Reaction = record { kept = other.kept; reply = n } in made) r
