-- The code's answers and what is said of them: no two answers of a call are said alike.
use Prim.Native.Nat.{ℕ}
use mathlib.Core.List.{List}
use mathlib.Core.Path.{◌≡◌, refl, sym, ap}
use native.Mathlib.Omega.{arith}
use Rattle.std.specs.Prelude.{Result, Ok, Err}
use Rattle.refusals.proofs.Laws.{same_number}
use Rattle.board.specs.declared.record.Module.{Module}
use Rattle.lines.specs.declared.Lines as code
use Rattle.lines.specs.declared.Untaken.{Untaken}
use Rattle.lines.specs.declared.Untaken.TheVariants as cause
use Rattle.lines.specs.Taken.{Block, Refused, BitsHeld, NoRoomForText, Text, Lines, AfterBlock, leaving, block_number, text_length, untaken_as, given_as}

abbrev kind : Block → ℕ
kind (Refused number) = 0
kind BitsHeld = 1
kind NoRoomForText = 2
kind (Text bytes) = 3

differ : {P : Type 0} (one other : Block) → (kind one ≡ kind other → ⊥) → one ≡ other → P
differ one other apart same = absurd (apart (ap kind same))

pub cause_once : (one other : Untaken) → untaken_as one ≡ untaken_as other → one ≡ other
cause_once (cause.Refused why) (cause.Refused other) same = ap cause.Refused (same_number why other (ap block_number same))
cause_once (cause.Refused why) cause.BitsHeld same = differ _ _ (λ e. omega arith) same
cause_once (cause.Refused why) cause.NoRoomForText same = differ _ _ (λ e. omega arith) same
cause_once cause.BitsHeld (cause.Refused why) same = differ _ _ (λ e. omega arith) same
cause_once cause.BitsHeld cause.BitsHeld same = refl
cause_once cause.BitsHeld cause.NoRoomForText same = differ _ _ (λ e. omega arith) same
cause_once cause.NoRoomForText (cause.Refused why) same = differ _ _ (λ e. omega arith) same
cause_once cause.NoRoomForText cause.BitsHeld same = differ _ _ (λ e. omega arith) same
cause_once cause.NoRoomForText cause.NoRoomForText same = refl

no_text : {P : Type 0} (bytes : ℕ) (why : Untaken) → Text bytes ≡ untaken_as why → P
no_text bytes (cause.Refused why) same = differ _ _ (λ e. omega arith) same
no_text bytes cause.BitsHeld same = differ _ _ (λ e. omega arith) same
no_text bytes cause.NoRoomForText same = differ _ _ (λ e. omega arith) same

answers_same : {one other : Lines} → one ≡ other → one.answer ≡ other.answer
answers_same same = ap (λ (l : Lines). l.answer) same

pub given_once : (kept : Module) (one other : Result code.Lines Untaken) → given_as kept one ≡ given_as kept other → one ≡ other
given_once kept (Ok one) (Ok other) same =
    let k : one.kept ≡ other.kept = ap (λ (l : Lines). l.kept) same in
    let t : one.text ≡ other.text = ap (λ (l : Lines). text_length l.answer) same in
    ap Ok (λ i. record { kept = k i; text = t i })
given_once kept (Ok one) (Err why) same = no_text one.text why (answers_same same)
given_once kept (Err why) (Ok other) same = no_text other.text why (sym (answers_same same))
given_once kept (Err why) (Err other) same = ap Err (cause_once why other (answers_same same))

-- with it the lent buffers are the same
pub write_once : (kept : Module) (one other : Result code.Lines Untaken) (states store room out states' store' room' out' : List ℕ)
    → leaving (given_as kept one) states store room out ≡ leaving (given_as kept other) states' store' room' out'
    → (one ≡ other) × (states ≡ states') × (store ≡ store') × (room ≡ room') × (out ≡ out')
write_once kept one other states store room out states' store' room' out' same = (
  given_once kept one other (ap (λ (l : AfterBlock). l.given) same),
  ap (λ (l : AfterBlock). l.states) same,
  ap (λ (l : AfterBlock). l.store) same,
  ap (λ (l : AfterBlock). l.room) same,
  ap (λ (l : AfterBlock). l.out) same,
)
