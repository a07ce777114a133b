-- What the application asks of a module: a restart, a message, a status, the WAIT bit. Each gives a refusal (0: none) and the
-- record; with a refusal, the record as it was.
use Rattle.std.specs.Prelude.{ℕ, List, ◌≡◌, Bool, cond, Result, Ok, Err}
use Rattle.refusals.specs.declared.Refusal.{Refusal}
use Rattle.refusals.specs.Numbers.{paper_number}
use Rattle.states.specs.States.{length_holds, cleared}
use Rattle.cells.specs.Settings.{with_wait}
use Rattle.bidi.specs.Bidi.{Changed, posted_to, with_status}
use Rattle.board.specs.declared.record.Module.{Module}
use Rattle.board.specs.Board.{module_possible, restarted_of, with_settings, with_bidi}

-- a refusal, 0 for none, and the record; with a refusal, the record as it was
pub record Kept : Type 0 where
  pub refusal : ℕ
  pub kept : Module

abbrev pub keeping : ℕ → Module → Kept
keeping refusal m = record { refusal = refusal; kept = m }

-- the code's answer, said so: of a refused call the caller has the record still. No two answers are said alike: law `kept_once`
abbrev pub kept_as : Module → Result Module Refusal → Kept
kept_as m (Ok after) = keeping 0 after
kept_as m (Err why) = keeping (paper_number why) m

abbrev pub changed : Module → Changed → Kept
changed m c = keeping c.refusal (with_bidi m c.bidi)

-- row 12 comes first, in each
unfoldable pub post_of : Module → List ℕ → Kept
post_of m message = cond (module_possible m) (changed m (posted_to m.bidi message)) (keeping 12 m)

unfoldable pub status_of : Module → ℕ → ℕ → Kept
status_of m number value = cond (module_possible m) (changed m (with_status m.bidi number value)) (keeping 12 m)

unfoldable pub wait_of : Module → Bool → Kept
wait_of m on = cond (module_possible m) (keeping 0 (with_settings m (with_wait m.settings on))) (keeping 12 m)

-- a restart takes the states too: what it gives, and the states after it
pub record Restart : Type 0 where
  pub given : Kept
  pub states : List ℕ

abbrev pub restart : Kept → List ℕ → Restart
restart k states = record { given = k; states = states }

unfoldable pub restart_of : Module → List ℕ → Restart
restart_of m states =
    cond (module_possible m)
    (cond (length_holds states) (restart (keeping 0 (restarted_of m)) cleared) (restart (keeping 4 m) states))
    (restart (keeping 12 m) states)

-- WHAT THE ENTRIES PROMISE
unfoldable pub PostPromise : Module → List ℕ → Kept → Type 0
PostPromise m message k = k ≡ post_of m message

unfoldable pub StatusPromise : Module → ℕ → ℕ → Kept → Type 0
StatusPromise m number value k = k ≡ status_of m number value

unfoldable pub WaitPromise : Module → Bool → Kept → Type 0
WaitPromise m on k = k ≡ wait_of m on

unfoldable pub RestartPromise : Module → List ℕ → Restart → Type 0
RestartPromise m states r = r ≡ restart_of m states
