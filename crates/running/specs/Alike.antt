-- TWO RUNS THAT GO ALIKE: on boards that are alike, in whatever way, the same is told.
use Rattle.std.specs.Prelude.{◌≡◌}
use Rattle.running.specs.Running.{Rule, Call, Story}

-- two rules: alike boards stay alike, and each item is refused, answered and replied to as by the other
pub record RulesAlike {B I A : Type 0} (Alike : B → B → Type 0) (one other : Rule B I A) : Type 0 where
  pub bad : (b c : B) (i : I) → Alike b c → other.bad c i ≡ one.bad b i
  pub after : (b c : B) (i : I) → Alike b c → Alike (one.after b i) (other.after c i)
  pub answered : (b c : B) (i : I) → Alike b c → other.answered c i ≡ one.answered b i
  pub reply : (b c : B) (i : I) → Alike b c → other.reply c i ≡ one.reply b i

-- two stories: the same answers at the same places, as many good items, the same number of the bad one
pub record StoriesAlike {B A : Type 0} (Alike : B → B → Type 0) (s t : Story B A) : Type 0 where
  pub board : Alike s.board t.board
  pub answers : t.answers ≡ s.answers
  pub taken : t.taken ≡ s.taken
  pub number : t.number ≡ s.number

-- two calls: as many items, the same end
pub record CallsAlike {B A : Type 0} (Alike : B → B → Type 0) (c d : Call B A) : Type 0 where
  pub board : Alike c.board d.board
  pub taken : d.taken ≡ c.taken
  pub stop : d.stop ≡ c.stop
