-- How many steps lead back: 127 bit steps, so 127 zero bytes too, change no running value (Lanes.antt).
use Prim.Native.Nat.{ℕ}

abbrev pub period : ℕ
period = 127
