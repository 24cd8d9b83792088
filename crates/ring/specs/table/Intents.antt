-- What a step is for, as its caller knows it. Its event follows from it, the trail and the word that was found.
use Rattle.std.specs.Prelude.{ℕ, Bool, List}
use Rattle.ring.specs.Runs.{Raw, Half}

pub data Intent : Type 0 where
  looks : Intent
  -- a body, and whether it closes with a CMD_SYNC
  reserves : List Raw → Bool → Intent
  -- an offset in the reservation, and a half
  writes : ℕ → Half → Intent
  -- an offset in the reservation, and how many from there on
  flips : ℕ → ℕ → Intent
  -- how many at most
  tests : ℕ → Intent
  -- an offset from the head, and a half
  reads : ℕ → Half → Intent
  -- the commands that are taken
  advances : List Raw → Intent
  closes : Intent
  -- a sender, and a number
  acknowledges : ℕ → ℕ → Intent
  asks : Intent
