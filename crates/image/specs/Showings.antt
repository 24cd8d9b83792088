-- Text that is told in pieces: a front of it is written, and the rest is gathered.
use Rattle.std.specs.Prelude.{◌≡◌, ℕ, List, ◌++◌, Option}
use Rattle.std.specs.Io.KnownBytes.{Appends}

-- `added` was appended to the gathered text, and a front of both was written.
pub record Moved (before now : Option (List ℕ)) (old text added : List ℕ) : Type 0 where
  pub told : List ℕ
  pub written : Appends before now told
  pub split : old ++ added ≡ told ++ text

-- a front of what was gathered was written and removed
pub record Drained (before now : Option (List ℕ)) (old text : List ℕ) : Type 0 where
  pub told : List ℕ
  pub written : Appends before now told
  pub split : old ≡ told ++ text
