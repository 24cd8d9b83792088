-- How contracts see the readers and the writer of tests.
use Rattle.std.specs.Prelude.{◌≡◌, ◌≢◌, ◌+◌, ◌-◌, ◌^◌, ℕ, List, Result, min}
use Rattle.std.specs.Result.{MatchResult}
use Rattle.std.specs.IoError.{error_kind}
use Rattle.std.specs.declared.io.Error.{Error}
use Rattle.std.specs.declared.io.ErrorKind.{ErrorKind}

-- a reader: the bytes that it has yet to give, how many calls were made, which of them fails, counted from 1, and how
pub record SourceValue : Type 0 where
  pub left : List ℕ
  pub calls : ℕ
  pub bad : ℕ
  pub kind : ErrorKind

-- a reader of pieces: the one whose bytes it gives, and how many it gave
pub record PiecesValue (R : Type 0) : Type 0 where
  pub inner : R
  pub given : ℕ

-- a writer: the bytes that it was given and kept, how many calls of write and of flush were made, which of the writes
-- fails, and how
pub record SinkValue : Type 0 where
  pub kept : List ℕ
  pub calls : ℕ
  pub flushes : ℕ
  pub bad : ℕ
  pub kind : ErrorKind

-- one more call; a count of 64 bits stays at its largest
abbrev pub one_more : ℕ → ℕ
one_more calls = min (calls + 1) (2 ^ 64 - 1)

-- The newest call fails with this kind if it is the bad one, and else doesn't fail.
abbrev pub FailsWhere : ℕ → ℕ → ErrorKind → Result ℕ Error → Type 0
FailsWhere calls bad kind result = MatchResult result (λ _. calls ≢ bad) (λ e. (calls ≡ bad) × (error_kind e ≡ kind))
