-- What is seen of a writer, and what was told through it.
use Rattle.std.specs.Prelude.{◌≡◌, ◌↔◌, ℕ, Bool, true, List, ◌⊎◌, Option, Result, MatchResult}
use Rattle.std.specs.Io.KnownBytes.{Appends}
use Rattle.std.specs.IoError.{error_kind}
use Rattle.std.specs.declared.io.Error.{Error}
use Rattle.std.specs.declared.io.ErrorKind.TheVariants.{BrokenPipe}

-- the bytes that it holds, if they are known, whether a call of it failed, whether the newest that failed did so
-- because the other end was closed, and whether it was flushed since it was last written to
pub record Seen : Type 0 where
  pub bytes : Option (List ℕ)
  pub has_failed : Bool
  pub is_closed : Bool
  pub is_flushed : Bool

abbrev pub NotesFailure : Seen → Error → Type 0
NotesFailure after why = (after.has_failed ≡ true) × ((after.is_closed ≡ true) ↔ (error_kind why ≡ BrokenPipe))

-- A call that fails is noted with its kind; else it is noted whether it leaves the writer flushed.
abbrev pub Notes : {T : Type 0} → Bool → Seen → Seen → Result T Error → Type 0
Notes flushed before after result =
    MatchResult result
    (λ _. (after.has_failed ≡ before.has_failed) × (after.is_closed ≡ before.is_closed) × (after.is_flushed ≡ flushed))
    (NotesFailure after)

-- The text was written, and flushed.
abbrev pub Tells : Seen → Seen → List ℕ → Type 0
Tells before after text = Appends before.bytes after.bytes text × (after.is_flushed ≡ true)

-- A call of the writer failed.
abbrev pub HasFailed : Seen → Type 0
HasFailed after = after.has_failed ≡ true

-- The text was told, with this exit status; or a call of the writer failed, with status 4.
abbrev pub TellsWith : ℕ → List ℕ → ℕ → Seen → Seen → Type 0
TellsWith status text exit before after = ((exit ≡ status) × Tells before after text) ⊎ ((exit ≡ 4) × HasFailed after)
