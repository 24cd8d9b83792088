-- Why a run stopped before its outcome was written.
use Rattle.std.specs.Prelude.{◌≡◌, ◌≤◌, ◌^◌, ◌⊎◌, ℕ, Bool, true, false}
use Rattle.script.specs.declared.error.ServeError.{ServeError}
use Rattle.script.specs.declared.error.ServeError.TheVariants.{Memory, Read, Write, Endless}

-- the reader failed
abbrev pub is_read : ServeError → Bool
is_read (Read e) = true
is_read (Memory e) = false
is_read (Write e) = false
is_read Endless = false

-- memory ran out
abbrev pub is_memory : ServeError → Bool
is_memory (Memory e) = true
is_memory (Read e) = false
is_memory (Write e) = false
is_memory Endless = false

-- the writer failed, or took nothing
abbrev pub is_write : ServeError → Bool
is_write (Write e) = true
is_write (Memory e) = false
is_write (Read e) = false
is_write Endless = false

-- there is no end to the script
abbrev pub is_endless : ServeError → Bool
is_endless Endless = true
is_endless (Memory e) = false
is_endless (Read e) = false
is_endless (Write e) = false

-- Memory ran out, or line numbers did: a line of at most this number was the 2^64th.
abbrev pub WantsMemoryOrNumber : ServeError → ℕ → Type 0
WantsMemoryOrNumber e number = (is_memory e ≡ true) ⊎ ((is_endless e ≡ true) × (2 ^ 64 ≤ number))
