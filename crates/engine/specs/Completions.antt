-- What commands complete, and what a run of the engine tells of it.
use Rattle.std.specs.Prelude.{◌≡◌, ℕ, ◌==◌, ◌&&◌, if◌then◌else◌, Bool, true, List, [], ◌++◌, length, take, drop, slice_get, Option, Some, None}
use Rattle.std.specs.List.{filter_map}
use Rattle.cmdcodec.specs.declared.raw.Raw.{Raw}
use Rattle.cmdcodec.specs.Opcodes.{is_sync}
use Rattle.cmdcodec.specs.ClosingSync.{cell_address}
use Rattle.ring.specs.consumer.Completing.{sync_sender, sync_number}
use Rattle.engine.specs.declared.completion.Completion.{Completion}
use Rattle.engine.specs.declared.answer.RunAnswer.{RunAnswer}
use Rattle.engine.specs.declared.answer.RunAnswer.TheVariants.{Applied}
use Rattle.engine.specs.Engines.{EngineValue, HasAppliedRun}

-- Whether it is a CMD_SYNC to a sender's completion cell.
abbrev pub is_to_a_cell : Raw → Bool
is_to_a_cell raw = is_sync raw && raw.hi == cell_address (sync_sender raw)

-- Each CMD_SYNC among these commands is to a completion cell, and so completes something.
abbrev pub AreToCells : List Raw → Type 0
AreToCells raws =
    (place : ℕ) (raw : Raw) → slice_get raws place ≡ Some raw → is_sync raw ≡ true → is_to_a_cell raw ≡ true

-- what a command completes: of a CMD_SYNC to a completion cell the sender and the number that is written there
unfoldable pub completion_of : Raw → Option Completion
completion_of raw = if is_to_a_cell raw then Some (record { sender = sync_sender raw; number = sync_number raw }) else None

-- what these commands complete, in their order
abbrev pub completions_of : List Raw → List Completion
completions_of raws = filter_map completion_of raws

-- What these commands complete stands at the beginning of the list, `many` of it, and the rest is as it was.
pub record AreTold (raws : List Raw) (old new : List Completion) (many : ℕ) : Type 0 where
  pub many_are : many ≡ length (completions_of raws)
  pub new_is : new ≡ completions_of raws ++ drop many old

-- What a step of at most `most` commands told, by its answer: what the commands that it applied complete, and else
-- nothing.
abbrev pub HasTold : ℕ → EngineValue → EngineValue → RunAnswer × ℕ → List Completion → List Completion → Type 0
HasTold most old new (Applied count removed, many) before after =
    (did : HasAppliedRun most count removed old new) × AreTold (take count did.pending.raws) before after many
HasTold most old new (other, many) before after = AreTold [] before after many
