-- What single commands complete, and what a run tells of them.
use Rattle.std.proofs.Common.{◌≡◌, ℕ, List, [], ◌∷◌, length, take, drop, None, refl, sym, subst}
use Rattle.std.proofs.lemmas.Bool.{true≢false}
use Rattle.cmdcodec.specs.declared.raw.Raw.{Raw}
use Rattle.cmdcodec.specs.declared.ill.Ill.{Ill}
use Rattle.cmdcodec.specs.Words.{encoding}
use Rattle.ringcore.specs.world.World.{sync_raw}
use Rattle.engine.specs.declared.completion.Completion.{Completion}
use Rattle.engine.specs.declared.answer.RunAnswer.TheVariants.{Applied, Stopped}
use Rattle.engine.specs.Engines.{EngineValue}
use Rattle.engine.specs.Completions.{completion_of, completions_of, AreToCells, AreTold, HasTold}
use Rattle.ring_tests.proofs.WorkedCases.{x, y}

abbrev completion_by : ℕ → ℕ → Completion
completion_by sender number = record { sender = sender; number = number }

-- Of the batches of two senders their CMD_SYNCs, in order.
pub batches_complete_their_syncs : completions_of (x ∷ sync_raw 1 3 ∷ y ∷ sync_raw 0 1 ∷ []) ≡ completion_by 1 3 ∷ completion_by 0 1 ∷ []
unfolding completion_of encoding
batches_complete_their_syncs = refl

-- a CMD_SYNC that writes elsewhere
abbrev sync_elsewhere : Raw
sync_elsewhere = record { lo = 0x46; hi = 0x3ffffffc }

pub sync_elsewhere_completes_nothing : completion_of sync_elsewhere ≡ None
unfolding completion_of
sync_elsewhere_completes_nothing = refl

-- It isn't among commands of which each CMD_SYNC is to a completion cell, wherever it stands.
pub sync_elsewhere_is_to_no_cell : ¬ AreToCells (sync_elsewhere ∷ [])
sync_elsewhere_is_to_no_cell are = true≢false (sym (are 0 sync_elsewhere refl refl))

pub each_sync_is_to_a_cell : ¬ AreToCells (x ∷ sync_elsewhere ∷ [])
each_sync_is_to_a_cell are = true≢false (sym (are 1 sync_elsewhere refl refl))

-- Where nothing is told, the list is as it was.
pub told_of_nothing_changes_nothing : (old new : List Completion) (many : ℕ) → AreTold [] old new many → many ≡ 0 → new ≡ old
told_of_nothing_changes_nothing old new many told none = subst (λ (n : ℕ). new ≡ drop n old) none told.new_is

-- Nothing is told of a command at which it stopped.
pub stop_tells_nothing : (most : ℕ) (old new : EngineValue) (ill : Ill) (many : ℕ) (before after : List Completion) → HasTold most old new (Stopped ill, many) before after → many ≡ 0
stop_tells_nothing most old new ill many before after told = told.many_are

-- Nothing is told of commands that weren't applied.
pub applied_alone_are_told : (most count removed many : ℕ) (old new : EngineValue) (before after : List Completion) (told : HasTold most old new (Applied count removed, many) before after)
    → many ≡ length (completions_of (take count told.0.pending.raws))
applied_alone_are_told most count removed many old new before after told = told.1.many_are
