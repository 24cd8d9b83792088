-- Batches of the commands of an invalidation.
use Rattle.std.specs.Prelude.{◌≡◌, ◌⊎◌, false, List, [], ◌∷◌, ◌++◌, length}
use Rattle.std.specs.List.{list_any}
use Rattle.cmdcodec.specs.declared.raw.Raw.{Raw}
use Rattle.cmdcodec.specs.Opcodes.{is_sync}
use Rattle.cmdcodec.specs.declared.command.Command.{Command}
use Rattle.invalidations.specs.declared.request.Target.{Target}
use Rattle.invalidations.specs.Plans.{Plan, commands_of}
use Rattle.invalidations.specs.Hints.{ttl_in, AreWordsOf}

-- The words are those of the commands, one by one.
abbrev pub AreWordsOfAll : Target → List Command → List Raw → Type 0
AreWordsOfAll target [] [] = Unit {0}
AreWordsOfAll target (command ∷ commands) (raw ∷ raws) = AreWordsOf command (ttl_in target command) raw × AreWordsOfAll target commands raws
AreWordsOfAll target commands raws = ⊥

-- The words of some commands were appended, and those after them are left.
pub record IsMoved (old new : Plan) (before after : List Raw) : Type 0 where
  pub commands : List Command
  pub raws : List Raw
  pub target : new.request.target ≡ old.request.target
  pub taken : commands_of old ≡ commands ++ commands_of new
  pub appended : after ≡ before ++ raws
  pub words : AreWordsOfAll old.request.target commands raws

-- No command is left, or no room.
pub record IsFilled (old new : Plan) (before after : List Raw) : Type 0 where
  pub moved : IsMoved old new before after
  pub as_many : (commands_of new ≡ []) ⊎ (length after ≡ 63)

-- None of the words is a CMD_SYNC.
abbrev pub HasNoSync : List Raw → Type 0
HasNoSync raws = list_any is_sync raws ≡ false
