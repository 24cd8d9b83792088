-- The words of a command by address, with TTL.
use Rattle.std.specs.Prelude.{◌≡◌, ◌<◌, ℕ, ◌+◌, ◌*◌, ◌^◌, Bool, false, [], ◌∷◌, Option, Some, None, is_some, Ok, if◌then◌else◌}
use Rattle.cmdcodec.specs.declared.raw.Raw.{Raw}
use Rattle.cmdcodec.specs.declared.command.Command.{Command}
use Rattle.cmdcodec.specs.declared.reach.Reach.{Reach}
use Rattle.cmdcodec.specs.declared.reach.Reach.TheVariants.{Page, Range}
use Rattle.cmdcodec.specs.Fields.{field}
use Rattle.cmdcodec.specs.PageRuns.{run_of}
use Rattle.cmdcodec.specs.Opcodes.{is_sync}
use Rattle.cmdcodec.specs.Spelling.{Spells}
use Rattle.cmdcodec.specs.Words.{decoding, encoding}
use Rattle.invalidations.specs.declared.space.Space.{Space}
use Rattle.invalidations.specs.declared.request.Request.{Request}
use Rattle.invalidations.specs.declared.request.Target.{Target}
use Rattle.invalidations.specs.Spaces.{command_for}
use Rattle.invalidations.specs.Targets.{hint_of}
use Rattle.invalidations.specs.ByAddress.{commands_by_address}
use Rattle.invalidations.specs.Plans.{Plan, commands_of}

-- TTL, which means something only beside TG
abbrev pub ttl_of : Target → ℕ
ttl_of target = if target.ranged then hint_of target.entries else 0

-- TTL of a command for this target: only one by address has it
abbrev pub ttl_in : Target → Command → ℕ
ttl_in target command = if is_some (run_of command) then ttl_of target else 0

-- Words without TG have no TTL, NUM and SCALE; in those with TG these aren't all 0, which is reserved.
pub record IsUnreserved (raw : Raw) : Type 0 where
  pub without : field raw.hi 11 10 ≡ 0 → (field raw.hi 9 8 ≡ 0) × (field raw.lo 16 12 ≡ 0) × (field raw.lo 24 20 ≡ 0)
  pub beside : 0 < field raw.hi 11 10 → 0 < field raw.lo 16 12 + field raw.lo 24 20 + field raw.hi 9 8

-- the words of the command with TTL in bits 9:8 of hi, and every bit without a field 0
abbrev pub words_with : ℕ → Command → Raw
words_with ttl command = record { lo = (encoding command).lo; hi = (encoding command).hi + ttl * 2 ^ 8 }

-- The words spell the command, with this TTL.
pub record AreWordsOf (command : Command) (ttl : ℕ) (raw : Raw) : Type 0 where
  pub spelled : Spells raw command
  pub decoded : decoding raw ≡ Ok command
  pub hint : field raw.hi 9 8 ≡ ttl
  pub unreserved : IsUnreserved raw
  pub reserved : raw ≡ words_with ttl command
  pub no_sync : is_sync raw ≡ false

-- The reach can be said with this TTL.
abbrev pub IsSayable : ℕ → Reach → Type 0
IsSayable ttl Page = ttl ≡ 0
IsSayable ttl (Range tg num scale) = 0 < num + scale + ttl

-- It is a command by address that can be said with this TTL.
abbrev pub IsSaid : ℕ → Command → Type 0
IsSaid ttl command = (space : Space) × (leaf : Bool) × (page : ℕ) × (reach : Reach) × (command ≡ command_for space leaf page reach) × IsSayable ttl reach

-- The words are those of the next command by address, or there is none and nothing changes.
abbrev pub AreNextByAddress : Request → Option Raw → Request → Type 0
AreNextByAddress old None new = (commands_by_address old ≡ []) × (new ≡ old)
AreNextByAddress old (Some raw) new =
    (command : Command) × (commands_by_address old ≡ command ∷ commands_by_address new) × AreWordsOf command (ttl_in old.target command) raw

-- The words are those of the next command, or there is none and nothing changes.
abbrev pub AreNextWords : Plan → Option Raw → Plan → Type 0
AreNextWords old None new = (commands_of old ≡ []) × (new ≡ old)
AreNextWords old (Some raw) new =
    (command : Command) × (commands_of old ≡ command ∷ commands_of new) × AreWordsOf command (ttl_in old.request.target command) raw
