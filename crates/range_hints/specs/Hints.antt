-- The level hint of a command: TTL, bits 9:8 of hi in the invalidations of the TLB by address.
use Rattle.std.specs.Prelude.{◌≡◌, ℕ, ◌==◌, Bool, true, false, if◌then◌else◌}
use Rattle.cmdcodec.specs.declared.raw.Raw.{Raw}
use Rattle.cmdcodec.specs.declared.command.Command.{Command}
use Rattle.cmdcodec.specs.declared.command.Command.TheVariants.{TlbiNhVa, TlbiNhVaa, TlbiEl2Va, TlbiEl2Vaa, TlbiS2Ipa}
use Rattle.cmdcodec.specs.Fields.{field}
use Rattle.cmdcodec.specs.Spelling.{Spells}
use Rattle.range_hints.specs.declared.ttl.Ttl.{Ttl}
use Rattle.range_hints.specs.declared.ttl.Ttl.TheVariants.{AnyLevel, Level1, Level2, Level3}

abbrev pub ttl_number : Ttl → ℕ
ttl_number AnyLevel = 0
ttl_number Level1 = 1
ttl_number Level2 = 2
ttl_number Level3 = 3

abbrev pub ttl_named : ℕ → Ttl
ttl_named number =
    if number == 1 then Level1
    else if number == 2 then Level2
    else if number == 3 then Level3
    else AnyLevel

-- The command has a place for TTL.
abbrev pub has_ttl : Command → Bool
has_ttl (TlbiNhVa vmid asid leaf page reach) = true
has_ttl (TlbiNhVaa vmid leaf page reach) = true
has_ttl (TlbiEl2Va asid leaf page reach) = true
has_ttl (TlbiEl2Vaa leaf page reach) = true
has_ttl (TlbiS2Ipa vmid leaf page reach) = true
has_ttl other = false

-- what is kept of a hint beside a command
abbrev pub kept_ttl : Command → Ttl → Ttl
kept_ttl command ttl = if has_ttl command then ttl else AnyLevel

-- The high word spells the hint, if the command has a place for it.
abbrev pub SpellsTtl : Bool → ℕ → Ttl → Type 0
SpellsTtl true hi ttl = field hi 9 8 ≡ ttl_number ttl
SpellsTtl false hi ttl = ttl ≡ AnyLevel

-- The words spell the command with the hint.
pub record SpellsWithHint (raw : Raw) (command : Command) (ttl : Ttl) : Type 0 where
  pub spelled : Spells raw command
  pub hint : SpellsTtl (has_ttl command) raw.hi ttl
