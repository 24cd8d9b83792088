-- Which command the flat fields of C say, and what decoding and encoding do.
use Rattle.std.specs.Prelude.{◌≡◌, ◌<◌, ◌≤◌, ◌*◌, ◌^◌, ℕ, Bool, true, false, Option, None, Some, Result, Ok, Err}
use Rattle.cmdcodec.specs.declared.raw.Raw.{Raw}
use Rattle.cmdcodec.specs.declared.ill.Ill.{Ill}
use Rattle.cmdcodec.specs.declared.command.Command.{Command}
use Rattle.cmdcodec.specs.declared.command.Command.TheVariants.{CfgiSte, CfgiSteRange, CfgiCd, CfgiCdAll, TlbiNhAll, TlbiNhAsid, TlbiNhVa, TlbiNhVaa, TlbiEl2All, TlbiEl2Asid, TlbiEl2Va, TlbiEl2Vaa, TlbiS12Vmall, TlbiS2Ipa, TlbiNsnhAll, AtcInv, Kept, CmdSync}
use Rattle.cmdcodec.specs.declared.reach.Reach.{Reach}
use Rattle.cmdcodec.specs.declared.reach.Reach.TheVariants.{Page, Range}
use Rattle.cmdcodec.specs.Fields.{bit}
use Rattle.cmdcodec.specs.Opcodes.{opcode_of}
use Rattle.cmdcodec.specs.Legality.{IsKept}
use Rattle.cmdcodec.specs.Spelling.{granule_number}
use Rattle.cmdcodec.specs.Words.{decoding}
use Rattle.range_hints.specs.declared.ttl.Ttl.{Ttl}
use Rattle.range_hints.specs.declared.ttl.Ttl.TheVariants.{AnyLevel}
use Rattle.range_hints.specs.Hints.{has_ttl, ttl_number, SpellsWithHint}
use Rattle.range_hints.specs.ReservedBits.{HasReservedBitsZero}
use Rattle.smmuq_c.specs.declared.fields.Fields.{Fields}
use Rattle.smmuq_c.specs.declared.status.Status.{Status}
use Rattle.smmuq_c.specs.declared.status.Status.TheVariants.{Done, Illegal, BadField}

-- ---- fields that several commands have, in range

abbrev pub SaysMachine : Fields → ℕ → Type 0
SaysMachine f vmid = (f.vmid ≡ vmid) × (vmid < 2 ^ 16)

abbrev pub SaysSpace : Fields → ℕ → Type 0
SaysSpace f asid = (f.asid ≡ asid) × (asid < 2 ^ 16)

abbrev pub SaysSubstream : Fields → ℕ → Type 0
SaysSubstream f ssid = (f.ssid ≡ ssid) × (ssid < 2 ^ 20)

-- the page at the address, below `pages`
pub record SaysPage (f : Fields) (pages page : ℕ) : Type 0 where
  pub address_is : f.address ≡ page * 4096
  pub in_range : page < pages

-- TG is 0 for a single page.
abbrev pub SaysReachBy : ℕ → ℕ → ℕ → Reach → Type 0
SaysReachBy tg num scale Page = tg ≡ 0
SaysReachBy tg num scale (Range granule count power) = (tg ≡ granule_number granule) × (num ≡ count) × (count < 32) × (scale ≡ power) × (power < 32)

abbrev pub SaysReach : Fields → Reach → Type 0
SaysReach f reach = SaysReachBy f.tg f.num f.scale reach

-- ---- a command

-- The opcode is that of the command, and the fields that it has are these, in range.
abbrev pub SaysCommand : Fields → Command → Type 0
SaysCommand f (CfgiSte sid leaf) = (f.opcode ≡ 0x03) × (f.sid ≡ sid) × (f.leaf ≡ bit leaf)
SaysCommand f (CfgiSteRange sid range) = (f.opcode ≡ 0x04) × (f.sid ≡ sid) × (f.size ≡ range) × (range < 32)
SaysCommand f (CfgiCd sid ssid leaf) = (f.opcode ≡ 0x05) × (f.sid ≡ sid) × SaysSubstream f ssid × (f.leaf ≡ bit leaf)
SaysCommand f (CfgiCdAll sid) = (f.opcode ≡ 0x06) × (f.sid ≡ sid)
SaysCommand f (TlbiNhAll vmid) = (f.opcode ≡ 0x10) × SaysMachine f vmid
SaysCommand f (TlbiNhAsid vmid asid) = (f.opcode ≡ 0x11) × SaysMachine f vmid × SaysSpace f asid
SaysCommand f (TlbiNhVa vmid asid leaf page reach) =
    (f.opcode ≡ 0x12) × SaysMachine f vmid × SaysSpace f asid × (f.leaf ≡ bit leaf) × SaysPage f (2 ^ 52) page × SaysReach f reach
SaysCommand f (TlbiNhVaa vmid leaf page reach) = (f.opcode ≡ 0x13) × SaysMachine f vmid × (f.leaf ≡ bit leaf) × SaysPage f (2 ^ 52) page × SaysReach f reach
SaysCommand f TlbiEl2All = f.opcode ≡ 0x20
SaysCommand f (TlbiEl2Asid asid) = (f.opcode ≡ 0x21) × SaysSpace f asid
SaysCommand f (TlbiEl2Va asid leaf page reach) = (f.opcode ≡ 0x22) × SaysSpace f asid × (f.leaf ≡ bit leaf) × SaysPage f (2 ^ 52) page × SaysReach f reach
SaysCommand f (TlbiEl2Vaa leaf page reach) = (f.opcode ≡ 0x23) × (f.leaf ≡ bit leaf) × SaysPage f (2 ^ 52) page × SaysReach f reach
SaysCommand f (TlbiS12Vmall vmid) = (f.opcode ≡ 0x28) × SaysMachine f vmid
SaysCommand f (TlbiS2Ipa vmid leaf page reach) = (f.opcode ≡ 0x2a) × SaysMachine f vmid × (f.leaf ≡ bit leaf) × SaysPage f (2 ^ 40) page × SaysReach f reach
SaysCommand f TlbiNsnhAll = f.opcode ≡ 0x30
SaysCommand f (AtcInv sid ssv ssid global size page) =
    (f.opcode ≡ 0x40) × (f.sid ≡ sid) × (f.ssv ≡ bit ssv) × SaysSubstream f ssid × (f.global ≡ bit global) × (f.size ≡ size) × (size ≤ 52) × SaysPage f (2 ^ 52) page
SaysCommand f (Kept raw) = (f.opcode ≡ opcode_of raw) × (f.lo ≡ raw.lo) × (f.hi ≡ raw.hi) × IsKept raw
SaysCommand f (CmdSync cs msh attr «data» address) =
    (f.opcode ≡ 0x46) × (f.cs ≡ cs) × (cs < 3) × (f.msh ≡ msh) × (msh < 4) × (f.attr ≡ attr) × (attr < 16) × (f.data ≡ «data») × (f.address ≡ address * 4) × (address < 2 ^ 50)

-- ---- all fields of a command

abbrev pub no_fields : Fields
no_fields = record {
  opcode = 0;
  sid = 0;
  ssid = 0;
  vmid = 0;
  asid = 0;
  leaf = 0;
  tg = 0;
  num = 0;
  scale = 0;
  ttl = 0;
  ssv = 0;
  global = 0;
  size = 0;
  cs = 0;
  msh = 0;
  attr = 0;
  «data» = 0;
  unused = 0;
  address = 0;
  lo = 0;
  hi = 0;
}

abbrev pub with_reach : Reach → Fields → Fields
with_reach Page f = f
with_reach (Range granule num scale) f = record f { tg = granule_number granule; num = num; scale = scale }

-- those of an invalidation by address
abbrev pub by_page : ℕ → Bool → ℕ → Reach → Fields
by_page opcode leaf page reach =
    with_reach reach (record no_fields { opcode = opcode; leaf = bit leaf; address = page * 4096 })

-- the fields of a command, with 0 for those that it doesn't have and for its level hint
abbrev pub fields_of : Command → Fields
fields_of (CfgiSte sid leaf) = record no_fields { opcode = 0x03; sid = sid; leaf = bit leaf }
fields_of (CfgiSteRange sid range) = record no_fields { opcode = 0x04; sid = sid; size = range }
fields_of (CfgiCd sid ssid leaf) = record no_fields { opcode = 0x05; sid = sid; ssid = ssid; leaf = bit leaf }
fields_of (CfgiCdAll sid) = record no_fields { opcode = 0x06; sid = sid }
fields_of (TlbiNhAll vmid) = record no_fields { opcode = 0x10; vmid = vmid }
fields_of (TlbiNhAsid vmid asid) = record no_fields { opcode = 0x11; vmid = vmid; asid = asid }
fields_of (TlbiNhVa vmid asid leaf page reach) = record (by_page 0x12 leaf page reach) { vmid = vmid; asid = asid }
fields_of (TlbiNhVaa vmid leaf page reach) = record (by_page 0x13 leaf page reach) { vmid = vmid }
fields_of TlbiEl2All = record no_fields { opcode = 0x20 }
fields_of (TlbiEl2Asid asid) = record no_fields { opcode = 0x21; asid = asid }
fields_of (TlbiEl2Va asid leaf page reach) = record (by_page 0x22 leaf page reach) { asid = asid }
fields_of (TlbiEl2Vaa leaf page reach) = by_page 0x23 leaf page reach
fields_of (TlbiS12Vmall vmid) = record no_fields { opcode = 0x28; vmid = vmid }
fields_of (TlbiS2Ipa vmid leaf page reach) = record (by_page 0x2a leaf page reach) { vmid = vmid }
fields_of TlbiNsnhAll = record no_fields { opcode = 0x30 }
fields_of (AtcInv sid ssv ssid global size page) =
    record no_fields { opcode = 0x40; sid = sid; ssv = bit ssv; ssid = ssid; global = bit global; size = size; address = page * 4096 }
fields_of (Kept raw) = record no_fields { opcode = opcode_of raw; lo = raw.lo; hi = raw.hi }
fields_of (CmdSync cs msh attr «data» address) =
    record no_fields { opcode = 0x46; cs = cs; msh = msh; attr = attr; «data» = «data»; address = address * 4 }

-- They say the command, with this level hint, and nothing else.
pub record AreFieldsOf (f : Fields) (command : Command) : Type 0 where
  pub says : SaysCommand f command
  pub exactly : f ≡ record (fields_of command) { ttl = f.ttl }

-- It is the command that the fields say, or there is none.
abbrev pub IsCommandOf : Fields → Option Command → Type 0
IsCommandOf f None = (command : Command) → ¬ SaysCommand f command
IsCommandOf f (Some command) = SaysCommand f command

-- ---- decoding and encoding

abbrev pub decode_status : Result Command Ill → Status
decode_status (Ok command) = Done
decode_status (Err ill) = Illegal ill

-- what is told of the first fault, if there is one
abbrev pub check_status : Option Ill → Status
check_status None = Done
check_status (Some ill) = Illegal ill

-- The fields are those of the command that legal words spell; for illegal words they stay.
abbrev pub HasDecoded : Result Command Ill → Fields → Fields → Type 0
HasDecoded (Ok command) old new = AreFieldsOf new command
HasDecoded (Err ill) old new = new ≡ old

-- The hint of legal words is among the fields.
abbrev pub HasDecodedHint : Raw → Fields → Type 0
HasDecodedHint raw new =
    (command : Command) (ttl : Ttl) → SpellsWithHint raw command ttl → new.ttl ≡ ttl_number ttl

-- The fields say this level hint, if a command has a place for one.
abbrev pub SaysHintBy : Bool → Fields → Ttl → Type 0
SaysHintBy true f ttl = f.ttl ≡ ttl_number ttl
SaysHintBy false f ttl = ttl ≡ AnyLevel

abbrev pub SaysHint : Fields → Command → Ttl → Type 0
SaysHint f command = SaysHintBy (has_ttl command) f

abbrev pub IsHintOf : Fields → Command → Option Ttl → Type 0
IsHintOf f command None = (ttl : Ttl) → ¬ SaysHint f command ttl
IsHintOf f command (Some ttl) = SaysHint f command ttl

-- The fields say this command and this hint, and the words spell both, with all reserved bits 0.
pub record AreWordsOf (f : Fields) (raw : Raw) : Type 0 where
  pub command : Command
  pub ttl : Ttl
  pub says : SaysCommand f command
  pub hints : SaysHint f command ttl
  pub spelled : SpellsWithHint raw command ttl
  pub decoded : decoding raw ≡ Ok command
  pub reserved : HasReservedBitsZero raw command

-- The words spell the command that the fields say; or they say none, and the words stay.
abbrev pub HasEncoded : Fields → Raw → Raw → Status → Type 0
HasEncoded fields old new Done = AreWordsOf fields new
HasEncoded fields old new BadField =
    ((command : Command) (ttl : Ttl) → SaysCommand fields command → ¬ SaysHint fields command ttl)
    × (new ≡ old)
HasEncoded fields old new other = ⊥
