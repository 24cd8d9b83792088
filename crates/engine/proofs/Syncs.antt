-- A CMD_SYNC covers nothing, whatever is held.
use Rattle.std.proofs.Common.{◌≡◌, ℕ, true, false, refl, sym, ◌∙◌, arith}
use Rattle.std.proofs.lemmas.Bool.{eqb-true}
use Rattle.cmdcodec.specs.declared.raw.Raw.{Raw}
use Rattle.cmdcodec.specs.declared.command.Command.{Command}
use Rattle.cmdcodec.specs.declared.command.Command.TheVariants.{CfgiSte, CfgiSteRange, CfgiCd, CfgiCdAll, TlbiNhAll, TlbiNhAsid, TlbiNhVa, TlbiNhVaa, TlbiEl2All, TlbiEl2Asid, TlbiEl2Va, TlbiEl2Vaa, TlbiS12Vmall, TlbiS2Ipa, TlbiNsnhAll, AtcInv, Kept, CmdSync}
use Rattle.cmdcodec.specs.Opcodes.{is_sync, opcode_of}
use Rattle.cmdcodec.specs.Spelling.{Spells}
use Rattle.caches.specs.declared.tag.Tag.{Tag}
use Rattle.caches.specs.Covers.{covers}

-- the words' opcode is that of a CMD_SYNC, and no other
only_sync : (raw : Raw) (opcode : ℕ) → is_sync raw ≡ true → opcode_of raw ≡ opcode → opcode ≡ 0x46
only_sync raw opcode sync is = sym is ∙ eqb-true (opcode_of raw) 0x46 sync

pub covers_none : (raw : Raw) (command : Command) → Spells raw command → is_sync raw ≡ true → (tag : Tag) → covers command tag ≡ false
covers_none raw (CfgiSte sid leaf) spelled sync tag = let e = only_sync raw 0x03 sync spelled.0.0 in absurd (omega (arith, e))
covers_none raw (CfgiSteRange sid range) spelled sync tag = let e = only_sync raw 0x04 sync spelled.0.0 in absurd (omega (arith, e))
covers_none raw (CfgiCd sid ssid leaf) spelled sync tag = let e = only_sync raw 0x05 sync spelled.0.0 in absurd (omega (arith, e))
covers_none raw (CfgiCdAll sid) spelled sync tag = let e = only_sync raw 0x06 sync spelled.0.0 in absurd (omega (arith, e))
covers_none raw (TlbiNhAll vmid) spelled sync tag = let e = only_sync raw 0x10 sync spelled.0.0 in absurd (omega (arith, e))
covers_none raw (TlbiNhAsid vmid asid) spelled sync tag = let e = only_sync raw 0x11 sync spelled.0.0 in absurd (omega (arith, e))
covers_none raw (TlbiNhVa vmid asid leaf page reach) spelled sync tag = let e = only_sync raw 0x12 sync spelled.0.0 in absurd (omega (arith, e))
covers_none raw (TlbiNhVaa vmid leaf page reach) spelled sync tag = let e = only_sync raw 0x13 sync spelled.0.0 in absurd (omega (arith, e))
covers_none raw TlbiEl2All spelled sync tag = let e = only_sync raw 0x20 sync spelled.0 in absurd (omega (arith, e))
covers_none raw (TlbiEl2Asid asid) spelled sync tag = let e = only_sync raw 0x21 sync spelled.0.0 in absurd (omega (arith, e))
covers_none raw (TlbiEl2Va asid leaf page reach) spelled sync tag = let e = only_sync raw 0x22 sync spelled.0.0 in absurd (omega (arith, e))
covers_none raw (TlbiEl2Vaa leaf page reach) spelled sync tag = let e = only_sync raw 0x23 sync spelled.0.0 in absurd (omega (arith, e))
covers_none raw (TlbiS12Vmall vmid) spelled sync tag = let e = only_sync raw 0x28 sync spelled.0.0 in absurd (omega (arith, e))
covers_none raw (TlbiS2Ipa vmid leaf page reach) spelled sync tag = let e = only_sync raw 0x2a sync spelled.0.0 in absurd (omega (arith, e))
covers_none raw TlbiNsnhAll spelled sync tag = let e = only_sync raw 0x30 sync spelled.0 in absurd (omega (arith, e))
covers_none raw (AtcInv sid ssv ssid global size page) spelled sync tag = let e = only_sync raw 0x40 sync spelled.0.0 in absurd (omega (arith, e))
covers_none raw (Kept words) spelled sync tag = refl
covers_none raw (CmdSync cs msh attr «data» address) spelled sync tag = refl
