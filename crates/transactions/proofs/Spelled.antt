-- Which words are invalidations.
use Rattle.std.proofs.Common.{◌≡◌, ℕ, Bool, true, false, ◌||◌, refl, ap, ◌∙◌}
use Rattle.std.specs.Prelude.{not, ◌==◌, ◌&&◌}
use Rattle.cmdcodec.specs.declared.raw.Raw.{Raw}
use Rattle.cmdcodec.specs.declared.command.Command.{Command}
use Rattle.cmdcodec.specs.declared.command.Command.TheVariants.{CfgiSte, CfgiSteRange, CfgiCd, CfgiCdAll, TlbiNhAll, TlbiNhAsid, TlbiNhVa, TlbiNhVaa, TlbiEl2All, TlbiEl2Asid, TlbiEl2Va, TlbiEl2Vaa, TlbiS12Vmall, TlbiS2Ipa, TlbiNsnhAll, AtcInv, Kept, CmdSync}
use Rattle.cmdcodec.specs.Opcodes.{opcode_of, is_sync, is_kept}
use Rattle.cmdcodec.specs.Fields.{field}
use Rattle.cmdcodec.specs.Spelling.{Spells}
use Rattle.ringcore.specs.declared.world.event.Outcome.TheVariants.{Applied}
use Rattle.ringcore.specs.world.World.{Taken}
use Rattle.caches.specs.declared.tag.Tag.{Tag}
use Rattle.caches.specs.Covers.{covers}
use Rattle.engine.specs.Counting.{is_applied}
use Rattle.engine.specs.Settled.{HasCovered}
use Rattle.transactions.specs.Coverage.{is_invalidation, was_invalidation, WordsCover}

-- What covers something may.
pub covers_may : (command : Command) (tag : Tag) → covers command tag ≡ true → is_invalidation command ≡ true
covers_may (Kept words) tag is = absurd (cc)
covers_may (CmdSync cs msh attr «data» address) tag is = absurd (cc)
covers_may other tag is = refl

abbrev by_number : ℕ → Bool
by_number number = not (number == 0x46 || is_kept number)

of_number : (raw : Raw) (number : ℕ) → opcode_of raw ≡ number → not (is_sync raw || is_kept (opcode_of raw)) ≡ by_number number
of_number raw number is = ap by_number is

not_kept : (sync kept : Bool) → kept ≡ true → not (sync || kept) ≡ false
not_kept true kept is = refl
not_kept false true is = refl
not_kept false false is = absurd (cc)

pub spelled_kind : (raw : Raw) (command : Command) → Spells raw command → not (is_sync raw || is_kept (opcode_of raw)) ≡ is_invalidation command
spelled_kind raw (CfgiSte sid leaf) s = of_number raw 0x03 s.0.0
spelled_kind raw (CfgiSteRange sid range) s = of_number raw 0x04 s.0.0
spelled_kind raw (CfgiCd sid ssid leaf) s = of_number raw 0x05 s.0.0
spelled_kind raw (CfgiCdAll sid) s = of_number raw 0x06 s.0.0
spelled_kind raw (TlbiNhAll vmid) s = of_number raw 0x10 s.0.0
spelled_kind raw (TlbiNhAsid vmid asid) s = of_number raw 0x11 s.0.0
spelled_kind raw (TlbiNhVa vmid asid leaf page reach) s = of_number raw 0x12 s.0.0
spelled_kind raw (TlbiNhVaa vmid leaf page reach) s = of_number raw 0x13 s.0.0
spelled_kind raw TlbiEl2All s = of_number raw 0x20 s.0
spelled_kind raw (TlbiEl2Asid asid) s = of_number raw 0x21 s.0.0
spelled_kind raw (TlbiEl2Va asid leaf page reach) s = of_number raw 0x22 s.0.0
spelled_kind raw (TlbiEl2Vaa leaf page reach) s = of_number raw 0x23 s.0.0
spelled_kind raw (TlbiS12Vmall vmid) s = of_number raw 0x28 s.0.0
spelled_kind raw (TlbiS2Ipa vmid leaf page reach) s = of_number raw 0x2a s.0.0
spelled_kind raw TlbiNsnhAll s = of_number raw 0x30 s.0
spelled_kind raw (AtcInv sid ssv ssid global size page) s = of_number raw 0x40 s.0.0
spelled_kind raw (Kept words) s =
    not_kept (is_sync raw) (is_kept (opcode_of raw)) (ap (λ (lo : ℕ). is_kept (field lo 7 0)) s.0.0 ∙ s.0.1.0)
spelled_kind raw (CmdSync cs msh attr «data» address) s = of_number raw 0x46 s.0.0

pub applied_kind : (raw : Raw) (command : Command) → Spells raw command → was_invalidation (record { raw = raw; outcome = Applied }) ≡ is_invalidation command
applied_kind raw command s = spelled_kind raw command s

-- A command that covers something was an invalidation.
pub coverer_kind : (t : Taken) (tag : Tag) → HasCovered t tag → was_invalidation t ≡ true
coverer_kind t tag c =
    ap (λ o. is_applied o && not (is_sync t.raw || is_kept (opcode_of t.raw))) c.applied ∙ spelled_kind t.raw c.command c.spelled ∙ covers_may c.command tag c.covered

pub words_cover : (t : Taken) (tag : Tag) → HasCovered t tag → WordsCover t.raw tag
words_cover t tag c = record { command = c.command; spelled = c.spelled; covered = c.covered }

pub has_covered : (t : Taken) (tag : Tag) → t.outcome ≡ Applied → WordsCover t.raw tag → HasCovered t tag
has_covered t tag applied w = record { applied = applied; command = w.command; spelled = w.spelled; covered = w.covered }
