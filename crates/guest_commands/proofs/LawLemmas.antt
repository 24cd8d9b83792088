-- An address space is less than a range.
use Rattle.std.proofs.Common.{◌≡◌, ℕ, ◌+◌, ◌^◌, ◌<◌, ◌==◌, true, false, refl, sym, ◌∙◌, arith}
use Rattle.std.proofs.lemmas.Nat.{pow_pos, mul-le}
use Rattle.std.proofs.lemmas.Bool.{lt-ltb, and_from, and_right, eq-eqb}
use Rattle.cmdcodec.specs.declared.reach.Reach.{Reach}
use Rattle.cmdcodec.specs.declared.reach.Reach.TheVariants.{Page, Range}
use Rattle.cmdcodec.specs.PageRuns.{run_from, IsReached}
use Rattle.cmdcodec.specs.Laws.{RunsAreOfWholeGranules}
use Rattle.caches.specs.declared.tag.Tag.TheVariants.{Ste, Cd, S1, S2, El2, Atc}
use Rattle.caches.specs.Blocks.{meets, block}
use Rattle.guest_commands.specs.Mappings.{Mapping}
use Rattle.guest_commands.specs.Entries.{IsOwnStream, IsOwnEndpoint}
use Rattle.guest_commands.specs.Laws.{AnAddressSpaceIsTooLittle, EntriesAreOfOneGuest}

reached : (page space : ℕ) (reach : Reach) → page < space → IsReached page reach space page
reached page space Page h = refl
reached page space (Range tg num scale) h = (omega arith, omega (arith, mul-le 1 1 (num + 1) (2 ^ scale) (omega arith) (pow_pos scale)), h)

met : RunsAreOfWholeGranules → (page : ℕ) (reach : Reach) → page < 2 ^ 52 → meets (block page 0) (run_from page reach (2 ^ 52)) ≡ true
met whole page reach h =
    let own = (whole page (2 ^ 52) page reach h).1 (reached page (2 ^ 52) reach h) in
    and_from _ _ (lt-ltb page (run_from page reach (2 ^ 52)).end own.1) (lt-ltb (run_from page reach (2 ^ 52)).first (page + 1) (omega (arith, own.0)))

pub too_little : RunsAreOfWholeGranules → AnAddressSpaceIsTooLittle
too_little whole vmid asid page leaf reach h = (and_from _ _ (eq-eqb vmid vmid refl) (met whole page reach h), and_right (vmid == vmid) false refl)

endpoint : (m : Mapping) (sid : ℕ) → IsOwnEndpoint m sid → IsOwnStream m sid
endpoint m sid (guest, host, attached, same, ats) = (guest, host, attached, same)

pub of_one : EntriesAreOfOneGuest
of_one one other (Ste sid) apart here there = apart.streams sid here there
of_one one other (Cd sid ssid) apart here there = apart.streams sid here there
of_one one other (S1 vmid scope page span) apart here there = apart.machines (sym here ∙ there)
of_one one other (S2 vmid page span) apart here there = here
of_one one other (El2 scope page span) apart here there = here
of_one one other (Atc sid ssid page span) apart here there = apart.streams sid (endpoint one sid here) (endpoint other sid there)
