-- The command for all pages of a space.
use Rattle.std.proofs.Common.{◌≡◌, ℕ, ◌+◌, ◌*◌, ◌^◌, ◌==◌, ◌&&◌, true, false, Some, None, Ok, refl, ap, subst, ◌∙◌, arith}
use Rattle.std.proofs.lemmas.Bool.{and_from, and_parts}
use Rattle.cmdcodec.specs.declared.raw.Raw.{Raw}
use Rattle.cmdcodec.specs.declared.command.Command.{Command}
use Rattle.cmdcodec.specs.Fields.{field}
use Rattle.cmdcodec.specs.Words.{decoding, encoding}
use Rattle.cmdcodec.specs.Opcodes.{is_sync}
use Rattle.cmdcodec.specs.Spelling.{Spells}
use Rattle.cmdcodec.specs.FreeBits.{HasFreeBitsZero}
use Rattle.caches.specs.declared.tag.Scope.TheVariants.{Global, Of}
use Rattle.caches.specs.declared.tag.Tag.TheVariants.{S1, S2, El2}
use Rattle.caches.specs.Blocks.{block, holds}
use Rattle.invalidations.specs.declared.space.Space.TheVariants.{Stage1, Hypervisor, Stage2}
use Rattle.invalidations.specs.declared.space.Space.{Space}
use Rattle.invalidations.specs.declared.request.Target.{Target}
use Rattle.invalidations.specs.Spaces.{whole_command, IsForWhole}
use Rattle.invalidations.specs.Hints.{ttl_in, words_with, AreWordsOf}
use Rattle.invalidations.specs.Laws.{WholeSpacesAreCovered}

pub whole_covered : WholeSpacesAreCovered
whole_covered (Stage1 vmid (Some asid)) page (S1 v (Of a) at span) is own =
    let outer = and_parts (v == vmid) (a == asid && holds (block at span) page) is in
    and_from (v == vmid) (a == asid) outer.0 (and_parts (a == asid) (holds (block at span) page) outer.1).0
whole_covered (Stage1 vmid (Some asid)) page (S1 v Global at span) is own = absurd (let wrong : false ≡ true = own refl in cc)
whole_covered (Stage1 vmid None) page (S1 v scope at span) is own = (and_parts (v == vmid) (holds (block at span) page) is).0
whole_covered (Hypervisor (Some asid)) page (El2 (Of a) at span) is own = (and_parts (a == asid) (holds (block at span) page) is).0
whole_covered (Hypervisor (Some asid)) page (El2 Global at span) is own = absurd (let wrong : false ≡ true = own refl in cc)
whole_covered (Hypervisor None) page (El2 scope at span) is own = refl
whole_covered (Stage2 vmid) page (S2 v at span) is own = (and_parts (v == vmid) (holds (block at span) page) is).0
whole_covered (Stage1 vmid (Some asid)) page other is own = absurd cc
whole_covered (Stage1 vmid None) page other is own = absurd cc
whole_covered (Hypervisor (Some asid)) page other is own = absurd cc
whole_covered (Hypervisor None) page other is own = absurd cc
whole_covered (Stage2 vmid) page other is own = absurd cc

-- ---- Its words.

record SaysNoAddress (raw : Raw) : Type 0 where
  low : field raw.lo 31 8 ≡ 0
  high : field raw.hi 63 0 ≡ 0
  no_sync : is_sync raw ≡ false

says : (space : Space) (raw : Raw) → Spells raw (whole_command space) → HasFreeBitsZero raw (whole_command space) → SaysNoAddress raw
says (Stage1 vmid (Some asid)) raw spells free = record { low = free.0.0; high = free.1.0; no_sync = ap (λ n. n == 0x46) spells.0.0 }
says (Stage1 vmid None) raw spells free = record { low = free.0.0; high = free.1.0; no_sync = ap (λ n. n == 0x46) spells.0.0 }
says (Hypervisor (Some asid)) raw spells free = record { low = (let low = free.0.0 in omega (arith, low)); high = free.1.0; no_sync = ap (λ n. n == 0x46) spells.0.0 }
says (Hypervisor None) raw spells free = record { low = (let low = free.0.0 in omega (arith, low)); high = free.1.0; no_sync = ap (λ n. n == 0x46) spells.0 }
says (Stage2 vmid) raw spells free = record { low = free.0.0; high = free.1.0; no_sync = ap (λ n. n == 0x46) spells.0.0 }

no_ttl : (target : Target) (space : Space) → ttl_in target (whole_command space) ≡ 0
no_ttl target (Stage1 vmid (Some asid)) = refl
no_ttl target (Stage1 vmid None) = refl
no_ttl target (Hypervisor (Some asid)) = refl
no_ttl target (Hypervisor None) = refl
no_ttl target (Stage2 vmid) = refl

-- without TTL the words are those that are encoded
without_ttl : (command : Command) (ttl : ℕ) → ttl ≡ 0 → encoding command ≡ words_with ttl command
without_ttl command ttl none =
    ap (λ hi. record { lo = (encoding command).lo; hi = hi }) (let same : (encoding command).hi ≡ (encoding command).hi + ttl * 2 ^ 8 = omega (arith, none) in same)

pub whole_words : (target : Target) (command : Command) (raw : Raw) → IsForWhole command → Spells raw command → HasFreeBitsZero raw command
    → decoding raw ≡ Ok command → raw ≡ encoding command → AreWordsOf command (ttl_in target command) raw
whole_words target command raw (space, is) spells free decoded encoded =
    let said = says space raw (subst (Spells raw) is spells) (subst (HasFreeBitsZero raw) is free) in
    let none : ttl_in target command ≡ 0 = ap (ttl_in target) is ∙ no_ttl target space in
    record {
      spelled = spells;
      decoded = decoded;
      hint = (let high = said.high in omega (arith, high, none));
      unreserved = record {
        without = λ tg. ((let high = said.high in omega (arith, high)), (let low = said.low in omega (arith, low)), (let low = said.low in omega (arith, low)));
        beside = λ some. absurd (let high = said.high in omega (arith, high, some));
      };
      reserved = encoded ∙ without_ttl command (ttl_in target command) none;
      no_sync = said.no_sync;
    }
