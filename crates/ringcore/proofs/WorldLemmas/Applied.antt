-- The closing syncs of all acknowledged numbers are taken as applied.
use Rattle.std.proofs.Common.{◌≡◌, ℕ, ◌∷◌, ◌++◌, map, length, Option, Some, None, refl, sym, ap, ◌∙◌, subst, arith}
use Rattle.std.specs.Prelude.{slice_get, is_none, if◌then◌else◌}
use Rattle.cmdcodec.specs.declared.raw.Raw.{Raw}
use Rattle.cmdcodec.specs.declared.ill.Ill.{Ill}
use Rattle.cmdcodec.specs.Fields.{field}
use Rattle.cmdcodec.specs.Legality.{first_ill}
use Rattle.cmdcodec.specs.Words.{encoding}
use Rattle.cmdcodec.specs.Opcodes.{opcode_of, opcode_named}
use Rattle.ringcore.specs.declared.world.event.Who.TheVariants.{Sender}
use Rattle.ringcore.specs.declared.world.event.Event.TheVariants.{Ask}
use Rattle.ringcore.specs.declared.world.event.Outcome.TheVariants.{Applied, Replaced}
use Rattle.ringcore.specs.world.Trails.{Run}
use Rattle.ringcore.specs.world.World.{sync_raw, taken_as}
use Rattle.ringcore.specs.world.Allowed.{Ring, IsRun}
use Rattle.ringcore.specs.world.Delivery.{joined, advanced, IsCompleted}
use Rattle.ringcore.specs.world.Laws.{EveryRun, IsApplied, AcknowledgedAreApplied, ToldOfAllUpTo}
use Rattle.ringcore.proofs.WorldLemmas.Lists.{get_map}
use Rattle.ringcore.proofs.WorldLemmas.Acknowledged.{acknowledged}
use Rattle.ringcore.proofs.WorldLemmas.Completed.{earlier_run, of_taken}
use Rattle.ringcore.proofs.WorldLemmas.ConsumerTrail.{outcomes, advanced_is}

-- A closing sync is legal.
legal_sync : (raw : Raw) → opcode_of raw ≡ 0x46 → field raw.lo 13 12 ≡ 1 → first_ill raw ≡ None
unfolding opcode_named
legal_sync raw opcode signal = rw (opcode, signal) refl

sync_is_legal : (s number : ℕ) → first_ill (sync_raw s number) ≡ None
unfolding encoding
sync_is_legal s number = legal_sync (sync_raw s number) (omega arith) (omega arith)

applied : (ring : Ring) (run : Run) → IsRun ring run → (s number : ℕ) → IsCompleted run s number → IsApplied run s number
applied ring run ok s number is =
    let place : ℕ = length (joined is.ahead ++ is.body) in record {
      completed = is;
      applied =
          ap (λ l. slice_get l place) (outcomes ring run ok ∙ ap (map taken_as) (sym (advanced_is ring run ok)))
          ∙ get_map taken_as (advanced run) place (sync_raw s number) is.sync
          ∙ ap (λ (ill : Option Ill). Some record { raw = sync_raw s number; outcome = if is_none ill then Applied else Replaced }) (sync_is_legal s number);
    }

pub acknowledged_are_applied : EveryRun AcknowledgedAreApplied
acknowledged_are_applied ring run ok s number some up =
    applied ring run ok s number (of_taken ring run ok s number (acknowledged ring run ok s number some up))

pub told_of_all : EveryRun ToldOfAllUpTo
told_of_all ring run ok later earlier s told number is some up =
    let ask = earlier_run ring later ((Sender s, Ask told) ∷ earlier) (subst (IsRun ring) is ok) in
    let found = ask.1 in
    acknowledged_are_applied ring earlier ask.0 s number some (omega (arith, found, up))
