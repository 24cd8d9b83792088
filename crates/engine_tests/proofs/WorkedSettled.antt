-- What single commands that were taken have covered, and how they are counted: CFGI_STE of stream 5, a
-- CMD_SYNC, and words that were replaced, since no command has their opcode.
use Rattle.std.proofs.Common.{◌≡◌, true, false, List, [], ◌∷◌, None, refl, ap, ◌∙◌}
use Rattle.std.specs.Prelude.{Result, Ok}
use Rattle.cmdcodec.proofs.SpellingLemmas.{only}
use Rattle.cmdcodec.specs.declared.command.Command.{Command}
use Rattle.cmdcodec.specs.declared.command.Command.TheVariants.{CfgiSte}
use Rattle.cmdcodec.specs.declared.ill.Ill.{Ill}
use Rattle.cmdcodec.specs.declared.raw.Raw.{Raw}
use Rattle.cmdcodec.specs.Opcodes.{opcode_named, is_sync}
use Rattle.cmdcodec.specs.Words.{encoding, decoding}
use Rattle.ringcore.specs.declared.world.event.Event.TheVariants.{Look, Won}
use Rattle.ringcore.specs.declared.world.event.Outcome.TheVariants.{Applied, Replaced}
use Rattle.ringcore.specs.declared.world.event.Who.TheVariants.{Sender}
use Rattle.ringcore.specs.world.Allowed.{Ring}
use Rattle.ringcore.specs.world.Trails.{Run}
use Rattle.ringcore.specs.world.World.{Taken, taken_as, sync_raw, world, control}
use Rattle.caches.specs.declared.tag.Tag.TheVariants.{Ste}
use Rattle.caches.specs.Covers.{covers}
use Rattle.ring.specs.NewRings.{made_with}
use Rattle.ring.specs.Rings.{RingValue}
use Rattle.engine.specs.Counting.{CountsValue, AreCountsOf, how_many, is_applied, taken}
use Rattle.engine.specs.Engines.{control_after}
use Rattle.engine.specs.Settled.{HasCovered}
use Rattle.ring_tests.proofs.WorkedCases.{x, shows}

-- ---- What was covered.

pub a_command_of_the_stream_has_covered : HasCovered (taken_as x) (Ste 5)
unfolding opcode_named
a_command_of_the_stream_has_covered = record {
  applied = refl;
  command = CfgiSte 5 true;
  spelled = ((refl, refl, refl), refl);
  covered = refl;
}

pub a_replaced_command_has_covered_nothing :
    ¬ HasCovered (record { raw = x; outcome = Replaced }) (Ste 5)
a_replaced_command_has_covered_nothing has =
    let no : Replaced ≡ Applied = has.applied in absurd (cc)

abbrev well : Command → Result Command Ill
well command = Ok command

same_command : (a b : Command) → well a ≡ well b → a ≡ b
same_command a b is = cc

-- Its words spell no command of another stream.
pub a_command_of_another_stream_has_not : ¬ HasCovered (taken_as x) (Ste 6)
unfolding opcode_named decoding
a_command_of_another_stream_has_not has =
    let is : well (CfgiSte 5 true) ≡ well has.command = only x has.command has.spelled in
    let same : CfgiSte 5 true ≡ has.command = same_command (CfgiSte 5 true) has.command is in
    let no : false ≡ true = ap (λ (c : Command). covers c (Ste 6)) same ∙ has.covered in absurd (cc)

-- ---- What is counted.

abbrev unknown : Raw
unknown = record { lo = 0x07; hi = 0 }

abbrev list : List Taken
list = taken_as x ∷ taken_as (sync_raw 1 1) ∷ taken_as unknown ∷ []

module _ (counts : CountsValue) (are : AreCountsOf list counts) where
  pub two_are_applied : counts.applied ≡ 2
  unfolding encoding opcode_named
  two_are_applied = are.applied

  pub one_is_replaced : counts.replaced ≡ 1
  unfolding encoding opcode_named
  one_is_replaced = are.replaced

  pub one_is_a_sync : counts.syncs ≡ 1
  unfolding encoding opcode_named
  one_is_a_sync = are.syncs

pub what_passes_counts_once : how_many (λ t. is_sync t.raw) list ≡ 1
unfolding encoding
what_passes_counts_once = refl

pub nothing_taken_counts_nothing : how_many (λ t. true) [] ≡ 0
nothing_taken_counts_nothing = refl

pub what_is_applied_is_applied : is_applied Applied ≡ true
what_is_applied_is_applied = refl

pub what_is_replaced_is_not_applied : is_applied Replaced ≡ false
what_is_replaced_is_not_applied = refl

pub what_is_replaced_is_taken_too :
    taken (record { applied = 2; replaced = 1; syncs = 1; removed = 4 }) ≡ 3
what_is_replaced_is_taken_too = refl

-- ---- What a run leaves in the control word of a ring of two slots, where sender 0 has reserved.

abbrev reserved : Run
reserved = (Sender 0, Won (x ∷ []) None) ∷ (Sender 0, Look (shows 1 0 0 false)) ∷ []

module _ (ring : RingValue) (two_slots : ring.made_with ≡ made_with 1 2 4) where
  pub a_reservation_moves_prod : control_after ring reserved ≡ shows 1 1 0 false
  a_reservation_moves_prod = ap (λ (r : Ring). control r.geometry (world reserved)) two_slots
