-- The commands of stream 5, and what is covered.
use Rattle.std.proofs.Common.{◌≡◌, ℕ, zero, suc, ◌<◌, true, false, [], ◌∷◌, ◌++◌, Some, None, slice_index_or, refl, ap, ◌∙◌, arith}
use Rattle.cmdcodec.specs.declared.command.Command.TheVariants.{CfgiSte}
use Rattle.cmdcodec.specs.declared.command.Command.{Command}
use Rattle.cmdcodec.specs.Words.{encoding}
use Rattle.batch.specs.Detaching.{detach_commands}
use Rattle.caches.specs.Covers.{covers}
use Rattle.caches.specs.declared.tag.Tag.TheVariants.{Ste, Cd, Atc}
use Rattle.ring.specs.sender.Senders.{SenderValue}
use Rattle.ring.specs.sender.GoingOn.{WentOn}
use Rattle.detachment.specs.Commands.{Stream, configuration_commands, endpoint_commands, configuration_words, endpoint_words}
use Rattle.detachment.specs.Laws.{IsCovered, ConfigurationIsCovered, EndpointIsCovered, BothDetach, NothingIsGoingOn, GoingOnAddsUp}
use Rattle.guests_tests.proofs.Streams.{stream, of_bare}

-- ---- the words

pub configuration_of_five : configuration_words (stream 5) ≡ record { lo = 0x500000003; hi = 1 } ∷ record { lo = 0x500000006; hi = 0 } ∷ []
unfolding encoding
configuration_of_five = refl

pub entry_alone_without_stage_1 : configuration_words (of_bare 5) ≡ record { lo = 0x500000003; hi = 1 } ∷ []
unfolding encoding
entry_alone_without_stage_1 = refl

pub endpoint_of_five : endpoint_words (stream 5) ≡ record { lo = 0x500000040; hi = 52 } ∷ []
unfolding encoding
endpoint_of_five = refl

-- ---- what they cover

pub entry_is_covered : IsCovered (configuration_commands (stream 5)) (Ste 5)
entry_is_covered = (0, CfgiSte 5 true, omega arith, refl, refl)

-- at a place in the list, as `Any` has it
not_at : (place : ℕ) (command : Command) → place < 2 → slice_index_or (configuration_commands (stream 5)) place command ≡ command → ¬ (covers command (Ste 6) ≡ true)
not_at zero command less is covered = let no : false ≡ true = ap (λ (c : Command). covers c (Ste 6)) is ∙ covered in absurd (cc)
not_at (suc zero) command less is covered = let no : false ≡ true = ap (λ (c : Command). covers c (Ste 6)) is ∙ covered in absurd (cc)
not_at (suc (suc place)) command less is covered = omega (arith, less)

pub other_entry_is_not_covered : ¬ IsCovered (configuration_commands (stream 5)) (Ste 6)
other_entry_is_not_covered covered = not_at covered.0 covered.1 covered.2 covered.3 covered.4

pub other_entry_is_not : ConfigurationIsCovered → ¬ IsCovered (configuration_commands (stream 5)) (Ste 6)
other_entry_is_not law covered = let no : false ≡ true = (law (stream 5) (Ste 6)).0 covered in absurd (cc)

pub each_descriptor_is_covered : ConfigurationIsCovered → IsCovered (configuration_commands (stream 5)) (Cd 5 9)
each_descriptor_is_covered law = (law (stream 5) (Cd 5 9)).1 refl

pub other_endpoint_is_not : EndpointIsCovered → ¬ IsCovered (endpoint_commands (stream 5)) (Atc 6 None 0 0)
other_endpoint_is_not law covered = let no : false ≡ true = (law (stream 5) (Atc 6 None 0 0) (omega arith)).0 covered in absurd (cc)

pub last_page_of_a_substream_is_covered : EndpointIsCovered → IsCovered (endpoint_commands (stream 5)) (Atc 5 (Some 7) 0xfffffffffffff 0)
last_page_of_a_substream_is_covered law = (law (stream 5) (Atc 5 (Some 7) 0xfffffffffffff 0) (omega arith)).1 refl

pub descriptors_are_covered_without_stage_1 : ConfigurationIsCovered → IsCovered (configuration_commands (of_bare 5)) (Cd 5 9)
descriptors_are_covered_without_stage_1 law = (law (of_bare 5) (Cd 5 9)).1 refl

pub both_at_once : BothDetach → (s : Stream) → s.smmu.stage_1 ≡ true → detach_commands s.sid ≡ configuration_commands s ++ endpoint_commands s
both_at_once law = law

-- ---- a sender that goes on

pub after_nothing : NothingIsGoingOn → (s : SenderValue) → WentOn s s
after_nothing law = law

pub after_two : GoingOnAddsUp → (s t u : SenderValue) → WentOn s t → WentOn t u → WentOn s u
after_two law = law
