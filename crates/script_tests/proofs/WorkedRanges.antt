-- Worked rows of the definitions: what words mean, and what a line is.
use Rattle.std.proofs.Common.{◌≡◌, Some, None, Ok, Err, true, codes, refl}
use Rattle.cmdcodec.specs.declared.command.Command.TheVariants.{TlbiNhVa}
use Rattle.cmdcodec.specs.declared.reach.Granule.TheVariants.{Kib4, Kib16}
use Rattle.cmdcodec.specs.declared.reach.Reach.TheVariants.{Range}
use Rattle.cmdcodec.specs.Words.{encoding}
use Rattle.script.specs.Words.{number_in, number_of}
use Rattle.range_hints.specs.declared.ttl.Ttl.TheVariants.{Level3}
use Rattle.range_hints.specs.HintedWords.{hinted_words}
use Rattle.invalidations.specs.declared.entries.Level.TheVariants.{Two}
use Rattle.invalidations.specs.declared.space.Space.TheVariants as spaces
use Rattle.ranges.specs.declared.asked.Regime.TheVariants.{Stage1, Hypervisor, Stage2}
use Rattle.ranges.specs.declared.fault.RangeFault.TheVariants.{BadVmid, BadLength}
use Rattle.ranges.specs.Meanings.{bytes_with, granule_named, id_named, level_of, space_with}

pub the_last_of_16_bits : id_named (codes "65535") ≡ Some 65535
unfolding number_of number_in
the_last_of_16_bits = refl

pub one_more : id_named (codes "0x10000") ≡ None
unfolding number_of number_in
one_more = refl

pub every_address_space : space_with Stage1 (Some 1) (Some None) ≡ Ok (spaces.Stage1 1 None)
every_address_space = refl

pub the_hypervisor_has_no_vmid : space_with Hypervisor None (Some (Some 3)) ≡ Ok (spaces.Hypervisor (Some 3))
the_hypervisor_has_no_vmid = refl

pub a_vmid_is_judged_first : space_with Stage1 None None ≡ Err BadVmid
a_vmid_is_judged_first = refl

pub stage_2_has_no_asid : space_with Stage2 (Some 7) None ≡ Ok (spaces.Stage2 7)
stage_2_has_no_asid = refl

pub a_length_that_is_none : bytes_with (Some 16) None ≡ Err BadLength
a_length_that_is_none = refl

pub a_granule : granule_named (codes "16K") ≡ Some Kib16
a_granule = refl

pub no_granule : granule_named (codes "4k") ≡ None
no_granule = refl

pub a_level : level_of (Some 2) ≡ Some Two
a_level = refl

-- TG 1, TTL 3, Leaf 1, SCALE 1: 0x0002000100100012 and 0x10701
pub words_with_a_hint : hinted_words (TlbiNhVa 1 2 true 16 (Range Kib4 0 1)) Level3 ≡ record { lo = 0x0002000100100012; hi = 0x10701 }
unfolding encoding
words_with_a_hint = refl
