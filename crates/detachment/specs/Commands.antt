-- The commands that take a stream away from its device, in two lists.
use Rattle.std.specs.Prelude.{ℕ, Bool, ◌&&◌, true, false, List, [], ◌∷◌, map, if◌then◌else◌}
use Rattle.cmdcodec.specs.declared.raw.Raw.{Raw}
use Rattle.cmdcodec.specs.declared.command.Command.{Command}
use Rattle.cmdcodec.specs.declared.command.Command.TheVariants.{CfgiSte, CfgiCdAll, AtcInv}
use Rattle.cmdcodec.specs.Words.{encoding}
use Rattle.smmu_features.specs.declared.smmu.Smmu.{Smmu}

-- A stream, what its SMMU has, and whether its endpoint has ATS.
pub record Stream : Type 0 where
  pub sid : ℕ
  pub smmu : Smmu
  pub ats : Bool

-- for its configuration: its stream table entry, with Leaf 1, and all its context descriptors, which there are only
-- with stage 1
abbrev pub configuration_commands : Stream → List Command
configuration_commands stream = CfgiSte stream.sid true ∷ (if stream.smmu.stage_1 then CfgiCdAll stream.sid ∷ [] else [])

-- Its endpoint caches translations: the SMMU has ATS, and so has the endpoint.
abbrev pub has_ats : Stream → Bool
has_ats stream = stream.smmu.ats && stream.ats

-- for its endpoint, if that caches translations: all 2^52 pages, of any substream and of none
abbrev pub endpoint_commands : Stream → List Command
endpoint_commands stream = AtcInv stream.sid false 0 false 52 0 ∷ []

-- their words
abbrev pub configuration_words : Stream → List Raw
configuration_words stream = map encoding (configuration_commands stream)

abbrev pub endpoint_words : Stream → List Raw
endpoint_words stream = map encoding (endpoint_commands stream)
