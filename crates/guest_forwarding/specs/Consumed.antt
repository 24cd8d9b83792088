-- A guest's commands that were consumed.
use Rattle.std.specs.Prelude.{List, map}
use Rattle.std.specs.List.{flat_map}
use Rattle.ring.specs.Runs.{Raw, Run}
use Rattle.guest_commands.specs.Mappings.{Mapping}
use Rattle.guest_commands.specs.Conversions.{words_for}

-- one of them: its words, what the guest's numbers stood for on the host, and the run that the sender knew before
pub record Consumed : Type 0 where
  pub mapping : Mapping
  pub raw : Raw
  pub known : Run

abbrev pub consumed_by : Mapping → Run → List Raw → List Consumed
consumed_by mapping known raws = map (λ raw. record { mapping = mapping; raw = raw; known = known }) raws

-- the host's commands for these of the guest, in its order
abbrev pub host_commands : Mapping → List Raw → List Raw
host_commands mapping raws = flat_map (words_for mapping) raws
