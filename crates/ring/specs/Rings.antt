-- What contracts see of a ring.
use Rattle.std.specs.Prelude.{◌≡◌}
use Rattle.atomic_table.specs.Seated.{TableId}
use Rattle.qindex.specs.Indexes.{IsGeometry}
use Rattle.ring.specs.Runs.{Ring}
use Rattle.ringcore.specs.memory.Layout.{words_of}
use Rattle.ring.specs.table.Rule.{IsWithinLimits}

-- which ring it is, and what it was made with
pub record RingValue : Type 0 where
  pub table : TableId
  pub made_with : Ring

pub record IsRingValue (table : TableId) (key made_with : Ring) : Type 0 where
  pub key_is : key ≡ made_with
  pub geometry_is : IsGeometry made_with.geometry
  pub limits : IsWithinLimits made_with
  pub words : table.words ≡ words_of made_with.geometry made_with.senders
  pub slots : table.slots ≡ 0
