-- What tapes hold.
use Rattle.std.specs.Prelude.{ℕ, List, [], ◌∷◌, ◌++◌}
use Rattle.cmdcodec.specs.declared.raw.Raw.{Raw}
use Rattle.hardware_queue.specs.declared.log.Log.{Log, Nothing, Next'}
use Rattle.hardware_queue.specs.declared.reading.Reading.{Reading}
use Rattle.hardware_queue.specs.declared.log.Numbers.{Numbers, NoNumber, Number'}
use Rattle.hardware_queue.specs.declared.log.Readings.{Readings, NoReading, Read'}

-- the oldest first
abbrev pub commands_of : Log → List Raw
commands_of Nothing = []
commands_of (Next' raw marker earlier) = commands_of earlier ++ raw ∷ []

-- the newest first
abbrev pub numbers_of : Numbers → List ℕ
numbers_of NoNumber = []
numbers_of (Number' number marker earlier) = number ∷ numbers_of earlier

abbrev pub readings_of : Readings → List Reading
readings_of NoReading = []
readings_of (Read' reading marker earlier) = reading ∷ readings_of earlier
