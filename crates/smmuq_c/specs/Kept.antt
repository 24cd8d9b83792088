-- What a call leaves as it was, of what it tells through a pointer.
use Rattle.std.specs.Prelude.{◌≡◌, ℕ, Bool, true, false, List, length, Option, None, Some}
use Rattle.engine.specs.declared.completion.Completion.{Completion}
use Rattle.engine.specs.Units.{UnitValue}
use Rattle.engine.specs.Engines.{IsSettledEngine}
use Rattle.smmuq_c.specs.Statuses.{number_of}
use Rattle.smmuq_c.specs.declared.object.Object.{Object}
use Rattle.smmuq_c.specs.declared.object.Object.TheVariants.{Unit as UnitOf, Engine as EngineOf, Consumer as ConsumerOf, Forwarder as ForwarderOf}
use Rattle.smmuq_c.specs.declared.status.Status.{Status}
use Rattle.smmuq_c.specs.declared.status.Status.TheVariants.{Done, ShortBuffer}

-- It is told with SMMUQ_OK alone.
abbrev pub IsKept : {X : Type 0} → Status → X → X → Type 0
IsKept {X} status old new = ¬ (status ≡ Done) → new ≡ old

-- It is told with SMMUQ_OK, and if the buffer is too short.
abbrev pub IsCountKept : {X : Type 0} → Status → X → X → Type 0
IsCountKept {X} status old new = ¬ (status ≡ Done) → ¬ (status ≡ ShortBuffer) → new ≡ old

-- ---- the same by the number that a call answers

abbrev pub KeptUnlessDone : {X : Type 0} → ℕ → X → X → Type 0
KeptUnlessDone {X} answer old new = ¬ (answer ≡ number_of Done) → new ≡ old

abbrev pub CountKept : {X : Type 0} → ℕ → X → X → Type 0
CountKept {X} answer old new = ¬ (answer ≡ number_of Done) → ¬ (answer ≡ number_of ShortBuffer) → new ≡ old

-- ---- by what the handle holds

abbrev pub is_unit : Object → Bool
is_unit (UnitOf u) = true
is_unit other = false

abbrev pub is_engine : Object → Bool
is_engine (EngineOf e) = true
is_engine other = false

-- a unit, or an engine, which has one
abbrev pub has_unit : Object → Bool
has_unit (UnitOf u) = true
has_unit (EngineOf e) = true
has_unit other = false

abbrev pub is_consumer : Object → Bool
is_consumer (ConsumerOf c) = true
is_consumer other = false

abbrev pub is_forwarder : Object → Bool
is_forwarder (ForwarderOf f) = true
is_forwarder other = false

-- It is told only if the handle holds an object of the call's kind.
abbrev pub KeptOfOthers : {X : Type 0} → (Object → Bool) → Option Object → X → X → Type 0
KeptOfOthers is_own None old new = new ≡ old
KeptOfOthers is_own (Some object) old new = is_own object ≡ false → new ≡ old

-- It is told only by an engine, and only if there is room to tell of a command.
abbrev pub KeptUnlessRun : {X : Type 0} → Option Object → List Completion → X → X → Type 0
KeptUnlessRun object buffer old new = KeptOfOthers is_engine object old new × (length buffer ≡ 0 → new ≡ old)

-- ---- the unit of a unit or an engine

abbrev pub unit_in : Object → Option UnitValue
unit_in (UnitOf q) = Some q.queue.unit
unit_in (EngineOf e) = Some e.unit
unit_in other = None

-- An engine is always settled for what it took.
abbrev pub IsSettledObject : Object → Type 0
IsSettledObject (EngineOf e) = IsSettledEngine e
IsSettledObject other = Unit {0}
