-- What a renewal of a ring does to its engine, and to the handles of its senders.
use Rattle.std.specs.Prelude.{◌≡◌, ◌≤◌, ◌⊎◌, ℕ, List, map, Some, None}
use Rattle.std.specs.FinMap as finite
use Rattle.ringcore.specs.RingFaults.{number_fault}
use Rattle.ringcore.specs.world.World.{world, control}
use Rattle.ring.specs.consumer.Consumers.{ConsumerValue}
use Rattle.ring.specs.consumer.Completing.{taken_of}
use Rattle.engine.specs.Settled.{IsSettled}
use Rattle.engine.specs.Units.{UnitValue}
use Rattle.engine.specs.Engines.{EngineValue}
use Rattle.renewal.specs.declared.fault.RenewalFault.{RenewalFault}
use Rattle.renewal.specs.declared.fault.RenewalFault.TheVariants as fault
use Rattle.renewal.specs.declared.queue.Sizes.{Sizes}
use Rattle.renewal.specs.declared.queue.Queue.{Queue}
use Rattle.renewal.specs.Queues.{EngineHasLooked, AreAtOnePlace, SawWaiting}
use Rattle.renewal.specs.Carried.{IsCarried}
use Rattle.caches.specs.Limits.{IsCapacity}
use Rattle.caches.specs.Held.{AreOwn}
use Rattle.renewal.specs.Renewing.{IsUnmade}
use Rattle.smmuq_c.specs.declared.status.Status.{Status}
use Rattle.smmuq_c.specs.declared.status.Status.TheVariants.{Done, Cache, Ring, Waiting, NoMemory}
use Rattle.smmuq_c.specs.declared.object.Object.{Object}
use Rattle.smmuq_c.specs.declared.object.Object.TheVariants.{Engine as EngineOf, Sender as SenderOf}
use Rattle.smmuq_c.specs.declared.handle.Handle.{Handle}
use Rattle.smmuq_c.specs.MakingRings.{IsRing, objects_in, sender_count}

abbrev pub renewal_status : RenewalFault → Status
renewal_status fault.Waiting = Waiting
renewal_status (fault.Ring why) = Ring why
renewal_status (fault.Caches why) = Cache why

-- an engine of this consumer that holds what a unit held, each entry born 0, and no others
abbrev pub GoesOnFrom : UnitValue → ℕ → ConsumerValue UnitValue → Object → Type 0
GoesOnFrom old capacity consumer object = (unit : UnitValue) × IsCarried capacity old unit × (object ≡ EngineOf (record { consumer = consumer; unit = unit }))

-- The old engine looked, and PROD and CONS were at one place; it was settled for all that it took. The new one goes on
-- from it in a new ring, whose senders are in these handles.
pub record IsRenewed (sizes : Sizes) (senders : List Handle) (old new : EngineValue) : Type 0 where
  pub last : EngineValue
  pub looked : EngineHasLooked old last
  pub none_waits : AreAtOnePlace (control old.consumer.ring.made_with.geometry (world last.consumer.history))
  pub settled : IsSettled old.unit.caches.entries (taken_of old.consumer.trail)
  pub own : AreOwn old.unit.caches.entries
  pub goes_on : IsRing (GoesOnFrom old.unit sizes.capacity) sizes.log2 sizes.max_batches senders (Some (EngineOf new))

-- why it isn't renewed if nothing waits
abbrev pub IsNotRenewed : Sizes → ℕ → EngineValue → Status → Type 0
IsNotRenewed sizes senders old (Ring why) = IsUnmade sizes senders old.unit.caches.entries (fault.Ring why)
IsNotRenewed sizes senders old (Cache why) = IsUnmade sizes senders old.unit.caches.entries (fault.Caches why)
IsNotRenewed sizes senders old NoMemory =
    IsCapacity sizes.capacity × (number_fault sizes.log2 senders sizes.max_batches ≡ None) × (finite.len old.unit.caches.entries ≤ sizes.capacity)
IsNotRenewed sizes senders old other = ⊥

-- The engine goes on with that of a new queue, whose senders are in the handles; or there is no memory, and all is as before.
abbrev pub HasGoneOn : Queue → List Handle → List Handle → EngineValue → EngineValue → Status → Type 0
HasGoneOn queue old_senders senders old new status =
    ((status ≡ Done) × (new ≡ queue.engine) × (objects_in senders ≡ map Some (map SenderOf queue.senders.items)))
    ⊎ ((status ≡ NoMemory) × (new ≡ old) × (senders ≡ old_senders))

-- It is renewed; or the engine has looked and goes on, and all handles are as before: a command waits, by that look, or
-- no new ring was made.
abbrev pub HasRenewed : Sizes → List Handle → List Handle → EngineValue → EngineValue → Status → Type 0
HasRenewed sizes old_senders senders old new Done = IsRenewed sizes senders old new
HasRenewed sizes old_senders senders old new Waiting = EngineHasLooked old new × SawWaiting new.consumer.trail × (senders ≡ old_senders)
HasRenewed sizes old_senders senders old new status =
    EngineHasLooked old new × (¬ SawWaiting new.consumer.trail) × IsNotRenewed sizes (sender_count old_senders) old status × (senders ≡ old_senders)
