-- Invalidating without a command that is taken, and what that would remove.
use Rattle.std.specs.Prelude.{◌≡◌, ℕ, List, Result, Ok, Err}
use Rattle.cmdcodec.specs.declared.command.Command.{Command}
use Rattle.cmdcodec.specs.declared.ill.Ill.{Ill}
use Rattle.caches.specs.Covers.{covers}
use Rattle.smmuq_c.specs.declared.object.Object.{Object}
use Rattle.smmuq_c.specs.declared.object.Object.TheVariants.{Unit as UnitOf, Engine as EngineOf}
use Rattle.smmuq_c.specs.declared.status.Status.{Status}
use Rattle.smmuq_c.specs.declared.status.Status.TheVariants.{Illegal, WrongHandle}
use Rattle.smmuq_c.specs.Calls.{OfAnyUnit}
use Rattle.smmuq_c.specs.Evicting.{EvictsPassing}
use Rattle.smmuq_c.specs.Lists.{HasToldCovered}
use Rattle.smmuq_c.specs.declared.listing.EntryWords.{EntryWords}

-- A unit or an engine stays, for this reason; an object of another kind is refused whatever it is.
abbrev pub IsRefusedFor : Status → Object → Object → Status → Type 0
IsRefusedFor why (UnitOf q) new status = (new ≡ UnitOf q) × (status ≡ why)
IsRefusedFor why (EngineOf e) new status = (new ≡ EngineOf e) × (status ≡ why)
IsRefusedFor why other new status = (new ≡ other) × (status ≡ WrongHandle)

-- The entries that legal words cover are gone, and their number is told.
abbrev pub Invalidates : Result Command Ill → ℕ → Object → Object → Status → Type 0
Invalidates (Ok command) told = EvictsPassing (covers command) told
Invalidates (Err ill) told = IsRefusedFor (Illegal ill)

-- The entries that legal words cover are told, and stay.
abbrev pub TellsCovered : Result Command Ill → List EntryWords → List EntryWords → ℕ → Object → Object → Status → Type 0
TellsCovered (Ok command) before after told = OfAnyUnit (HasToldCovered command before after told)
TellsCovered (Err ill) before after told = IsRefusedFor (Illegal ill)
