-- The slots of the commands that wait.
use Rattle.std.specs.Prelude.{◌≡◌, ◌↔◌, ◌<◌, ℕ, ◌+◌, true}
use Rattle.qindex.specs.Positions.{place, size}
use Rattle.image.specs.declared.queue.Queue.{Queue}
use Rattle.image.specs.Queues.{IsShown, waiting_of}
use Rattle.image.specs.Slots.{is_waiting}

-- It is the place of one of the positions from CONS on, as many as wait.
abbrev pub HasPosition : Queue → ℕ → Type 0
HasPosition queue slot = (steps : ℕ) × (steps < waiting_of queue) × (place queue.cons.geometry (queue.cons.number + steps) ≡ slot)

-- What is shown of all slots agrees with the list of those that wait.
abbrev pub SlotsWaitByPosition : Type 0
SlotsWaitByPosition =
    (queue : Queue) → IsShown queue → (slot : ℕ) → slot < size queue.cons.geometry → (is_waiting queue slot ≡ true) ↔ HasPosition queue slot
