-- Commands in the order in which they were settled, the newest first, and what that says of a batch.
use Rattle.std.specs.Prelude.{◌≡◌, ℕ, suc, Bool, true, false, cond, ◌==◌, ◌&&◌, List, [], ◌∷◌, Option, None, Some, ⊤}
use Rattle.batch_outcomes.specs.declared.settled.Settled.{Settled}
use Rattle.batch_outcomes.specs.declared.settled.Settled.TheVariants.{Command, Sync}
use Rattle.batch_outcomes.specs.declared.settled.Log.{Log, Nothing, Next'}

abbrev pub settled_in : Log → List Settled
settled_in Nothing = []
settled_in (Next' settled marker earlier) = settled ∷ settled_in earlier

-- how many of these weren't carried out, back to the newest CMD_SYNC
abbrev pub lost_behind : List Settled → ℕ
lost_behind [] = 0
lost_behind (Command true ∷ older) = lost_behind older
lost_behind (Command false ∷ older) = suc (lost_behind older)
lost_behind (Sync sender number ∷ older) = 0

-- How many of the commands between this CMD_SYNC of a sender and the one ahead of it weren't carried out; None if it isn't
-- settled. They are its batch's, and those of batches without a CMD_SYNC that stand ahead of that.
abbrev pub losses_of : ℕ → ℕ → List Settled → Option ℕ
losses_of sender number [] = None
losses_of sender number (Command carried_out ∷ older) = losses_of sender number older
losses_of sender number (Sync s k ∷ older) =
    cond (s == sender && k == number) (Some (lost_behind older)) (losses_of sender number older)

-- the number of a sender's newest CMD_SYNC, 0 if there is none
abbrev pub last_of : ℕ → List Settled → ℕ
last_of sender [] = 0
last_of sender (Command carried_out ∷ older) = last_of sender older
last_of sender (Sync s k ∷ older) = cond (s == sender) k (last_of sender older)

-- The CMD_SYNCs of each sender have the numbers 1, 2, 3 and so on.
abbrev pub AreNumbered : List Settled → Type 0
AreNumbered [] = ⊤
AreNumbered (Command carried_out ∷ older) = AreNumbered older
AreNumbered (Sync s k ∷ older) = (k ≡ suc (last_of s older)) × AreNumbered older
