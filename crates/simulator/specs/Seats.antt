-- What a sender does: look, reserve, publish, close and ask.
use Rattle.std.specs.Prelude.{ℕ, Bool, List, ◌∷◌, ⊤, Option, Result}
use Rattle.ring.specs.Runs.{Raw, Control, Sender, Close, Ask, Run, world, control}
use Rattle.ring.specs.declared.sender.cause.Cause.{Cause}
use Rattle.ring.specs.sender.Reservations.{reserved_number}
use Rattle.simulator.specs.declared.queue.reserved.Reserved.{Reserved}
use Rattle.simulator.specs.queue.{looked_by, try_to_reserve, published, sent_by}
use Rattle.simulator.specs.State.{State, Answered, mine}

abbrev pub with_run : State → Run → State
with_run state run = record state { run = run }

abbrev pub looked : ℕ → State → Answered Control
looked s state = record {
  answer = control state.ring.geometry (world state.run);
  state = with_run state (looked_by (Sender s) state.ring.geometry state.run);
}

abbrev pub closed : ℕ → State → Answered ⊤
closed s state = record { answer = tt; state = with_run state ((Sender s, Close) ∷ state.run) }

abbrev pub asked : ℕ → State → Answered ℕ
asked s state =
    let number = (world state.run).acknowledged s in
    record { answer = number; state = with_run state ((Sender s, Ask number) ∷ state.run) }

-- a batch of this body, closed with a CMD_SYNC or not
abbrev pub reserved : ℕ → List Raw → Bool → State → Answered (Result Reserved Cause)
reserved s body closes state =
    let tried = try_to_reserve state.ring s body closes state.run in
    record { answer = tried.answer; state = with_run state tried.run }

-- the batch that is reserved
abbrev pub published_by : ℕ → State → Answered (Option ℕ)
published_by s state = record { answer = reserved_number (mine s state); state = with_run state (published state.ring.geometry s state.run) }

-- a batch of this body, which is published at once
abbrev pub sent : ℕ → List Raw → Bool → State → Answered (Result (Option ℕ) Cause)
sent s body closes state = let done = sent_by state.ring s body closes state.run in record { answer = done.answer; state = with_run state done.run }
