-- What the definitions say of the MSI that completes a CMD_SYNC.
use Rattle.std.proofs.Common.{◌≡◌, inl, inr, ℕ, List, [], ◌∷◌, None, refl, arith}
use Rattle.cmdcodec.specs.declared.raw.Raw.{Raw}
use Rattle.hardware_queue.specs.Queues.{QueueValue, plain_sync}
use Rattle.hardware_queue.specs.declared.command_error.CommandError.TheVariants.{Illegal}
use Rattle.hardware_queue.specs.declared.state.QueueState.TheVariants.{Running, Stopped}
use Rattle.hardware_queue.specs.Supplying.{CanHave}
use Rattle.shadow_queue.specs.Messages.{message_of, IsToldUpTo, words_at, HasHeard, SaysNothing, IsUnheard, WentOnBehindRestart}

-- a queue of two slots that was shown so many CMD_SYNCs, of which so many are consumed
abbrev pub queue : List Raw → ℕ → QueueValue
queue shown consumed = record {
  geometry = 1;
  memory = plain_sync ∷ plain_sync ∷ [];
  shown = shown;
  consumed = consumed;
  stopped = None;
  gerrorn = 4;
  lost = [];
  repeated = [];
  read = [];
  supplied = record { words = record { gerror = 0; cons = 0 }; gerrorn = 0; before = []; again = 0 };
}

pub an_older_message_tells_nothing : ¬ IsToldUpTo 0 0 (queue (plain_sync ∷ []) 1)
an_older_message_tells_nothing told = let ahead = told.ahead in absurd (omega (arith, ahead))

pub a_message_ahead_of_prod_tells_nothing : ¬ IsToldUpTo 1 1 (queue [] 0)
a_message_ahead_of_prod_tells_nothing told = let shown = told.shown in absurd (omega (arith, shown))

pub another_count_is_not_told : ¬ IsToldUpTo 1 2 (queue (plain_sync ∷ plain_sync ∷ []) 0)
another_count_is_not_told told = let counted : 1 ≡ 2 = told.counted in absurd (omega (arith, counted))

pub a_message_stands_for_cons_without_an_error : words_at 3 (queue [] 0) ≡ record { gerror = 4; cons = 3 }
a_message_stands_for_cons_without_an_error = refl

pub a_message_tells_how_many_are_consumed : (r : QueueValue) → ¬ HasHeard 1 (queue (plain_sync ∷ []) 0) r 0
a_message_tells_how_many_are_consumed r heard = let counted : 0 ≡ 1 = heard.told.counted in absurd (omega (arith, counted))

pub a_message_that_registers_can_have_says_something : (q : QueueValue) → IsToldUpTo 1 1 q → CanHave (words_at 1 q) q → ¬ SaysNothing 1 q
a_message_that_registers_can_have_says_something q told can says_nothing = says_nothing 1 told can

-- ---- a restart

-- the same, once it was told to read so many again
abbrev pub restarted : ℕ → QueueValue → QueueValue
restarted again q = record q { supplied = record q.supplied { again = again } }

abbrev pub two_in_flight : QueueValue
two_in_flight = queue (plain_sync ∷ plain_sync ∷ []) 0

-- What the MSI of the first says is that of none behind the restart.
pub a_message_of_before_a_restart_is_another : ¬ IsToldUpTo 1 (message_of 1 two_in_flight) (restarted 2 two_in_flight)
a_message_of_before_a_restart_is_another told = let counted : 3 ≡ 1 = told.counted in absurd (omega (arith, counted))

pub a_message_behind_a_restart_is_told : IsToldUpTo 1 3 (restarted 2 two_in_flight)
a_message_behind_a_restart_is_told = record { counted = refl; ahead = omega arith; shown = omega arith }

-- It went on behind a restart.
pub a_queue_goes_on_behind_a_restart : WentOnBehindRestart 2 two_in_flight (restarted 2 two_in_flight)
a_queue_goes_on_behind_a_restart = record { more = 2; again = refl; restarted = omega arith; consumed = omega arith; recent = omega arith }

-- ---- a stop

pub no_message_is_heard_at_a_stop : IsUnheard 1 (record { queue = queue (plain_sync ∷ []) 0; state = Stopped Illegal })
no_message_is_heard_at_a_stop = inl (λ running. cc)

pub a_message_of_a_running_queue_is_heard : (q : QueueValue) → IsToldUpTo 1 1 q → CanHave (words_at 1 q) q → ¬ IsUnheard 1 (record { queue = q; state = Running })
a_message_of_a_running_queue_is_heard q told can unheard = elim unheard [
  | inl other ↦ other refl
  | inr says_nothing ↦ says_nothing 1 told can
]
