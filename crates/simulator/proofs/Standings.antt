-- What a simulator stands for after a call, and what its unit and what is left of its consumer keep together.
use Rattle.std.proofs.Common.{rules, ◌≡◌, refl, ap, sym, subst, ◌∙◌, arith, ℕ, zero, suc, ◌+◌, ◌-◌, Bool, true, false, not, cond, List, [], ◌∷◌, ◌++◌, length, Option, Some, None, Result, Ok, Err}
use Rattle.ring.specs.Runs.{Raw, Consumer, Sender, Trail, Run, trail_of, Taken, world, Ring}
use Rattle.ring.specs.declared.sender.cause.Cause.{Cause}
use Rattle.ring.specs.Rings.{RingValue}
use Rattle.ring.specs.table.Keeping.{run_by}
use Rattle.ring.specs.sender.Publishing.{writes_from, flips_from}
use Rattle.ring.specs.Keepers.{KeeperValue, IdleConsumerValue, own_consumer}
use Rattle.ring.specs.consumer.Consumers.{ConsumerValue}
use Rattle.ring.specs.consumer.Completing.{taken_of}
use Rattle.caches.specs.Stored.{Stored}
use Rattle.caches.specs.Held.{History}
use Rattle.engine.specs.Settled.{IsSettled}
use Rattle.engine.specs.Counting.{taken, is_applied, AreCountsOf}
use Rattle.engine.specs.Units.{UnitValue, new_unit}
use Rattle.engine.specs.Engines.{AreTogether}
use Rattle.simulator.specs.declared.queue.reserved.Reserved.{Reserved}
use Rattle.simulator.specs.queue.{QueueValue, LeavesConsumer, try_to_reserve, published, handed_over, sent_by}
use Rattle.simulator.specs.State.{State, Answered, counts_of, unit_of}
use Rattle.simulator.specs.{with_run, StandFor, IsThere, IsSimulator, Does}
use Rattle.simulator.proofs.Trying.{by_way}

-- ---- a state, by its keeper

-- A state with the keeper's ring and run: if he stands for it that is the state itself.
abbrev pub own : KeeperValue → State → State
own keeper state = record state { ring = keeper.ring.made_with; run = keeper.run }

pub of_own : (keeper : KeeperValue) (unit : UnitValue) (P : State → Type 0) → ((state : State) → unit ≡ unit_of (own keeper state) → P (own keeper state)) → (state : State) → StandFor keeper unit state → P state
of_own keeper unit P so state s =
    let is : own keeper state ≡ state = (λ k. record state { ring = s.ring k; run = s.run k }) in subst P is (so state (s.unit_is ∙ ap unit_of (sym is)))

-- ---- what is counted

-- All that is taken is applied or replaced.
pub all_counted : (list : List Taken) (history : History) → taken (counts_of list history) ≡ length list
all_counted [] history = refl
all_counted (t ∷ list) history = one_more (is_applied t.outcome) _ _ _ (all_counted list history)
  where
    one_more : (b : Bool) (m n length : ℕ) → m + n ≡ length → (cond b 1 0 + m) + (cond (not b) 1 0 + n) ≡ suc length
    one_more true m n length e = omega (arith, e)
    one_more false m n length e = omega (arith, e)

-- how many a command removed
pub removed_is : (removed before after : ℕ) → removed + after ≡ before → removed ≡ before - after
removed_is removed before after e = omega (arith, e)

-- ---- nothing more is taken
abbrev pub TakesNone : Run → Run → Type 0
TakesNone old new = (world new).taken ≡ (world old).taken

pub try_takes_none : (ring : Ring) (s : ℕ) (body : List Raw) (closes : Bool) (run : Run) → TakesNone run (try_to_reserve ring s body closes run).run
try_takes_none ring s body closes run = by_way ring s body closes run (λ t. TakesNone run t.run) (λ cause. refl) (λ cause. refl) refl

writes_take_none : (s slot count : ℕ) (run : Run) → TakesNone run (run_by (Sender s) (writes_from slot count) ++ run)
writes_take_none s slot zero run = refl
writes_take_none s slot (suc k) run = writes_take_none s slot k run

flips_take_none : (s slot count : ℕ) (more : Trail) (run : Run) → TakesNone run (run_by (Sender s) more ++ run) → TakesNone run (run_by (Sender s) (flips_from slot count ++ more) ++ run)
flips_take_none s slot zero more run none = none
flips_take_none s slot (suc k) more run none = none

pub published_takes_none : (geometry s : ℕ) (run : Run) → TakesNone run (published geometry s run)
unfolding published
published_takes_none geometry s run = search (flips_take_none, writes_take_none)

pub sent_takes_none : (ring : Ring) (s : ℕ) (body : List Raw) (closes : Bool) (run : Run) → TakesNone run (sent_by ring s body closes run).run
sent_takes_none ring s body closes run = by_answer (try_to_reserve ring s body closes run).answer ∙ try_takes_none ring s body closes run
  where
    by_answer : (answer : Result Reserved Cause) → TakesNone (try_to_reserve ring s body closes run).run (handed_over ring s answer (try_to_reserve ring s body closes run).run).run
    by_answer (Ok told) = published_takes_none ring.geometry s (try_to_reserve ring s body closes run).run
    by_answer (Err cause) = refl

-- ---- a sender's call

-- For a state with the keeper's own run it tells this answer and leaves this run, in which nothing more is taken.
pub by_run : {Answer : Type 0} (queue new : QueueValue) (unit : UnitValue) (then : State → Answered Answer) {answer told : Answer} {run : Run} → LeavesConsumer queue.keeper new.keeper
    → answer ≡ told → new.keeper.run ≡ run → TakesNone queue.keeper.run run → ((state : State) → then (own queue.keeper state) ≡ record { answer = told; state = with_run (own queue.keeper state) run })
    → Does (record { queue = queue; unit = unit }) (record { queue = new; unit = unit }) answer then
by_run {Answer} queue new unit then {answer} leaves answered ran none is = of_own queue.keeper unit (λ state. (answer ≡ (then state).answer) × StandFor new.keeper unit (then state).state)
    (λ state unit_is. subst (λ (a : Answered Answer). (answer ≡ a.answer) × StandFor new.keeper unit a.state) (sym (is state)) (
      answered,
      record {
        ring = ap (λ (r : RingValue). r.made_with) leaves.ring_is;
        run = ran;
        unit_is = unit_is ∙ sym (ap (λ (list : List Taken). record (unit_of (own queue.keeper state)) { counts = counts_of list state.history }) none);
      },
    ))

-- ---- unit and consumer

-- The consumer's trail alone decides that they are together.
pub still_together : (d e : ConsumerValue UnitValue) (unit : UnitValue) → d.trail ≡ e.trail → AreTogether d unit → AreTogether e unit
still_together d e unit same is =
    let there = subst (λ (t : Trail). AreTogether (record e { trail = t }) unit) same (search rules) in search rules

-- before anything happened
pub together_first : (keeper : KeeperValue) (unit : UnitValue) (caches : Stored) → keeper.run ≡ [] → unit ≡ new_unit caches → IsSettled unit.caches.entries [] → AreTogether (own_consumer None keeper) unit
together_first keeper unit caches run is settled =
    let t : taken_of (trail_of Consumer keeper.run) ≡ [] = ap (λ (r : Run). taken_of (trail_of Consumer r)) run in
    record {
      many = ap (λ (u : UnitValue). taken u.counts) is ∙ sym (ap (λ (l : List Taken). length l) t);
      counted = subst (λ (l : List Taken). AreCountsOf l unit.counts) (sym t) (subst (λ (u : UnitValue). AreCountsOf [] u.counts) (sym is) (record { applied = refl; replaced = refl; syncs = refl }));
      settled = subst (λ (l : List Taken). IsSettled unit.caches.entries l) (sym t) settled;
      seen = λ raw next. let no = ap (λ (u : UnitValue). u.stop.next) is in absurd (cc);
    }

there_after : (old new : KeeperValue) (consumer : Option (IdleConsumerValue UnitValue)) → LeavesConsumer old new → IsThere old consumer → IsThere new consumer
there_after old new None leaves is = is
there_after old new (Some idle) leaves is = leaves.left idle.head idle.taken is

pub after_call : (queue new : QueueValue) (consumer : Option (IdleConsumerValue UnitValue)) (unit : UnitValue) {run : Run} → LeavesConsumer queue.keeper new.keeper → new.keeper.run ≡ run
    → TakesNone queue.keeper.run run → IsSimulator queue consumer unit → IsSimulator new consumer unit
after_call queue new consumer unit {run} leaves ran none is = record {
  there = there_after queue.keeper new.keeper consumer leaves is.there;
  together = still_together (own_consumer None queue.keeper) (own_consumer None new.keeper) unit (sym leaves.trail_is) is.together;
  state = with_run is.state run;
  stands = record {
    ring = ap (λ (r : RingValue). r.made_with) leaves.ring_is ∙ is.stands.ring;
    run = ran;
    unit_is = is.stands.unit_is ∙ ap (λ (list : List Taken). record (unit_of is.state) { counts = counts_of list is.state.history }) (ap (λ (r : Run). (world r).taken) (sym is.stands.run) ∙ sym none);
  };
}
