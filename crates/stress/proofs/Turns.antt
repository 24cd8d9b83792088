-- An engine that goes on, and on.
use Rattle.std.proofs.Common.{◌≡◌, ℕ, zero, suc, ◌+◌, ◌≤◌, Bool, true, false, List, refl, sym, ◌∙◌, subst, arith}
use Rattle.cmdcodec.specs.declared.raw.Raw.{Raw}
use Rattle.ringcore.specs.declared.world.event.Who.TheVariants.{Consumer}
use Rattle.ring.specs.Rings.{RingValue}
use Rattle.ring.specs.table.Histories.{Grew}
use Rattle.ring.specs.declared.sender.cause.Cause.{Cause}
use Rattle.ring.specs.sender.Senders.{SenderValue}
use Rattle.ring.specs.sender.Reserving.{IsRefused}
use Rattle.std.specs.Prelude.{Result, Ok, Err, OnErr}
use Rattle.engine.specs.declared.answer.RunAnswer.{RunAnswer}
use Rattle.engine.specs.Units.{OnlyRemoves}
use Rattle.engine.specs.Engines.{EngineValue, HasRun}
use Rattle.stress.specs.declared.engine_turns.Found.{Found}
use Rattle.stress.specs.declared.engine_turns.Found.TheVariants.{Empty, Drained}
use Rattle.stress.specs.declared.attempt.Attempt.{Attempt}
use Rattle.stress.specs.declared.attempt.Attempt.TheVariants.{Refused, Sent, SentBare}
use Rattle.stress.specs.Plans.{PlanValue, body, closes}
use Rattle.stress.specs.Workers.{WorkerValue, HasTriedNext, is_sent}
use Rattle.stress.specs.EngineTurns.{most_commands, IsTurn, HasTurned, IsAny, GoesOn, IsStarted, HasDrained, IsRefusedAfterADrain, AreRefused, HasGivenUp, undrained, refused, open_still}

-- ---- turns

pub one_more_turn : (answers : RunAnswer → Type 0) (n : ℕ) (a b c : EngineValue) → HasTurned answers n a b → IsTurn answers b c → HasTurned answers (n + 1) a c
one_more_turn answers n a b c so_far turn = subst (λ (k : ℕ). HasTurned answers k a c) (let e : suc n ≡ n + 1 = omega arith in e) (b, so_far, turn)

both : (answers : RunAnswer → Type 0) (m n : ℕ) (a b c : EngineValue) → HasTurned answers m a b → HasTurned answers n b c → HasTurned answers (m + n) a c
both answers m zero a b c first next =
    subst (λ (k : ℕ). HasTurned answers k a c) (let e : m ≡ m + zero = omega arith in e) (subst (λ (x : EngineValue). HasTurned answers m a x) (sym next) first)
both answers m (suc n) a b c first next =
    subst (λ (k : ℕ). HasTurned answers k a c) (let e : suc (m + n) ≡ m + suc n = omega arith in e) (next.0, both answers m n a b next.0 first next.1, next.2)

-- ---- what goes on

pub still : (engine : EngineValue) → GoesOn 0 engine engine
still engine = record { turns = 0; enough = omega arith; turned = refl; ring = refl; removes = record { held = λ tag entry at. at; counted = refl } }

pub on_and_on : (m n : ℕ) (a b c : EngineValue) → GoesOn m a b → GoesOn n b c → GoesOn (m + n) a c
on_and_on m n a b c first next = record {
  turns = first.turns + next.turns;
  enough = let e = first.enough in let f = next.enough in omega (arith, e, f);
  turned = both IsAny first.turns next.turns a b c first.turned next.turned;
  ring = next.ring ∙ first.ring;
  removes = record {
    held = λ tag entry at. first.removes.held tag entry (next.removes.held tag entry at);
    counted = next.removes.counted ∙ first.removes.counted;
  };
}

pub at_least : (n m : ℕ) (a b : EngineValue) → m ≤ n → GoesOn n a b → GoesOn m a b
at_least n m a b less on = record {
  turns = on.turns;
  enough = let e = on.enough in omega (arith, e, less);
  turned = on.turned;
  ring = on.ring;
  removes = on.removes;
}

-- one more turn
pub one_step : (n : ℕ) (a b c : EngineValue) (answer : RunAnswer) → GoesOn n a b → HasRun most_commands b c answer → c.consumer.ring ≡ b.consumer.ring → OnlyRemoves b.unit c.unit
    → Grew Consumer b.consumer.trail c.consumer.trail b.consumer.history c.consumer.history → GoesOn (n + 1) a c
one_step n a b c answer first ran ring removes grew = on_and_on n 1 a b c first (record {
  turns = 1;
  enough = omega arith;
  turned = (b, refl, record { answer = answer; ran = ran; is = tt; grew = grew });
  ring = ring;
  removes = removes;
})

pub still_started : (senders n m : ℕ) (ring : RingValue) (old new : EngineValue) → IsStarted senders n ring old → GoesOn m old new → IsStarted senders n ring new
still_started senders n m ring old new started more = record {
  before = started.before;
  filled = started.filled;
  goes_on = at_least (n + m) n started.before new (omega arith) (on_and_on n m started.before old new started.goes_on more);
  ring_is = more.ring ∙ started.ring_is;
}

-- ---- what is given up

on_to : (n : ℕ) (a b c : EngineValue) → GoesOn n a b → GoesOn 0 b c → GoesOn 0 a c
on_to n a b c first next = at_least (n + 0) 0 a c (omega arith) (on_and_on n 0 a b c first next)

pub later_given_up : (plan : PlanValue) (n : ℕ) (a b c : EngineValue) → GoesOn n a b → HasGivenUp plan b c → HasGivenUp plan a c
later_given_up plan n a b c first (undrained before on busy) = undrained before (on_to n a b before first on) busy
later_given_up plan n a b c first (refused before on tries) = refused before (on_to n a b before first on) tries
later_given_up plan n a b c first (open_still before senders on closed how) = open_still before senders (on_to n a b before first on) closed how

pub one_more_refused : (slots : ℕ) (body : List Raw) (closes : Bool) (n : ℕ) (s t u : SenderValue) (a b c : EngineValue) → AreRefused slots body closes n s t a b
    → IsRefusedAfterADrain slots body closes t u b c → AreRefused slots body closes (n + 1) s u a c
one_more_refused slots body closes n s t u a b c so_far once =
    subst (λ (k : ℕ). AreRefused slots body closes k s u a c) (let e : suc n ≡ n + 1 = omega arith in e) (t, b, so_far, once)

-- A try that didn't send was refused.
pub refused_try : (w v : WorkerValue) (attempt : Attempt) → is_sent attempt ≡ false → HasTriedNext w v attempt
    → (cause : Cause) × IsRefused (body w.plan w.sender.number (suc w.sent)) (closes w.plan (suc w.sent)) w.sender cause v.sender
refused_try w v Refused unsent tried = tried.1
refused_try w v (Sent receipt) unsent tried = let bad : true ≡ false = unsent in cc
refused_try w v SentBare unsent tried = let bad : true ≡ false = unsent in cc

-- What isn't closed is open.
pub left_open : (slots : ℕ) (how : Found) (a b : EngineValue) → (how ≡ Drained → ⊥) → HasDrained slots how a b → HasDrained slots Empty a b
left_open slots Empty a b never is = is
left_open slots Drained a b never is = absurd (never refl)

pub when_err : {A E : Type 0} (r : Result A E) (P : Type 0) → P → OnErr r P
when_err (Ok v) P p = tt
when_err (Err e) P p = p
