-- The rule of a running ring: its words stand as after a run, and each seat has the trails of its
-- participants, with the run as each of them knew it at its newest step.
use Rattle.std.specs.Prelude.{◌≡◌, ◌⊎◌, ℕ, zero, suc, ◌<◌, ◌≤◌, ◌^◌, List, [], ◌∷◌, ◌++◌, ⊤}
use mathlib.Core.Option.{some}
use lib.ListN.{get_elem?}
use Rattle.atomic_table.specs.Table.{State, Me}
use Rattle.ringcore.specs.Limits.{most_senders}
use Rattle.ring.specs.Runs.{Who, Consumer, Sender, Trail, Run, trail_of, Ring, IsOne, OnlyOf}
use Rattle.ringcore.specs.memory.Shadow.{AreAfter}
use Rattle.ring.specs.declared.table.rule.Participant.{Participant}
use Rattle.ring.specs.table.Operations.{AreMadeBy}

-- the state of the table; it has no slots
abbrev pub TableState : Type 0
TableState = State (Unit {0}) (List Participant)

-- what a seat holds: its participants, and no slots
abbrev pub Holding : Type 0
Holding = Me (Unit {0}) (List Participant)

abbrev pub participant : Ring → Who → Trail → Run → Participant
participant ring who trail history = record { ring = ring; who = who; trail = trail; history = history }

-- the limits of what a ring is made with, besides its geometry
pub record IsWithinLimits (ring : Ring) : Type 0 where
  pub senders : ring.senders ≤ most_senders
  pub batches : ring.max_batches < 2 ^ 32

-- The run is an older one followed by steps of others than this participant.
pub record WentOn (who : Who) (older run : Run) : Type 0 where
  pub newer : Run
  pub run_is : run ≡ newer ++ older
  pub of_others : trail_of who newer ≡ []

-- The run has exactly these events of this participant, and since the newest of them it only went on.
pub record IsIn (ring : Ring) (run : Run) (p : Participant) : Type 0 where
  pub ring_is : p.ring ≡ ring
  pub known : IsOne ring.senders p.who
  pub trail : trail_of p.who run ≡ p.trail
  pub went_on : WentOn p.who p.history run

abbrev pub HasTrails : Ring → Run → List Participant → Type 0
HasTrails ring run [] = ⊤
HasTrails ring run (p ∷ ps) = IsIn ring run p × HasTrails ring run ps

-- each of them sits at this seat
abbrev pub SitAt : (Who → ℕ) → ℕ → List Participant → Type 0
SitAt seat i [] = ⊤
SitAt seat i (p ∷ ps) = (seat p.who ≡ i) × SitAt seat i ps

-- P holds of one of these.
abbrev pub Any : (Participant → Type 0) → List Participant → Type 0
Any P [] = ⊥
Any P (p ∷ ps) = P p ⊎ Any P ps

-- P holds of one who sits at some seat.
pub record Among (P : Participant → Type 0) (views : List (List Participant)) : Type 0 where
  pub place : ℕ
  pub there : List Participant
  pub at : get_elem? views place ≡ some there
  pub one : Any P there

-- The rule: there is a run whose operations, and no others, made the words what they are, and whose events of
-- each participant that sits at a seat are that participant's trail. It is the run as the one with the newest
-- event knew it then, and what each other knew at its own newest event is an older part of it, after which
-- that other took no step. So the run grows only at its end, and what is in it stays.
pub record RuleHolds (ring : Ring) (s : TableState) : Type 0 where
  pub limits : IsWithinLimits ring
  pub run : Run
  pub after : AreAfter ring run s.words
  pub made : AreMadeBy ring run s.words
  pub only : OnlyOf ring.senders run
  pub seat : Who → ℕ
  pub seated : (i : ℕ) (v : List Participant) → get_elem? s.views i ≡ some v → SitAt seat i v × HasTrails ring run v
  pub newest : Among (λ p. p.history ≡ run) s.views
  pub everyone : (who : Who) → IsOne ring.senders who → Among (λ p. p.who ≡ who) s.views

-- the senders from the k-th on, and the consumer, before their first steps
abbrev pub participants_from : Ring → ℕ → ℕ → List Participant
participants_from ring k zero = participant ring Consumer [] [] ∷ []
participants_from ring k (suc more) = participant ring (Sender k) [] [] ∷ participants_from ring (suc k) more

abbrev pub first_participants : Ring → List Participant
first_participants ring = participants_from ring 0 ring.senders

-- ---- what a seat knows

-- The ring stands with these words as after this run, in which one of its participants has this trail.
pub record Stands (ring : Ring) (who : Who) (trail : Trail) (run : Run) (words : List ℕ) : Type 0 where
  pub limits : IsWithinLimits ring
  pub after : AreAfter ring run words
  pub only : OnlyOf ring.senders run
  pub known : IsOne ring.senders who
  pub trail_is : trail_of who run ≡ trail

-- A trail stands in some run of the ring.
pub record StandsInARun (ring : Ring) (who : Who) (trail : Trail) : Type 0 where
  pub run : Run
  pub words : List ℕ
  pub stands : Stands ring who trail run words

-- of a seat's first participant
abbrev pub ring_of : List Participant → Ring
ring_of [] = record { geometry = 0; senders = 0; max_batches = 0; flags = 64 }
ring_of (p ∷ ps) = p.ring

abbrev pub who_of : List Participant → Who
who_of [] = Consumer
who_of (p ∷ ps) = p.who

abbrev pub trail_of_first : List Participant → Trail
trail_of_first [] = []
trail_of_first (p ∷ ps) = p.trail

abbrev pub history_of_first : List Participant → Run
history_of_first [] = []
history_of_first (p ∷ ps) = p.history

-- The seat has only this participant, whose trail is that of the run that it knows.
pub record IsAlone (me : Holding) (who : Who) : Type 0 where
  pub me_is : me ≡ (participant (ring_of me.0) who (trail_of_first me.0) (history_of_first me.0) ∷ [], [])
  pub words : List ℕ
  pub stands : Stands (ring_of me.0) who (trail_of_first me.0) (history_of_first me.0) words
