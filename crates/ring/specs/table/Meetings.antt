-- Seats that are joined for a load, by which all their participants learn the run as it is then.
use Rattle.std.specs.Prelude.{◌≡◌, ℕ, List, [], ◌∷◌, slice_index}
use Rattle.atomic_table.specs.Table.{Step}
use Rattle.ring.specs.Runs.{Who, Run, Ring, IsOne, OnlyOf}
use Rattle.ringcore.specs.memory.Shadow.{AreAfter}
use Rattle.ring.specs.declared.table.rule.Participant.{Participant}
use Rattle.ring.specs.table.Rule.{Holding, IsWithinLimits, HasTrails, Any, ring_of}

-- each of them knows this run
abbrev pub all_knowing : Run → List Participant → List Participant
all_knowing run [] = []
all_knowing run (p ∷ ps) = record p { history = run } ∷ all_knowing run ps

-- The words stand as after this run. It has the trails of all of these, and what each of them knew is an
-- older part of it, after which that one took no step.
pub record HasAll (ring : Ring) (all : List Participant) (run : Run) (words : List ℕ) : Type 0 where
  pub limits : IsWithinLimits ring
  pub after : AreAfter ring run words
  pub only : OnlyOf ring.senders run
  pub has : HasTrails ring run all

-- Everyone of the ring is among these.
abbrev pub AllSit : Ring → List Participant → Type 0
AllSit ring all = (who : Who) → IsOne ring.senders who → Any (λ p. p.who ≡ who) all

-- All participants of a seat came to know such a run. If all of the ring's sit there, one of them knew it
-- before.
abbrev pub HaveMet : Holding → Holding → Type 0
HaveMet me now =
    (run : Run) × (words : List ℕ) × HasAll (ring_of me.0) me.0 run words × (now ≡ (all_knowing run me.0, me.1))
    × (AllSit (ring_of me.0) me.0 → Any (λ p. p.history ≡ run) me.0)

-- what the load tells
abbrev pub has_met : Step (Unit {0}) → Holding → ℕ → Holding → Type 0
has_met step me word now = HaveMet me now

-- and what it tells with the word that it found, which is the word that was there
abbrev pub has_found : Step (Unit {0}) → Holding → ℕ → Holding → Type 0
has_found step me word now = (met : HaveMet me now) × (word ≡ slice_index met.1 step.word)
