-- The sender steps that reserve, write and flip nothing: a machine that took one stands for the longer run.
use Rattle.std.proofs.Common.{◌≡◌, ℕ, ◌<◌, ◌∷◌, Some, None, refl, sym, ap, ◌∙◌, subst, length-set}
use Rattle.std.proofs.lemmas.Bool.{lt-ltb}
use Rattle.std.specs.Prelude.{Option, nat_lt, bit_or, slice_get, slice_set}
use Rattle.qindex.specs.declared.control.Control.{Control}
use Rattle.qindex.specs.ControlWord.{close_mask}
use Rattle.ringcore.specs.declared.world.event.Who.TheVariants.{Sender}
use Rattle.ringcore.specs.declared.world.event.Event.TheVariants as event
use Rattle.ringcore.specs.declared.machine.step.Step.TheVariants.{Look, Close}
use Rattle.ringcore.specs.declared.machine.step.Seen.TheVariants.{Word}
use Rattle.ringcore.specs.declared.machine.step_fault.StepFault.{StepFault}
use Rattle.ringcore.specs.world.Trails.{Run}
use Rattle.ringcore.specs.world.World.{world, control}
use Rattle.ringcore.specs.memory.Layout.{control_word}
use Rattle.ringcore.specs.memory.StepLaws.{Always, LooksByALoad, ClosesByAnOr}
use Rattle.ringcore.specs.memory.WordStores.{WordsValue, word_at, with_word}
use Rattle.ringcore.specs.world.Allowed.{Ring}
use Rattle.ringcore.specs.memory.Shadow.{AreAfter}
use Rattle.ringcore.specs.machine.SenderViews.{SenderValue, Knows}
use Rattle.ringcore.specs.machine.Faults.{unless_missing}
use Rattle.ringcore.specs.machine.Core.{CoreValue, ring_with, ring_of, StandsAfter, IsMachine, IsTaken}
use Rattle.ringcore.proofs.MachineLemmas.SenderKnows.{closed}
use Rattle.ringcore.proofs.MachineLemmas.Standing.{sender_stands, stays_machine, all_know, all_left}

-- the machine with other words, or other views
abbrev pub with_words : CoreValue → WordsValue → CoreValue
with_words core words = record core { words = words }

abbrev pub with_view : CoreValue → ℕ → SenderValue → CoreValue
with_view core s view = record core { senders = slice_set core.senders s view }

-- A sender that exists has no such fault.
pub there_is : (s senders : ℕ) (later : Option StepFault) → s < senders → unless_missing (nat_lt s senders) later ≡ later
there_is s senders later low = ap (λ b. unless_missing b later) (lt-ltb s senders low)

-- ---- close

module _ (law : Always ClosesByAnOr) (old : CoreValue) (words : WordsValue) (s : ℕ) (low : s < old.words.senders)
    (is : words ≡ with_word old.words control_word (bit_or (word_at old.words control_word) close_mask)) where
  closed_ring : ring_with words.geometry words.senders ≡ ring_of old
  closed_ring = ap (λ (w : WordsValue). ring_with w.geometry w.senders) is

  closed_stands : (run : Run) → StandsAfter old run → StandsAfter (with_words old words) ((Sender s, event.Close) ∷ run)
  closed_stands run stands =
      sender_stands old run s event.Close stands low words closed_ring
      (subst (λ (w : WordsValue). AreAfter (ring_of old) ((Sender s, event.Close) ∷ run) w.words) (sym is) (law (ring_of old) run old.words.words stands.words_are s))
      old.senders (all_left run s event.Close old.senders (λ view. closed run s view) stands.senders_know)

  pub closed_machine : IsMachine old → IsMachine (with_words old words)
  closed_machine was = stays_machine old (with_words old words) was closed_ring refl refl ((Sender s, event.Close) ∷ was.run) (closed_stands was.run was.stands)

  pub close_taken : (found : Control) → ((run : Run) → StandsAfter (with_words old words) run → found ≡ control words.geometry (world run))
      → IsTaken old (with_words old words) (Close s) (Word found) × (ring_of (with_words old words) ≡ ring_of old)
  close_taken found finds = (
    λ run stands.
        let after = closed_stands run stands in record {
          no_fault = there_is s old.words.senders None low;
          answer = ap Word (finds ((Sender s, event.Close) ∷ run) after ∙ ap (λ (r : Ring). control r.geometry (world ((Sender s, event.Close) ∷ run))) closed_ring);
          stands = after;
        },
    closed_ring,
  )

-- ---- look

module _ (law : Always LooksByALoad) (old : CoreValue) (s : ℕ) (low : s < old.words.senders) (found : Control)
    (finds : (run : Run) → StandsAfter old run → found ≡ control old.words.geometry (world run))
    (before view : SenderValue) (there : slice_get old.senders s ≡ Some before)
    (looks : (run : Run) (t : ℕ) → Knows run t before → Knows ((Sender t, event.Look found) ∷ run) t view) where
  looked_stands : (run : Run) → StandsAfter old run → StandsAfter (with_view old s view) ((Sender s, event.Look (control old.words.geometry (world run))) ∷ run)
  looked_stands run stands =
      let are = law (ring_of old) run old.words.words stands.words_are (Sender s) in
      sender_stands old run s (event.Look (control old.words.geometry (world run))) stands low old.words refl
      (subst (λ c. AreAfter (ring_of old) ((Sender s, event.Look c) ∷ run) old.words.words) are.run_is.1 are)
      (slice_set old.senders s view)
      (all_know run s (event.Look (control old.words.geometry (world run))) old.senders view stands.senders_know
      (subst (λ c. Knows ((Sender s, event.Look c) ∷ run) s view) (finds run stands) (looks run s (stands.senders_know s before there))))

  pub looked_machine : IsMachine old → IsMachine (with_view old s view)
  looked_machine was =
      stays_machine old (with_view old s view) was refl (length-set old.senders s view) refl
      ((Sender s, event.Look (control old.words.geometry (world was.run))) ∷ was.run) (looked_stands was.run was.stands)

  pub look_taken : IsTaken old (with_view old s view) (Look (Some s)) (Word found) × (ring_of (with_view old s view) ≡ ring_of old)
  look_taken = (
    λ run stands. record {
      no_fault = there_is s old.words.senders None low;
      answer = ap Word (finds run stands);
      stands = looked_stands run stands;
    },
    refl,
  )
