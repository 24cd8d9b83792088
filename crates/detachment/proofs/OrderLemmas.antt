-- What a sender is told of what it reserved, and what it reserves behind that.
use Rattle.std.proofs.Common.{◌≡◌, ℕ, List, ◌∷◌, ◌++◌, map, Some, None, true, false, sym, ap, ◌∙◌, subst, append_assoc, arith}
use Rattle.cmdcodec.specs.declared.raw.Raw.{Raw}
use Rattle.ring.specs.Runs.{Sender, Won, Run, taken_as, world, joined, advanced, Begins, EveryRun, NumberedInOrder, TellsWhatIsAdvanced, TellsTheOutcomes}
use Rattle.ring.specs.table.Histories.{IsHistory, AreApplied}
use Rattle.ring.specs.sender.Senders.{SenderValue, ReceiptValue}
use Rattle.ring.specs.sender.Reservations.{ReservationValue, reserved_number}
use Rattle.ringcore.specs.machine.StepAnswers.{next_number}
use Rattle.ring.specs.sender.GoingOn.{WentOn}
use Rattle.ring.specs.sender.Sending.{IsSent}
use Rattle.detachment.specs.Commands.{Stream, has_ats, endpoint_words}
use Rattle.detachment.specs.Order.{HasReserved, HasApplied, IsConfiguredIn, IsLeavingIn}
use Rattle.detachment.specs.Values.{ConfigurationValue, EndpointValue, configuration_value, detached_value, IsOwn, IsConfiguring, IsConfigured, IsLeaving, IsDetached}
use Rattle.detachment.specs.Changes.{ChangeValue, IsChanging, IsChanged}
use Rattle.ring.proofs.SenderLemmas.GoingOn.{on_again}
use Rattle.detachment.proofs.GoingOn.{Continues, continues_again, by_one_step, by_tries}
use Rattle.detachment.proofs.LegalWords.{AreLegal, are_legal, configuration_is_legal, endpoint_is_legal, applied_from}
use Rattle.detachment.proofs.OneBatch.{from_one, words_of_completed}

-- ---- what is reserved stays so

still_reserved : (s number : ℕ) (words : List Raw) (earlier run newer : Run) → HasReserved s words number earlier run → HasReserved s words number earlier (newer ++ run)
still_reserved s number words earlier run newer reserved = record {
  later = newer ++ reserved.later;
  run_is = ap (λ (r : Run). newer ++ r) reserved.run_is ∙ sym (append_assoc newer reserved.later ((Sender s, Won words (Some number)) ∷ earlier));
}

reserved_on : (number : ℕ) (words : List Raw) (earlier : Run) (s t : SenderValue) → WentOn s t → HasReserved s.number words number earlier s.history → HasReserved t.number words number earlier t.history
reserved_on number words earlier s t on reserved =
    let longer = still_reserved s.number number words earlier s.history on.grew.newer reserved in
    subst (λ (n : ℕ). HasReserved n words number earlier t.history) (sym on.number_is)
    (subst (λ (r : Run). HasReserved s.number words number earlier r) (sym on.grew.run_is) longer)

-- ---- what is told

-- the laws of every run that this takes
pub record Laws : Type 0 where
  pub numbered : EveryRun NumberedInOrder
  pub advanced_is : EveryRun TellsWhatIsAdvanced
  pub outcomes : EveryRun TellsTheOutcomes

module _ (laws : Laws) (t : SenderValue) (is : IsHistory t.ring.made_with (Sender t.number) t.trail t.history) where
  all_taken : (world t.history).taken ≡ map taken_as (advanced t.history)
  all_taken =
      laws.outcomes t.ring.made_with t.history is.stands.after.run_is
      ∙ ap (map taken_as) (sym (laws.advanced_is t.ring.made_with t.history is.stands.after.run_is))

  told : (number : ℕ) (words : List Raw) → AreLegal words → (earlier : Run) → HasReserved t.number words number earlier t.history → AreApplied t.history t.number number → HasApplied t.number words number t.history
  told number words legal earlier reserved applied =
      let numbered = laws.numbered t.ring.made_with t.history is.stands.after.run_is in
      let some = from_one t.number number words reserved.later earlier t.history reserved.run_is numbered in
      let sync = applied number some (omega arith) in
      let words_are = words_of_completed t.number number words reserved.later earlier t.history reserved.run_is numbered sync.completed in
      record {
        sync = sync;
        words_are = words_are;
        each = applied_from (joined sync.completed.ahead) words t.history legal all_taken
            (subst (λ (ws : List Raw). Begins (joined sync.completed.ahead ++ ws) (advanced t.history)) words_are sync.completed.all_ahead);
      }

  module _ (old : SenderValue) (asked : WentOn old t) where
    own_applied : (number : ℕ) → AreApplied t.history old.number number → AreApplied t.history t.number number
    own_applied number applied = subst (λ (n : ℕ). AreApplied t.history n number) (sym asked.number_is) applied

    module _ (c : ConfigurationValue) (on : WentOn c.sender old) (keeps : IsConfiguring c) (applied : AreApplied t.history old.number c.configuration.number) where
      its_own : IsOwn c.configuration t
      its_own = keeps.own ∙ sym (on_again on asked).number_is

      its_order : IsConfiguredIn c.stream t.number c.configuration.number t.history
      its_order =
          told _ _ (configuration_is_legal c.stream) keeps.order.earlier (reserved_on _ _ _ c.sender t (on_again on asked) keeps.order.reserved)
          (own_applied c.configuration.number applied)

      pub told_configured : has_ats c.stream ≡ true → IsConfigured (configuration_value c.stream c.configuration t)
      told_configured has = record { own = its_own; cached = has; order = its_order }

      pub told_uncached : has_ats c.stream ≡ false → IsDetached (detached_value c.stream c.configuration None t)
      told_uncached lacks = record { own = its_own; order = record { uncached = lacks; configured = its_order } }

    pub told_detached : (e : EndpointValue) → WentOn e.sender old → IsLeaving e → AreApplied t.history old.number e.endpoint.number
        → IsDetached (detached_value e.stream e.configuration (Some e.endpoint) t)
    told_detached e on keeps applied =
        let since = on_again on asked in
        let reserved = reserved_on _ _ _ e.sender t since keeps.order.reserved in
        record {
          own = keeps.own ∙ sym since.number_is;
          order = record {
            behind = record {
              cached = keeps.order.cached;
              between = keeps.order.between;
              earlier = keeps.order.earlier;
              configured = subst (λ (n : ℕ). IsConfiguredIn e.stream n e.configuration.number keeps.order.earlier) (sym since.number_is) keeps.order.configured;
              reserved = reserved;
            };
            applied = told _ _ (endpoint_is_legal e.stream) _ reserved (own_applied e.endpoint.number applied);
          };
        }

    pub told_changed : (c : ChangeValue) → WentOn c.sender old → IsChanging c → AreApplied t.history old.number c.sync.number → IsChanged (record c { sender = t })
    told_changed c on keeps applied =
        let since = on_again on asked in record {
          own = keeps.own ∙ sym since.number_is;
          applied = told _ _ (are_legal _ _ keeps.legal) keeps.earlier (reserved_on _ _ _ c.sender t since keeps.reserved) (own_applied c.sync.number applied);
        }

-- ---- what is sent behind that

module _ (words : List Raw) (tries : ℕ) (s t : SenderValue) (receipt : ReceiptValue) (sent : IsSent words tries s t receipt) where
  won_by : sent.reservation.sender ≡ sent.reserved.reserved.after.number
  won_by = ap (λ (r : ReservationValue). r.sender) sent.reserved.reserved.won.trail_is

  its_number : next_number sent.reserved.reserved.after.trail true ≡ Some receipt.number
  its_number = sym (ap (λ (r : ReservationValue). reserved_number r.trail) sent.reserved.reserved.won.trail_is) ∙ sent.receipt_is.number_is

  its_sender : t.number ≡ sent.reserved.reserved.after.number
  its_sender = ap (λ (u : SenderValue). u.number) sent.sender_is ∙ won_by

  -- the run right before it was reserved
  goes_on : Continues s.history sent.reserved.reserved.won.grew.before
  goes_on =
      continues_again _ _ _ (by_tries words true sent.reserved.refusals s sent.reserved.after sent.reserved.tried)
      (continues_again _ _ _ (by_one_step _ _ _ _ sent.reserved.reserved.looked.grew)
      record { newer = sent.reserved.reserved.won.grew.went_on.newer; run_is = sent.reserved.reserved.won.grew.went_on.run_is })

  reserved_behind : HasReserved t.number words receipt.number (goes_on.newer ++ s.history) t.history
  reserved_behind = record {
    later = sent.grew.newer;
    run_is =
        sent.grew.run_is ∙ ap (λ (r : Run). sent.grew.newer ++ r)
        (sent.reserved.reserved.won.grew.run_is
        ∙ (λ i. let l : Run = (Sender (sym its_sender i), Won words (its_number i)) ∷ goes_on.run_is i in l));
  }

  pub sent_reserved : (wanted : List Raw) → words ≡ wanted → (earlier : Run) × HasReserved t.number wanted receipt.number earlier t.history
  sent_reserved wanted is =
      (goes_on.newer ++ s.history, subst (λ (ws : List Raw). HasReserved t.number ws receipt.number (goes_on.newer ++ s.history) t.history) is reserved_behind)

  pub sent_behind : (told : SenderValue) (stream : Stream) (configuration : ℕ) → words ≡ endpoint_words stream → has_ats stream ≡ true → WentOn told s → WentOn s t
      → IsConfiguredIn stream told.number configuration told.history → IsLeavingIn stream t.number configuration receipt.number t.history
  sent_behind told stream configuration is cached on sending configured =
      let before : goes_on.newer ++ s.history ≡ (goes_on.newer ++ on.grew.newer) ++ told.history =
      ap (λ (r : Run). goes_on.newer ++ r) on.grew.run_is ∙ sym (append_assoc goes_on.newer on.grew.newer told.history) in
      record {
        cached = cached;
        between = goes_on.newer ++ on.grew.newer;
        earlier = told.history;
        configured = subst (λ (n : ℕ). IsConfiguredIn stream n configuration told.history) (sym (sending.number_is ∙ on.number_is)) configured;
        reserved =
            subst (λ (ws : List Raw). HasReserved t.number ws receipt.number ((goes_on.newer ++ on.grew.newer) ++ told.history) t.history) is
            (subst (λ (r : Run). HasReserved t.number words receipt.number r t.history) before reserved_behind);
      }
