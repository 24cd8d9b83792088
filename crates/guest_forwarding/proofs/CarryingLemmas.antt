-- What is on its way stays so, and is carried out once the last batch is told complete.
use Rattle.std.proofs.Common.{◌≡◌, ℕ, suc, ◌≤◌, List, [], ◌∷◌, ◌++◌, map, All, Option, Some, None, sym, ap, ◌∙◌, subst, append_assoc, arith}
use Rattle.std.specs.Prelude.{IfSome}
use Rattle.std.proofs.lemmas.List.Elements.{All-head, All-tail}
use Rattle.cmdcodec.specs.declared.raw.Raw.{Raw}
use Rattle.cmdcodec.specs.Legality.{first_ill}
use Rattle.ring.specs.Runs.{Sender, Won, Run, numbers_given, taken_as, world, joined, advanced, Begins, EveryRun, NumberedInOrder, TellsWhatIsAdvanced, TellsTheOutcomes}
use Rattle.ring.specs.table.Histories.{IsHistory, AreApplied}
use Rattle.ring.specs.sender.Senders.{SenderValue, ReceiptValue}
use Rattle.ring.specs.sender.GoingOn.{WentOn}
use Rattle.ring.proofs.SenderLemmas.GoingOn.{on_again}
use Rattle.detachment.specs.Order.{HasReserved, HasApplied}
use Rattle.detachment.proofs.LegalWords.{AreLegal, applied_from}
use Rattle.detachment.proofs.OneBatch.{from_one, words_of_completed}
use Rattle.guest_forwarding.specs.Consumed.{Consumed}
use Rattle.guest_forwarding.specs.Values.{ForwardingValue, IsReceiptOfSender, IsForwarding, behind_batch}
use Rattle.guest_forwarding.specs.Carrying.{IsReservedBehind, IsUpTo, AreOnTheirWay, HasConsumed, AreCarriedOut, IsCarriedOut}
use Rattle.guest_forwarding.proofs.SendingLemmas.{given_on}
use Rattle.guest_forwarding.proofs.OnePlace.{is_late}

-- ---- what is reserved stays so

pub reserved_on : (known : Run) (words : List Raw) (number : ℕ) (s t : SenderValue) → WentOn s t → IsReservedBehind known words number s → IsReservedBehind known words number t
reserved_on known words number s t on is = record {
  between = is.between;
  reserved = record {
    later = on.grew.newer ++ is.reserved.later;
    run_is =
        on.grew.run_is ∙ ap (λ (r : Run). on.grew.newer ++ r) is.reserved.run_is
        ∙ sym (append_assoc on.grew.newer is.reserved.later ((Sender s.number, Won words (Some number)) ∷ (is.between ++ known)))
        ∙ (λ i. let r : Run = (on.grew.newer ++ is.reserved.later) ++ (Sender (sym on.number_is i), Won words (Some number)) ∷ (is.between ++ known) in r);
  };
}

pub stays : (f g : ForwardingValue) → WentOn f.sender g.sender → ((number : ℕ) → IsUpTo f.last number → IsUpTo g.last number)
    → (known : Run) (words : List Raw) → AreOnTheirWay f known words → AreOnTheirWay g known words
stays f g on later known [] is = tt
stays f g on later known (w ∷ ws) (number, up, reserved) = (number, later number up, reserved_on known (w ∷ ws) number f.sender g.sender on reserved)

pub consumed_on : (f g : ForwardingValue) → WentOn f.sender g.sender → ((number : ℕ) → IsUpTo f.last number → IsUpTo g.last number) → (c : Consumed) → HasConsumed f c → HasConsumed g c
consumed_on f g on later c is = record { words = is.words; legal = is.legal; reached = is.reached; sent = stays f g on later c.known is.words is.sent }

-- The number of the next batch is higher.
up_to_next : (s : SenderValue) (last : Option ReceiptValue) (receipt : ReceiptValue) → IfSome last (IsReceiptOfSender s) → suc (numbers_given s.trail) ≤ receipt.number
    → (number : ℕ) → IsUpTo last number → IsUpTo (Some receipt) number
up_to_next s None receipt own next number up = absurd up
up_to_next s (Some r) receipt own next number up = let given = own.given in omega arith

pub consumed_then : (f : ForwardingValue) (s t : SenderValue) (receipt : ReceiptValue) → IsForwarding f → WentOn f.sender s → WentOn s t → receipt.number ≡ suc (numbers_given s.trail)
    → (c : Consumed) → HasConsumed f c → HasConsumed (behind_batch receipt t) c
consumed_then f s t receipt own on sending next =
    consumed_on f (behind_batch receipt t) (on_again on sending) (up_to_next f.sender f.last receipt own (let more = given_on f.sender s on in omega arith))

-- ---- what is told

-- the laws of every run that this takes
pub record Laws : Type 0 where
  pub numbered : EveryRun NumberedInOrder
  pub advanced_is : EveryRun TellsWhatIsAdvanced
  pub outcomes : EveryRun TellsTheOutcomes

are_legal : (words : List Raw) → All (λ raw. first_ill raw ≡ None) words → AreLegal words
are_legal [] is = tt
are_legal (w ∷ ws) is = (All-head (λ raw. first_ill raw ≡ None) w ws is, are_legal ws (All-tail (λ raw. first_ill raw ≡ None) w ws is))

module _ (laws : Laws) (t : SenderValue) (is : IsHistory t.ring.made_with (Sender t.number) t.trail t.history) where
  all_taken : (world t.history).taken ≡ map taken_as (advanced t.history)
  all_taken =
      laws.outcomes t.ring.made_with t.history is.stands.after.run_is
      ∙ ap (map taken_as) (sym (laws.advanced_is t.ring.made_with t.history is.stands.after.run_is))

  numbered_then : NumberedInOrder t.history
  numbered_then = laws.numbered t.ring.made_with t.history is.stands.after.run_is

  applied_batch : (number told : ℕ) (words : List Raw) → AreLegal words → (earlier : Run) → HasReserved t.number words number earlier t.history → number ≤ told
      → AreApplied t.history t.number told → HasApplied t.number words number t.history
  applied_batch number told words legal earlier reserved up applied =
      let some = from_one t.number number words reserved.later earlier t.history reserved.run_is numbered_then in
      let sync = applied number some up in
      let words_are = words_of_completed t.number number words reserved.later earlier t.history reserved.run_is numbered_then sync.completed in
      record {
        sync = sync;
        words_are = words_are;
        each = applied_from (joined sync.completed.ahead) words t.history legal all_taken
            (subst (λ (ws : List Raw). Begins (joined sync.completed.ahead ++ ws) (advanced t.history)) words_are sync.completed.all_ahead);
      }

  carried_words : (f : ForwardingValue) (receipt : ReceiptValue) → f.last ≡ Some receipt → WentOn f.sender t → AreApplied t.history t.number receipt.number
      → (known : Run) (words : List Raw) → AreLegal words → AreOnTheirWay f known words → AreCarriedOut known words t
  carried_words f receipt last on applied known [] legal sent = tt
  carried_words f receipt last on applied known (w ∷ ws) legal (number, up, reserved) =
      let now = reserved_on known (w ∷ ws) number f.sender t on reserved in
      let all = applied_batch number receipt.number (w ∷ ws) legal (now.between ++ known) now.reserved (subst (λ (o : Option ReceiptValue). IsUpTo o number) last up) applied in
      record {
        number = number;
        reserved = now;
        applied = all;
        late = is_late t.number number (w ∷ ws) now.reserved.later now.between known t.history now.reserved.run_is numbered_then all.sync.completed;
      }

  pub carried_out : (f : ForwardingValue) (receipt : ReceiptValue) → f.last ≡ Some receipt → WentOn f.sender t → AreApplied t.history t.number receipt.number
      → (c : Consumed) → HasConsumed f c → IsCarriedOut t c
  carried_out f receipt last on applied c consumed = record {
    words = consumed.words;
    reached = consumed.reached;
    done = carried_words f receipt last on applied c.known consumed.words (are_legal consumed.words consumed.legal) consumed.sent;
  }
