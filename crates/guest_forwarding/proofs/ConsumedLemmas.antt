-- What is converted is consumed once it is sent.
use Rattle.std.proofs.Common.{◌≡◌, ℕ, ◌≤◌, ◌==◌, Bool, true, false, List, [], ◌∷◌, length, take, All, None, refl, sym, ap, ◌∙◌, subst, eqb-true, arith}
use Rattle.std.proofs.lemmas.List.Elements.{All-weaker, All-map}
use Rattle.cmdcodec.specs.declared.raw.Raw.{Raw}
use Rattle.cmdcodec.specs.Legality.{first_ill}
use Rattle.ring.specs.Runs.{Run}
use Rattle.ring.specs.sender.Senders.{SenderValue, ReceiptValue}
use Rattle.ring.specs.sender.Sending.{IsSent}
use Rattle.smmu_features.specs.declared.smmu.Smmu.{Smmu}
use Rattle.smmu_features.specs.Commands.{IsLegalFor}
use Rattle.guest_commands.specs.Mappings.{Mapping}
use Rattle.guest_commands.specs.Theorems.{IsReachedBy, IsIsolated}
use Rattle.guest_commands.specs.Conversions.{Conversion, IsConverted}
use Rattle.guest_forwarding.specs.declared.forwarded.Forwarded.{Forwarded}
use Rattle.guest_forwarding.specs.Consumed.{host_commands}
use Rattle.guest_forwarding.specs.Values.{ForwardingValue, behind_batch}
use Rattle.guest_forwarding.specs.Carrying.{AreOnTheirWay, HasConsumed}
use Rattle.guest_forwarding.specs.Forwarding.{words_of, IsOwn, AreConsumed, IsLast, IsSentIfAny, AreSent}
use Rattle.guest_forwarding.proofs.SendingLemmas.{reserved_behind}

legal_words : (smmu : Smmu) (words : List Raw) → All (IsLegalFor smmu) words → All (λ raw. first_ill raw ≡ None) words
legal_words smmu words legal = All-weaker (IsLegalFor smmu) (λ raw. first_ill raw ≡ None) (λ raw is. is.words) words legal

-- ---- whether there is anything to send

pub no_words : (words read : List Raw) (empty : Bool) → read ≡ words → empty ≡ (length read == 0) → empty ≡ true → words ≡ []
no_words [] read empty same is tested = refl
no_words (w ∷ ws) read empty same is tested = absurd (let none : (length (w ∷ ws) == 0) ≡ true = sym (ap (λ (l : List Raw). length l == 0) same) ∙ sym is ∙ tested in let zero = eqb-true (length (w ∷ ws)) 0 none in omega arith)

pub some_words : (words read : List Raw) (empty : Bool) → read ≡ words → empty ≡ (length read == 0) → empty ≡ false → 1 ≤ length words
some_words [] read empty same is tested = absurd (let none : (length read == 0) ≡ true = ap (λ (l : List Raw). length l == 0) same in cc)
some_words (w ∷ ws) read empty same is tested = omega arith

pub none_on_their_way : (f : ForwardingValue) (known : Run) (words : List Raw) → words ≡ [] → AreOnTheirWay f known words
none_on_their_way f known [] is = tt
none_on_their_way f known (w ∷ ws) is = absurd (cc)

behind_words : (words : List Raw) (tries : ℕ) (s t : SenderValue) (receipt : ReceiptValue) → IsSent words tries s t receipt → AreOnTheirWay (behind_batch receipt t) s.history words
behind_words [] tries s t receipt sent = tt
behind_words (w ∷ ws) tries s t receipt sent = (receipt.number, omega arith, reserved_behind (w ∷ ws) tries s t receipt sent)

pub on_their_way : (words : List Raw) (tries : ℕ) (s t : SenderValue) (f : ForwardingValue) → IsLast words tries s t f → AreOnTheirWay f s.history words
on_their_way words tries s t f last = subst (λ (g : ForwardingValue). AreOnTheirWay g s.history words) (sym last.kept) (behind_words words tries s t last.receipt last.sent)

some_sent : (words : List Raw) (tries : ℕ) (s t : SenderValue) (old new : ForwardingValue) → 1 ≤ length words → IsLast words tries s t new → IsSentIfAny words tries s t old new
some_sent [] tries s t old new some last = absurd (omega arith)
some_sent (w ∷ ws) tries s t old new some last = last

-- ---- a conversion of which this is told

module _ (mapping : Mapping) (raws : List Raw) (conversion : Conversion) (forwarded : Forwarded) (taken : forwarded.consumed ≡ conversion.taken) where
  pub consumed_all : (s : SenderValue) (f : ForwardingValue) → All (IsLegalFor mapping.smmu) conversion.commands → AreOnTheirWay f s.history conversion.commands
      → All (IsReachedBy mapping conversion.commands) (take conversion.taken raws) → AreConsumed mapping raws s f forwarded
  consumed_all s f legal sent reached =
      All-map (HasConsumed f) (λ raw. record { mapping = mapping; raw = raw; known = s.history }) (take forwarded.consumed raws)
      (All-weaker (IsReachedBy mapping conversion.commands) (λ raw. HasConsumed f record { mapping = mapping; raw = raw; known = s.history })
      (λ raw is. record { words = conversion.commands; legal = legal_words mapping.smmu conversion.commands legal; reached = is; sent = sent }) (take forwarded.consumed raws)
      (subst (λ (n : ℕ). All (IsReachedBy mapping conversion.commands) (take n raws)) (sym taken) reached))

  words_are : IsConverted mapping raws conversion → conversion.commands ≡ words_of mapping raws forwarded
  words_are is = is.commands ∙ ap (λ (n : ℕ). host_commands mapping (take n raws)) (sym taken)

  pub own_words : IsConverted mapping raws conversion → All (IsIsolated mapping) conversion.commands → IsOwn mapping raws forwarded
  own_words is isolated = subst (All (IsIsolated mapping)) (words_are is) isolated

  pub sent_for : (tries : ℕ) (s : SenderValue) (old new : ForwardingValue) → IsConverted mapping raws conversion → 1 ≤ length conversion.commands
      → IsLast conversion.commands tries s forwarded.sender new → AreSent mapping raws tries s old new forwarded
  sent_for tries s old new is some last =
      subst (λ (words : List Raw). IsSentIfAny words tries s forwarded.sender old new) (words_are is)
      (some_sent conversion.commands tries s forwarded.sender old new some last)
