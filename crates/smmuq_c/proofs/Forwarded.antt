-- What a call on a forwarder did, and what it told.
use Rattle.std.proofs.Common.{◌≡◌, ℕ, ◌≤◌, List, [], ◌∷◌, ◌++◌, length, refl, ap, subst, sym, ◌∙◌, arith}
use Rattle.std.specs.Prelude.{drop}
use Rattle.cmdcodec.specs.declared.raw.Raw.{Raw}
use Rattle.hardware_queue.specs.declared.forwarded.Forwarded.{Forwarded}
use Rattle.hardware_queue.specs.declared.forwarded.Forwarded.TheVariants as answer
use Rattle.hardware_queue.specs.declared.remedy.Remedy.{Remedy}
use Rattle.hardware_queue.specs.declared.remedy.RemedyFault.{RemedyFault}
use Rattle.hardware_queue.specs.declared.remedy.RemedyFault.TheVariants as fault
use Rattle.hardware_queue.specs.declared.state.QueueState.TheVariants as state
use Rattle.hardware_queue.specs.Steps.{HasForwarded}
use Rattle.hardware_queue.specs.Forwarders.{IsRefused}
use Rattle.shadow_queue.specs.declared.placement.Placement.{Placement}
use Rattle.shadow_queue.specs.Placing.{IsPlaced, count_shown}
use Rattle.smmuq_c.specs.declared.forwarder_calls.PlacementWords.{PlacementWords}
use Rattle.smmuq_c.specs.declared.forwarder_calls.AcknowledgementWords.{AcknowledgementWords}
use Rattle.smmuq_c.specs.declared.status.Status.{Status}
use Rattle.smmuq_c.specs.HeldForwarders.{HeldForwarder}
use Rattle.smmuq_c.specs.Kept.{IsKept}
use Rattle.smmuq_c.specs.Forwarding.{StandsInOrder, GoesOn, forwarded_status, IsToldOf, TellsAnswer, HasForwardedOn, fault_status, HasAcknowledgedFor}

no_elements : (xs : List Raw) → length xs ≡ 0 → xs ≡ []
no_elements [] none = refl
no_elements (x ∷ xs) none = absurd (omega (arith, none))

-- Where no command is shown, the buffer is as before.
none_placed : (before mid : List Raw) (p : Placement) (old new : HeldForwarder) → IsPlaced before mid old.owner.queue new.owner.queue p → p.count ≡ 0 → mid ≡ before
none_placed before mid p old new placed none =
    let nothing : placed.commands ≡ [] = no_elements placed.commands (sym placed.count ∙ none) in
    placed.buffer ∙ ap (λ (l : List Raw). l ++ drop (length l) before) nothing

told_of : (a : Forwarded) (p : Placement) (before mid after : List Raw) (was told : PlacementWords) (old new : HeldForwarder) → IsPlaced before mid old.owner.queue new.owner.queue p → p.count ≡ count_shown a → TellsAnswer a p mid after was told → IsToldOf a before after told old new
told_of answer.Empty p before mid after was told old new placed count tells = tells.0 ∙ none_placed before mid p old new placed count
told_of answer.Drained p before mid after was told old new placed count tells = tells.0 ∙ none_placed before mid p old new placed count
told_of answer.Unwritten p before mid after was told old new placed count tells = tells.0 ∙ none_placed before mid p old new placed count
told_of answer.Full p before mid after was told old new placed count tells = tells.0 ∙ none_placed before mid p old new placed count
told_of (answer.Shown shown) p before mid after was told old new placed count tells = record {
  placement = p;
  placed = subst (λ (l : List Raw). IsPlaced before l old.owner.queue new.owner.queue p) (sym tells.0) placed;
  told_is = tells.1;
}
told_of (answer.Replaced raw) p before mid after was told old new placed count tells = tells.0 ∙ ap (λ (l : List Raw). raw ∷ drop 1 l) (none_placed before mid p old new placed count)
told_of (answer.Broken word) p before mid after was told old new placed count tells = tells.0 ∙ none_placed before mid p old new placed count

pub forwarded_on : (a : Forwarded) (p : Placement) (before mid after : List Raw) (was told : PlacementWords) (old new : HeldForwarder) (answered : Status) → 64 ≤ length before → HasForwarded (λ q. q) old new a
    → IsPlaced before mid old.owner.queue new.owner.queue p → p.count ≡ count_shown a → TellsAnswer a p mid after was told → answered ≡ forwarded_status a → StandsInOrder new
    → ((word : ℕ) → old.owner.state ≡ state.Broken word → a ≡ answer.Broken word) → new.owner.state ≡ old.owner.state → GoesOn old new → HasForwardedOn before after told old new answered
forwarded_on a p before mid after was told old new answered room forwarded placed count tells is stands broken stays goes_on = record {
  room = room;
  answer = a;
  forwarded = forwarded;
  status_is = is;
  told_is = told_of a p before mid after was told old new placed count tells;
  broken = broken;
  state_is = stays;
  stands = stands;
  goes_on = goes_on;
}

kept_of : (a : Forwarded) (p : Placement) (before after : List Raw) (was told : PlacementWords) → TellsAnswer a p before after was told → IsKept (forwarded_status a) was told
kept_of answer.Empty p before after was told tells other = tells.1
kept_of answer.Drained p before after was told tells other = tells.1
kept_of answer.Unwritten p before after was told tells other = tells.1
kept_of answer.Full p before after was told tells other = tells.1
kept_of (answer.Shown count) p before after was told tells other = absurd (other refl)
kept_of (answer.Replaced raw) p before after was told tells other = tells.1
kept_of (answer.Broken word) p before after was told tells other = tells.1

pub kept_by : (a : Forwarded) (p : Placement) (before after : List Raw) (was told : PlacementWords) (answered : Status) → TellsAnswer a p before after was told → answered ≡ forwarded_status a → IsKept answered was told
kept_by a p before after was told answered tells is = subst (λ (s : Status). IsKept s was told) (sym is) (kept_of a p before after was told tells)

refused_of : (refusal : RemedyFault) (gerrorn : ℕ) (remedy : Remedy) (told : AcknowledgementWords) (old new : HeldForwarder) → IsRefused remedy old.owner.state old.owner.queue refusal → new ≡ old
    → HasAcknowledgedFor gerrorn remedy told old new (fault_status refusal)
refused_of fault.NotStopped gerrorn remedy told old new why same = (fault.NotStopped, why, refl, same)
refused_of fault.NotIllegal gerrorn remedy told old new why same = (fault.NotIllegal, why, refl, same)
refused_of fault.IsSync gerrorn remedy told old new why same = (fault.IsSync, why, refl, same)

pub refused_for : (refusal : RemedyFault) (gerrorn : ℕ) (remedy : Remedy) (told : AcknowledgementWords) (old new : HeldForwarder) (answered : Status) → IsRefused remedy old.owner.state old.owner.queue refusal → new ≡ old
    → answered ≡ fault_status refusal → HasAcknowledgedFor gerrorn remedy told old new answered
refused_for refusal gerrorn remedy told old new answered why same is = subst (λ (s : Status). HasAcknowledgedFor gerrorn remedy told old new s) (sym is) (refused_of refusal gerrorn remedy told old new why same)
