-- What an acknowledgement does.
use Rattle.std.proofs.Common.{◌≡◌, ℕ, List, ◌∷◌, None, refl, ap, ap₂, sym, ◌∙◌}
use Rattle.hardware_queue.specs.declared.command_error.CommandError.{CommandError}
use Rattle.hardware_queue.specs.declared.command_error.CommandError.TheVariants.{Illegal, Abort, AtcInvSync, Reserved}
use Rattle.hardware_queue.specs.declared.reading.Reading.{Reading}
use Rattle.hardware_queue.specs.declared.reading.Reading.TheVariants.{Gerrorn}
use Rattle.hardware_queue.specs.declared.remedy.Remedy.{Remedy}
use Rattle.hardware_queue.specs.declared.remedy.Remedy.TheVariants.{Retry, Replace}
use Rattle.hardware_queue.specs.declared.state.QueueState.{QueueState}
use Rattle.hardware_queue.specs.declared.state.QueueState.TheVariants as state
use Rattle.hardware_queue.specs.Queues.{QueueValue, HasReadAcknowledged, MayAcknowledge, acknowledged_by, repeated_after, toggled, command_queue_error}
use Rattle.hardware_queue.specs.Owners.{IsStoppedHere, without_memory, remedied, refusal, HasAcknowledged}

-- A remedy that isn't refused is for a stop.
pub fits : (remedy : Remedy) (found : QueueState) → None ≡ refusal remedy found → (error : CommandError) × (found ≡ state.Stopped error) × (remedy ≡ Replace → error ≡ Illegal)
fits Retry (state.Stopped error) e = (error, refl, λ same. absurd (cc))
fits Replace (state.Stopped Illegal) e = (Illegal, refl, λ same. refl)
fits Replace (state.Stopped Abort) e = absurd (cc)
fits Replace (state.Stopped AtcInvSync) e = absurd (cc)
fits Replace (state.Stopped (Reserved n)) e = absurd (cc)
fits Retry state.Running e = absurd (cc)
fits Replace state.Running e = absurd (cc)
fits Retry (state.Broken word) e = absurd (cc)
fits Replace (state.Broken word) e = absurd (cc)

stop : (remedy : Remedy) (x : QueueValue) → (remedied remedy x).stopped ≡ x.stopped
stop Retry x = refl
stop Replace x = refl

repeats : (remedy : Remedy) (x : QueueValue) → (remedied remedy x).repeated ≡ x.repeated
repeats Retry x = refl
repeats Replace x = refl

errors : (remedy : Remedy) (x : QueueValue) → (remedied remedy x).gerrorn ≡ x.gerrorn
errors Retry x = refl
errors Replace x = refl

reads : (remedy : Remedy) (x : QueueValue) → (remedied remedy x).read ≡ x.read
reads Retry x = refl
reads Replace x = refl

pub may_acknowledge : (remedy : Remedy) (error : CommandError) (q p o : QueueValue) (read word : ℕ) → IsStoppedHere q error → without_memory p ≡ remedied remedy (without_memory q)
    → HasReadAcknowledged p o read → word ≡ toggled read → MayAcknowledge word o
may_acknowledge remedy error q p o read word at applied looked toggles = record {
  stop = record { position = q.consumed; error = error };
  stopped = ap (λ (x : QueueValue). x.stopped) looked.new_is ∙ ap (λ (x : QueueValue). x.stopped) applied ∙ stop remedy (without_memory q) ∙ at.stopped;
  toggles = toggles ∙ ap toggled (sym (ap (λ (x : QueueValue). x.gerrorn) looked.new_is));
}

abbrev after : ℕ → ℕ → QueueValue → QueueValue
after read word x = record x { stopped = None; gerrorn = word; repeated = repeated_after x.stopped x.repeated; read = Gerrorn read ∷ x.read }

pub acknowledged : (remedy : Remedy) (error : CommandError) (q p o f : QueueValue) (read word : ℕ) → IsStoppedHere q error → without_memory p ≡ remedied remedy (without_memory q)
    → HasReadAcknowledged p o read → word ≡ toggled read → f ≡ acknowledged_by word o → HasAcknowledged remedy error q f
acknowledged remedy error q p o f read word at applied looked toggles last =
    let r : QueueValue = remedied remedy (without_memory q) in
    let whole : without_memory f ≡ after read word r =
    ap without_memory (last ∙ ap (acknowledged_by word) looked.new_is) ∙ ap (after read word) applied in
    let gerrorn : f.gerrorn ≡ word = ap (λ (x : QueueValue). x.gerrorn) whole in
    let repeated : f.repeated ≡ repeated_after r.stopped r.repeated = ap (λ (x : QueueValue). x.repeated) whole in
    let readings : f.read ≡ Gerrorn read ∷ r.read = ap (λ (x : QueueValue). x.read) whole in
    record {
      stopped = at;
      word = read;
      same = looked.same ∙ ap (λ (x : QueueValue). command_queue_error x.gerrorn) applied ∙ ap command_queue_error (errors remedy (without_memory q));
      gerrorn = gerrorn ∙ toggles;
      read = readings ∙ ap (λ (l : List Reading). Gerrorn read ∷ l) (reads remedy (without_memory q));
      repeated = repeated ∙ ap₂ repeated_after (stop remedy (without_memory q) ∙ at.stopped) (repeats remedy (without_memory q));
      new_is = whole
          ∙ ap (λ (g : ℕ). record r { stopped = None; gerrorn = g; repeated = repeated_after r.stopped r.repeated; read = Gerrorn read ∷ r.read }) (sym gerrorn)
          ∙ ap₂ (λ (l : List ℕ) (m : List Reading). record r { stopped = None; gerrorn = f.gerrorn; repeated = l; read = m }) (sym repeated) (sym readings);
    }
