-- Lines at which memory runs out answer as they do if it doesn't, or tell of it.
use Rattle.std.proofs.Common.{◌≡◌, ℕ, ◌+◌, Bool, true, false, ◌==◌, not, cond, List, [], ◌∷◌, ◌++◌, ◌⊎◌, length, refl, ap, sym, ◌∙◌, Option, Some, None, inl, inr, codes, append_assoc, subst}
use Rattle.std.specs.Prelude.{nat_lt, is_some}
use Rattle.std.specs.FinMap as finite
use Rattle.caches.specs.declared.tag.Tag.{Tag}
use Rattle.caches.specs.declared.fault.CacheFault.TheVariants.{Full, BadBlock, NoMemory}
use Rattle.script.specs.Answers.{Answer, with_text}
use Rattle.script.specs.Effects.{Effect, faults}
use Rattle.script.specs.Kinds.{request_of, request_effect, asked_effect, line_effect, after_effect, first_choice, later_choice, answer_from}
use Rattle.simulator.specs.Blocks.{is_block}
use Rattle.simulator.specs.State.{State, entries}
use Rattle.simulator.specs.Fills.{filled_unless, filled}
use Rattle.replay.specs.declared.request.Request.{Request}
use Rattle.replay.specs.declared.request.Request.TheVariants as asks
use Rattle.replay.specs.effects.CacheLines.{fill_text, fill_effect}
use Rattle.replay.specs.effects.Answering.{tells}
use Rattle.replay.specs.ReplayText.{served, replays}
use Rattle.replay.specs.Memory.{TellsOfMemory}

-- ---- a line

-- a fill that is refused for want of memory
record IsRefused (effect : Effect State) : Type 0 where
  pub text : effect.text ≡ codes "refused C3\n"
  pub goes_on : effect.goes_on ≡ true

fault_or_memory : (bad held full : Bool) →
    (cond bad (Some BadBlock) (cond held None (cond full (Some Full) (Some NoMemory))) ≡ cond bad (Some BadBlock) (cond held None (cond full (Some Full) None)))
    ⊎ (cond bad (Some BadBlock) (cond held None (cond full (Some Full) (Some NoMemory))) ≡ Some NoMemory)
fault_or_memory true held full = inl refl
fault_or_memory false true full = inl refl
fault_or_memory false false true = inl refl
fault_or_memory false false false = inr refl

fill_told : (tag : Tag) (value : ℕ) (state : State) → (fill_effect true tag value state ≡ fill_effect false tag value state) ⊎ IsRefused (fill_effect true tag value state)
unfolding filled
fill_told tag value state =
    elim (fault_or_memory (not (is_block tag)) (is_some (finite.get (entries state) tag)) (finite.len (entries state) == state.capacity)) [
      | inl same ↦ inl (ap (λ fault. tells fill_text (filled_unless fault tag value state)) same)
      | inr wanting ↦ inr (record {
        text = ap (λ fault. (tells fill_text (filled_unless fault tag value state)).text) wanting;
        goes_on = refl;
      })
    ]

request_told : (number : ℕ) (wanting : Bool) (request : Request) (state : State) → (served number wanting request state ≡ served number false request state) ⊎ IsRefused (served number wanting request state)
unfolding served
request_told number false request state = inl refl
request_told number true asks.Nothing state = inl refl
request_told number true (asks.Ring shape) state = inl refl
request_told number true (asks.Fill tag value) state = fill_told tag value state
request_told number true (asks.Evict tag) state = inl refl
request_told number true (asks.Lookup tag) state = inl refl
request_told number true (asks.Send sending) state = inl refl
request_told number true (asks.Publish sender) state = inl refl
request_told number true (asks.Step count) state = inl refl
request_told number true (asks.Acknowledge gerrorn remedy) state = inl refl
request_told number true (asks.Done sender) state = inl refl
request_told number true (asks.Look sender) state = inl refl
request_told number true (asks.Close sender) state = inl refl
request_told number true asks.Dump state = inl refl

asked_told : (number : ℕ) (wanting : Bool) (asked : Option Request) (state : Option State)
    → (asked_effect replays number wanting asked state ≡ asked_effect replays number false asked state) ⊎ IsRefused (asked_effect replays number wanting asked state)
unfolding request_effect
asked_told number wanting None state = inl refl
asked_told number wanting (Some request) None = inl refl
asked_told number wanting (Some request) (Some state) = request_told number wanting request state

either_told : (long : Bool) (fault effect plain : Effect State) → (effect ≡ plain) ⊎ IsRefused effect → (cond long fault effect ≡ cond long fault plain) ⊎ IsRefused (cond long fault effect)
either_told true fault effect plain told = inl refl
either_told false fault effect plain told = told

line_told : (number : ℕ) (wanting : Bool) (line : List ℕ) (state : Option State)
    → (line_effect replays number wanting line state ≡ line_effect replays number false line state) ⊎ IsRefused (line_effect replays number wanting line state)
unfolding line_effect
line_told number wanting line state =
    either_told (nat_lt 4096 (length line)) (faults number (codes "long line") state) (asked_effect replays number wanting (request_of replays line) state)
    (asked_effect replays number false (request_of replays line) state) (asked_told number wanting (request_of replays line) state)

-- ---- one line after another

-- after a text that is the same
behind : (text : List ℕ) (goes_on : Bool) (rest plain : Answer) → (rest ≡ plain) ⊎ TellsOfMemory rest.text
    → (cond goes_on (with_text text rest) (record { text = text; is_good = false }) ≡ cond goes_on (with_text text plain) (record { text = text; is_good = false }))
    ⊎ TellsOfMemory (cond goes_on (with_text text rest) (record { text = text; is_good = false })).text
behind text false rest plain told = inl refl
behind text true rest plain (inl same) = inl (ap (with_text text) same)
behind text true rest plain (inr told) =
    let line = codes "refused C3\n" in
    inr (record {
      front = text ++ told.front;
      back = told.back;
      is = ap (λ more. text ++ more) told.is
          ∙ sym (append_assoc text (told.front ++ line) told.back)
          ∙ ap (λ more. more ++ told.back) (sym (append_assoc text told.front line));
    })

-- a line that is answered alike, and those after it
told_behind : (effect : Effect State) (rest plain : Option State → Answer) → (rest effect.state ≡ plain effect.state) ⊎ TellsOfMemory (rest effect.state).text
    → (after_effect effect rest ≡ after_effect effect plain) ⊎ TellsOfMemory (after_effect effect rest).text
told_behind effect rest plain told = behind effect.text effect.goes_on (rest effect.state) (plain effect.state) told

-- a line that tells of it
told_here : (effect : Effect State) (rest : Option State → Answer) → IsRefused effect → TellsOfMemory (after_effect effect rest).text
told_here effect rest refused = record {
  front = [];
  back = (rest effect.state).text;
  is = ap (λ on. (cond on (with_text effect.text (rest effect.state)) (record { text = effect.text; is_good = false })).text) refused.goes_on
      ∙ ap (λ text. text ++ (rest effect.state).text) refused.text;
}

pub plain_unless_told : (number : ℕ) (choice : List Bool) (state : Option State) (lines : List (List ℕ))
    → (answer_from replays number choice state lines ≡ answer_from replays number [] state lines) ⊎ TellsOfMemory (answer_from replays number choice state lines).text
unfolding answer_from
plain_unless_told number choice state [] = inl refl
plain_unless_told number choice state (line ∷ lines) =
    let effect = line_effect replays number (first_choice choice) line state in
    let plain = line_effect replays number false line state in
    let rest : Option State → Answer = λ left. answer_from replays (number + 1) (later_choice choice) left lines in
    let had : Option State → Answer = λ left. answer_from replays (number + 1) [] left lines in
    elim (line_told number (first_choice choice) line state) [
      | inl same ↦
          subst (λ (e : Effect State). (after_effect e rest ≡ after_effect plain had) ⊎ TellsOfMemory (after_effect e rest).text) (sym same)
          (told_behind plain rest had (plain_unless_told (number + 1) (later_choice choice) plain.state lines))
      | inr refused ↦ inr (told_here effect rest refused)
    ]
