-- What the definitions say of what a caller is told to write, and of a message that is heard: for each part a case in which they are false.
use Rattle.std.proofs.Common.{◌≡◌, ℕ, ◌+◌, ◌%◌, ◌^◌, ◌≤◌, List, [], ◌∷◌, ◌++◌, length, drop, None, refl, ap, sym, subst, ◌∙◌, arith}
use Rattle.cmdcodec.specs.declared.raw.Raw.{Raw}
use Rattle.hardware_queue.specs.declared.register_words.RegisterWords.{RegisterWords}
use Rattle.hardware_queue.specs.Queues.{QueueValue, plain_sync}
use Rattle.shadow_queue.specs.declared.placement.Placement.{Placement}
use Rattle.shadow_queue.specs.Placing.{IsPlaced}
use Rattle.shadow_queue.specs.Messages.{IsToldUpTo, AreToldBy, HasHeard}

abbrev cfgi_ste : Raw
cfgi_ste = record { lo = 0x0000000500000003; hi = 1 }

-- a queue of two slots that was shown these, of which so many are consumed
abbrev queue : List Raw → ℕ → QueueValue
queue shown consumed = record {
  geometry = 1;
  memory = plain_sync ∷ plain_sync ∷ [];
  shown = shown;
  consumed = consumed;
  stopped = None;
  gerrorn = 4;
  lost = [];
  repeated = [];
  read = [];
  supplied = record { words = record { gerror = 0; cons = 0 }; gerrorn = 0; before = []; again = 0 };
}

-- ---- where commands go

abbrev told : ℕ → ℕ → Placement
told slot prod = record { slot = slot; count = 1; prod = prod; message = 1 }

pub another_slot_is_not_told : (before after : List Raw) → ¬ IsPlaced before after (queue [] 0) (queue (cfgi_ste ∷ []) 0) (told 1 1)
another_slot_is_not_told before after is = let slot : 1 ≡ 0 = is.slot in absurd (omega (arith, slot))

pub another_prod_is_not_told : (before after : List Raw) → ¬ IsPlaced before after (queue [] 0) (queue (cfgi_ste ∷ []) 0) (told 0 2)
another_prod_is_not_told before after is = let prod : 2 ≡ 1 = is.prod in absurd (omega (arith, prod))

pub another_message_is_not_told : (before after : List Raw) → ¬ IsPlaced before after (queue [] 0) (queue (cfgi_ste ∷ []) 0) (record (told 0 1) { message = 2 })
another_message_is_not_told before after is = let message : 2 ≡ 1 = is.message in absurd (omega (arith, message))

-- What the buffer had behind them stays.
pub the_rest_of_the_buffer_stays : (after : List Raw) (is : IsPlaced (plain_sync ∷ cfgi_ste ∷ []) after (queue [] 0) (queue (plain_sync ∷ []) 0) (told 0 1))
    → is.commands ≡ plain_sync ∷ [] → after ≡ plain_sync ∷ cfgi_ste ∷ []
the_rest_of_the_buffer_stays after is commands = is.buffer ∙ ap (λ (l : List Raw). l ++ drop (length l) (plain_sync ∷ cfgi_ste ∷ [])) commands

-- ---- messages

-- A message that fits two positions tells none.
pub a_message_tells_just_one : (message : ℕ) (q : QueueValue) (words : RegisterWords) (are : AreToldBy message q words) (other : ℕ) → IsToldUpTo other message q → other ≡ are.position
a_message_tells_just_one message q words are other tells = are.only other tells

pub what_is_heard_is_consumed : ¬ HasHeard 1 (queue (plain_sync ∷ []) 0) (queue (plain_sync ∷ []) 0) 1
what_is_heard_is_consumed heard =
    let count : 0 ≡ 1 = ap (λ (q : QueueValue). q.consumed) heard.looked.1.0.new_is in
    absurd (omega (arith, count))
