-- A sender's view says what its trail says, and events keep it so.
use Rattle.std.proofs.Common.{◌≡◌, ◌≢◌, ℕ, suc, ◌+◌, ◌<◌, ◌≤◌, Bool, true, false, not, cond, ◌||◌, ◌&&◌, List, [], ◌∷◌, length, take, drop, Option, None, refl, sym, ap, ap₂, ◌∙◌, subst, inl, inr, eq-eqb, ne_eqb, arith}
use Rattle.std.proofs.lemmas.Bool.{cases_eq, cases_lt}
use Rattle.std.proofs.lemmas.List.{get_or-set_same, get_or-set_other, get_or-replicate, get_or_past, length-replicate}
use Rattle.std.specs.Prelude.{◌==◌, slice_set, slice_index_or, replicate}
use Rattle.std.specs.List.{list_any, list_all}
use Rattle.std.specs.Int.{from_bool}
use Rattle.cmdcodec.specs.declared.raw.Raw.{Raw}
use Rattle.ringcore.specs.declared.world.event.Who.TheVariants.{Consumer, Sender}
use Rattle.ringcore.specs.declared.world.event.Half.{Half}
use Rattle.ringcore.specs.declared.world.event.Half.TheVariants.{Lo, Hi}
use Rattle.ringcore.specs.declared.world.event.Event.{Event}
use Rattle.ringcore.specs.declared.world.event.Event.TheVariants.{Look, Won, Lost, Write, Flip, Test, Read, Advance, Close, Acknowledge, Ask}
use Rattle.ringcore.specs.declared.machine.sender_view.Progress.{Progress}
use Rattle.ringcore.specs.world.Trails.{Trail, Run, same_half, trail_of, numbers_given, reserved_length, has_written, has_flipped}
use Rattle.ringcore.specs.world.World.{tail, world, commands}
use Rattle.ringcore.specs.memory.StepLaws.{reserved_commands}
use Rattle.ringcore.specs.machine.Open.{some_below, all_below, is_open}
use Rattle.ringcore.specs.machine.StepAnswers.{next_number}
use Rattle.ringcore.specs.machine.SenderViews.{SenderValue, KnowsTrail, Knows, untouched, is_written, progress_at, OthersLeaveIt, CloseLeavesIt, AskLeavesIt}
use Rattle.ringcore.proofs.WorldLemmas.Sound.{length_commands}
use Rattle.ringcore.proofs.MachineLemmas.SomeAndAllBelow.{any_is, all_is}

pub length_reserved : (s : ℕ) (t : Trail) → length (reserved_commands s t) ≡ reserved_length t
length_reserved s [] = refl
length_reserved s (Look found ∷ es) = length_reserved s es
length_reserved s (Won body number ∷ es) = length_commands s number body
length_reserved s (Lost body closes found ∷ es) = length_reserved s es
length_reserved s (Write offset half ∷ es) = length_reserved s es
length_reserved s (Flip offset count ∷ es) = length_reserved s es
length_reserved s (Test limit found ∷ es) = length_reserved s es
length_reserved s (Read offset half word ∷ es) = length_reserved s es
length_reserved s (Advance raws ∷ es) = length_reserved s es
length_reserved s (Close ∷ es) = length_reserved s es
length_reserved s (Acknowledge sender number ∷ es) = length_reserved s es
length_reserved s (Ask found ∷ es) = length_reserved s es

abbrev pub any_unflipped_of : List Progress → Bool
any_unflipped_of = list_any (λ (command : Progress). not command.flipped)

abbrev pub any_flipped_of : List Progress → Bool
any_flipped_of = list_any (λ (command : Progress). command.flipped)

abbrev pub all_written_of : List Progress → Bool
all_written_of = list_all (λ (command : Progress). command.lo && command.hi)

abbrev pub says_open : SenderValue → Bool
says_open view = any_unflipped_of (take (length view.commands) view.progress)

abbrev pub says_any_flipped : ℕ → ℕ → SenderValue → Bool
says_any_flipped offset count view = any_flipped_of (take count (drop offset view.progress))

abbrev pub says_all_written : ℕ → ℕ → SenderValue → Bool
says_all_written offset count view = all_written_of (take count (drop offset view.progress))

module _ (run : Run) (s : ℕ) (view : SenderValue) (known : Knows run s view) where
  abbrev mine : Trail
  mine = trail_of (Sender s) run

  pub length_known : length view.commands ≡ reserved_length mine
  length_known = ap length known.commands_are ∙ length_reserved s mine

  pub any_flipped_known : (offset count : ℕ) → offset + count ≤ reserved_length mine → offset + count ≤ length view.progress
      → says_any_flipped offset count view ≡ some_below count (λ k. has_flipped (offset + k) mine)
  any_flipped_known offset count inside within =
      any_is (λ (command : Progress). command.flipped) untouched view.progress offset count (λ k. has_flipped (offset + k) mine) within
      (λ k low. known.flipped_is (offset + k) (omega (arith, low, inside)))

  pub all_written_known : (offset count : ℕ) → offset + count ≤ reserved_length mine → offset + count ≤ length view.progress
      → says_all_written offset count view ≡ all_below count (λ k. has_written (offset + k) Lo mine && has_written (offset + k) Hi mine)
  all_written_known offset count inside within =
      all_is (λ (command : Progress). command.lo && command.hi) untouched view.progress offset count
      (λ k. has_written (offset + k) Lo mine && has_written (offset + k) Hi mine) within
      (λ k low. let inner : offset + k < reserved_length mine = omega (arith, low, inside) in
      ap₂ (λ a b. a && b) (known.written_is (offset + k) Lo inner) (known.written_is (offset + k) Hi inner))

  pub open_known : length view.commands ≤ length view.progress → says_open view ≡ is_open mine
  open_known within =
      any_is (λ (command : Progress). not command.flipped) untouched view.progress 0 (length view.commands) (λ k. not (has_flipped k mine))
      (omega (arith, within))
      (λ k low. let many = length_known in
      ap (λ (n : ℕ). not (flipped_at n)) (zero_plus k) ∙ ap not (known.flipped_is k (omega (arith, low, many))))
      ∙ ap (λ (n : ℕ). some_below n (λ k. not (has_flipped k mine))) length_known
    where
      flipped_at : ℕ → Bool
      flipped_at n = (progress_at view n).flipped

      zero_plus : (k : ℕ) → 0 + k ≡ k
      zero_plus k = omega arith

-- ---- events

own_trail : (run : Run) (s : ℕ) (e : Event) → trail_of (Sender s) ((Sender s, e) ∷ run) ≡ e ∷ trail_of (Sender s) run
own_trail run s e = ap (λ (v : Bool). cond v (e ∷ trail_of (Sender s) run) (trail_of (Sender s) run)) (eq-eqb s s refl)

-- after an event of its own that leaves where its reservation starts
pub own : (run : Run) (s : ℕ) (e : Event) (view : SenderValue) → (world ((Sender s, e) ∷ run)).start s ≡ (world run).start s
    → KnowsTrail s (e ∷ trail_of (Sender s) run) ((world run).start s) view → Knows ((Sender s, e) ∷ run) s view
own run s e view stays k =
    subst (λ (t : Trail). KnowsTrail s t ((world ((Sender s, e) ∷ run)).start s) view) (sym (own_trail run s e))
    (subst (λ (n : ℕ). KnowsTrail s (e ∷ trail_of (Sender s) run) n view) (sym stays) k)

-- ---- a half is written

abbrev pub with_half : Half → Progress → Progress
with_half Lo command = record command { lo = true }
with_half Hi command = record command { hi = true }

half_set : (half which : Half) (command : Progress) → is_written which (with_half half command) ≡ (same_half which half || is_written which command)
half_set Lo Lo command = refl
half_set Lo Hi command = refl
half_set Hi Lo command = refl
half_set Hi Hi command = refl

flip_kept : (half : Half) (command : Progress) → (with_half half command).flipped ≡ command.flipped
flip_kept Lo command = refl
flip_kept Hi command = refl

abbrev pub view_written : SenderValue → ℕ → Half → SenderValue
view_written view offset half = record view { progress = slice_set view.progress offset (with_half half (progress_at view offset)) }

module _ (view : SenderValue) (offset : ℕ) (half : Half) (inside : offset < length view.progress) where
  abbrev set : Progress
  set = with_half half (progress_at view offset)

  at_offset : (k : ℕ) → k ≡ offset → progress_at (view_written view offset half) k ≡ set
  at_offset k is = ap (λ (n : ℕ). progress_at (view_written view offset half) n) is ∙ get_or-set_same view.progress offset set untouched inside

  elsewhere : (k : ℕ) → k ≢ offset → progress_at (view_written view offset half) k ≡ progress_at view k
  elsewhere k not = get_or-set_other view.progress offset k set untouched not

  written_now : (k : ℕ) (which : Half)
      → is_written which (progress_at (view_written view offset half) k) ≡ ((k == offset && same_half which half) || is_written which (progress_at view k))
  written_now k which = elim (cases_eq k offset) [
    | inl is ↦
        ap (is_written which) (at_offset k is) ∙ half_set half which (progress_at view offset)
        ∙ ap (λ (n : ℕ). same_half which half || is_written which (progress_at view n)) (sym is)
        ∙ ap (λ (v : Bool). (v && same_half which half) || is_written which (progress_at view k)) (sym (eq-eqb k offset is))
    | inr not ↦
        ap (is_written which) (elsewhere k not)
        ∙ ap (λ (v : Bool). (v && same_half which half) || is_written which (progress_at view k)) (sym (ne_eqb k offset not))
  ]

  flipped_still : (k : ℕ) → (progress_at (view_written view offset half) k).flipped ≡ (progress_at view k).flipped
  flipped_still k = elim (cases_eq k offset) [
    | inl is ↦
        ap (λ (c : Progress). c.flipped) (at_offset k is) ∙ flip_kept half (progress_at view offset)
        ∙ ap (λ (n : ℕ). (progress_at view n).flipped) (sym is)
    | inr not ↦ ap (λ (c : Progress). c.flipped) (elsewhere k not)
  ]

pub wrote_known : (run : Run) (s : ℕ) (view : SenderValue) (offset : ℕ) (half : Half) → offset < length view.progress → Knows run s view
    → Knows ((Sender s, Write offset half) ∷ run) s (view_written view offset half)
wrote_known run s view offset half inside k = own run s (Write offset half) (view_written view offset half) refl record {
  looked_is = k.looked_is;
  batches_is = k.batches_is;
  numbers_is = k.numbers_is;
  start_is = k.start_is;
  commands_are = k.commands_are;
  written_is = λ n which low.
      written_now view offset half inside n which ∙ ap (λ (v : Bool). (n == offset && same_half which half) || v) (k.written_is n which low);
  flipped_is = λ n low. flipped_still view offset half inside n ∙ k.flipped_is n low;
}

-- ---- events of other seats, and a close or an ask of its own

-- after an event of another sender that leaves where this one's reservation starts
skip : (run : Run) (s t : ℕ) (e : Event) (view : SenderValue) → (s == t) ≡ false → (world ((Sender t, e) ∷ run)).start s ≡ (world run).start s
    → Knows run s view → Knows ((Sender t, e) ∷ run) s view
skip run s t e view apart stays k =
    let mine : Trail = trail_of (Sender s) run in
    let trail : trail_of (Sender s) ((Sender t, e) ∷ run) ≡ mine = ap (λ (v : Bool). cond v (e ∷ mine) mine) apart in
    subst (λ (u : Trail). KnowsTrail s u ((world ((Sender t, e) ∷ run)).start s) view) (sym trail)
    (subst (λ (n : ℕ). KnowsTrail s mine n view) (sym stays) k)

of_sender : (run : Run) (s t : ℕ) (view : SenderValue) (e : Event) → (s == t) ≡ false → Knows run s view → Knows ((Sender t, e) ∷ run) s view
of_sender run s t view (Look found) apart k = skip run s t (Look found) view apart refl k
of_sender run s t view (Won body number) apart k =
    skip run s t (Won body number) view apart (ap (λ (v : Bool). cond v (tail (world run)) ((world run).start s)) apart) k
of_sender run s t view (Lost body closes found) apart k = skip run s t (Lost body closes found) view apart refl k
of_sender run s t view (Write offset half) apart k = skip run s t (Write offset half) view apart refl k
of_sender run s t view (Flip offset count) apart k = skip run s t (Flip offset count) view apart refl k
of_sender run s t view (Test limit found) apart k = skip run s t (Test limit found) view apart refl k
of_sender run s t view (Read offset half word) apart k = skip run s t (Read offset half word) view apart refl k
of_sender run s t view (Advance raws) apart k = skip run s t (Advance raws) view apart refl k
of_sender run s t view Close apart k = skip run s t Close view apart refl k
of_sender run s t view (Acknowledge sender number) apart k = skip run s t (Acknowledge sender number) view apart refl k
of_sender run s t view (Ask found) apart k = skip run s t (Ask found) view apart refl k

of_consumer : (run : Run) (s : ℕ) (view : SenderValue) (e : Event) → Knows run s view → Knows ((Consumer, e) ∷ run) s view
of_consumer run s view (Look found) k = k
of_consumer run s view (Won body number) k = k
of_consumer run s view (Lost body closes found) k = k
of_consumer run s view (Write offset half) k = k
of_consumer run s view (Flip offset count) k = k
of_consumer run s view (Test limit found) k = k
of_consumer run s view (Read offset half word) k = k
of_consumer run s view (Advance raws) k = k
of_consumer run s view Close k = k
of_consumer run s view (Acknowledge sender number) k = k
of_consumer run s view (Ask found) k = k

pub others : OthersLeaveIt
others run s view Consumer e not k = of_consumer run s view e k
others run s view (Sender t) e not k = of_sender run s t view e (ne_eqb s t (λ is. not (ap Sender (sym is)))) k

pub closed : CloseLeavesIt
closed run s view k = own run s Close view refl record {
  looked_is = k.looked_is;
  batches_is = k.batches_is;
  numbers_is = k.numbers_is;
  start_is = k.start_is;
  commands_are = k.commands_are;
  written_is = k.written_is;
  flipped_is = k.flipped_is;
}

pub asked : AskLeavesIt
asked run s found view k = own run s (Ask found) view refl record {
  looked_is = k.looked_is;
  batches_is = k.batches_is;
  numbers_is = k.numbers_is;
  start_is = k.start_is;
  commands_are = k.commands_are;
  written_is = k.written_is;
  flipped_is = k.flipped_is;
}

-- ---- a batch is reserved

fresh : (k : ℕ) → slice_index_or (replicate 64 untouched) k untouched ≡ untouched
fresh k = elim (cases_lt k 64) [
  | inl low ↦ get_or-replicate 64 k untouched untouched low
  | inr high ↦ let many = length-replicate 64 untouched in get_or_past (replicate 64 untouched) k untouched (omega (arith, high, many))
]

pub counted : (mine : Trail) (body : List Raw) (closes : Bool) (number : Option ℕ) (n m : ℕ)
    → number ≡ next_number mine closes → n ≡ numbers_given mine → m ≡ from_bool closes → n + m ≡ numbers_given (Won body number ∷ mine)
counted mine body true number n m is n_is m_is =
    let step : numbers_given (Won body number ∷ mine) ≡ suc (numbers_given mine) = ap (λ (x : Option ℕ). numbers_given (Won body x ∷ mine)) is in
    omega (arith, step, n_is, m_is)
counted mine body false number n m is n_is m_is =
    let step : numbers_given (Won body number ∷ mine) ≡ numbers_given mine = ap (λ (x : Option ℕ). numbers_given (Won body x ∷ mine)) is in
    omega (arith, step, n_is, m_is)

unwritten : (half : Half) → is_written half untouched ≡ false
unwritten Lo = refl
unwritten Hi = refl

abbrev pub view_won : ℕ → ℕ → ℕ → List Raw → SenderValue
view_won batches numbers first raws =
    record { looked = None; batches = batches; numbers = numbers; start = first; commands = raws; progress = replicate 64 untouched }

pub won_known : (run : Run) (s : ℕ) (view : SenderValue) (body : List Raw) (number : Option ℕ) (numbers first : ℕ) (raws : List Raw)
    → first ≡ tail (world run) → Knows run s view
    → numbers ≡ numbers_given (Won body number ∷ trail_of (Sender s) run)
    → raws ≡ commands s number body
    → Knows ((Sender s, Won body number) ∷ run) s (view_won (view.batches + 1) numbers first raws)
won_known run s view body number numbers first raws at k count raws_are =
    let mine : Trail = trail_of (Sender s) run in
    let e : Event = Won body number in
    let now : ℕ = (world ((Sender s, e) ∷ run)).start s in
    let starts : now ≡ tail (world run) = ap (λ (v : Bool). cond v (tail (world run)) ((world run).start s)) (eq-eqb s s refl) in
    let new : SenderValue = view_won (view.batches + 1) numbers first raws in
    let known : KnowsTrail s (e ∷ mine) now new = record {
      looked_is = refl;
      batches_is = let is = k.batches_is in omega (arith, is);
      numbers_is = count;
      start_is = at ∙ sym starts;
      commands_are = raws_are;
      written_is = λ n half low. ap (is_written half) (fresh n) ∙ unwritten half;
      flipped_is = λ n low. ap (λ (c : Progress). c.flipped) (fresh n);
    } in
    subst (λ (t : Trail). KnowsTrail s t now new) (sym (own_trail run s e)) known
