-- Where the count of a completion message leads.
use Rattle.std.proofs.Common.{◌≡◌, ◌≢◌, ◌⊎◌, inl, inr, ℕ, ◌+◌, ◌-◌, ◌%◌, ◌^◌, ◌<◌, ◌≤◌, length, refl, ap, sym, subst, ◌∙◌, arith}
use Rattle.std.proofs.Math.Nat.{pow-le-pow_right, mod-eq_of_lt}
use Rattle.qindex.specs.Positions.{IndexValue, size, index_of}
use Rattle.qindex.specs.Indexes.{distance}
use Rattle.qindex.specs.Laws.{IndexesTellTheQueue}
use Rattle.hardware_queue.specs.declared.command_error.CommandError.{CommandError}
use Rattle.hardware_queue.specs.declared.queue_progress.Progress.{Progress}
use Rattle.hardware_queue.specs.declared.queue_progress.Progress.TheVariants.{Consumed, Stopped, Broken}
use Rattle.hardware_queue.specs.declared.register_words.RegisterWords.{RegisterWords}
use Rattle.hardware_queue.specs.declared.state.QueueState.{QueueState}
use Rattle.hardware_queue.specs.declared.state.QueueState.TheVariants as state
use Rattle.hardware_queue.specs.Queues.{QueueValue, newly_consumed}
use Rattle.hardware_queue.specs.Owners.{IsBroken, IsStoppedState, IsOwned}
use Rattle.hardware_queue.specs.Supplying.{CanHave, HasLooked}
use Rattle.shadow_queue.specs.Messages.{message_of, IsToldUpTo, AreToldBy, words_at, HasHeard, SaysNothing, WentOnBehindRestart}
use Rattle.shadow_queue.specs.Shadows.{IsShadow}

-- how far a message is ahead of what an MSI would say by now
abbrev pub further : ℕ → ℕ → ℕ
further known message = (message + 2 ^ 32 - known % 2 ^ 32) % 2 ^ 32

pub are_told : IndexesTellTheQueue → (q : QueueValue) (prod cons : IndexValue) (message number : ℕ) → IsShadow q prod cons → message < 2 ^ 32
    → q.consumed + further (q.consumed + q.supplied.again) message ≤ length q.shown
    → number ≡ (index_of q.geometry (q.consumed + further (q.consumed + q.supplied.again) message)).number → number < 2 ^ 20
    → AreToldBy message q (record { gerror = q.gerrorn; cons = number })
are_told tell q prod cons message number is low shown number_is small =
    let p : ℕ = q.consumed + further (q.consumed + q.supplied.again) message in
    let within = is.indexes.within in
    let few : size q.geometry ≤ 2 ^ 19 = pow-le-pow_right (omega arith) is.geometry.1 in
    let between = tell q.geometry p q.consumed is.geometry (omega arith) (omega (arith, shown, within)) in
    record {
      position = p;
      told = record { counted = omega (arith, low); ahead = omega arith; shown = shown };
      only = λ other told.
          let counted = told.counted in
          let ahead = told.ahead in
          let most = told.shown in
          omega (arith, low, counted, ahead, most, shown, within, few);
      words_are = ap (λ (n : ℕ). record { gerror = q.gerrorn; cons = n }) number_is;
      consumed =
          let rd : number % 2 ^ 20 ≡ (index_of q.geometry p).number = mod-eq_of_lt small ∙ number_is in
          let far : newly_consumed number q ≡ p - q.consumed = ap (λ (n : ℕ). distance (record { geometry = q.geometry; number = n }) (index_of q.geometry q.consumed)) rd ∙ between.distance in
          omega (arith, far);
    }

-- ---- of before a restart

pub messages_of_before : (position told : ℕ) (before later : QueueValue) → position ≤ length before.shown → IsOwned later → WentOnBehindRestart position before later
    → IsToldUpTo told (message_of position before) later → told ≡ later.consumed
messages_of_before position told before later known owned went is =
    let counted = is.counted in
    let ahead = is.ahead in
    let shown = is.shown in
    let within = owned.within in
    let again = went.again in
    let restarted = went.restarted in
    let consumed = went.consumed in
    let recent = went.recent in
    omega (arith, known, counted, ahead, shown, within, again, restarted, consumed, recent)

-- ---- by its words

-- Nothing that the registers can have is said.
pub says_nothing : (message : ℕ) (q : QueueValue) (words : RegisterWords) → AreToldBy message q words → ¬ CanHave words q → SaysNothing message q
says_nothing message q words are cannot position told can =
    cannot (subst (λ (w : RegisterWords). CanHave w q) (sym are.words_are) (subst (λ (p : ℕ). CanHave (words_at p q) q) (are.only position told) can))

pub heard : (message count : ℕ) (old new : QueueValue) (words : RegisterWords) → AreToldBy message old words → HasLooked words old new (Consumed count) → HasHeard message old new count
heard message count old new words are looked =
    let is : old.consumed + count ≡ are.position = ap (λ (n : ℕ). old.consumed + n) looked.1.0.count_is ∙ are.consumed in
    record {
      told = subst (λ (p : ℕ). IsToldUpTo p message old) (sym is) are.told;
      looked = subst (λ (p : ℕ). HasLooked (words_at p old) old new (Consumed count)) (sym is) (subst (λ (w : RegisterWords). HasLooked w old new (Consumed count)) are.words_are looked);
    }

-- No error is active by them.
never_stopped : (message count : ℕ) (error : CommandError) (old new : QueueValue) (words : RegisterWords) → AreToldBy message old words → ¬ HasLooked words old new (Stopped count error)
never_stopped message count error old new words are looked =
    let by = subst (λ (w : RegisterWords). HasLooked w old new (Stopped count error)) are.words_are looked in
    by.1.1.differ refl

-- ---- a queue that isn't running

pub is_running : (found : QueueState) → ¬ IsBroken found → ¬ IsStoppedState found → found ≡ state.Running
is_running state.Running unbroken unstopped = refl
is_running (state.Stopped error) unbroken unstopped = absurd (unstopped (error, refl))
is_running (state.Broken word) unbroken unstopped = absurd (unbroken (word, refl))

pub broken_is_not_running : (found : QueueState) → IsBroken found → found ≢ state.Running
broken_is_not_running found broken running = let e : state.Running ≡ state.Broken broken.0 = sym running ∙ broken.1 in absurd (cc)

pub stopped_is_not_running : (found : QueueState) → IsStoppedState found → found ≢ state.Running
stopped_is_not_running found stopped running = let e : state.Running ≡ state.Stopped stopped.0 = sym running ∙ stopped.1 in absurd (cc)

pub broken_or_not : (found : QueueState) → IsBroken found ⊎ ¬ IsBroken found
broken_or_not state.Running = inr (λ is. let e : state.Running ≡ state.Broken is.0 = is.1 in absurd (cc))
broken_or_not (state.Stopped error) = inr (λ is. let e : state.Stopped error ≡ state.Broken is.0 = is.1 in absurd (cc))
broken_or_not (state.Broken word) = inl (word, refl)

-- what a look found that counted nothing
abbrev pub CountsNothing : Progress → Type 0
CountsNothing found = ((count : ℕ) × (error : CommandError) × (found ≡ Stopped count error)) ⊎ ((word : ℕ) × (found ≡ Broken word))

pub was_broken : (message : ℕ) (words : RegisterWords) (old new : QueueValue) (before : QueueState) (found : Progress) → AreToldBy message old words → CanHave words old → CountsNothing found
    → (¬ IsBroken before → HasLooked words old new found) → IsBroken before
was_broken message words old new before found told can nothing looked =
    elim (broken_or_not before) [
      | inl broken ↦ broken
      | inr unbroken ↦ absurd (elim nothing [
        | inl stopped ↦ never_stopped message stopped.0 stopped.1 old new words told (subst (HasLooked words old new) stopped.2 (looked unbroken))
        | inr broken ↦ (subst (HasLooked words old new) broken.1 (looked unbroken)).1 can
      ])
    ]
