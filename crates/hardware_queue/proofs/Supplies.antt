-- A look by words that somebody else read.
use Rattle.std.proofs.Common.{◌≡◌, ◌≢◌, ℕ, ◌+◌, ◌-◌, ◌/◌, ◌%◌, Bool, true, false, ◌==◌, eqb-true, List, [], ◌∷◌, ◌++◌, refl, ap, sym, subst, ◌∙◌, arith}
use Rattle.std.proofs.lemmas.List.{append_cancel_right}
use Rattle.std.specs.Prelude.{All, if◌then◌else◌}
use Rattle.hardware_queue.specs.declared.queue_progress.Progress.{Progress}
use Rattle.hardware_queue.specs.declared.queue_progress.Progress.TheVariants.{Consumed, Stopped, Broken}
use Rattle.hardware_queue.specs.declared.reading.Reading.{Reading}
use Rattle.hardware_queue.specs.declared.reading.Reading.TheVariants.{Gerror, Gerrorn, Cons}
use Rattle.hardware_queue.specs.declared.register_words.RegisterWords.{RegisterWords}
use Rattle.circular_buffer.specs.Buffer.{Buffer}
use Rattle.ring.specs.consumer.Deferring.{DeferringValue}
use Rattle.hardware_queue.specs.declared.flight.InFlight.{InFlight}
use Rattle.hardware_queue.specs.declared.state.QueueState.{QueueState}
use Rattle.hardware_queue.specs.declared.command_error.CommandError.{CommandError}
use Rattle.hardware_queue.specs.declared.remedy.Remedy.{Remedy}
use Rattle.hardware_queue.specs.declared.remedy.Remedy.TheVariants.{Retry, Replace}
use Rattle.hardware_queue.specs.Queues.{QueueValue, Supplied, toggled}
use Rattle.hardware_queue.specs.Owners.{HasPolled, HasFound, HasAcknowledged, remedied, without_memory}
use Rattle.hardware_queue.specs.Kept.{IsForwarder}
use Rattle.hardware_queue.specs.Supplying.{CanHave, supplied_with, supplied_gerrorn, AreSupplied, IsSupplied, HasLooked}

-- ---- the words that were read

pub record Are (words : RegisterWords) (gerror cons : ℕ) : Type 0 where
  pub gerror_is : gerror ≡ words.gerror
  pub cons_is : cons ≡ words.cons

both : (supplied : Supplied) (gerror cons : ℕ) (newer : List Reading) → newer ≡ Cons cons ∷ Gerror gerror ∷ [] → All (IsSupplied supplied) newer → Are supplied.words gerror cons
both supplied gerror cons newer is are =
    let all = subst (All (IsSupplied supplied)) is are in
    record { gerror_is = all 1 (Gerror gerror) (omega arith); cons_is = all 0 (Gerror gerror) (omega arith) }

words_are : (words : RegisterWords) (old new : QueueValue) (gerror cons : ℕ) → new.supplied ≡ (supplied_with words old).supplied → new.read ≡ Cons cons ∷ Gerror gerror ∷ old.read → AreSupplied new → Are words gerror cons
words_are words old new gerror cons same read a =
    let before : new.supplied.before ≡ old.read = ap (λ (s : Supplied). s.before) same in
    let newer : a.newer ≡ Cons cons ∷ Gerror gerror ∷ [] =
    append_cancel_right a.newer (Cons cons ∷ Gerror gerror ∷ []) old.read (ap (λ (l : List Reading). a.newer ++ l) (sym before) ∙ sym a.read ∙ read) in
    subst (λ (s : Supplied). Are s.words gerror cons) same (both new.supplied gerror cons a.newer newer a.are)

found_by : (words : RegisterWords) (old new : QueueValue) (found : Progress) (gerror cons : ℕ) → Are words gerror cons → HasFound gerror cons old new found → HasFound words.gerror words.cons old new found
found_by words old new found gerror cons are has =
    subst (λ (k : ℕ). HasFound words.gerror k old new found) are.cons_is (subst (λ (k : ℕ). HasFound k cons old new found) are.gerror_is has)

pub looked : (words : RegisterWords) (old mid new : QueueValue) (found : Progress) → CanHave words old → mid ≡ supplied_with words old → HasPolled mid new found → AreSupplied new → HasLooked words old new found
looked words old mid new (Consumed count) can is polled a =
    let p = subst (λ (q : QueueValue). HasPolled q new (Consumed count)) is polled in
    let are = words_are words old new p.gerror p.word (ap (λ (q : QueueValue). q.supplied) p.found.0.new_is) p.read a in
    (can, found_by words (supplied_with words old) new (Consumed count) p.gerror p.word are p.found)
looked words old mid new (Stopped count error) can is polled a =
    let p = subst (λ (q : QueueValue). HasPolled q new (Stopped count error)) is polled in
    let are = words_are words old new p.gerror p.word (ap (λ (q : QueueValue). q.supplied) p.found.0.new_is) p.read a in
    (can, found_by words (supplied_with words old) new (Stopped count error) p.gerror p.word are p.found)
looked words old mid new (Broken word) can is polled a =
    let p = subst (λ (q : QueueValue). HasPolled q new (Broken word)) is polled in
    let are = words_are words old new p.gerror p.word (ap (λ (q : QueueValue). q.supplied) p.found.2) p.read a in
    let has = found_by words (supplied_with words old) new (Broken word) p.gerror p.word are p.found in
    absurd (has.1 (record { index = can.believable.index; within = can.believable.within }))

-- ---- what stays

pub supplied_still : {D : Type 0} (supplied : Supplied) (q r : QueueValue) (before after : QueueState) (c : DeferringValue D) (kept : Buffer InFlight) (lost : ℕ) → r ≡ record q { supplied = supplied } → after ≡ before
    → IsForwarder q before c kept lost → IsForwarder r after c kept lost
supplied_still supplied q r before after c kept lost new same is =
    subst (λ (x : QueueState). IsForwarder r x c kept lost) (sym same)
    (subst (λ (x : QueueValue). IsForwarder x before c kept lost) (sym new) (record {
      in_flight = record {
        shown = is.in_flight.shown;
        consumed = is.in_flight.consumed;
        kept_are = is.in_flight.kept_are;
        capacity = is.in_flight.capacity;
        stopped = is.in_flight.stopped;
      };
      syncs = λ p lost. let o = is.syncs p lost in record { raw = o.raw; shown = o.shown; other = o.other };
      lost_are = is.lost_are;
    }))

-- ---- an acknowledgement

same_supplied : (remedy : Remedy) (q : QueueValue) → (remedied remedy q).supplied ≡ q.supplied
same_supplied Retry q = refl
same_supplied Replace q = refl

same_read : (remedy : Remedy) (q : QueueValue) → (remedied remedy q).read ≡ q.read
same_read Retry q = refl
same_read Replace q = refl

alone : (supplied : Supplied) (word : ℕ) (newer : List Reading) → newer ≡ Gerrorn word ∷ [] → All (IsSupplied supplied) newer → word / 2 ≡ supplied.gerrorn / 2
alone supplied word newer is are = let all = subst (All (IsSupplied supplied)) is are in all 0 (Gerrorn word) (omega arith)

pub word_is : (remedy : Remedy) (error : CommandError) (gerrorn : ℕ) (old new : QueueValue) → (a : HasAcknowledged remedy error (supplied_gerrorn gerrorn old) new) → AreSupplied new → a.word / 2 ≡ gerrorn / 2
word_is remedy error gerrorn old new a are =
    let same : new.supplied ≡ (supplied_gerrorn gerrorn old).supplied = ap (λ (q : QueueValue). q.supplied) a.new_is ∙ same_supplied remedy (without_memory (supplied_gerrorn gerrorn old)) in
    let before : new.supplied.before ≡ old.read = ap (λ (s : Supplied). s.before) same in
    let newer : are.newer ≡ Gerrorn a.word ∷ [] =
    append_cancel_right are.newer (Gerrorn a.word ∷ []) old.read (ap (λ (l : List Reading). are.newer ++ l) (sym before) ∙ sym are.read ∙ a.read) in
    alone new.supplied a.word are.newer newer are.are ∙ ap (λ (s : Supplied). s.gerrorn / 2) same

turned : (b : Bool) (word : ℕ) → (word % 2 == 1) ≡ b → (if b then word - 1 else word + 1) / 2 ≡ word / 2
turned true word e = let odd = eqb-true (word % 2) 1 e in omega (arith, odd)
turned false word e = let even : word % 2 ≢ 1 = λ odd. absurd (other (word % 2 == 1) (eqb-refl-at odd) e) in omega (arith, even)
  where
    other : (b : Bool) → b ≡ true → b ≡ false → ⊥
    other b one two = absurd (cc)

    eqb-refl-at : word % 2 ≡ 1 → (word % 2 == 1) ≡ true
    eqb-refl-at odd = ap (λ (k : ℕ). k == 1) odd

pub half_stays : (word : ℕ) → toggled word / 2 ≡ word / 2
half_stays word = turned (word % 2 == 1) word refl

-- A word is known by bit 0 and the others.
pub same_word : (b : Bool) (n m : ℕ) → (n % 2 == 1) ≡ b → (m % 2 == 1) ≡ b → n / 2 ≡ m / 2 → n ≡ m
same_word true n m one two half = let k = eqb-true (n % 2) 1 one in let l = eqb-true (m % 2) 1 two in omega (arith, k, l, half)
same_word false n m one two half = let k = even n one in let l = even m two in omega (arith, k, l, half)
  where
    never : (b : Bool) → b ≡ true → b ≡ false → ⊥
    never b yes_ no_ = absurd (cc)

    even : (n : ℕ) → (n % 2 == 1) ≡ false → n % 2 ≢ 1
    even n is odd = never (n % 2 == 1) (ap (λ (k : ℕ). k == 1) odd) is
