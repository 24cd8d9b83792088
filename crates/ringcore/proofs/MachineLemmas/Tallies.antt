-- The tallies of syncs follow the consumer's trail.
use Rattle.std.proofs.Common.{◌≡◌, ◌≢◌, ℕ, zero, suc, ◌+◌, ◌^◌, ◌<◌, ◌≤◌, true, false, ◌==◌, ◌&&◌, List, [], ◌∷◌, ◌++◌, length, Option, Some, None, refl, sym, ap, ◌∙◌, subst, inl, inr, ne_eqb, arith}
use Rattle.std.proofs.lemmas.Bool.{cases_eq}
use Rattle.std.specs.Prelude.{slice_index, MatchOption}
use Rattle.cmdcodec.specs.declared.raw.Raw.{Raw}
use Rattle.cmdcodec.specs.ClosingSync.{cell_address}
use Rattle.cmdcodec.specs.Opcodes.{is_sync}
use Rattle.ringcore.specs.declared.world.event.Who.TheVariants.{Consumer, Sender}
use Rattle.ringcore.specs.declared.world.event.Event.{Event}
use Rattle.ringcore.specs.declared.world.event.Event.TheVariants.{Look, Won, Lost, Write, Flip, Test, Read, Advance, Close, Acknowledge, Ask}
use Rattle.ringcore.specs.world.Trails.{Trail, trail_of}
use Rattle.ringcore.specs.world.Laws.{is_sync_to, syncs_in, syncs_taken}
use Rattle.ringcore.specs.machine.ConsumerViews.{ConsumerValue, command_at, and_command, commands_read}
use Rattle.ringcore.specs.machine.SyncTallies.{AreCounted, AdvancesCount, is_advance, OthersDontCount}
use Rattle.ringcore.proofs.WorldLemmas.Lists.{off}
use Rattle.ringcore.proofs.WorldLemmas.SyncCounts.{its_cell, syncs_append}

pub advances_count : AdvancesCount
advances_count run old new raws are counted s inside =
    let there : s < length old = subst (λ n. s < n) counted.same_senders inside in
    counted.counts s there ∙ ap (λ n. n + syncs_in s raws) (are s there)

left : (e : Event) → is_advance e ≡ false → (es : Trail) (s : ℕ) → syncs_taken s (e ∷ es) ≡ syncs_taken s es
left (Look found) no_advance es s = refl
left (Won body number) no_advance es s = refl
left (Lost body closes found) no_advance es s = refl
left (Write offset half) no_advance es s = refl
left (Flip offset count) no_advance es s = refl
left (Test limit found) no_advance es s = refl
left (Read offset half word) no_advance es s = refl
left (Advance raws) no_advance es s = off (sym no_advance)
left Close no_advance es s = refl
left (Acknowledge sender number) no_advance es s = refl
left (Ask found) no_advance es s = refl

pub others_dont_count : OthersDontCount
others_dont_count run Consumer e counts no_advance are s inside = are s inside ∙ sym (left e no_advance (trail_of Consumer run) s)
others_dont_count run (Sender t) e counts no_advance are s inside = are s inside

-- the sender of a closing CMD_SYNC, by the cell that it writes to
pub sender_is : (raw : Raw) (owner : Option ℕ) → is_sync raw ≡ true → MatchOption owner ((t : ℕ) → raw.hi ≢ cell_address t) (λ t. raw.hi ≡ cell_address t)
    → MatchOption owner ((s : ℕ) → is_sync_to s raw ≡ false) (λ t. (s : ℕ) → is_sync_to s raw ≡ (s == t))
sender_is raw None sync none = λ s. ap (λ b. b && raw.hi == cell_address s) sync ∙ ne_eqb raw.hi (cell_address s) (none s)
sender_is raw (Some t) sync its = λ s. ap (λ b. b && raw.hi == cell_address s) sync ∙ its_cell s t raw.hi its

-- ---- commands that are counted one after another

pub counted_more : (old between new : List ℕ) (xs ys : List Raw) → AreCounted old between xs → AreCounted between new ys → AreCounted old new (xs ++ ys)
counted_more old between new xs ys first then = record {
  same_senders = then.same_senders ∙ first.same_senders;
  counts = λ s inside.
      let there : s < length between = subst (λ n. s < n) (sym first.same_senders) inside in
      let one = first.counts s inside in
      let two = then.counts s there in
      let both = syncs_append s xs ys in
      omega (arith, one, two, both);
}

-- the syncs among the first commands that were read are among more of them
one_further : (s : ℕ) (raws : List Raw) (command : Option Raw) → syncs_in s raws ≤ syncs_in s (and_command raws command)
one_further s raws None = omega arith
one_further s raws (Some raw) = let both = syncs_append s raws (raw ∷ []) in omega (arith, both)

pub syncs_further : (s : ℕ) (view : ConsumerValue) (m n : ℕ) → m ≤ n → syncs_in s (commands_read view m) ≤ syncs_in s (commands_read view n)
syncs_further s view m zero le = let none : m ≡ 0 = omega (arith, le) in let is = ap (λ k. syncs_in s (commands_read view k)) none in omega (arith, is)
syncs_further s view m (suc n) le = elim (cases_eq m (suc n)) [
  | inl end ↦ let is = ap (λ k. syncs_in s (commands_read view k)) end in omega (arith, is)
  | inr other ↦
      let most = syncs_further s view m n (omega (arith, le, other)) in
      let one = one_further s (commands_read view n) (command_at view n) in
      omega (arith, most, one)
]

-- The counts so far are within bounds that all of them keep.
pub counts_fit : (old now : List ℕ) (view : ConsumerValue) (offset count : ℕ) (raw : Raw) → offset < count → command_at view offset ≡ Some raw
    → AreCounted old now (commands_read view offset)
    → ((s : ℕ) → s < length old → slice_index old s + syncs_in s (commands_read view count) < 2 ^ 32)
    → (s : ℕ) → s < length now → slice_index now s + syncs_in s (raw ∷ []) < 2 ^ 32
counts_fit old now view offset count raw below is counted bound s inside =
    let there : s < length old = subst (λ n. s < n) counted.same_senders inside in
    let now_is = counted.counts s there in
    let one : syncs_in s (commands_read view (suc offset)) ≡ syncs_in s (commands_read view offset) + syncs_in s (raw ∷ []) =
    ap (λ o. syncs_in s (and_command (commands_read view offset) o)) is ∙ syncs_append s (commands_read view offset) (raw ∷ []) in
    let most = syncs_further s view (suc offset) count (omega (arith, below)) in
    let all = bound s there in
    omega (arith, now_is, one, most, all)

one_on : (k : ℕ) → suc k ≡ k + 1
one_on k = omega arith

pub counted_next : (old between new : List ℕ) (view : ConsumerValue) (offset : ℕ) (raw : Raw) → command_at view offset ≡ Some raw
    → AreCounted old between (commands_read view offset) → AreCounted between new (raw ∷ []) → AreCounted old new (commands_read view (offset + 1))
counted_next old between new view offset raw is first then =
    subst (λ n. AreCounted old new (commands_read view n)) (one_on offset)
    (subst (λ o. AreCounted old new (and_command (commands_read view offset) o)) (sym is) (counted_more old between new (commands_read view offset) (raw ∷ []) first then))

pub none_next : (old new : List ℕ) (view : ConsumerValue) (offset : ℕ) → command_at view offset ≡ None
    → AreCounted old new (commands_read view offset) → AreCounted old new (commands_read view (offset + 1))
none_next old new view offset is first =
    subst (λ n. AreCounted old new (commands_read view n)) (one_on offset)
    (subst (λ o. AreCounted old new (and_command (commands_read view offset) o)) (sym is) first)
