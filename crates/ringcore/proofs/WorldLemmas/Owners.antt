-- Whose batches there are, and that no list of a run is long.
use Rattle.std.proofs.Common.{◌≡◌, ◌⊎◌, ℕ, zero, suc, ◌*◌, ◌^◌, ◌<◌, ◌≤◌, List, [], ◌∷◌, ◌++◌, length, Option, Some, None, refl, sym, ap, ◌∙◌, subst, ⊎_elim, inl, inr, mul-le-mul_right, arith, length-append}
use Rattle.std.proofs.lemmas.List.{length-map}
use Rattle.std.proofs.lemmas.Option.{same_Some}
use Rattle.std.specs.Prelude.{slice_get}
use Rattle.cmdcodec.specs.declared.raw.Raw.{Raw}
use Rattle.ringcore.specs.declared.world.event.Who.TheVariants.{Consumer, Sender}
use Rattle.ringcore.specs.declared.world.event.Event.{Event}
use Rattle.ringcore.specs.declared.world.event.Event.TheVariants.{Look, Won, Lost, Write, Flip, Test, Read, Advance, Close, Acknowledge, Ask}
use Rattle.ringcore.specs.world.Trails.{Run}
use Rattle.ringcore.specs.world.World.{Taken, commands, tail, head, world}
use Rattle.ringcore.specs.world.Delivery.{Batch, batches, joined, advanced}
use Rattle.ringcore.specs.world.Laws.{BatchesHaveOwners, AllOfBatches, ListsAreShort}
use Rattle.ringcore.proofs.WorldLemmas.Lists.{none_some}
use Rattle.ringcore.proofs.WorldLemmas.Reading.{is_read, length_of_all}
use Rattle.ringcore.proofs.WorldLemmas.Numbering.{AllBodies, is_kept}
use Rattle.ringcore.proofs.WorldLemmas.Sound.{sound, length_commands}
use Rattle.ringcore.proofs.WorldLemmas.Bound.{reserved_bound}

-- ---- owners

in_longer : {A : Type 0} (xs : List A) (y z : A) (i : ℕ) → slice_get (xs ++ y ∷ []) i ≡ Some z → (slice_get xs i ≡ Some z) ⊎ (y ≡ z)
in_longer [] y z zero e = inr (same_Some y z e)
in_longer [] y z (suc i) e = none_some z e
in_longer (x ∷ xs) y z zero e = inl e
in_longer (x ∷ xs) y z (suc i) e = in_longer xs y z i e

-- The consumer reserves nothing.
of_senders : (xs : Run) (e : Event) → batches ((Consumer, e) ∷ xs) ≡ batches xs
of_senders xs (Look found) = refl
of_senders xs (Won body number) = refl
of_senders xs (Lost body closes found) = refl
of_senders xs (Write offset half) = refl
of_senders xs (Flip offset count) = refl
of_senders xs (Test limit found) = refl
of_senders xs (Read offset half word) = refl
of_senders xs (Advance raws) = refl
of_senders xs Close = refl
of_senders xs (Acknowledge sender number) = refl
of_senders xs (Ask found) = refl

pub have_owners : BatchesHaveOwners
have_owners senders [] only i b at = none_some b at
have_owners senders ((Consumer, e) ∷ xs) only i b at = have_owners senders xs only.1 i b (ap (λ l. slice_get l i) (sym (of_senders xs e)) ∙ at)
have_owners senders ((Sender s, Look found) ∷ xs) only i b at = have_owners senders xs only.1 i b at
have_owners senders ((Sender s, Won body number) ∷ xs) only i b at = ⊎_elim
    (λ (old : slice_get (batches xs) i ≡ Some b). have_owners senders xs only.1 i b old)
    (λ (new : record { sender = s; number = number; body = body } ≡ b). subst (λ (c : Batch). c.sender < senders) new only.0)
    (in_longer (batches xs) (record { sender = s; number = number; body = body }) b i at)
have_owners senders ((Sender s, Lost body closes found) ∷ xs) only i b at = have_owners senders xs only.1 i b at
have_owners senders ((Sender s, Write offset half) ∷ xs) only i b at = have_owners senders xs only.1 i b at
have_owners senders ((Sender s, Flip offset count) ∷ xs) only i b at = have_owners senders xs only.1 i b at
have_owners senders ((Sender s, Test limit found) ∷ xs) only i b at = have_owners senders xs only.1 i b at
have_owners senders ((Sender s, Read offset half word) ∷ xs) only i b at = have_owners senders xs only.1 i b at
have_owners senders ((Sender s, Advance raws) ∷ xs) only i b at = have_owners senders xs only.1 i b at
have_owners senders ((Sender s, Close) ∷ xs) only i b at = have_owners senders xs only.1 i b at
have_owners senders ((Sender s, Acknowledge sender number) ∷ xs) only i b at = have_owners senders xs only.1 i b at
have_owners senders ((Sender s, Ask found) ∷ xs) only i b at = have_owners senders xs only.1 i b at

-- ---- lengths

pub all_of_batches : (run : Run) → AllOfBatches run
all_of_batches run = ap length (is_read run).reserved ∙ length_of_all (batches run)

batch_has_some : (s : ℕ) (number : Option ℕ) (body : List Raw) → 1 ≤ length body → 1 ≤ length (commands s number body)
batch_has_some s None body some = some
batch_has_some s (Some number) body some = let long = length_commands s (Some number) body in omega (arith, long)

fewer_batches : (bs : List Batch) → AllBodies bs → length bs ≤ length (joined bs)
fewer_batches [] all = omega arith
fewer_batches (b ∷ bs) all =
    let rest = fewer_batches bs all.1 in
    let first = batch_has_some b.sender b.number b.body all.0.some in
    let both = length-append (commands b.sender b.number b.body) (joined bs) in
    omega (arith, rest, first, both)

pub lists_are_short : ListsAreShort
lists_are_short ring run few batches_few only ok =
    let each : ring.senders * ring.max_batches ≤ 256 * ring.max_batches = mul-le-mul_right ring.max_batches few in
    let most = reserved_bound ring ring.senders run only ok in
    let product : ℕ = ring.senders * ring.max_batches in
    let reserved : tail (world run) ≤ 2 ^ 46 = omega arith in
    let behind = (sound ring run ok).behind in
    let all = all_of_batches run in
    let many : length (advanced run) ≡ head (world run) = sym (ap length (is_read run).taken) ∙ length-map (world run).taken (λ (x : Taken). x.raw) in
    let fewer = fewer_batches (batches run) (is_kept ring run ok).bodies in
    record {
      reserved = reserved;
      taken = omega (arith, reserved, behind);
      joined = omega (arith, reserved, all);
      advanced = omega (arith, reserved, behind, many);
      batches = omega (arith, reserved, all, fewer);
    }
