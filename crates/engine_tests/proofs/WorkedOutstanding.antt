-- Transactions that use what is too old, an entry or tables: for each the definitions of what was told are false.
use Rattle.std.proofs.Common.{◌≡◌, ℕ, zero, suc, ◌<◌, ◌≤◌, true, [], ◌∷◌, Option, None, Some, Ok, refl, subst, arith, leb-true}
use Rattle.std.proofs.lemmas.Option.{slice_get_within}
use Rattle.cmdcodec.specs.declared.raw.Raw.{Raw}
use Rattle.cmdcodec.specs.declared.command.Command.TheVariants.{CfgiSte}
use Rattle.cmdcodec.specs.Opcodes.{opcode_named}
use Rattle.cmdcodec.specs.Legality.{first_ill}
use Rattle.cmdcodec.specs.Spelling.{Spells}
use Rattle.ringcore.specs.declared.world.event.Event.TheVariants.{Ask}
use Rattle.ringcore.specs.world.Trails.{Run, Trail}
use Rattle.caches.specs.declared.tag.Tag.TheVariants.{Ste}
use Rattle.ring.specs.sender.Senders.{SenderValue}
use Rattle.engine.specs.Ends.{reserved_ahead}
use Rattle.transactions.specs.declared.outstanding.OutstandingTransaction.{OutstandingTransaction}
use Rattle.transactions.specs.declared.used.Used.TheVariants.{Entry, Tables}
use Rattle.transactions.specs.Outstanding.{Slots, IsAt}
use Rattle.ringcore.specs.world.World.{taken_as}
use Rattle.transactions.specs.Tracking.{TrackedValue, IsTracked}
use Rattle.transactions.specs.Transactions.{TransactionValue, IsBeginWalkedAnswer}
use Rattle.transactions.specs.Told.{NoOutstandingIsOlder, WasToldFully, WasToldAllFully}

-- CMD_CFGI_STE of streams 5 and 6 with Leaf 1
abbrev five : Raw
five = record { lo = 0x500000003; hi = 1 }

abbrev six : Raw
six = record { lo = 0x600000003; hi = 1 }

spelled_five : Spells five (CfgiSte 5 true)
spelled_five = ((refl, refl, refl), refl)

legal_five : first_ill five ≡ None
unfolding opcode_named
legal_five = refl

spelled_six : Spells six (CfgiSte 6 true)
spelled_six = ((refl, refl, refl), refl)

legal_six : first_ill six ≡ None
unfolding opcode_named
legal_six = refl

-- a transaction that began with the entry of a stream that was born then
abbrev pub used : ℕ → ℕ → OutstandingTransaction
used sid born = record { number = 1; used = Entry (Ste sid); born = born; covered = true }

-- a walk that began after so many commands
abbrev pub walking : ℕ → OutstandingTransaction
walking born = record { number = 1; used = Tables; born = born; covered = true }

-- ---- what is older than the first commands of a ring

-- It began with an entry that was filled before the first command.
pub first_is_older : (slots : Slots) (slot : ℕ) → IsAt slots slot (used 5 0) → ¬ NoOutstandingIsOlder slots (five ∷ six ∷ [])
first_is_older slots slot there none = let after : 0 < 0 = none slot (used 5 0) there 0 five (CfgiSte 5 true) refl legal_five spelled_five refl in absurd (omega (arith, after))

-- One that is as old as the command counts as older: its entry was filled before that command was taken.
pub as_old_is_older : (slots : Slots) (slot : ℕ) → IsAt slots slot (used 6 1) → ¬ NoOutstandingIsOlder slots (five ∷ six ∷ [])
as_old_is_older slots slot there none = let after : 1 < 1 = none slot (used 6 1) there 1 six (CfgiSte 6 true) refl legal_six spelled_six refl in absurd (omega (arith, after))

-- A walk counts that is as old as any invalidation, though nothing tells what it reads.
pub walk_is_older : (slots : Slots) (slot : ℕ) → IsAt slots slot (walking 1) → ¬ NoOutstandingIsOlder slots (five ∷ six ∷ [])
walk_is_older slots slot there none = let after : 1 < 1 = none slot (walking 1) there 1 six (CfgiSte 6 true) refl legal_six spelled_six refl in absurd (omega (arith, after))

-- It counts in whatever slot it is.
pub second_slot_counts : ¬ NoOutstandingIsOlder (None ∷ Some (used 5 0) ∷ []) (five ∷ six ∷ [])
second_slot_counts = first_is_older (None ∷ Some (used 5 0) ∷ []) 1 refl

-- ---- what isn't

inner : (a b : OutstandingTransaction) → Some a ≡ Some b → a ≡ b
inner a b is = cc

-- One that began behind both commands isn't older.
pub behind_the_invalidation_is_no_older : NoOutstandingIsOlder (Some (used 5 2) ∷ []) (five ∷ six ∷ [])
behind_the_invalidation_is_no_older (suc slot) o there place raw command at legal spelled covers = absurd (cc)
behind_the_invalidation_is_no_older zero o there place raw command at legal spelled covers =
    let same : used 5 2 ≡ o = inner (used 5 2) o (outer (Some (used 5 2)) (Some o) there) in
    let inside = slice_get_within (five ∷ six ∷ []) place raw at in
    subst (λ (x : OutstandingTransaction). place < x.born) same inside
  where
    outer : (a b : Option OutstandingTransaction) → Some a ≡ Some b → a ≡ b
    outer a b is = cc

-- One that ended is in no slot any more.
pub ended_counts_no_more : NoOutstandingIsOlder (None ∷ []) (five ∷ six ∷ [])
ended_counts_no_more zero o there place raw command at legal spelled covers = absurd (cc)
ended_counts_no_more (suc slot) o there place raw command at legal spelled covers = absurd (cc)

-- None begins with what a walk read that a command overtook.
pub overtaken_walk_begins_nothing : (t new : TrackedValue) (token : TransactionValue) → IsTracked t (taken_as five ∷ []) → ¬ IsBeginWalkedAnswer t 0 (Ste 5) new (Ok token)
unfolding opcode_named
overtaken_walk_begins_nothing t new token tracked begun = (begun.1 (taken_as five ∷ []) tracked).1 (record {
  place = 0;
  taken = taken_as five;
  at = refl;
  since = leb-true 0 0 refl;
  covered = record { applied = refl; command = CfgiSte 5 true; spelled = spelled_five; covered = refl };
})

-- ---- what a sender was told

-- For each number that it was told, a transaction counts that a command before that CMD_SYNC covers.
pub each_number_told_counts : (run : Run) (t : TrackedValue) (s told : ℕ) (older : Trail) (was : WasToldFully run t s told older) (number : ℕ) (some : 1 ≤ number) (most : number ≤ told)
    → reserved_ahead (was.truly.was_told.applied number some most) ≡ five ∷ six ∷ [] → (slot : ℕ) → ¬ IsAt t.outstanding slot (used 6 1)
each_number_told_counts run t s told older was number some most ahead slot there =
    as_old_is_older t.outstanding slot there (subst (NoOutstandingIsOlder t.outstanding) ahead (was.none_outstanding number some most))

-- What was told by an ask before the newest counts too.
pub first_of_two_asks_was_told_fully : (run : Run) (t : TrackedValue) (s : SenderValue) → s.trail ≡ Ask 2 ∷ Ask 1 ∷ [] → WasToldAllFully run t s → WasToldFully run t s.number 1 []
first_of_two_asks_was_told_fully run t s trail_is told = told (Ask 2 ∷ []) [] 1 trail_is
