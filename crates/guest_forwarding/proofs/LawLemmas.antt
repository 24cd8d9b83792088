-- A command among those of a batch that is applied was applied, and no older entry that it covers is held.
use Rattle.std.proofs.Common.{◌≡◌, ℕ, zero, suc, ◌+◌, ◌<◌, ◌≤◌, ◌⊎◌, inl, inr, List, [], ◌∷◌, ◌++◌, map, length, Any, Some, refl, ap, arith}
use Rattle.std.specs.Prelude.{slice_get, slice_index_or}
use Rattle.cmdcodec.specs.declared.raw.Raw.{Raw}
use Rattle.cmdcodec.specs.declared.command.Command.{Command}
use Rattle.caches.specs.declared.tag.Tag.{Tag}
use Rattle.caches.specs.declared.tag.Entry.{Entry}
use Rattle.range_hints.specs.declared.ttl.Ttl.{Ttl}
use Rattle.ring.specs.Runs.{Run, Who, Sender, Event, Won, Write, Flip, Advance, Taken, Applied, taken_as, world}
use Rattle.ring.specs.sender.Senders.{SenderValue}
use Rattle.ringcore.proofs.WorldLemmas.Lists.{get_longer}
use Rattle.engine.specs.Settled.{IsSettledEntry}
use Rattle.guest_commands.specs.Theorems.{Reaches}
use Rattle.guest_forwarding.specs.Carrying.{place_of, AreCarriedOut}
use Rattle.guest_forwarding.specs.Laws.{HasReached, CarriedOutIsApplied, NoOlderEntryIsHeld}

get_at : {A : Type 0} (xs : List A) (place : ℕ) (x : A) → place < length xs → slice_index_or xs place x ≡ x → slice_get xs place ≡ Some x
get_at [] place x less at = absurd (omega arith)
get_at (y ∷ ys) zero x less at = ap Some at
get_at (y ∷ ys) (suc place) x less at = get_at ys place x (omega arith) at

reached : (known : Run) (words : List Raw) (s : SenderValue) (command : Command) (ttl : Ttl) (image : Tag) → AreCarriedOut known words s → Any (Reaches command ttl image) words
    → HasReached command ttl image known s
reached known [] s command ttl image done (place, raw, less, at, reaches) = absurd (omega arith)
reached known (w ∷ ws) s command ttl image done (place, raw, less, at, reaches) = record {
  words = w ∷ ws;
  behind = done;
  host = raw;
  index = place;
  among = get_at (w ∷ ws) place raw less at;
  applied = done.applied.each place raw (get_at (w ∷ ws) place raw less at);
  covers = reaches;
}

pub carried_out_is_applied : CarriedOutIsApplied
carried_out_is_applied s c is command ttl tag image spelled covered imaged =
    reached c.known is.words s command ttl image is.done (is.reached command ttl tag image spelled covered imaged)

-- ---- what the caches hold

-- What was taken stays so.
taken_by : (who : Who) (e : Event) (run : Run) (place : ℕ) (t : Taken) → slice_get (world run).taken place ≡ Some t → slice_get (world ((who, e) ∷ run)).taken place ≡ Some t
taken_by (Sender s) (Won body number) run place t is = is
taken_by (Sender s) (Write offset half) run place t is = is
taken_by (Sender s) (Flip offset count) run place t is = is
taken_by who (Advance raws) run place t is = get_longer (world run).taken (map taken_as raws) place t is
taken_by who e run place t is = is

still_taken : (newer run : Run) (place : ℕ) (t : Taken) → slice_get (world run).taken place ≡ Some t → slice_get (world (newer ++ run)).taken place ≡ Some t
still_taken [] run place t is = is
still_taken (x ∷ newer) run place t is = taken_by x.0 x.1 (newer ++ run) place t (still_taken newer run place t is)

one_more : (m n : ℕ) → (m ≤ n) ⊎ (n < m) → (suc m ≤ suc n) ⊎ (suc n < suc m)
one_more m n (inl less) = inl (omega arith)
one_more m n (inr more) = inr (omega arith)

either : (m n : ℕ) → (m ≤ n) ⊎ (n < m)
either zero n = inl (omega arith)
either (suc m) zero = inr (omega arith)
either (suc m) (suc n) = one_more m n (either m n)

-- An entry that isn't older than a command that covers it, since that was applied, is younger.
younger : (taken : List Taken) (image : Tag) (entry : Entry) (place : ℕ) (raw : Raw) (command : Command) (ttl : Ttl) → IsSettledEntry taken image entry
    → slice_get taken place ≡ Some record { raw = raw; outcome = Applied } → Reaches command ttl image raw → (entry.born ≤ place) ⊎ (place < entry.born) → place < entry.born
younger taken image entry place raw command ttl settled at reaches (inl older) =
    absurd (settled.uncovered place record { raw = raw; outcome = Applied } at older
    record { applied = refl; command = reaches.host; spelled = reaches.spelled.spelled; covered = reaches.covered })
younger taken image entry place raw command ttl settled at reaches (inr newer) = newer

pub no_older_entry_is_held : NoOlderEntryIsHeld
no_older_entry_is_held s c is newer entries settled command ttl tag image spelled covered imaged entry held =
    let reached = carried_out_is_applied s c is command ttl tag image spelled covered imaged in (
      reached,
      younger (world (newer ++ s.history)).taken image entry (place_of reached.behind.applied + reached.index) reached.host command ttl (settled image entry held)
          (still_taken newer s.history (place_of reached.behind.applied + reached.index) record { raw = reached.host; outcome = Applied } reached.applied) reached.covers (either entry.born (place_of reached.behind.applied + reached.index)),
    )
