-- Counts of the closing syncs taken, per sender, as kept at run time.
use Rattle.std.specs.Prelude.{◌≡◌, ℕ, ◌+◌, ◌<◌, Bool, true, false, List, ◌∷◌, length, slice_index}
use Rattle.cmdcodec.specs.declared.raw.Raw.{Raw}
use Rattle.ringcore.specs.declared.world.event.Who.{Who}
use Rattle.ringcore.specs.declared.world.event.Who.TheVariants.{Consumer}
use Rattle.ringcore.specs.declared.world.event.Event.{Event}
use Rattle.ringcore.specs.declared.world.event.Event.TheVariants.{Advance}
use Rattle.ringcore.specs.world.Trails.{Run, trail_of}
use Rattle.ringcore.specs.world.Laws.{syncs_in, syncs_taken}

-- After this run they are the counts in the consumer's trail.
abbrev pub AreTallies : Run → List ℕ → Type 0
AreTallies run counts = (s : ℕ) → s < length counts → slice_index counts s ≡ syncs_taken s (trail_of Consumer run)

-- Each count grew by the number of its sender's closing syncs among these commands.
pub record AreCounted (old new : List ℕ) (raws : List Raw) : Type 0 where
  pub same_senders : length new ≡ length old
  pub counts : (s : ℕ) → s < length old → slice_index new s ≡ slice_index old s + syncs_in s raws

-- An advance past these commands counts their syncs.
abbrev pub AdvancesCount : Type 0
AdvancesCount =
    (run : Run) (old new : List ℕ) (raws : List Raw) → AreTallies run old → AreCounted old new raws → AreTallies ((Consumer, Advance raws) ∷ run) new

abbrev pub is_advance : Event → Bool
is_advance (Advance raws) = true
is_advance e = false

-- Any other event leaves the counts.
abbrev pub OthersDontCount : Type 0
OthersDontCount =
    (run : Run) (who : Who) (e : Event) (counts : List ℕ) → is_advance e ≡ false → AreTallies run counts → AreTallies ((who, e) ∷ run) counts
