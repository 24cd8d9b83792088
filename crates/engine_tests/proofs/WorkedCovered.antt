-- What is told of the entries that a command covers, for CFGI_STE of stream 5, and where it is written.
use Rattle.std.proofs.Common.{◌≡◌, ℕ, true, cond, length, List, [], ◌∷◌, Some, None, refl, sym, ap}
use Rattle.std.specs.FinMap as finite
use Rattle.std.specs.FinMap.{get-retain_keys}
use Rattle.std.specs.List.Sorted.{IsPermutation}
use Rattle.cmdcodec.specs.declared.command.Command.{Command}
use Rattle.cmdcodec.specs.declared.command.Command.TheVariants.{CfgiSte}
use Rattle.caches.specs.declared.tag.Entry.{Entry}
use Rattle.caches.specs.declared.tag.Tag.{Tag}
use Rattle.caches.specs.declared.tag.Tag.TheVariants.{Ste, Cd}
use Rattle.caches.specs.Covers.{covers}
use Rattle.caches.specs.Held.{Entries}
use Rattle.caches.specs.TagOrder.{tag_cmp_exact}
use Rattle.caches.specs.Told.{AreTold, IsCoveredIn, begun_with, only_covered}

abbrev command : Command
command = CfgiSte 5 true

module _ (entries : Entries) where
  left : (tag : Tag) → finite.get (only_covered command entries) tag ≡ cond (covers command tag) (finite.get entries tag) None
  left tag = get-retain_keys entries (covers command) tag (λ x e. ap (covers command) (sym (tag_cmp_exact tag x e)))

  pub its_stream_is_covered : finite.get (only_covered command entries) (Ste 5) ≡ finite.get entries (Ste 5)
  its_stream_is_covered = left (Ste 5)

  pub its_descriptors_are_covered : finite.get (only_covered command entries) (Cd 5 1) ≡ finite.get entries (Cd 5 1)
  its_descriptors_are_covered = left (Cd 5 1)

  pub another_stream_is_not : finite.get (only_covered command entries) (Ste 6) ≡ None
  another_stream_is_not = left (Ste 6)

  -- What is told is held, under its own tag, and covered.
  pub told_is_held : (entry : Entry) → IsCoveredIn entries command entry → finite.get entries entry.tag ≡ Some entry
  told_is_held entry told = told.held

  pub told_is_covered : (entry : Entry) → IsCoveredIn entries command entry → covers command entry.tag ≡ true
  told_is_covered entry told = told.covered

module _ (a b x y z : Entry) where
  -- Room for more: what stood behind stays.
  pub written_over_the_beginning : begun_with (a ∷ b ∷ []) (x ∷ y ∷ z ∷ []) ≡ a ∷ b ∷ z ∷ []
  written_over_the_beginning = refl

  -- Room for fewer.
  pub written_as_far_as_there_is_room : begun_with (a ∷ b ∷ []) (x ∷ []) ≡ a ∷ []
  written_as_far_as_there_is_room = refl

module _ (entries : Entries) (old new : List Entry) (count : ℕ) (told : AreTold entries old new count) where
  -- Each is told, and once.
  pub each_is_told_once : IsPermutation (finite.values entries) told.list
  each_is_told_once = told.all

  -- All are counted, also without room.
  pub all_are_counted : count ≡ length told.list
  all_are_counted = told.counted

  pub stand_at_the_beginning : new ≡ begun_with told.list old
  stand_at_the_beginning = told.begun
