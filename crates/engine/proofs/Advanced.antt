-- What a run has advanced past, and what it has taken by that.
use Rattle.std.proofs.Common.{◌≡◌, ℕ, List, [], ◌∷◌, ◌++◌, map, Some, None, refl, sym, ap, ◌∙◌}
use Rattle.std.proofs.lemmas.List.{append_assoc, append-nil, map-append}
use Rattle.std.proofs.lemmas.Option.{slice_get_within}
use Rattle.std.specs.Prelude.{slice_get}
use Rattle.cmdcodec.specs.declared.raw.Raw.{Raw}
use Rattle.cmdcodec.specs.Legality.{first_ill}
use Rattle.ringcore.specs.declared.world.event.Event.TheVariants.{Advance}
use Rattle.ringcore.specs.declared.world.event.Outcome.TheVariants.{Applied}
use Rattle.ringcore.specs.declared.world.event.Who.TheVariants.{Consumer, Sender}
use Rattle.ringcore.specs.world.Trails.{Run}
use Rattle.ringcore.specs.world.World.{Taken, taken_as, outcome_of, world}
use Rattle.ringcore.specs.world.Delivery.{advanced, Begins}
use Rattle.ringcore.proofs.WorldLemmas.Lists.{get_begun, get_map}

-- What was taken earlier is a beginning of what is taken now.
pub begins_later : (later earlier : Run) → Begins (advanced earlier) (advanced (later ++ earlier))
begins_later [] earlier = ([], sym (append-nil (advanced earlier)))
begins_later ((who, Advance raws) ∷ later) earlier =
    let so_far = begins_later later earlier in
    (so_far.0 ++ raws, ap (λ (l : List Raw). l ++ raws) so_far.1 ∙ append_assoc (advanced earlier) so_far.0 raws)
begins_later ((who, e) ∷ later) earlier = begins_later later earlier

pub begins_longer : (xs ys zs : List Raw) → Begins xs ys → Begins ys zs → Begins xs zs
begins_longer xs ys zs one two = (one.0 ++ two.0, two.1 ∙ ap (λ (l : List Raw). l ++ two.0) one.1 ∙ append_assoc xs one.0 two.0)

pub begun_at : (xs ys : List Raw) → Begins xs ys → (i : ℕ) (x : Raw) → slice_get xs i ≡ Some x → slice_get ys i ≡ Some x
begun_at xs ys begins i x at = get_begun xs ys begins i (slice_get_within xs i x at) ∙ at

pub taken_at : (xs : List Raw) (i : ℕ) (x : Raw) → slice_get xs i ≡ Some x → slice_get (map taken_as xs) i ≡ Some (taken_as x)
taken_at xs i x at = get_map taken_as xs i x at

pub legal_is_applied : (r : Raw) → first_ill r ≡ None → outcome_of r ≡ Applied
legal_is_applied r none = search

-- What is taken in a run is what it advanced past.
pub world_taken : (r : Run) → (world r).taken ≡ map taken_as (advanced r)
world_taken [] = refl
world_taken ((Consumer, Advance raws) ∷ r) = ap (λ (l : List Taken). l ++ map taken_as raws) (world_taken r) ∙ sym (map-append taken_as (advanced r) raws)
world_taken ((Sender s, Advance raws) ∷ r) = ap (λ (l : List Taken). l ++ map taken_as raws) (world_taken r) ∙ sym (map-append taken_as (advanced r) raws)
world_taken ((who, e) ∷ r) = world_taken r
