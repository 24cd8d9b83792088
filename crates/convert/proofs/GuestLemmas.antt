-- The guest of a command line, stream by stream.
use Rattle.std.proofs.Common.{◌≡◌, ◌⊎◌, ◌<◌, ◌≤◌, ◌+◌, ℕ, List, [], ◌∷◌, length, map, drop, get_or, arith, Ok, Err, inl, inr, refl, ap, sym, ◌∙◌}
use Rattle.std.proofs.lemmas.List.{drop_all, drop_more, get_or-map, length-map}
use Rattle.std.specs.Prelude.{Result}
use Rattle.std.specs.Result.{IsErrAnd}
use Rattle.guest_commands.specs.Mappings.{Mapping}
use Rattle.convert.specs.declared.fault.GuestFault.{GuestFault}
use Rattle.convert.specs.declared.fault.GuestFault.TheVariants.{NoMemory}
use Rattle.convert.specs.Guests.{with_stream, with_streams, IsOrNoMemory}

-- A fault stays.
pub failed : (fault : GuestFault) (texts : List (List ℕ)) → with_streams (Err fault) texts ≡ Err fault
unfolding with_streams
failed fault [] = refl
failed fault (text ∷ texts) = refl

pub first : (mapping : Mapping) (text : List ℕ) (texts : List (List ℕ)) → with_streams (Ok mapping) (text ∷ texts) ≡ with_streams (with_stream mapping text) texts
unfolding with_streams
first mapping text texts = refl

pub none_left : (mapping : Mapping) → with_streams (Ok mapping) [] ≡ Ok mapping
unfolding with_streams
none_left mapping = refl

-- What isn't made for a fault.
pub unmade : (wanted made : Result Mapping GuestFault) (fault : GuestFault) → IsErrAnd made (λ told. told ≡ fault) → wanted ≡ Err fault → IsOrNoMemory wanted made
unmade wanted (Ok mapping) fault is same = absurd is
unmade wanted (Err told) fault is same = inl (ap Err is ∙ sym same)

-- the next text, and those that are left behind it
next : {X : Type 0} (f : X → List ℕ) (xs : List X) (i : ℕ) (d : X) → i < length xs → drop i (map f xs) ≡ f (get_or xs i d) ∷ drop (i + 1) (map f xs)
next f xs i d inside =
    drop_more (map f xs) i (f d) (omega (arith, length-map xs f, inside)) ∙ ap (λ text. text ∷ drop (i + 1) (map f xs)) (get_or-map f xs i d (f d) inside)

-- One more stream is attached, or isn't for a fault.
pub one_more : {X : Type 0} (f : X → List ℕ) (xs : List X) (i : ℕ) (d : X) (mapping : Mapping) → i < length xs
    → with_streams (Ok mapping) (drop i (map f xs)) ≡ with_streams (with_stream mapping (f (get_or xs i d))) (drop (i + 1) (map f xs))
one_more f xs i d mapping inside = ap (with_streams (Ok mapping)) (next f xs i d inside) ∙ first mapping (f (get_or xs i d)) (drop (i + 1) (map f xs))

pub all_attached : (wanted : Result Mapping GuestFault) (mapping : Mapping) (texts : List (List ℕ)) (i : ℕ) → length texts ≤ i
    → with_streams (Ok mapping) (drop i texts) ≡ wanted → IsOrNoMemory wanted (Ok mapping)
all_attached wanted mapping texts i all is = inl (sym (none_left mapping) ∙ ap (with_streams (Ok mapping)) (sym (drop_all i texts all)) ∙ is)

pub unattached : (wanted made : Result Mapping GuestFault) (fault : GuestFault) → IsErrAnd made (λ told. told ≡ fault) → (wanted ≡ Err fault) ⊎ (fault ≡ NoMemory) → IsOrNoMemory wanted made
unattached wanted made fault is (inl same) = unmade wanted made fault is same
unattached wanted (Ok mapping) fault is (inr memory) = absurd is
unattached wanted (Err told) fault is (inr memory) = inr (ap Err (is ∙ memory))
