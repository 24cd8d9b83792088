-- The host's commands are appended one by one.
use Rattle.std.proofs.Common.{◌≡◌, ℕ, ◌+◌, ◌<◌, ◌≤◌, ◌==◌, false, List, [], ◌∷◌, ◌++◌, length, take, drop, get_or, Option, Some, None, refl, sym, ◌∙◌, ap, append_assoc, append-nil, arith, length-append}
use Rattle.std.specs.Option.{option_to_list}
use Rattle.std.specs.List.{filter_map, cons_option}
use Rattle.std.proofs.lemmas.Bool.{eqb-false}
use Rattle.std.proofs.lemmas.List.{take_more, take-append-drop, take-append-le}
use Rattle.std.proofs.lemmas.List.Elements.{All-nil, All-more, filter_map-append}
use Rattle.cmdcodec.specs.declared.raw.Raw.{Raw}
use Rattle.cmdcodec.specs.declared.command.Command.{Command}
use Rattle.smmu_features.specs.declared.smmu.Smmu.{Smmu}
use Rattle.guest_commands.specs.declared.streams.Attachment.{Attachment}
use Rattle.guest_commands.specs.HostCommands.{stream_words}
use Rattle.guest_commands.specs.Appending.{IsSpelledFor, AreAppended}

pub start : (smmu : Smmu) (command : Command) (streams : List Attachment) (old : List Raw) → length old ≤ 63 → AreAppended smmu command (take 0 streams) old old
start smmu command streams old few = record { all = sym (append-nil old); few = few; spelled = All-nil (IsSpelledFor smmu command) }

one_option : {X : Type 0} (o : Option X) → cons_option o [] ≡ option_to_list o
one_option None = refl
one_option (Some x) = refl

more : {X Y : Type 0} (f : X → Option Y) (xs : List X) (i : ℕ) (d : X) → i < length xs → filter_map f (take (i + 1) xs) ≡ filter_map f (take i xs) ++ option_to_list (f (get_or xs i d))
more f xs i d small =
    ap (filter_map f) (take_more xs i d small) ∙ filter_map-append f (take i xs) (get_or xs i d ∷ []) ∙ ap (λ e. filter_map f (take i xs) ++ e) (one_option (f (get_or xs i d)))

pub step : (smmu : Smmu) (command : Command) (streams : List Attachment) (initial old new : List Raw) (i : ℕ) (d : Attachment) → i < length streams
    → AreAppended smmu command (take i streams) initial old → new ≡ old ++ option_to_list (stream_words smmu command (get_or streams i d)) → length new ≤ 63
    → IsSpelledFor smmu command (get_or streams i d) → AreAppended smmu command (take (i + 1) streams) initial new
step smmu command streams initial old new i d small was is few spelled =
    let f = stream_words smmu command in
    let found = option_to_list (f (get_or streams i d)) in
    record {
      all = is ∙ ap (λ o. o ++ found) was.all ∙ append_assoc initial (filter_map f (take i streams)) found ∙ ap (λ o. initial ++ o) (sym (more f streams i d small));
      few = few;
      spelled = All-more (IsSpelledFor smmu command) streams i d small was.spelled spelled;
    }

-- As many as there are up to some place are there in all.
fewer : {X Y : Type 0} (f : X → Option Y) (xs : List X) (n : ℕ) → length (filter_map f (take n xs)) ≤ length (filter_map f xs)
fewer f xs n =
    let whole = sym (ap (filter_map f) (take-append-drop n xs)) ∙ filter_map-append f (take n xs) (drop n xs) in
    let long = length-append (filter_map f (take n xs)) (filter_map f (drop n xs)) in
    omega (arith, ap length whole, long)

-- One more than the 63 that there are doesn't fit.
pub full : (smmu : Smmu) (command : Command) (streams : List Attachment) (initial items : List Raw) (words : Raw) (i : ℕ) (d : Attachment) → i < length streams
    → AreAppended smmu command (take i streams) initial items → 63 ≤ length items → stream_words smmu command (get_or streams i d) ≡ Some words
    → 63 < length initial + length (filter_map (stream_words smmu command) streams)
full smmu command streams initial items words i d small was many is =
    let f = stream_words smmu command in
    let until = ap length was.all ∙ length-append initial (filter_map f (take i streams)) in
    let next = ap length (more f streams i d small ∙ ap (λ o. filter_map f (take i streams) ++ option_to_list o) is) in
    let long = length-append (filter_map f (take i streams)) (words ∷ []) in
    let all = fewer f streams (i + 1) in
    omega arith

-- Cut back, the list is as it was.
pub cut : (smmu : Smmu) (command : Command) (streams : List Attachment) (initial items : List Raw) → AreAppended smmu command streams initial items → take (length initial) items ≡ initial
cut smmu command streams initial items was =
    ap (take (length initial)) was.all ∙ take-append-le (length initial) initial (filter_map (stream_words smmu command) streams) (omega arith) ∙ all_of initial
  where
    all_of : (xs : List Raw) → take (length xs) xs ≡ xs
    all_of [] = refl
    all_of (x ∷ xs) = ap (λ l. x ∷ l) (all_of xs)

-- There is room for one more where there aren't 63.
pub few_more : (old new : List Raw) (words : Raw) → new ≡ old ++ words ∷ [] → (length old == 63) ≡ false → length old ≤ 63 → length new ≤ 63
few_more old new words is not_full few =
    let long = ap length is ∙ length-append old (words ∷ []) in
    let other = eqb-false (length old) 63 not_full in
    omega arith
