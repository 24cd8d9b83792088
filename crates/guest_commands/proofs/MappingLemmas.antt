-- What attaching and detaching keeps.
use Rattle.std.proofs.Common.{◌≡◌, ◌≢◌, ℕ, ◌+◌, ◌<◌, ◌≤◌, ◌==◌, not, Bool, true, false, cond, List, [], ◌∷◌, ◌++◌, length, get_or, refl, ap, subst, arith}
use Rattle.std.specs.List.{filter, list_any}
use Rattle.std.proofs.lemmas.Bool.{both_ways, eq-eqb, eqb-true}
use Rattle.std.proofs.lemmas.List.{length-append}
use Rattle.std.proofs.lemmas.List.Elements.{All-push, All-filter, filter-append}
use Rattle.std.proofs.lemmas.List.Folds.{list_any_at}
use Rattle.std.proofs.lemmas.List.Kept.{AllPairs-filter}
use Rattle.std.proofs.lemmas.List.Quantifiers.{all_pairs_push}
use Rattle.guest_commands.specs.declared.streams.Attachment.{Attachment}
use Rattle.guest_commands.specs.declared.streams.HostStream.{HostStream}
use Rattle.guest_commands.specs.Limits.{has_stream}
use Rattle.guest_commands.specs.Mappings.{Mapping, IsMapping, AreApart, attached_to, is_used, attached, detached}

-- ---- attach

unused : (streams : List Attachment) (host : ℕ) → list_any (λ stream. stream.host.sid == host) streams ≡ false → (k : ℕ) (d : Attachment) → k < length streams
    → (get_or streams k d).host.sid ≡ host → ⊥
unused streams host none k d small same =
    both_ways (list_any (λ (stream : Attachment). stream.host.sid == host) streams) none
    (list_any_at (λ (stream : Attachment). stream.host.sid == host) streams k d small (eq-eqb _ host same))

few_at : (n : ℕ) (stream : Attachment) (b : Bool) → (b ≡ true → n ≢ 63) → n ≤ 63 → n + length (cond b (stream ∷ []) []) ≤ 63
few_at n stream true room few = let not_full = room refl in omega arith
few_at n stream false room few = omega arith

abbrev push : Mapping → ℕ → HostStream → List Attachment
push m sid host = m.streams ++ record { sid = sid; host = host } ∷ []

few_with : (m : Mapping) (sid : ℕ) (host : HostStream) (other : ℕ) → ((sid == other) ≡ true → length (attached_to m.streams other) ≢ 63)
    → length (attached_to m.streams other) ≤ 63 → length (attached_to (push m sid host) other) ≤ 63
few_with m sid host other room few =
    let stream : Attachment = record { sid = sid; host = host } in
    let split = ap length (filter-append (λ (stream : Attachment). stream.sid == other) m.streams (stream ∷ [])) in
    let sum = length-append (attached_to m.streams other) (cond (sid == other) (stream ∷ []) []) in
    let bound = few_at (length (attached_to m.streams other)) stream (sid == other) room few in
    omega arith

with_stream : (m : Mapping) (sid : ℕ) (host : HostStream) → IsMapping m → has_stream m.smmu host.sid ≡ true → is_used m host.sid ≡ false → length (attached_to m.streams sid) ≢ 63
    → IsMapping (attached m sid host)
with_stream m sid host was had unused_host room = record {
  machine = was.machine;
  had = All-push (λ stream. has_stream m.smmu stream.host.sid ≡ true) m.streams (record { sid = sid; host = host }) was.had had;
  apart = all_pairs_push AreApart m.streams (record { sid = sid; host = host }) was.apart (λ k d small same. unused m.streams host.sid unused_host k d small same);
  few = λ other. few_with m sid host other (λ same. subst (λ n. length (attached_to m.streams n) ≢ 63) (eqb-true sid other same) room) (was.few other);
}

-- If there is memory, it is attached.
pub if_attached : (m : Mapping) (b : Bool) (sid : ℕ) (host : HostStream) → IsMapping m → has_stream m.smmu host.sid ≡ true → is_used m host.sid ≡ false
    → length (attached_to m.streams sid) ≢ 63 → IsMapping (record m { streams = cond b (push m sid host) m.streams })
if_attached m true sid host was had unused_host room = with_stream m sid host was had unused_host room
if_attached m false sid host was had unused_host room = was

-- ---- detach

kept : (b : Bool) (stream : Attachment) (few many : List Attachment) → length few ≤ length many → length (cond b (stream ∷ few) few) ≤ length (cond b (stream ∷ many) many)
kept true stream few many h = omega arith
kept false stream few many h = h

left : (b : Bool) (stream : Attachment) (few many : List Attachment) → length few ≤ length many → length few ≤ length (cond b (stream ∷ many) many)
left true stream few many h = omega arith
left false stream few many h = h

fewer : (p q : Attachment → Bool) (streams : List Attachment) → length (filter p (filter q streams)) ≤ length (filter p streams)
fewer p q [] = omega arith
fewer p q (stream ∷ streams) = elim (q stream) as (λ b. length (filter p (cond b (stream ∷ filter q streams) (filter q streams))) ≤ length (cond (p stream) (stream ∷ filter p streams) (filter p streams))) [
  | true ↦ kept (p stream) stream (filter p (filter q streams)) (filter p streams) (fewer p q streams)
  | false ↦ left (p stream) stream (filter p (filter q streams)) (filter p streams) (fewer p q streams)
]

pub without_stream : (m : Mapping) (sid : ℕ) → IsMapping m → IsMapping (detached m sid)
without_stream m sid was = record {
  machine = was.machine;
  had = All-filter (λ stream. not (stream.sid == sid)) (λ stream. has_stream m.smmu stream.host.sid ≡ true) m.streams was.had;
  apart = AllPairs-filter AreApart (λ stream. not (stream.sid == sid)) m.streams was.apart;
  few = λ other. let all = fewer (λ stream. stream.sid == other) (λ stream. not (stream.sid == sid)) m.streams in let before = was.few other in omega arith;
}
