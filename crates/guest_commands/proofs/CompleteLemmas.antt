-- The words of the host's commands may be sent, and cover all that the guest's command covers.
use Rattle.std.proofs.Common.{◌≡◌, ℕ, zero, suc, ◌<◌, Bool, true, false, cond, List, [], ◌∷◌, length, get_or, All, Any, Contains, Option, Some, None, refl, sym, ◌∙◌, ap, subst, arith}
use Rattle.std.specs.List.{filter_map, cons_option}
use Rattle.std.specs.Option.{option_map}
use Rattle.std.proofs.lemmas.List.Elements.{All-nil, All-cons, All-contains, All-contains_itself, All-tail}
use Rattle.cmdcodec.specs.declared.raw.Raw.{Raw}
use Rattle.cmdcodec.specs.declared.command.Command.{Command}
use Rattle.cmdcodec.specs.declared.command.Command.TheVariants.{CfgiCd, CfgiCdAll, TlbiNhAll, TlbiNhAsid, TlbiNhVa, TlbiNhVaa, TlbiNsnhAll, AtcInv, Kept}
use Rattle.cmdcodec.specs.Laws.{SpelledWordsAreLegal}
use Rattle.caches.specs.declared.tag.Tag.{Tag}
use Rattle.caches.specs.declared.tag.Tag.TheVariants.{Cd, S1, S2, Atc}
use Rattle.caches.specs.Covers.{covers}
use Rattle.range_hints.specs.declared.ttl.Ttl.{Ttl}
use Rattle.range_hints.specs.declared.ttl.Ttl.TheVariants.{AnyLevel}
use Rattle.range_hints.specs.Hints.{SpellsWithHint}
use Rattle.range_hints.specs.HintedWords.{hinted_words}
use Rattle.smmu_features.specs.Commands.{IsLegalFor}
use Rattle.invalidations.specs.Reaching.{ServedWordsAreLegal}
use Rattle.guest_commands.specs.declared.streams.Attachment.{Attachment}
use Rattle.guest_commands.specs.Mappings.{Mapping, IsMapping}
use Rattle.guest_commands.specs.HostCommands.{tlb_command, stream_command, stream_words}
use Rattle.guest_commands.specs.Entries.{IsImage, IsOfGuest}
use Rattle.guest_commands.specs.Theorems.{Has, IsIsolated, IsSupported, Reaches}
use Rattle.guest_commands.specs.Conversions.{stop_of}
use Rattle.guest_commands.specs.Appending.{IsSpelledFor, AreHostCommands, AreReached}
use Rattle.guest_commands.proofs.TlbLemmas.{IsGood}
use Rattle.guest_commands.proofs.StreamLemmas.{good_stream, CoversFor, cd_covers, cd_all_covers, atc_covers}
use Rattle.guest_commands.proofs.WordLemmas.{legal_words}
use Rattle.std.proofs.lemmas.Bool.{and_parts}

-- ---- Which stream's command covers an entry.

record IsCoveredFor (m : Mapping) (command : Command) (image : Tag) : Type 0 where
  stream : Attachment
  among : Contains m.streams stream
  covers : CoversFor m.smmu command stream image

-- A TLB invalidation has a command of the host where that has stage 1.
no_tlb : (b : Bool) (x : Command × Ttl) → b ≡ true → cond b (Some x) None ≡ None → ⊥
no_tlb true x e none = cc
no_tlb false x e none = cc

covered_for : (m : Mapping) (command : Command) (ttl : Ttl) → tlb_command m command ttl ≡ None → stop_of command ≡ None → (tag image : Tag) → covers command tag ≡ true
    → IsImage m tag image → IsCoveredFor m command image
covered_for m (CfgiCd sid ssid leaf) ttl none taken (Cd s u) image e (host, among, had, is) = record { stream = _; among = among; covers = cd_covers m sid ssid leaf s u host image e had is }
covered_for m (CfgiCd sid ssid leaf) ttl none taken other image e is = cc
covered_for m (CfgiCdAll sid) ttl none taken (Cd s u) image e (host, among, had, is) = record { stream = _; among = among; covers = cd_all_covers m sid s u host image e (and_parts m.smmu.stage_1 _ had).0 is }
covered_for m (CfgiCdAll sid) ttl none taken other image e is = cc
covered_for m (AtcInv sid ssv ssid global size page) ttl none taken (Atc s u p n) image e (host, among, ats, smmu_ats, had, is) =
    record { stream = _; among = among; covers = atc_covers m sid ssv ssid global size page s u p n host image e ats smmu_ats had is }
covered_for m (AtcInv sid ssv ssid global size page) ttl none taken other image e is = cc
covered_for m (TlbiNhAll vmid) ttl none taken (S1 v o p n) image e (stage, is) = absurd (no_tlb m.smmu.stage_1 _ stage none)
covered_for m (TlbiNhAll vmid) ttl none taken other image e is = cc
covered_for m (TlbiNhAsid vmid asid) ttl none taken (S1 v o p n) image e (stage, is) = absurd (no_tlb m.smmu.stage_1 _ stage none)
covered_for m (TlbiNhAsid vmid asid) ttl none taken other image e is = cc
covered_for m (TlbiNhVa vmid asid leaf page reach) ttl none taken (S1 v o p n) image e (stage, is) = absurd (no_tlb m.smmu.stage_1 _ stage none)
covered_for m (TlbiNhVa vmid asid leaf page reach) ttl none taken other image e is = cc
covered_for m (TlbiNhVaa vmid leaf page reach) ttl none taken (S1 v o p n) image e (stage, is) = absurd (no_tlb m.smmu.stage_1 _ stage none)
covered_for m (TlbiNhVaa vmid leaf page reach) ttl none taken other image e is = cc
covered_for m TlbiNsnhAll ttl none taken (S1 v o p n) image e (stage, is) = absurd (no_tlb m.smmu.stage_1 _ stage none)
covered_for m TlbiNsnhAll ttl none taken (S2 v p n) image e is = absurd is
covered_for m TlbiNsnhAll ttl none taken other image e is = cc
covered_for m (Kept words) ttl none taken tag image e is = cc
covered_for m other ttl none taken tag image e is = cc

-- ---- The words of one command.

-- Words that are good and spelled may be sent.
pub record MayBeSent (m : Mapping) (raw : Raw) : Type 0 where
  pub legal : IsLegalFor m.smmu raw
  pub isolated : IsIsolated m raw
  pub supported : IsSupported m.smmu raw

good_words : SpelledWordsAreLegal → ServedWordsAreLegal → (m : Mapping) (host : Command) (ttl : Ttl) (raw : Raw) → ((tag : Tag) → covers host tag ≡ true → IsOfGuest m tag) → Has m.smmu ttl host
    → SpellsWithHint raw host ttl → MayBeSent m raw
good_words legal served m host ttl raw isolated had spelled = record {
  legal = legal_words legal served m.smmu ttl host raw had spelled.spelled;
  isolated = record { host = host; spelled = spelled.spelled; own = isolated };
  supported = record { host = host; ttl = ttl; spelled = spelled; had = had };
}

split : (m : Mapping) (words : List Raw) → All (MayBeSent m) words → AreHostCommands m words
split m words all = record { legal = λ k d small. (all k d small).legal; isolated = λ k d small. (all k d small).isolated; supported = λ k d small. (all k d small).supported }

-- ---- A TLB invalidation.

pub tlb_own : SpelledWordsAreLegal → ServedWordsAreLegal → (m : Mapping) (command : Command) (ttl : Ttl) (host : Command × Ttl) → IsGood m command ttl host
    → SpellsWithHint (hinted_words host.0 host.1) host.0 host.1 → AreHostCommands m (hinted_words host.0 host.1 ∷ [])
tlb_own legal served m command ttl host good spelled =
    split m _ (All-cons (MayBeSent m) _ [] (good_words legal served m host.0 host.1 _ good.isolated good.had spelled) (All-nil (MayBeSent m)))

pub tlb_reached : (m : Mapping) (command : Command) (ttl : Ttl) (host : Command × Ttl) → IsGood m command ttl host → SpellsWithHint (hinted_words host.0 host.1) host.0 host.1
    → AreReached m command ttl (hinted_words host.0 host.1 ∷ [])
tlb_reached m command ttl host good spelled tag image e is =
    (0, hinted_words host.0 host.1, omega arith, refl, record { host = host.0; host_ttl = host.1; spelled = spelled; covered = good.complete tag image e is; narrowed = good.narrowed })

-- ---- Commands of streams.

own_at : SpelledWordsAreLegal → ServedWordsAreLegal → (m : Mapping) (command : Command) (stream : Attachment) → IsMapping m → Contains m.streams stream → IsSpelledFor m.smmu command stream
    → (o : Option Command) → stream_command m.smmu command stream ≡ o → (rest : List Raw) → All (MayBeSent m) rest
    → All (MayBeSent m) (cons_option (option_map (λ host. hinted_words host AnyLevel) o) rest)
own_at legal served m command stream is_mapping among spelled None e rest all = all
own_at legal served m command stream is_mapping among spelled (Some host) e rest all =
    let good = good_stream m command stream host is_mapping among e in
    All-cons (MayBeSent m) _ rest (good_words legal served m host AnyLevel _ good.isolated good.had (spelled host e)) all

own_streams : SpelledWordsAreLegal → ServedWordsAreLegal → (m : Mapping) (command : Command) → IsMapping m → (streams : List Attachment) → All (Contains m.streams) streams
    → All (IsSpelledFor m.smmu command) streams → All (MayBeSent m) (filter_map (stream_words m.smmu command) streams)
own_streams legal served m command is_mapping [] among spelled = All-nil (MayBeSent m)
own_streams legal served m command is_mapping (stream ∷ streams) among spelled =
    own_at legal served m command stream is_mapping (among 0 stream (omega arith)) (spelled 0 stream (omega arith)) (stream_command m.smmu command stream) refl _
    (own_streams legal served m command is_mapping streams (All-tail (Contains m.streams) stream streams among) (All-tail (IsSpelledFor m.smmu command) stream streams spelled))

pub streams_own : SpelledWordsAreLegal → ServedWordsAreLegal → (m : Mapping) (command : Command) → IsMapping m → All (IsSpelledFor m.smmu command) m.streams
    → AreHostCommands m (filter_map (stream_words m.smmu command) m.streams)
streams_own legal served m command is_mapping spelled = split m _ (own_streams legal served m command is_mapping m.streams (All-contains_itself m.streams) spelled)

any_later : {X : Type 0} (P : X → Type 0) (x : X) (xs : List X) → Any P xs → Any P (x ∷ xs)
any_later P x xs (k, y, small, at, p) = (suc k, y, omega (arith, small), at, p)

any_cons : {X : Type 0} (P : X → Type 0) (o : Option X) (xs : List X) → Any P xs → Any P (cons_option o xs)
any_cons P None xs any = any
any_cons P (Some x) xs any = any_later P x xs any

-- What holds of the element that is made of one element holds of some.
any_made : {X Y : Type 0} (f : X → Option Y) (P : Y → Type 0) (xs : List X) (k : ℕ) (x : X) (y : Y) → k < length xs → get_or xs k x ≡ x → f x ≡ Some y → P y → Any P (filter_map f xs)
any_made f P [] k x y small at is p = absurd (omega (arith, small))
any_made f P (z ∷ zs) zero x y small at is p =
    subst (λ o. Any P (cons_option o (filter_map f zs))) (sym (ap f at ∙ is)) (0, y, omega arith, refl, p)
any_made f P (z ∷ zs) (suc k) x y small at is p = any_cons P (f z) (filter_map f zs) (any_made f P zs k x y (omega (arith, small)) at is p)

pub streams_reached : (m : Mapping) (command : Command) (ttl : Ttl) → IsMapping m → tlb_command m command ttl ≡ None → stop_of command ≡ None → All (IsSpelledFor m.smmu command) m.streams
    → AreReached m command ttl (filter_map (stream_words m.smmu command) m.streams)
streams_reached m command ttl is_mapping none taken spelled tag image e is =
    let found = covered_for m command ttl none taken tag image e is in
    let host = found.covers.host in
    let good = good_stream m command found.stream host is_mapping found.among found.covers.is in
    any_made (stream_words m.smmu command) (Reaches command ttl image) m.streams found.among.0 found.stream (hinted_words host AnyLevel) found.among.1 found.among.2
    (ap (option_map (λ h. hinted_words h AnyLevel)) found.covers.is)
    (record {
      host = host;
      host_ttl = AnyLevel;
      spelled = All-contains (IsSpelledFor m.smmu command) m.streams found.stream spelled found.among host found.covers.is;
      covered = found.covers.covered;
      narrowed = good.narrowed ttl;
    })
