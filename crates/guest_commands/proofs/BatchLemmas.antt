-- Commands are converted one by one.
use Rattle.std.proofs.Common.{◌≡◌, ℕ, suc, ◌+◌, ◌<◌, ◌≤◌, ◌==◌, ◌&&◌, Bool, true, false, cond, List, [], ◌∷◌, ◌++◌, length, take, get_or, slice_get, Option, Some, None, All, Any, refl, sym, ◌∙◌, ap, subst, append-nil, arith, length-append}
use Rattle.std.specs.List.{list_any, filter, filter_map, flat_map, cons_option}
use Rattle.std.specs.Option.{option_map}
use Rattle.std.proofs.Math.ListN.{get_or-append}
use Rattle.std.proofs.lemmas.Bool.{or_from}
use Rattle.std.proofs.lemmas.List.{take_more}
use Rattle.std.proofs.lemmas.List.Concat.{flat_map-append}
use Rattle.std.proofs.lemmas.List.Elements.{All-nil, All-append, All-head, All-more, All-tail, All-weaker}
use Rattle.cmdcodec.specs.declared.raw.Raw.{Raw}
use Rattle.cmdcodec.specs.declared.command.Command.{Command}
use Rattle.cmdcodec.specs.declared.command.Command.TheVariants.{CfgiCd, CfgiCdAll, AtcInv}
use Rattle.cmdcodec.specs.Bodies.{IsBody}
use Rattle.cmdcodec.specs.Fields.{field}
use Rattle.cmdcodec.specs.Laws.{WordsDecodeToWhatTheySpell}
use Rattle.cmdcodec.specs.Opcodes.{is_sync}
use Rattle.range_hints.specs.declared.ttl.Ttl.{Ttl}
use Rattle.range_hints.specs.declared.ttl.Ttl.TheVariants.{AnyLevel, Level1, Level2, Level3}
use Rattle.range_hints.specs.Hints.{SpellsWithHint, SpellsTtl, has_ttl, ttl_named, ttl_number}
use Rattle.range_hints.specs.HintedWords.{hinted_words}
use Rattle.smmu_features.specs.Commands.{IsLegalFor}
use Rattle.guest_commands.specs.declared.ended.Ended.{Ended}
use Rattle.guest_commands.specs.declared.ended.Ended.TheVariants.{End, Full, At}
use Rattle.guest_commands.specs.declared.streams.Attachment.{Attachment}
use Rattle.guest_commands.specs.Limits.{has_descriptor}
use Rattle.guest_commands.specs.Mappings.{Mapping, IsMapping}
use Rattle.guest_commands.specs.HostCommands.{host_words, tlb_command, stream_words, words_or}
use Rattle.guest_commands.specs.Theorems.{IsIsolated, IsSupported, IsReachedBy, Reaches}
use Rattle.guest_commands.specs.Conversions.{stop_of, stop_in, stop_for, ttl_in, words_in, words_for, IsStopped, IsEnd, IsConverted}
use Rattle.guest_commands.specs.Appending.{AreHostCommands, IsAppended, IsPut}
use Rattle.guest_commands.proofs.WordLemmas.{not_sync}

-- ---- One command.

named_again : (ttl : Ttl) → ttl_named (ttl_number ttl) ≡ ttl
named_again AnyLevel = refl
named_again Level1 = refl
named_again Level2 = refl
named_again Level3 = refl

ttl_at : (b : Bool) (hi : ℕ) (ttl : Ttl) → SpellsTtl b hi ttl → cond b (ttl_named (field hi 9 8)) AnyLevel ≡ ttl
ttl_at true hi ttl spelled = ap ttl_named spelled ∙ named_again ttl
ttl_at false hi ttl spelled = sym spelled

pub words_same : WordsDecodeToWhatTheySpell → (m : Mapping) (raw : Raw) (command : Command) (ttl : Ttl) → SpellsWithHint raw command ttl → words_for m raw ≡ host_words m command ttl
words_same decode m raw command ttl spelled =
    ap (words_in m raw.hi) (decode raw command spelled.spelled) ∙ ap (host_words m command) (ttl_at (has_ttl command) raw.hi ttl spelled.hint)

pub stop_same : WordsDecodeToWhatTheySpell → (raw : Raw) (command : Command) (ttl : Ttl) → SpellsWithHint raw command ttl → stop_for raw ≡ stop_of command
stop_same decode raw command ttl spelled = ap stop_in (decode raw command spelled.spelled)

one_command : WordsDecodeToWhatTheySpell → (raw : Raw) (command other : Command) (ttl other_ttl : Ttl) → SpellsWithHint raw command ttl → SpellsWithHint raw other other_ttl → (command ≡ other) × (ttl ≡ other_ttl)
one_command decode raw command other ttl other_ttl spelled also =
    let same : command ≡ other = (let both = sym (decode raw command spelled.spelled) ∙ decode raw other also.spelled in cc) in
    (same, sym (ttl_at (has_ttl command) raw.hi ttl spelled.hint) ∙ ap (λ c. ttl_in c raw.hi) same ∙ ttl_at (has_ttl other) raw.hi other_ttl also.hint)

pub put : WordsDecodeToWhatTheySpell → (m : Mapping) (raw : Raw) (command : Command) (ttl : Ttl) (old new : List Raw) → SpellsWithHint raw command ttl → stop_of command ≡ None
    → IsAppended m command ttl old new → IsPut m raw old new
put decode m raw command ttl old new spelled taken was =
    let same = words_same decode m raw command ttl spelled in
    record {
      none_stops = stop_same decode raw command ttl spelled ∙ taken;
      all = was.all ∙ ap (λ words. old ++ words) (sym same);
      few = was.few;
      own = subst (AreHostCommands m) (sym same) was.own;
      reached = λ other other_ttl tag image also e is.
          let one = one_command decode raw other command other_ttl ttl also spelled in
          subst (λ words. Any (Reaches other other_ttl image) words) (sym same)
          (rw (one.0, one.1) (was.reached taken tag image (rw (one.0) at e) is));
    }

-- ---- Few enough.

abbrev Passes : (Attachment → Option Raw) → (Attachment → Bool) → Type 0
Passes f p = (stream : Attachment) → p stream ≡ false → f stream ≡ None

kept_at : (o : Option Raw) (b : Bool) (stream : Attachment) (few : List Raw) (many : List Attachment) → (b ≡ false → o ≡ None) → length few ≤ length many
    → length (cons_option o few) ≤ length (cond b (stream ∷ many) many)
kept_at None true stream few many none h = omega arith
kept_at (Some words) true stream few many none h = omega arith
kept_at None false stream few many none h = h
kept_at (Some words) false stream few many none h = let no : Some words ≡ None = none refl in cc

fewer : (f : Attachment → Option Raw) (p : Attachment → Bool) → Passes f p → (streams : List Attachment) → length (filter_map f streams) ≤ length (filter p streams)
fewer f p passes [] = omega arith
fewer f p passes (stream ∷ streams) = kept_at (f stream) (p stream) stream (filter_map f streams) (filter p streams) (passes stream) (fewer f p passes streams)

nothing : (f : Attachment → Option Raw) → ((stream : Attachment) → f stream ≡ None) → (streams : List Attachment) → length (filter_map f streams) ≤ 63
nothing f none [] = omega arith
nothing f none (stream ∷ streams) = subst (λ o. length (cons_option o (filter_map f streams)) ≤ 63) (sym (none stream)) (nothing f none streams)

abbrev words_without : Option Command → Option Raw
words_without = option_map (λ host. hinted_words host AnyLevel)

few_of : (m : Mapping) (command : Command) (sid : ℕ) → IsMapping m → Passes (stream_words m.smmu command) (λ stream. stream.sid == sid)
    → length (filter_map (stream_words m.smmu command) m.streams) ≤ 63
few_of m command sid is passes =
    let at_most = fewer (stream_words m.smmu command) (λ stream. stream.sid == sid) passes m.streams in
    let few = is.few sid in
    omega arith

none_if : (b c : Bool) (x : Option Command) → b ≡ false → cond (b && c) x None ≡ None
none_if true c x e = cc
none_if false c x e = refl

few_streams : (m : Mapping) (command : Command) → IsMapping m → length (filter_map (stream_words m.smmu command) m.streams) ≤ 63
few_streams m (CfgiCd sid ssid leaf) is = few_of m (CfgiCd sid ssid leaf) sid is (λ stream no. ap words_without (none_if (stream.sid == sid) (has_descriptor m.smmu ssid) _ no))
few_streams m (CfgiCdAll sid) is = few_of m (CfgiCdAll sid) sid is (λ stream no. ap words_without (none_if (stream.sid == sid) m.smmu.stage_1 _ no))
few_streams m (AtcInv sid ssv ssid global size page) is =
    few_of m (AtcInv sid ssv ssid global size page) sid is (λ stream no. ap words_without (none_if (stream.sid == sid) (stream.host.ats && m.smmu.ats) _ no))
few_streams m other is = nothing (stream_words m.smmu other) (λ stream. refl) m.streams

few_at : (found : Option (Command × Ttl)) (others : List Raw) → length others ≤ 63 → length (words_or found others) ≤ 63
few_at None others few = few
few_at (Some (host, ttl)) others few = omega arith

-- The host's commands for one of the guest's fit a batch.
pub few_words : (m : Mapping) (command : Command) (ttl : Ttl) → IsMapping m → length (host_words m command ttl) ≤ 63
unfolding host_words
few_words m command ttl is = few_at (tlb_command m command ttl) (filter_map (stream_words m.smmu command) m.streams) (few_streams m command is)

-- ---- A batch.

any_left : {X : Type 0} (P : X → Type 0) (xs ys : List X) → Any P xs → Any P (xs ++ ys)
any_left P xs ys (k, x, small, at, p) = (k, x, omega (arith, length-append xs ys, small), get_or-append xs ys x k small ∙ at, p)

any_right : {X : Type 0} (P : X → Type 0) (xs ys : List X) → Any P ys → Any P (xs ++ ys)
any_right P [] ys any = any
any_right P (x ∷ xs) ys any = let (k, y, small, at, p) = any_right P xs ys any in (suc k, y, omega (arith, small), at, p)

-- The first n commands are converted.
pub record Progress (m : Mapping) (raws commands : List Raw) (n : ℕ) : Type 0 where
  pub none_stops : All (λ raw. stop_for raw ≡ None) (take n raws)
  pub all : commands ≡ flat_map (words_for m) (take n raws)
  pub few : length commands ≤ 63
  pub own : AreHostCommands m commands
  pub reached : All (IsReachedBy m commands) (take n raws)

pub start : (m : Mapping) (raws commands : List Raw) → commands ≡ [] → Progress m raws commands 0
start m raws commands none = subst (λ c. Progress m raws c 0) (sym none) (record {
  none_stops = All-nil (λ raw. stop_for raw ≡ None);
  all = refl;
  few = omega arith;
  own = record { legal = All-nil (IsLegalFor m.smmu); isolated = All-nil (IsIsolated m); supported = All-nil (IsSupported m.smmu) };
  reached = All-nil (IsReachedBy m []);
})

both : (m : Mapping) (old words : List Raw) → AreHostCommands m old → AreHostCommands m words → AreHostCommands m (old ++ words)
both m old words was own = record {
  legal = All-append (IsLegalFor m.smmu) old words was.legal own.legal;
  isolated = All-append (IsIsolated m) old words was.isolated own.isolated;
  supported = All-append (IsSupported m.smmu) old words was.supported own.supported;
}

pub step : (m : Mapping) (raws old new : List Raw) (n : ℕ) (d : Raw) → n < length raws → Progress m raws old n → IsPut m (get_or raws n d) old new → Progress m raws new (n + 1)
step m raws old new n d small progress put =
    let raw = get_or raws n d in
    let words = words_for m raw in
    let more = ap (flat_map (words_for m)) (take_more raws n d small) ∙ flat_map-append (words_for m) (take n raws) (raw ∷ []) in
    record {
      none_stops = All-more (λ r. stop_for r ≡ None) raws n d small progress.none_stops put.none_stops;
      all = put.all ∙ ap (λ c. c ++ words) progress.all ∙ ap (λ w. flat_map (words_for m) (take n raws) ++ w) (sym (append-nil words)) ∙ sym more;
      few = put.few;
      own = subst (AreHostCommands m) (sym put.all) (both m old words progress.own put.own);
      reached = subst (λ c. All (IsReachedBy m c) (take (n + 1) raws)) (sym put.all)
          (All-more (IsReachedBy m (old ++ words)) raws n d small
          (All-weaker (IsReachedBy m old) (IsReachedBy m (old ++ words)) (λ r reached command ttl tag image spelled e is. any_left (Reaches command ttl image) old words (reached command ttl tag image spelled e is)) (take n raws) progress.reached)
          (λ command ttl tag image spelled e is. any_right (Reaches command ttl image) old words (put.reached command ttl tag image spelled e is)));
    }

no_sync : (m : Mapping) (commands : List Raw) → All (IsSupported m.smmu) commands → list_any is_sync commands ≡ false
no_sync m [] own = refl
no_sync m (raw ∷ raws) own =
    or_from (is_sync raw) (list_any is_sync raws) (not_sync m.smmu raw (All-head (IsSupported m.smmu) raw raws own)) (no_sync m raws (All-tail (IsSupported m.smmu) raw raws own))

pub body : (m : Mapping) (raws commands : List Raw) (n : ℕ) → Progress m raws commands n → 1 ≤ length commands → IsBody commands
body m raws commands n progress some = record { some = some; few = progress.few; no_sync = no_sync m commands progress.own.supported }

-- Where the next commands don't fit there are some.
pub stopped_full : (m : Mapping) (count : ℕ) (raw : Raw) (ended : Ended) → IsStopped m count raw ended → ended ≡ Full → 1 ≤ count
stopped_full m count raw End stopped is = absurd stopped
stopped_full m count raw Full (none, some, many) is = some
stopped_full m count raw (At stop) stopped is = cc

ended_at : (m : Mapping) (raws : List Raw) (n count : ℕ) (next : Raw) (ended : Ended) → slice_get raws n ≡ Some next → IsStopped m count next ended → IsEnd m raws n count ended
ended_at m raws n count next End at stopped = absurd stopped
ended_at m raws n count next Full at stopped = (next, at, stopped)
ended_at m raws n count next (At stop) at stopped = (next, at, stopped)

-- The conversion ends at the next command.
pub converted_at : (m : Mapping) (raws old new : List Raw) (n : ℕ) (next : Raw) (ended : Ended) → n < length raws → slice_get raws n ≡ Some next → Progress m raws old n → new ≡ old
    → IsStopped m (length old) next ended → IsConverted m raws (record { guest = m; commands = new; taken = n; ended = ended })
converted_at m raws old new n next ended small at progress same stopped = record {
  guest = refl;
  some = omega (arith, small);
  none_stops = progress.none_stops;
  commands = same ∙ progress.all;
  few = omega (arith, ap length same, progress.few);
  ended = subst (λ commands. IsEnd m raws n (length commands) ended) (sym same) (ended_at m raws n (length old) next ended at stopped);
}
