-- The streams whose stream table entries a command is for.
use Rattle.std.proofs.Common.{◌≡◌, ℕ, zero, suc, ◌<◌, ◌==◌, Bool, true, false, cond, List, [], ◌∷◌, length, get_or, All, Any, Contains, refl, sym, ◌∙◌, ap, subst, arith}
use Rattle.std.specs.List.{filter}
use Rattle.std.proofs.lemmas.Bool.{eq-eqb, eqb-true}
use Rattle.std.proofs.lemmas.List.Elements.{All-contains_itself, All-filter, All-weaker}
use Rattle.cmdcodec.specs.declared.command.Command.{Command}
use Rattle.cmdcodec.specs.declared.command.Command.TheVariants.{CfgiSte, CfgiSteRange}
use Rattle.cmdcodec.specs.declared.raw.Raw.{Raw}
use Rattle.cmdcodec.specs.Laws.{SpelledWordsAreLegal}
use Rattle.cmdcodec.specs.Spelling.{Spells}
use Rattle.caches.specs.declared.tag.Tag.{Tag}
use Rattle.caches.specs.declared.tag.Tag.TheVariants.{Ste, Cd}
use Rattle.caches.specs.Covers.{covers}
use Rattle.smmu_features.specs.declared.smmu.Smmu.{Smmu}
use Rattle.smmu_features.specs.Commands.{IsLegalFor}
use Rattle.guest_commands.specs.declared.streams.Attachment.{Attachment}
use Rattle.guest_commands.specs.declared.streams.HostStream.{HostStream}
use Rattle.guest_commands.specs.Mappings.{Mapping}
use Rattle.guest_commands.specs.Configurations.{concerned, cfgi_ste, IsOwnEntry, AreConfigured}
use Rattle.guest_commands.proofs.WordLemmas.{ste_legal_at}

-- ---- Isolation.

own_entry : (m : Mapping) (stream : Attachment) → Contains m.streams stream → IsOwnEntry m stream
own_entry m stream among (Ste s) e = (stream.sid, stream.host, among, eqb-true s stream.host.sid e)
own_entry m stream among (Cd s u) e = (stream.sid, stream.host, among, eqb-true s stream.host.sid e)
own_entry m stream among other e = cc

pub own_entries : (m : Mapping) (command : Command) → All (IsOwnEntry m) (concerned command m.streams)
own_entries m command =
    All-weaker (Contains m.streams) (IsOwnEntry m) (own_entry m) (concerned command m.streams)
    (All-filter (λ stream. covers command (Ste stream.sid)) (Contains m.streams) m.streams (All-contains_itself m.streams))

-- ---- All entries.

later : {X : Type 0} (P : X → Type 0) (b : Bool) (x : X) (xs : List X) → Any P xs → Any P (cond b (x ∷ xs) xs)
later P true x xs (k, y, small, at, p) = (suc k, y, omega (arith, small), at, p)
later P false x xs any = any

any_kept : {X : Type 0} (test : X → Bool) (P : X → Type 0) (xs : List X) (k : ℕ) (x : X) → k < length xs → get_or xs k x ≡ x → test x ≡ true → P x → Any P (filter test xs)
any_kept test P [] k x small at is p = absurd (omega (arith, small))
any_kept test P (z ∷ zs) zero x small at is p =
    subst (λ b. Any P (cond b (z ∷ filter test zs) (filter test zs))) (sym (ap test at ∙ is)) (0, z, omega arith, refl, subst P (sym at) p)
any_kept test P (z ∷ zs) (suc k) x small at is p = later P (test z) z (filter test zs) (any_kept test P zs k x (omega (arith, small)) at is p)

self : (n : ℕ) → (n == n) ≡ true
self n = eq-eqb n n refl

of_stream : (m : Mapping) (command : Command) (s : ℕ) (host : HostStream) (image : Tag) → Contains m.streams (record { sid = s; host = host }) → covers command (Ste s) ≡ true
    → covers (CfgiSte host.sid false) image ≡ true → Any (λ stream. covers (cfgi_ste stream) image ≡ true) (concerned command m.streams)
of_stream m command s host image among e covered =
    any_kept (λ stream. covers command (Ste stream.sid)) (λ stream. covers (cfgi_ste stream) image ≡ true) m.streams among.0 (record { sid = s; host = host }) among.1 among.2 e covered

ste_image : (sid : ℕ) (image : Tag) → image ≡ Ste sid → covers (CfgiSte sid false) image ≡ true
ste_image sid image is = subst (λ t. covers (CfgiSte sid false) t ≡ true) (sym is) (self sid)

cd_image : (sid ssid : ℕ) (image : Tag) → image ≡ Cd sid ssid → covers (CfgiSte sid false) image ≡ true
cd_image sid ssid image is = subst (λ t. covers (CfgiSte sid false) t ≡ true) (sym is) (self sid)

pub configured : (m : Mapping) (command : Command) → AreConfigured m command (concerned command m.streams)
configured m (CfgiSte sid leaf) is (Ste s) image e (host, among, same) = of_stream m (CfgiSte sid leaf) s host image among e (ste_image host.sid image same)
configured m (CfgiSte sid leaf) is (Cd s u) image e (host, among, had, same) = of_stream m (CfgiSte sid leaf) s host image among e (cd_image host.sid u image same)
configured m (CfgiSte sid leaf) is other image e at = cc
configured m (CfgiSteRange sid range) is (Ste s) image e (host, among, same) = of_stream m (CfgiSteRange sid range) s host image among e (ste_image host.sid image same)
configured m (CfgiSteRange sid range) is (Cd s u) image e (host, among, had, same) = of_stream m (CfgiSteRange sid range) s host image among e (cd_image host.sid u image same)
configured m (CfgiSteRange sid range) is other image e at = cc
configured m other is tag image e at = cc

-- ---- Legal words.

pub ste_legal : SpelledWordsAreLegal → (smmu : Smmu) (sid : ℕ) (raw : Raw) → Spells raw (CfgiSte sid false) → IsLegalFor smmu raw
ste_legal legal smmu sid raw spells = ste_legal_at smmu raw (legal raw (CfgiSte sid false) spells) spells.0.0
