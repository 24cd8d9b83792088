-- The host's commands of streams cover entries of the guest's streams alone, and all of them that the guest's commands do.
use Rattle.std.proofs.Common.{◌≡◌, ℕ, ◌^◌, ◌==◌, ◌&&◌, Bool, true, false, cond, inl, Contains, Option, Some, None, refl, sym, ◌∙◌, ap, subst}
use Rattle.std.proofs.lemmas.Bool.{and_from, and_parts, eqb-true, eq-eqb}
use Rattle.std.proofs.lemmas.List.Elements.{All-contains}
use Rattle.cmdcodec.specs.declared.command.Command.{Command}
use Rattle.cmdcodec.specs.declared.command.Command.TheVariants.{CfgiCd, CfgiCdAll, AtcInv}
use Rattle.caches.specs.declared.tag.Tag.{Tag}
use Rattle.caches.specs.declared.tag.Tag.TheVariants.{Cd, Atc}
use Rattle.caches.specs.Blocks.{meets, block, aligned}
use Rattle.caches.specs.Covers.{covers, is_for}
use Rattle.range_hints.specs.declared.ttl.Ttl.{Ttl}
use Rattle.range_hints.specs.declared.ttl.Ttl.TheVariants.{AnyLevel}
use Rattle.smmu_features.specs.declared.smmu.Smmu.{Smmu}
use Rattle.guest_commands.specs.declared.streams.Attachment.{Attachment}
use Rattle.guest_commands.specs.declared.streams.HostStream.{HostStream}
use Rattle.guest_commands.specs.Limits.{has_stream, has_substream, has_substreams, has_accesses, has_descriptor}
use Rattle.guest_commands.specs.Mappings.{Mapping, IsMapping}
use Rattle.guest_commands.specs.HostCommands.{accesses, atc_inv, stream_command}
use Rattle.guest_commands.specs.Entries.{IsOfGuest}
use Rattle.guest_commands.specs.Theorems.{Has, HasAccesses, IsNarrowedAlike}

-- What is proved of the host's command for one of the guest's streams of the host.
pub record IsGoodStream (m : Mapping) (command : Command) (host : Command) : Type 0 where
  pub isolated : (tag : Tag) → covers host tag ≡ true → IsOfGuest m tag
  pub had : Has m.smmu AnyLevel host
  pub narrowed : (ttl : Ttl) → IsNarrowedAlike command ttl host AnyLevel

some_same : (x y : Command) → Some x ≡ Some y → x ≡ y
some_same x y e = cc

own : (m : Mapping) (stream : Attachment) (sid : ℕ) (rest : Bool) → Contains m.streams stream → (sid == stream.host.sid && rest) ≡ true
    → (guest : ℕ) × (host : HostStream) × Contains m.streams (record { sid = guest; host = host }) × (sid ≡ host.sid)
own m stream sid rest among e = (stream.sid, stream.host, among, eqb-true sid stream.host.sid (and_parts (sid == stream.host.sid) rest e).0)

-- ---- CFGI_CD

cd_good : (m : Mapping) (stream : Attachment) (sid ssid : ℕ) (leaf : Bool) → Contains m.streams stream → has_stream m.smmu stream.host.sid ≡ true → has_descriptor m.smmu ssid ≡ true
    → IsGoodStream m (CfgiCd sid ssid leaf) (CfgiCd stream.host.sid ssid leaf)
cd_good m stream sid ssid leaf among had substream =
    record { isolated = isolated; had = (had, substream); narrowed = λ ttl. record { leaf = inl refl; level = inl refl } }
  where
    isolated : (tag : Tag) → covers (CfgiCd stream.host.sid ssid leaf) tag ≡ true → IsOfGuest m tag
    isolated (Cd s u) e = own m stream s (u == ssid) among e
    isolated other e = cc

cd_at : (m : Mapping) (stream : Attachment) (sid ssid : ℕ) (leaf : Bool) (host : Command) (b : Bool) → (stream.sid == sid && has_descriptor m.smmu ssid) ≡ b
    → Contains m.streams stream → has_stream m.smmu stream.host.sid ≡ true → cond b (Some (CfgiCd stream.host.sid ssid leaf)) None ≡ Some host → IsGoodStream m (CfgiCd sid ssid leaf) host
cd_at m stream sid ssid leaf host true e among had is =
    subst (IsGoodStream m (CfgiCd sid ssid leaf)) (some_same _ host is) (cd_good m stream sid ssid leaf among had (and_parts (stream.sid == sid) (has_descriptor m.smmu ssid) e).1)
cd_at m stream sid ssid leaf host false e among had is = cc

-- ---- CFGI_CD_ALL

cd_all_good : (m : Mapping) (stream : Attachment) (sid : ℕ) → Contains m.streams stream → has_stream m.smmu stream.host.sid ≡ true → m.smmu.stage_1 ≡ true → IsGoodStream m (CfgiCdAll sid) (CfgiCdAll stream.host.sid)
cd_all_good m stream sid among had stage = record { isolated = isolated; had = (had, stage); narrowed = λ ttl. record { leaf = inl refl; level = inl refl } }
  where
    isolated : (tag : Tag) → covers (CfgiCdAll stream.host.sid) tag ≡ true → IsOfGuest m tag
    isolated (Cd s u) e = (stream.sid, stream.host, among, eqb-true s stream.host.sid e)
    isolated other e = cc

cd_all_at : (m : Mapping) (stream : Attachment) (sid : ℕ) (host : Command) (b : Bool) → (stream.sid == sid && m.smmu.stage_1) ≡ b
    → Contains m.streams stream → has_stream m.smmu stream.host.sid ≡ true → cond b (Some (CfgiCdAll stream.host.sid)) None ≡ Some host → IsGoodStream m (CfgiCdAll sid) host
cd_all_at m stream sid host true e among had is =
    subst (IsGoodStream m (CfgiCdAll sid)) (some_same _ host is) (cd_all_good m stream sid among had (and_parts (stream.sid == sid) m.smmu.stage_1 e).1)
cd_all_at m stream sid host false e among had is = cc

-- ---- ATC_INV

access_same : (x y : ℕ × Bool) → Some x ≡ Some y → x ≡ y
access_same x y e = cc

each_at : (smmu : Smmu) (access : ℕ × Bool) (b : Bool) → has_substreams smmu ≡ b → cond b (Some (0, true)) None ≡ Some access → HasAccesses smmu true access.0 access.1
each_at smmu access true e is = subst (λ (a : ℕ × Bool). HasAccesses smmu true a.0 a.1) (access_same (0, true) access is) (refl, e)
each_at smmu access false e is = cc

one_at : (smmu : Smmu) (ssid : ℕ) (access : ℕ × Bool) (b : Bool) → has_accesses smmu (Some ssid) ≡ b → cond b (Some (ssid, false)) None ≡ Some access → HasAccesses smmu true access.0 access.1
one_at smmu ssid access true e is = subst (λ (a : ℕ × Bool). HasAccesses smmu true a.0 a.1) (access_same (ssid, false) access is) (and_parts (has_substreams smmu) (has_substream smmu ssid) e)
one_at smmu ssid access false e is = cc

accesses_had : (smmu : Smmu) (ssv : Bool) (ssid : ℕ) (global : Bool) (access : ℕ × Bool) → accesses smmu ssv ssid global ≡ Some access → HasAccesses smmu ssv access.0 access.1
accesses_had smmu false ssid global access is = subst (λ (a : ℕ × Bool). HasAccesses smmu false a.0 a.1) (access_same (0, false) access is) (refl, refl)
accesses_had smmu true ssid true access is = each_at smmu access (has_substreams smmu) refl is
accesses_had smmu true ssid false access is = one_at smmu ssid access (has_accesses smmu (Some ssid)) refl is

atc_good : (m : Mapping) (stream : Attachment) (sid : ℕ) (ssv : Bool) (ssid : ℕ) (global : Bool) (size page : ℕ) (access : ℕ × Bool) → Contains m.streams stream
    → stream.host.ats ≡ true → has_stream m.smmu stream.host.sid ≡ true → m.smmu.ats ≡ true → HasAccesses m.smmu ssv access.0 access.1
    → IsGoodStream m (AtcInv sid ssv ssid global size page) (AtcInv stream.host.sid ssv access.0 access.1 size page)
atc_good m stream sid ssv ssid global size page access among own_ats had ats accesses =
    record { isolated = isolated; had = (ats, had, accesses); narrowed = λ ttl. record { leaf = inl refl; level = inl refl } }
  where
    isolated : (tag : Tag) → covers (AtcInv stream.host.sid ssv access.0 access.1 size page) tag ≡ true → IsOfGuest m tag
    isolated (Atc s u p n) e = (stream.sid, stream.host, among, eqb-true s stream.host.sid (and_parts (s == stream.host.sid) _ e).0, own_ats)
    isolated other e = cc

atc_of : (m : Mapping) (stream : Attachment) (sid : ℕ) (ssv : Bool) (ssid : ℕ) (global : Bool) (size page : ℕ) (found : Option (ℕ × Bool)) (host : Command)
    → accesses m.smmu ssv ssid global ≡ found → Contains m.streams stream → stream.host.ats ≡ true → has_stream m.smmu stream.host.sid ≡ true → m.smmu.ats ≡ true
    → atc_inv stream.host.sid ssv size page found ≡ Some host → IsGoodStream m (AtcInv sid ssv ssid global size page) host
atc_of m stream sid ssv ssid global size page None host e among own_ats had ats is = cc
atc_of m stream sid ssv ssid global size page (Some (own_ssid, own_global)) host e among own_ats had ats is =
    subst (IsGoodStream m (AtcInv sid ssv ssid global size page)) (some_same _ host is)
    (atc_good m stream sid ssv ssid global size page (own_ssid, own_global) among own_ats had ats (accesses_had m.smmu ssv ssid global (own_ssid, own_global) e))

atc_at : (m : Mapping) (stream : Attachment) (sid : ℕ) (ssv : Bool) (ssid : ℕ) (global : Bool) (size page : ℕ) (host : Command) (b : Bool)
    → (stream.sid == sid && (stream.host.ats && m.smmu.ats)) ≡ b → Contains m.streams stream → has_stream m.smmu stream.host.sid ≡ true
    → cond b (atc_inv stream.host.sid ssv size page (accesses m.smmu ssv ssid global)) None ≡ Some host → IsGoodStream m (AtcInv sid ssv ssid global size page) host
atc_at m stream sid ssv ssid global size page host true e among had is =
    let ats = and_parts stream.host.ats m.smmu.ats (and_parts (stream.sid == sid) (stream.host.ats && m.smmu.ats) e).1 in
    atc_of m stream sid ssv ssid global size page (accesses m.smmu ssv ssid global) host refl among ats.0 had ats.1 is
atc_at m stream sid ssv ssid global size page host false e among had is = cc

-- ---- each

pub good_stream : (m : Mapping) (command : Command) (stream : Attachment) (host : Command) → IsMapping m → Contains m.streams stream → stream_command m.smmu command stream ≡ Some host
    → IsGoodStream m command host
good_stream m (CfgiCd sid ssid leaf) stream host is_mapping among is =
    cd_at m stream sid ssid leaf host (stream.sid == sid && has_descriptor m.smmu ssid) refl among
    (All-contains (λ (s : Attachment). has_stream m.smmu s.host.sid ≡ true) m.streams stream is_mapping.had among) is
good_stream m (CfgiCdAll sid) stream host is_mapping among is =
    cd_all_at m stream sid host (stream.sid == sid && m.smmu.stage_1) refl among (All-contains (λ (s : Attachment). has_stream m.smmu s.host.sid ≡ true) m.streams stream is_mapping.had among) is
good_stream m (AtcInv sid ssv ssid global size page) stream host is_mapping among is =
    atc_at m stream sid ssv ssid global size page host (stream.sid == sid && (stream.host.ats && m.smmu.ats)) refl among
    (All-contains (λ (s : Attachment). has_stream m.smmu s.host.sid ≡ true) m.streams stream is_mapping.had among) is
good_stream m other stream host is_mapping among is = cc

-- ---- All entries.

-- The host's command for this stream covers the entry.
pub record CoversFor (smmu : Smmu) (command : Command) (stream : Attachment) (image : Tag) : Type 0 where
  pub host : Command
  pub is : stream_command smmu command stream ≡ Some host
  pub covered : covers host image ≡ true

self : (n : ℕ) → (n == n) ≡ true
self n = eq-eqb n n refl

if_true : (b : Bool) (x : Option Command) → b ≡ true → cond b x None ≡ x
if_true true x e = refl
if_true false x e = cc

pub cd_covers : (m : Mapping) (sid ssid : ℕ) (leaf : Bool) (s u : ℕ) (host : HostStream) (image : Tag) → (s == sid && u == ssid) ≡ true → has_descriptor m.smmu u ≡ true → image ≡ Cd host.sid u
    → CoversFor m.smmu (CfgiCd sid ssid leaf) (record { sid = s; host = host }) image
cd_covers m sid ssid leaf s u host image e substream is =
    let both = and_parts (s == sid) (u == ssid) e in
    let had = subst (λ n. has_descriptor m.smmu n ≡ true) (eqb-true u ssid both.1) substream in
    record {
      host = CfgiCd host.sid ssid leaf;
      is = if_true (s == sid && has_descriptor m.smmu ssid) _ (and_from _ _ both.0 had);
      covered = subst (λ t. covers (CfgiCd host.sid ssid leaf) t ≡ true) (sym is) (and_from _ _ (self host.sid) both.1);
    }

pub cd_all_covers : (m : Mapping) (sid s u : ℕ) (host : HostStream) (image : Tag) → (s == sid) ≡ true → m.smmu.stage_1 ≡ true → image ≡ Cd host.sid u
    → CoversFor m.smmu (CfgiCdAll sid) (record { sid = s; host = host }) image
cd_all_covers m sid s u host image e stage is = record {
  host = CfgiCdAll host.sid;
  is = if_true (s == sid && m.smmu.stage_1) _ (and_from _ _ e stage);
  covered = subst (λ t. covers (CfgiCdAll host.sid) t ≡ true) (sym is) (self host.sid);
}

-- The SMMU has the accesses of a command that are for a substream that it has.
record IsFound (smmu : Smmu) (ssv : Bool) (ssid : ℕ) (global : Bool) (other : Option ℕ) : Type 0 where
  access : ℕ × Bool
  is : accesses smmu ssv ssid global ≡ Some access
  reached : is_for ssv access.0 access.1 other ≡ true

access_if : (b : Bool) (x : Option (ℕ × Bool)) → b ≡ true → cond b x None ≡ x
access_if true x e = refl
access_if false x e = cc

found : (smmu : Smmu) (ssv : Bool) (ssid : ℕ) (global : Bool) (other : Option ℕ) → is_for ssv ssid global other ≡ true → has_accesses smmu other ≡ true → IsFound smmu ssv ssid global other
found smmu false ssid global other e had = record { access = (0, false); is = refl; reached = refl }
found smmu true ssid global None e had = cc
found smmu true ssid true (Some u) e had =
    record { access = (0, true); is = access_if (has_substreams smmu) _ (and_parts (has_substreams smmu) (has_substream smmu u) had).0; reached = refl }
found smmu true ssid false (Some u) e had =
    let same = eqb-true u ssid e in
    record { access = (ssid, false); is = access_if (has_accesses smmu (Some ssid)) _ (subst (λ n. has_accesses smmu (Some n) ≡ true) same had); reached = e }

pub atc_covers : (m : Mapping) (sid : ℕ) (ssv : Bool) (ssid : ℕ) (global : Bool) (size page s : ℕ) (u : Option ℕ) (p n : ℕ) (host : HostStream) (image : Tag)
    → (s == sid && (is_for ssv ssid global u && meets (block p n) (aligned page (2 ^ size)))) ≡ true → host.ats ≡ true → m.smmu.ats ≡ true → has_accesses m.smmu u ≡ true
    → image ≡ Atc host.sid u p n → CoversFor m.smmu (AtcInv sid ssv ssid global size page) (record { sid = s; host = host }) image
atc_covers m sid ssv ssid global size page s u p n host image e ats smmu_ats had is =
    let both = and_parts (s == sid) (is_for ssv ssid global u && meets (block p n) (aligned page (2 ^ size))) e in
    let inner = and_parts (is_for ssv ssid global u) (meets (block p n) (aligned page (2 ^ size))) both.1 in
    let one = found m.smmu ssv ssid global u inner.0 had in
    record {
      host = AtcInv host.sid ssv one.access.0 one.access.1 size page;
      is = if_true (s == sid && (host.ats && m.smmu.ats)) _ (and_from _ _ both.0 (and_from _ _ ats smmu_ats)) ∙ ap (atc_inv host.sid ssv size page) one.is;
      covered = subst (λ t. covers (AtcInv host.sid ssv one.access.0 one.access.1 size page) t ≡ true) (sym is) (and_from _ _ (self host.sid) (and_from _ _ one.reached inner.1));
    }
