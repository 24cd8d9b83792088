-- Which tag the words of C say.
use Rattle.std.specs.Prelude.{◌≡◌, ◌<◌, ◌≤◌, ◌*◌, ◌^◌, ℕ, Option, Some, None}
use Rattle.caches.specs.declared.tag.Tag.{Tag}
use Rattle.caches.specs.declared.tag.Tag.TheVariants.{Ste, Cd, S1, S2, El2, Atc}
use Rattle.caches.specs.declared.tag.Scope.{Scope}
use Rattle.caches.specs.declared.tag.Scope.TheVariants.{Global, Of}
use Rattle.smmuq_c.specs.declared.tags.TagWords.{TagWords}

abbrev pub SaysMachine : TagWords → ℕ → Type 0
SaysMachine w vmid = (w.vmid ≡ vmid) × (vmid < 2 ^ 16)

-- 0 says no scope
abbrev pub SaysScope : TagWords → Scope → Type 0
SaysScope w Global = w.scope ≡ 2
SaysScope w (Of asid) = (w.scope ≡ 1) × (w.asid ≡ asid) × (asid < 2 ^ 16)

abbrev pub SaysSubstream : TagWords → Option ℕ → Type 0
SaysSubstream w None = w.has_ssid ≡ 0
SaysSubstream w (Some ssid) = (w.has_ssid ≡ 1) × (w.ssid ≡ ssid) × (ssid < 2 ^ 20)

-- the block of 2^span pages from the one at the address on
pub record SaysBlock (w : TagWords) (page span : ℕ) : Type 0 where
  pub address_is : w.address ≡ page * 4096
  pub span_is : w.span ≡ span
  pub in_range : span ≤ 52

-- The kind is that of the tag, and the words that this kind has are its fields, in range.
abbrev pub SaysTag : TagWords → Tag → Type 0
SaysTag w (Ste sid) = (w.kind ≡ 1) × (w.sid ≡ sid)
SaysTag w (Cd sid ssid) = (w.kind ≡ 2) × (w.sid ≡ sid) × (w.ssid ≡ ssid) × (ssid < 2 ^ 20)
SaysTag w (S1 vmid scope page span) = (w.kind ≡ 3) × SaysMachine w vmid × SaysScope w scope × SaysBlock w page span
SaysTag w (S2 vmid page span) = (w.kind ≡ 4) × SaysMachine w vmid × SaysBlock w page span
SaysTag w (El2 scope page span) = (w.kind ≡ 5) × SaysScope w scope × SaysBlock w page span
SaysTag w (Atc sid ssid page span) = (w.kind ≡ 6) × (w.sid ≡ sid) × SaysSubstream w ssid × SaysBlock w page span

-- It is the tag that the words say, or there is none.
abbrev pub IsTagOf : TagWords → Option Tag → Type 0
IsTagOf w None = (tag : Tag) → ¬ SaysTag w tag
IsTagOf w (Some tag) = SaysTag w tag
