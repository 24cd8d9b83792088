-- Keys as numbers, and back.
use Rattle.std.specs.Prelude.{◌≡◌, ℕ, zero, suc, ◌+◌, ◌*◌, ◌/◌, ◌%◌, ◌^◌, ◌<◌, Option, Some, None}
use Rattle.caches.specs.declared.key.Stage.{Stage}
use Rattle.caches.specs.declared.key.Stage.TheVariants.{Two, One}
use Rattle.caches.specs.declared.key.Key.{Key}
use Rattle.caches.specs.declared.key.Key.TheVariants.{Configuration, Machine, Hypervisor, Endpoint}
use Rattle.caches.specs.Keys.{page_of, span_of}

-- ---- the parts of a key as numbers
abbrev pub kind_of : Key → ℕ
kind_of (Configuration sid ssid) = 0
kind_of (Machine vmid page span stage) = 1
kind_of (Hypervisor page span asid) = 2
kind_of (Endpoint sid page span ssid) = 3

abbrev pub id_of : Key → ℕ
id_of (Configuration sid ssid) = sid
id_of (Machine vmid page span stage) = vmid
id_of (Hypervisor page span asid) = 0
id_of (Endpoint sid page span ssid) = sid

abbrev pub option_number : Option ℕ → ℕ
option_number None = 0
option_number (Some n) = suc n

abbrev pub stage_number : Stage → ℕ
stage_number Two = 0
stage_number (One asid) = suc (option_number asid)

abbrev pub part_of : Key → ℕ
part_of (Configuration sid ssid) = option_number ssid
part_of (Machine vmid page span stage) = stage_number stage
part_of (Hypervisor page span asid) = option_number asid
part_of (Endpoint sid page span ssid) = option_number ssid

abbrev pub owner_number : Key → ℕ
owner_number key = kind_of key * 2 ^ 32 + id_of key

-- ---- its number
abbrev pub number_of : Key → ℕ
number_of key = ((owner_number key * 2 ^ 64 + page_of key) * 2 ^ 8 + span_of key) * 2 ^ 22 + part_of key

-- ---- the key of a number
abbrev pub option_at : ℕ → Option ℕ
option_at zero = None
option_at (suc n) = Some n

abbrev pub stage_at : ℕ → Stage
stage_at zero = Two
stage_at (suc n) = One (option_at n)

abbrev pub key_from : ℕ → ℕ → ℕ → ℕ → ℕ → Key
key_from zero id page span part = Configuration id (option_at part)
key_from (suc zero) id page span part = Machine id page span (stage_at part)
key_from (suc (suc zero)) id page span part = Hypervisor page span (option_at part)
key_from (suc (suc (suc n))) id page span part = Endpoint id page span (option_at part)

abbrev pub key_at : ℕ → Key
key_at n = key_from (n / 2 ^ 22 / 2 ^ 8 / 2 ^ 64 / 2 ^ 32) (n / 2 ^ 22 / 2 ^ 8 / 2 ^ 64 % 2 ^ 32) (n / 2 ^ 22 / 2 ^ 8 % 2 ^ 64) (n / 2 ^ 22 % 2 ^ 8) (n % 2 ^ 22)

-- Each part of the key fits its bits of the number.
pub record IsRoomy (key : Key) : Type 0 where
  pub id : id_of key < 2 ^ 32
  pub page : page_of key < 2 ^ 64
  pub span : span_of key < 2 ^ 8
  pub part : part_of key < 2 ^ 22

-- The number is that of a key.
pub record IsRank (n : ℕ) : Type 0 where
  pub same : number_of (key_at n) ≡ n
  pub roomy : IsRoomy (key_at n)
