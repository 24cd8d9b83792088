-- Flags, told one after another.
use Rattle.std.proofs.Common.{◌≡◌, ℕ, suc, ◌+◌, ◌-◌, ◌<◌, ◌≤◌, ◌/◌, ◌%◌, [], ◌++◌, decimal, arith, ap}
use Rattle.schedule.specs.Texts.{flags_text}

-- the flags that are left, the first of them told
pub flags_text-more : (count told flags : ℕ) → told < count → flags_text (count - told) flags ≡ decimal (flags % 2) ++ flags_text (count - (told + 1)) (flags / 2)
flags_text-more count told flags less =
    let left : count - told ≡ suc (count - (told + 1)) = omega arith in
    ap (λ n. flags_text n flags) left

pub flags_text-end : (count told flags : ℕ) → count ≤ told → flags_text (count - told) flags ≡ []
flags_text-end count told flags all =
    let left : count - told ≡ 0 = omega arith in
    ap (λ n. flags_text n flags) left
