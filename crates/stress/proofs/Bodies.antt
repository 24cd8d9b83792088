-- The bodies of batches are short, and have no CMD_SYNC.
use Rattle.std.proofs.Common.{◌≡◌, ℕ, zero, suc, ◌+◌, ◌-◌, ◌*◌, ◌%◌, ◌^◌, ◌<◌, ◌≤◌, List, [], ◌∷◌, length, refl, sym, ap, ◌∙◌, subst, arith, length-append}
use Rattle.std.specs.Prelude.{Result, ◌==◌, Option, Some, None, min, nat_lt, if◌then◌else◌}
use Rattle.std.proofs.Math.Nat.{min-le_right, sub-add-min_cancel, mod-lt}
use Rattle.std.proofs.Math.Pow.{pow-lt}
use Rattle.std.specs.Result.{IsOk}
use Rattle.cmdcodec.specs.declared.raw.Raw.{Raw}
use Rattle.cmdcodec.specs.Words.{encoding}
use Rattle.cmdcodec.specs.Fields.{field}
use Rattle.cmdcodec.specs.Opcodes.{opcode_of}
use Rattle.batch.specs.declared.fault.BatchFault.{BatchFault}
use Rattle.batch.specs.declared.fault.BatchFault.TheVariants.{Full, SyncInside}
use Rattle.batch.specs.Refusals.{unless, push_refusal, room_refusal}
use Rattle.stress.specs.Plans.{command, commands_to}

abbrev most_of : ℕ → ℕ
most_of log2 = min (1 * 2 ^ log2 % 4294967296 - 1) 4

pub most_positive : (log2 : ℕ) → 1 ≤ log2 → log2 ≤ 19 → 0 < most_of log2
most_positive log2 some few =
    let two : 2 ^ 0 < 2 ^ log2 = pow-lt {i = 0} {j = log2} (omega arith) in
    let fits : 2 ^ log2 < 2 ^ 32 = pow-lt {i = log2} {j = 32} (omega arith) in
    let least = sub-add-min_cancel (1 * 2 ^ log2 % 4294967296 - 1) 4 in
    omega arith

pub length_few : (log2 n : ℕ) → 0 < most_of log2 → 1 + n % most_of log2 ≤ 4
length_few log2 n some =
    let below = mod-lt n {m = most_of log2} some in
    let few = min-le_right (1 * 2 ^ log2 % 4294967296 - 1) 4 in
    omega arith

pub many_to : (s k n : ℕ) → length (commands_to s k n) ≡ n
many_to s k zero = refl
many_to s k (suc n) = length-append (commands_to s k n) (encoding (command s k n) ∷ []) ∙ (ap (λ (m : ℕ). m + 1) (many_to s k n) ∙ (omega arith))

abbrev refused : ℕ → Option BatchFault
refused n = if nat_lt 63 (n + 1) then Some Full else None

room : (n : ℕ) → n < 5 → refused n ≡ None
room zero h = refl
room (suc zero) h = refl
room (suc (suc zero)) h = refl
room (suc (suc (suc zero))) h = refl
room (suc (suc (suc (suc zero)))) h = refl
room (suc (suc (suc (suc (suc n))))) h = absurd (omega arith)

low : (vmid asid : ℕ) → field (0x12 + 0 + vmid * 2 ^ 32 + asid * 2 ^ 48) 7 0 ≡ 0x12
low vmid asid =
    let word : 0x12 + 0 + vmid * 2 ^ 32 + asid * 2 ^ 48 ≡ 0x12 + (vmid * 2 ^ 24 + asid * 2 ^ 40) * 256 = omega arith in
    let short : field (0x12 + (vmid * 2 ^ 24 + asid * 2 ^ 40) * 256) 7 0 ≡ 0x12 = omega arith in
    ap (λ lo. field lo 7 0) word ∙ short

pub opcode_is : (s k j : ℕ) → opcode_of (encoding (command s k j)) ≡ 0x12
unfolding encoding
opcode_is s k j = low s j

pub pushed : (s k n : ℕ) → n < 5 → (held : List Raw) → held ≡ commands_to s k n → push_refusal held (encoding (command s k n)) ≡ None
pushed s k n few held e =
    ap (λ (o : ℕ). if o == 0x46 then Some SyncInside else room_refusal held 1) (opcode_is s k n) ∙ (ap refused (ap length e ∙ many_to s k n) ∙ room n few)

pub push_ok : (s k n : ℕ) → n < 5 → (held : List Raw) → held ≡ commands_to s k n → (r : Result (Unit {0}) BatchFault) → r ≡ unless (push_refusal held (encoding (command s k n))) tt → IsOk r
push_ok s k n few held e r is = subst (λ (x : Result (Unit {0}) BatchFault). IsOk x) (sym (is ∙ ap (λ (o : Option BatchFault). unless o tt) (pushed s k n few held e))) refl
