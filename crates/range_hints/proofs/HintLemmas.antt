-- The bits of TTL, and the reserved ones round it.
use Rattle.std.proofs.Common.{◌≡◌, ◌⊎◌, ℕ, Bool, true, false, [], ◌∷◌, inl, inr, refl, ap, sym, Result, Ok, ◌∙◌, if◌then◌else◌, arith}
use Rattle.std.proofs.lemmas.Bool.Decides.{nat_tests}
use Rattle.cmdcodec.specs.declared.raw.Raw.{Raw}
use Rattle.cmdcodec.specs.declared.command.Command.{Command}
use Rattle.cmdcodec.specs.declared.command.Command.TheVariants.{TlbiNhVa, TlbiNhVaa, TlbiEl2Va, TlbiEl2Vaa, TlbiS2Ipa}
use Rattle.cmdcodec.specs.declared.ill.Ill.{Ill}
use Rattle.cmdcodec.specs.Fields.{field}
use Rattle.cmdcodec.specs.FreeBits.{Runs, IsAlikeBeside, DifferInFreeBits, free_in_lo, free_in_hi, is_among}
use Rattle.cmdcodec.specs.Laws.{AllOtherBitsAreNamed, FreeBitsAreIgnored}
use Rattle.cmdcodec.specs.Opcodes.{is_kept, opcode_of}
use Rattle.range_hints.specs.declared.ttl.Ttl.{Ttl}
use Rattle.range_hints.specs.declared.ttl.Ttl.TheVariants.{AnyLevel}
use Rattle.range_hints.specs.Hints.{SpellsTtl, SpellsWithHint, has_ttl, kept_ttl, ttl_number}
use Rattle.range_hints.specs.Laws.{AllOtherBitsAreKept, AreCleared, IsCleared, ReservedBitsAreIgnored}
use Rattle.range_hints.specs.ReservedBits.{DifferInReservedBits, HasReservedBitsZero, reserved_in_hi}

pub two_bits : (x y : ℕ) → field x 9 8 ≡ field y 9 8 → (field x 8 8 ≡ field y 8 8) × (field x 9 9 ≡ field y 9 9)
two_bits x y same = (omega (arith, same), omega (arith, same))

pub from_bits : (x y : ℕ) → field x 8 8 ≡ field y 8 8 → field x 9 9 ≡ field y 9 9 → field x 9 8 ≡ field y 9 8
from_bits x y low high = omega (arith, low, high)

among : (i : ℕ) (rest : Runs) → is_among i ((7, 1) ∷ rest) ≡ false → (is_among i ((9, 1) ∷ rest) ≡ false) ⊎ ((i ≡ 8) ⊎ (i ≡ 9))
among i rest kept = grind (arith, nat_tests)

beside : (i : ℕ) (rest : Runs) → is_among i ((9, 1) ∷ rest) ≡ false → is_among i ((7, 1) ∷ rest) ≡ false
beside i rest free = grind (arith, nat_tests)

kept_beside : (rest : Runs) (x y : ℕ) → IsAlikeBeside ((9, 1) ∷ rest) x y → field x 9 8 ≡ field y 9 8 → IsAlikeBeside ((7, 1) ∷ rest) x y
kept_beside rest x y alike same i inside kept =
    let bits = two_bits x y same in
    elim (among i rest kept) [
      | inl free ↦ alike i inside free
      | inr these ↦ elim these [
        | inl eighth ↦ rw eighth bits.0
        | inr ninth ↦ rw ninth bits.1
      ]
    ]

free_beside : (rest : Runs) (x y : ℕ) → IsAlikeBeside ((7, 1) ∷ rest) x y → IsAlikeBeside ((9, 1) ∷ rest) x y
free_beside rest x y alike i inside free = alike i inside (beside i rest free)

-- ---- every other bit is kept
kept_by_address : (command : Command) (rest : Runs) (raw other : Raw) → free_in_hi command ≡ (9, 1) ∷ rest → reserved_in_hi command ≡ (7, 1) ∷ rest → field raw.hi 9 8 ≡ field other.hi 9 8
    → DifferInFreeBits command raw other → DifferInReservedBits command raw other
kept_by_address command rest raw other free reserved same named = (
  named.0,
  rw reserved (kept_beside rest raw.hi other.hi (rw free at named.1) same),
)

pub others_kept : AllOtherBitsAreNamed → AllOtherBitsAreKept
others_kept named raw other (TlbiNhVa vmid asid leaf page reach) ttl one two =
    kept_by_address (TlbiNhVa vmid asid leaf page reach) [] raw other refl refl (one.hint ∙ sym two.hint) (named raw other (TlbiNhVa vmid asid leaf page reach) one.spelled two.spelled)
others_kept named raw other (TlbiNhVaa vmid leaf page reach) ttl one two =
    kept_by_address (TlbiNhVaa vmid leaf page reach) [] raw other refl refl (one.hint ∙ sym two.hint) (named raw other (TlbiNhVaa vmid leaf page reach) one.spelled two.spelled)
others_kept named raw other (TlbiEl2Va asid leaf page reach) ttl one two =
    kept_by_address (TlbiEl2Va asid leaf page reach) [] raw other refl refl (one.hint ∙ sym two.hint) (named raw other (TlbiEl2Va asid leaf page reach) one.spelled two.spelled)
others_kept named raw other (TlbiEl2Vaa leaf page reach) ttl one two =
    kept_by_address (TlbiEl2Vaa leaf page reach) [] raw other refl refl (one.hint ∙ sym two.hint) (named raw other (TlbiEl2Vaa leaf page reach) one.spelled two.spelled)
others_kept named raw other (TlbiS2Ipa vmid leaf page reach) ttl one two =
    kept_by_address (TlbiS2Ipa vmid leaf page reach) ((63, 52) ∷ []) raw other refl refl (one.hint ∙ sym two.hint) (named raw other (TlbiS2Ipa vmid leaf page reach) one.spelled two.spelled)
others_kept named raw other command ttl one two = named raw other command one.spelled two.spelled

-- ---- reserved bits are ignored
ignored_by_address : FreeBitsAreIgnored → (command : Command) (rest : Runs) (raw other : Raw) (ttl : Ttl) → has_ttl command ≡ true → free_in_hi command ≡ (9, 1) ∷ rest → is_among 8 rest ≡ false → is_among 9 rest ≡ false
    → is_kept (opcode_of raw) ≡ false → SpellsWithHint raw command ttl
    → IsAlikeBeside (free_in_lo command) raw.lo other.lo → IsAlikeBeside ((7, 1) ∷ rest) raw.hi other.hi → SpellsWithHint other command ttl
ignored_by_address ignored command rest raw other ttl has free eighth ninth unkept one low high =
    let same = from_bits raw.hi other.hi (high 8 (omega arith) eighth) (high 9 (omega arith) ninth) in
    let hint : field raw.hi 9 8 ≡ ttl_number ttl = rw has at one.hint in
    record {
      spelled = (ignored raw other command unkept one.spelled (low, rw free (free_beside rest raw.hi other.hi high))).spelled;
      hint = rw has (sym same ∙ hint);
    }

pub reserved_ignored : FreeBitsAreIgnored → ReservedBitsAreIgnored
reserved_ignored ignored raw other (TlbiNhVa vmid asid leaf page reach) ttl unkept one alike =
    ignored_by_address ignored (TlbiNhVa vmid asid leaf page reach) [] raw other ttl refl refl refl refl unkept one alike.0 alike.1
reserved_ignored ignored raw other (TlbiNhVaa vmid leaf page reach) ttl unkept one alike =
    ignored_by_address ignored (TlbiNhVaa vmid leaf page reach) [] raw other ttl refl refl refl refl unkept one alike.0 alike.1
reserved_ignored ignored raw other (TlbiEl2Va asid leaf page reach) ttl unkept one alike =
    ignored_by_address ignored (TlbiEl2Va asid leaf page reach) [] raw other ttl refl refl refl refl unkept one alike.0 alike.1
reserved_ignored ignored raw other (TlbiEl2Vaa leaf page reach) ttl unkept one alike =
    ignored_by_address ignored (TlbiEl2Vaa leaf page reach) [] raw other ttl refl refl refl refl unkept one alike.0 alike.1
reserved_ignored ignored raw other (TlbiS2Ipa vmid leaf page reach) ttl unkept one alike =
    ignored_by_address ignored (TlbiS2Ipa vmid leaf page reach) ((63, 52) ∷ []) raw other ttl refl refl refl refl unkept one alike.0 alike.1
reserved_ignored ignored raw other command ttl unkept one alike = record {
  spelled = (ignored raw other command unkept one.spelled alike).spelled;
  hint = one.hint;
}

-- ---- cleared words
hint_kept : (has : Bool) (hi : ℕ) (ttl : Ttl) → SpellsTtl has hi ttl → (if has then ttl else AnyLevel) ≡ ttl
hint_kept true hi ttl told = refl
hint_kept false hi ttl told = sym told

cleared : AllOtherBitsAreKept → (raw words : Raw) (command : Command) (ttl : Ttl) → SpellsWithHint raw command ttl
    → SpellsWithHint words command (kept_ttl command ttl) → HasReservedBitsZero words command → AreCleared raw words command
cleared kept raw words command ttl one two zero = record {
  same = kept raw words command ttl one (rw (hint_kept (has_ttl command) raw.hi ttl one.hint) at two);
  zero = zero;
}

same_parts : (result : Result (Command × Ttl) Ill) (own command : Command) (own_ttl ttl : Ttl) → result ≡ Ok (own, own_ttl) → result ≡ Ok (command, ttl) → (own ≡ command) × (own_ttl ≡ ttl)
same_parts result own command own_ttl ttl one other =
    let first : Command × Ttl → Command = λ p. p.0 in
    let second : Command × Ttl → Ttl = λ p. p.1 in
    let here : Command × Ttl = (own, own_ttl) in
    let there : Command × Ttl = (command, ttl) in
    let pair : here ≡ there = cc in
    (ap first pair, ap second pair)

pub all_cleared : AllOtherBitsAreKept → (raw words : Raw) (result : Result (Command × Ttl) Ill) (own : Command) (own_ttl : Ttl) → result ≡ Ok (own, own_ttl)
    → ((command : Command) (ttl : Ttl) → SpellsWithHint raw command ttl → result ≡ Ok (command, ttl))
    → SpellsWithHint words own (kept_ttl own own_ttl) → HasReservedBitsZero words own → IsCleared raw words
all_cleared kept raw words result own own_ttl is only two zero command ttl one =
    let same = same_parts result own command own_ttl ttl is (only command ttl one) in
    let again : SpellsWithHint words command (kept_ttl command ttl) = rw (sym same.0, sym same.1) two in
    cleared kept raw words command ttl one again (rw (sym same.0) zero)
