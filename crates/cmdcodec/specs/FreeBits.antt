-- Which bits are free in the spelling of a command: those that no equation of the spelling names.
use Rattle.std.specs.Prelude.{◌≡◌, ◌<◌, ℕ, ◌&&◌, ◌||◌, nat_le, List, [], ◌∷◌, Bool, false}
use Rattle.cmdcodec.specs.declared.raw.Raw.{Raw}
use Rattle.cmdcodec.specs.declared.command.Command.{Command}
use Rattle.cmdcodec.specs.declared.command.Command.TheVariants.{CfgiSte, CfgiSteRange, CfgiCd, CfgiCdAll, TlbiNhAll, TlbiNhAsid, TlbiNhVa, TlbiNhVaa, TlbiEl2All, TlbiEl2Asid, TlbiEl2Va, TlbiEl2Vaa, TlbiS12Vmall, TlbiS2Ipa, TlbiNsnhAll, AtcInv, Kept, CmdSync}
use Rattle.cmdcodec.specs.declared.reach.Reach.{Reach}
use Rattle.cmdcodec.specs.declared.reach.Reach.TheVariants.{Page, Range}
use Rattle.cmdcodec.specs.Fields.{field}

-- runs of bits, each as high and low, both inclusive
abbrev pub Runs : Type 0
Runs = List (ℕ × ℕ)

-- NUM and SCALE have equations only in a Range.
abbrev pub free_beside : Reach → Runs
free_beside Page = (31, 8) ∷ []
free_beside (Range tg num scale) = (11, 8) ∷ (19, 17) ∷ (31, 25) ∷ []

abbrev pub free_in_lo : Command → Runs
free_in_lo (CfgiSte sid leaf) = (9, 8) ∷ (31, 11) ∷ []
free_in_lo (CfgiSteRange sid range) = (9, 8) ∷ (31, 11) ∷ []
free_in_lo (CfgiCd sid ssid leaf) = (9, 8) ∷ (11, 11) ∷ []
free_in_lo (CfgiCdAll sid) = (9, 8) ∷ (31, 11) ∷ []
free_in_lo (TlbiNhAll vmid) = (31, 8) ∷ (63, 48) ∷ []
free_in_lo (TlbiNhAsid vmid asid) = (31, 8) ∷ []
free_in_lo (TlbiNhVa vmid asid leaf page reach) = free_beside reach
free_in_lo (TlbiNhVaa vmid leaf page reach) = (63, 48) ∷ free_beside reach
free_in_lo TlbiEl2All = (63, 8) ∷ []
free_in_lo (TlbiEl2Asid asid) = (47, 8) ∷ []
free_in_lo (TlbiEl2Va asid leaf page reach) = (47, 32) ∷ free_beside reach
free_in_lo (TlbiEl2Vaa leaf page reach) = (63, 32) ∷ free_beside reach
free_in_lo (TlbiS12Vmall vmid) = (31, 8) ∷ (63, 48) ∷ []
free_in_lo (TlbiS2Ipa vmid leaf page reach) = (63, 48) ∷ free_beside reach
free_in_lo TlbiNsnhAll = (63, 8) ∷ []
free_in_lo (AtcInv sid ssv ssid global size page) = (8, 8) ∷ []
free_in_lo (Kept words) = []
free_in_lo (CmdSync cs msh attr «data» address) = (11, 8) ∷ (21, 14) ∷ (31, 28) ∷ []

abbrev pub free_in_hi : Command → Runs
free_in_hi (CfgiSte sid leaf) = (63, 1) ∷ []
free_in_hi (CfgiSteRange sid range) = (63, 5) ∷ []
free_in_hi (CfgiCd sid ssid leaf) = (63, 1) ∷ []
free_in_hi (TlbiNhVa vmid asid leaf page reach) = (9, 1) ∷ []
free_in_hi (TlbiNhVaa vmid leaf page reach) = (9, 1) ∷ []
free_in_hi (TlbiEl2Va asid leaf page reach) = (9, 1) ∷ []
free_in_hi (TlbiEl2Vaa leaf page reach) = (9, 1) ∷ []
free_in_hi (TlbiS2Ipa vmid leaf page reach) = (9, 1) ∷ (63, 52) ∷ []
free_in_hi (AtcInv sid ssv ssid global size page) = (11, 6) ∷ []
free_in_hi (Kept words) = []
free_in_hi (CmdSync cs msh attr «data» address) = (1, 0) ∷ (63, 52) ∷ []
free_in_hi without_fields = (63, 0) ∷ []

-- All these runs of the word are 0.
abbrev pub AreZero : ℕ → Runs → Type 0
AreZero word [] = Unit
AreZero word (run ∷ runs) = (field word run.0 run.1 ≡ 0) × AreZero word runs

-- All bits that are free in the spelling of this command are 0.
abbrev pub HasFreeBitsZero : Raw → Command → Type 0
HasFreeBitsZero raw command = AreZero raw.lo (free_in_lo command) × AreZero raw.hi (free_in_hi command)

abbrev pub is_among : ℕ → Runs → Bool
is_among i [] = false
is_among i (run ∷ runs) = nat_le run.1 i && nat_le i run.0 || is_among i runs

-- The two words agree in every bit outside these runs.
abbrev pub IsAlikeBeside : Runs → ℕ → ℕ → Type 0
IsAlikeBeside runs word other = (i : ℕ) → i < 64 → is_among i runs ≡ false → field word i i ≡ field other i i

-- The words differ at most in bits that are free in the spelling of this command.
abbrev pub DifferInFreeBits : Command → Raw → Raw → Type 0
DifferInFreeBits command raw other =
    IsAlikeBeside (free_in_lo command) raw.lo other.lo × IsAlikeBeside (free_in_hi command) raw.hi other.hi
