-- Fields with an opcode that the profile hasn't say no command.
use Rattle.std.proofs.Common.{◌≡◌, ℕ, sym, ap, subst, ◌∙◌, refl, Option, None, Some}
use Rattle.std.specs.Prelude.{if◌then◌else◌, is_none}
use Rattle.cmdcodec.specs.declared.ill.Ill.{Ill}
use Rattle.cmdcodec.specs.declared.ill.Ill.TheVariants.{UnknownOpcode}
use Rattle.cmdcodec.specs.declared.opcode.Opcode.{Opcode}
use Rattle.cmdcodec.specs.declared.command.Command.{Command}
use Rattle.cmdcodec.specs.declared.command.Command.TheVariants.{CfgiSte, CfgiSteRange, CfgiCd, CfgiCdAll, TlbiNhAll, TlbiNhAsid, TlbiNhVa, TlbiNhVaa, TlbiEl2All, TlbiEl2Asid, TlbiEl2Va, TlbiEl2Vaa, TlbiS12Vmall, TlbiS2Ipa, TlbiNsnhAll, AtcInv, Kept, CmdSync}
use Rattle.cmdcodec.specs.Opcodes.{opcode_named, opcode_of}
use Rattle.smmuq_c.specs.declared.fields.Fields.{Fields}
use Rattle.smmuq_c.specs.Commands.{SaysCommand, IsCommandOf}

is_named : (n : ℕ) (op : Opcode) {m : ℕ} → opcode_named m ≡ None → m ≡ n → opcode_named n ≡ Some op → ⊥
is_named n op none is some = let e = ap opcode_named is in absurd (cc)

is_ill : (o : Option Opcode) (rest : Option Ill) → o ≡ None → (if is_none o then Some UnknownOpcode else rest) ≡ None → ⊥
is_ill None rest none legal = absurd (cc)
is_ill (Some op) rest none legal = absurd (cc)

pub says_none : (f : Fields) → opcode_named f.opcode ≡ None → (command : Command) → ¬ SaysCommand f command
unfolding opcode_named
says_none f none (CfgiSte sid leaf) s = is_named 0x03 _ none s.0 refl
says_none f none (CfgiSteRange sid range) s = is_named 0x04 _ none s.0 refl
says_none f none (CfgiCd sid ssid leaf) s = is_named 0x05 _ none s.0 refl
says_none f none (CfgiCdAll sid) s = is_named 0x06 _ none s.0 refl
says_none f none (TlbiNhAll vmid) s = is_named 0x10 _ none s.0 refl
says_none f none (TlbiNhAsid vmid asid) s = is_named 0x11 _ none s.0 refl
says_none f none (TlbiNhVa vmid asid leaf page reach) s = is_named 0x12 _ none s.0 refl
says_none f none (TlbiNhVaa vmid leaf page reach) s = is_named 0x13 _ none s.0 refl
says_none f none TlbiEl2All s = is_named 0x20 _ none s refl
says_none f none (TlbiEl2Asid asid) s = is_named 0x21 _ none s.0 refl
says_none f none (TlbiEl2Va asid leaf page reach) s = is_named 0x22 _ none s.0 refl
says_none f none (TlbiEl2Vaa leaf page reach) s = is_named 0x23 _ none s.0 refl
says_none f none (TlbiS12Vmall vmid) s = is_named 0x28 _ none s.0 refl
says_none f none (TlbiS2Ipa vmid leaf page reach) s = is_named 0x2a _ none s.0 refl
says_none f none TlbiNsnhAll s = is_named 0x30 _ none s refl
says_none f none (AtcInv sid ssv ssid global size page) s = is_named 0x40 _ none s.0 refl
says_none f none (Kept raw) s = is_ill (opcode_named (opcode_of raw)) _ (ap opcode_named (sym s.0) ∙ none) s.3.1
says_none f none (CmdSync cs msh attr «data» address) s = is_named 0x46 _ none s.0 refl

pub no_command : (f : Fields) (n : ℕ) (found : Option Command) → found ≡ None → n ≡ f.opcode → None ≡ opcode_named n → IsCommandOf f found
no_command f n found is number none =
    subst (λ (r : Option Command). IsCommandOf f r) (sym is) (says_none f (sym (none ∙ ap opcode_named number)))
