-- The texts of commands on configurations.
use Rattle.std.proofs.Common.{ℕ, Bool, [], ◌∷◌, refl, append_assoc}
use Rattle.cmdcodec.specs.declared.opcode.Opcode.TheVariants as op
use Rattle.cmdcodec.specs.declared.command.Command.TheVariants.{CfgiSte, CfgiSteRange, CfgiCd, CfgiCdAll}
use Rattle.cmdcodec.specs.Text.{text_of}
use Rattle.encode.specs.declared.field.Field.TheVariants as field
use Rattle.encode.specs.Values.{behind, value_of, unknown_word}
use Rattle.encode.specs.Commands.{flag_of, command_of}
use Rattle.encode.proofs.Reading.{IsTextOf, one_bit}
use Rattle.encode.proofs.Written.{IsInDecimal, IsFlag, given}

pub cfgi_ste : (sid : ℕ) (leaf : Bool) → IsInDecimal field.Sid sid → IsFlag field.Leaf leaf → IsTextOf (text_of (CfgiSte sid leaf)) (CfgiSte sid leaf)
unfolding text_of unknown_word value_of behind flag_of command_of
cfgi_ste sid leaf s l = record { opcode = op.CfgiSte; fields = given s ∷ given l ∷ []; text = simp append_assoc; known = refl; made = rw (s.said, l.said, one_bit leaf) }

pub cfgi_ste_range : (sid range : ℕ) → IsInDecimal field.Sid sid → IsInDecimal field.Range range → IsTextOf (text_of (CfgiSteRange sid range)) (CfgiSteRange sid range)
unfolding text_of unknown_word value_of behind command_of
cfgi_ste_range sid range s r = record { opcode = op.CfgiSteRange; fields = given s ∷ given r ∷ []; text = simp append_assoc; known = refl; made = rw (s.said, r.said) }

pub cfgi_cd : (sid ssid : ℕ) (leaf : Bool) → IsInDecimal field.Sid sid → IsInDecimal field.Ssid ssid → IsFlag field.Leaf leaf
    → IsTextOf (text_of (CfgiCd sid ssid leaf)) (CfgiCd sid ssid leaf)
unfolding text_of unknown_word value_of behind flag_of command_of
cfgi_cd sid ssid leaf s ss l = record { opcode = op.CfgiCd; fields = given s ∷ given ss ∷ given l ∷ []; text = simp append_assoc; known = refl; made = rw (s.said, ss.said, l.said, one_bit leaf) }

pub cfgi_cd_all : (sid : ℕ) → IsInDecimal field.Sid sid → IsTextOf (text_of (CfgiCdAll sid)) (CfgiCdAll sid)
unfolding text_of unknown_word value_of behind command_of
cfgi_cd_all sid s = record { opcode = op.CfgiCdAll; fields = given s ∷ []; text = refl; known = refl; made = rw s.said }
