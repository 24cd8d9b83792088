-- The texts of invalidations of translations that have no address.
use Rattle.std.proofs.Common.{ℕ, [], ◌∷◌, refl, append_assoc}
use Rattle.cmdcodec.specs.declared.opcode.Opcode.TheVariants as op
use Rattle.cmdcodec.specs.declared.command.Command.TheVariants.{TlbiNhAll, TlbiNhAsid, TlbiEl2All, TlbiEl2Asid, TlbiS12Vmall, TlbiNsnhAll}
use Rattle.cmdcodec.specs.Text.{text_of}
use Rattle.encode.specs.declared.field.Field.TheVariants as field
use Rattle.encode.specs.Values.{behind, value_of, unknown_word}
use Rattle.encode.specs.Commands.{command_of}
use Rattle.encode.proofs.Reading.{IsTextOf}
use Rattle.encode.proofs.Written.{IsInDecimal, given}

pub tlbi_nh_all : (vmid : ℕ) → IsInDecimal field.Vmid vmid → IsTextOf (text_of (TlbiNhAll vmid)) (TlbiNhAll vmid)
unfolding text_of unknown_word value_of behind command_of
tlbi_nh_all vmid v = record { opcode = op.TlbiNhAll; fields = given v ∷ []; text = refl; known = refl; made = rw v.said }

pub tlbi_nh_asid : (vmid asid : ℕ) → IsInDecimal field.Vmid vmid → IsInDecimal field.Asid asid → IsTextOf (text_of (TlbiNhAsid vmid asid)) (TlbiNhAsid vmid asid)
unfolding text_of unknown_word value_of behind command_of
tlbi_nh_asid vmid asid v a = record { opcode = op.TlbiNhAsid; fields = given v ∷ given a ∷ []; text = simp append_assoc; known = refl; made = rw (v.said, a.said) }

pub tlbi_el2_asid : (asid : ℕ) → IsInDecimal field.Asid asid → IsTextOf (text_of (TlbiEl2Asid asid)) (TlbiEl2Asid asid)
unfolding text_of unknown_word value_of behind command_of
tlbi_el2_asid asid a = record { opcode = op.TlbiEl2Asid; fields = given a ∷ []; text = refl; known = refl; made = rw a.said }

pub tlbi_s12_vmall : (vmid : ℕ) → IsInDecimal field.Vmid vmid → IsTextOf (text_of (TlbiS12Vmall vmid)) (TlbiS12Vmall vmid)
unfolding text_of unknown_word value_of behind command_of
tlbi_s12_vmall vmid v = record { opcode = op.TlbiS12Vmall; fields = given v ∷ []; text = refl; known = refl; made = rw v.said }

pub tlbi_el2_all : IsTextOf (text_of TlbiEl2All) TlbiEl2All
unfolding text_of unknown_word command_of
tlbi_el2_all = record { opcode = op.TlbiEl2All; fields = []; text = refl; known = refl; made = refl }

pub tlbi_nsnh_all : IsTextOf (text_of TlbiNsnhAll) TlbiNsnhAll
unfolding text_of unknown_word command_of
tlbi_nsnh_all = record { opcode = op.TlbiNsnhAll; fields = []; text = refl; known = refl; made = refl }
