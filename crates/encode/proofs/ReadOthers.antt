-- The texts of ATC_INV, CMD_SYNC and the commands that are kept.
use Rattle.std.proofs.Common.{◌≡◌, true≢false, sym, ℕ, ◌==◌, ◌&&◌, Bool, true, cond, List, [], ◌∷◌, ◌++◌, refl, ap, ◌∙◌, codes, None, is_none, Ok, Err, eq-eqb, append_assoc}
use Rattle.cmdcodec.specs.declared.opcode.Opcode.{Opcode}
use Rattle.cmdcodec.specs.declared.opcode.Opcode.TheVariants as op
use Rattle.cmdcodec.specs.declared.raw.Raw.{Raw}
use Rattle.cmdcodec.specs.declared.command.Command.TheVariants.{AtcInv, Kept, CmdSync}
use Rattle.cmdcodec.specs.Opcodes.{opcode_of, number_of, is_kept}
use Rattle.cmdcodec.specs.Legality.{first_ill}
use Rattle.cmdcodec.specs.Text.{hexadecimal, kept_name, text_of}
use Rattle.encode.specs.declared.fault.FieldFault.TheVariants.{OtherCommand}
use Rattle.encode.specs.declared.field.Field.TheVariants as field
use Rattle.encode.specs.Names.{name_of, fields_of}
use Rattle.encode.specs.Values.{behind, value_of, unknown_word}
use Rattle.encode.specs.Commands.{flag_of, kept_raw, kept_of, command_of}
use Rattle.encode.proofs.Reading.{IsTextOf, one_bit}
use Rattle.encode.proofs.Written.{IsWritten, IsInDecimal, IsFlag, IsInBytes, given, word_of}

pub atc_inv : (sid : ℕ) (ssv : Bool) (ssid : ℕ) (global : Bool) (size page : ℕ) → IsInDecimal field.Sid sid → IsFlag field.Ssv ssv → IsInDecimal field.Ssid ssid
    → IsFlag field.Global global → IsInDecimal field.Size size → IsInBytes field.Page page
    → IsTextOf (text_of (AtcInv sid ssv ssid global size page)) (AtcInv sid ssv ssid global size page)
unfolding text_of unknown_word value_of behind flag_of command_of
atc_inv sid ssv ssid global size page s v ss g z p = record {
  opcode = op.AtcInv;
  fields = given s ∷ given v ∷ given ss ∷ given g ∷ given z ∷ given p ∷ [];
  text = simp append_assoc;
  known = refl;
  made = rw (s.said, v.said, one_bit ssv, ss.said, g.said, one_bit global, z.said, p.said);
}

pub cmd_sync : (cs msh attr «data» address : ℕ) → IsInDecimal field.Cs cs → IsInDecimal field.Msh msh → IsInDecimal field.Attr attr → IsInDecimal field.Data «data»
    → IsInBytes field.MsiWord address
    → IsTextOf (text_of (CmdSync cs msh attr «data» address)) (CmdSync cs msh attr «data» address)
unfolding text_of unknown_word value_of behind command_of
cmd_sync cs msh attr «data» address c m a d w = record {
  opcode = op.CmdSync;
  fields = given c ∷ given m ∷ given a ∷ given d ∷ given w ∷ [];
  text = simp append_assoc;
  known = refl;
  made = rw (c.said, m.said, a.said, d.said, w.said);
}

-- ---- commands that are kept

-- Such a command is called by its opcode's name and given by its words.
record IsKept (opcode : Opcode) : Type 0 where
  called : kept_name (number_of opcode) ≡ name_of opcode
  fields : fields_of opcode ≡ field.Lo ∷ field.Hi ∷ []
  by_words : (words : List (List ℕ)) → command_of opcode words ≡ kept_of opcode words

is_kept_by : (opcode : Opcode) → is_kept (number_of opcode) ≡ true → IsKept opcode
unfolding command_of
is_kept_by op.PrefetchConfig h = record { called = refl; fields = refl; by_words = λ words. refl }
is_kept_by op.PrefetchAddr h = record { called = refl; fields = refl; by_words = λ words. refl }
is_kept_by op.PriResp h = record { called = refl; fields = refl; by_words = λ words. refl }
is_kept_by op.Resume h = record { called = refl; fields = refl; by_words = λ words. refl }
is_kept_by op.StallTerm h = record { called = refl; fields = refl; by_words = λ words. refl }
is_kept_by other h = absurd (true≢false (sym h))

-- Its words, if they are legal and have the opcode, make it.
made_kept : (opcode : Opcode) (raw : Raw) → is_kept (number_of opcode) ≡ true → opcode_of raw ≡ number_of opcode → first_ill raw ≡ None
    → kept_raw opcode raw ≡ Ok (Kept raw)
made_kept opcode raw kept named legal =
    ap (λ (n : ℕ). cond (n == number_of opcode && (is_kept n && is_none (first_ill raw))) (Ok (Kept raw)) (Err OtherCommand)) named
    ∙ rw (eq-eqb (number_of opcode) (number_of opcode) refl, kept, legal)

-- All five are read alike.
pub kept : (opcode : Opcode) (raw : Raw) → is_kept (number_of opcode) ≡ true → opcode_of raw ≡ number_of opcode → first_ill raw ≡ None
    → IsWritten field.Lo (hexadecimal raw.lo) raw.lo → IsWritten field.Hi (hexadecimal raw.hi) raw.hi → IsTextOf (text_of (Kept raw)) (Kept raw)
unfolding text_of unknown_word value_of behind kept_of
kept opcode raw is named legal lo hi =
    let its = is_kept_by opcode is in
    let words = word_of (given lo) ∷ word_of (given hi) ∷ [] in
    record {
      opcode = opcode;
      fields = given lo ∷ given hi ∷ [];
      text =
          ap (λ name. name ++ codes " lo=" ++ hexadecimal raw.lo ++ codes " hi=" ++ hexadecimal raw.hi) (ap kept_name named ∙ its.called)
          ∙ simp append_assoc;
      known = ap (λ fields. unknown_word fields words) its.fields;
      made = its.by_words words ∙ rw (lo.said, hi.said) (made_kept opcode raw is named legal);
    }
