-- The command of the values that words give its fields.
use Rattle.std.specs.Prelude.{ℕ, ◌==◌, ◌&&◌, ◌||◌, List, Bool, is_none, Result, Ok, Err, if◌then◌else◌}
use Rattle.cmdcodec.specs.declared.raw.Raw.{Raw}
use Rattle.cmdcodec.specs.declared.opcode.Opcode.{Opcode}
use Rattle.cmdcodec.specs.declared.opcode.Opcode.TheVariants as op
use Rattle.cmdcodec.specs.declared.command.Command.{Command}
use Rattle.cmdcodec.specs.declared.command.Command.TheVariants.{CfgiSte, CfgiSteRange, CfgiCd, CfgiCdAll, TlbiNhAll, TlbiNhAsid, TlbiNhVa, TlbiNhVaa, TlbiEl2All, TlbiEl2Asid, TlbiEl2Va, TlbiEl2Vaa, TlbiS12Vmall, TlbiS2Ipa, TlbiNsnhAll, AtcInv, Kept, CmdSync}
use Rattle.cmdcodec.specs.declared.reach.Reach.{Reach}
use Rattle.cmdcodec.specs.declared.reach.Reach.TheVariants.{Page}
use Rattle.cmdcodec.specs.Opcodes.{opcode_of, number_of, is_kept}
use Rattle.cmdcodec.specs.Legality.{first_ill}
use Rattle.cmdcodec.specs.Spelling.{granule_named}
use Rattle.cmdcodec.specs.Words.{reach_by}
use Rattle.encode.specs.declared.field.Field.{Field}
use Rattle.encode.specs.declared.field.Field.TheVariants as field
use Rattle.encode.specs.declared.fault.FieldFault.{FieldFault}
use Rattle.encode.specs.declared.fault.FieldFault.TheVariants.{OtherCommand}
use Rattle.encode.specs.Values.{value_of, is_given}

infixl 10 ◌>>=◌
abbrev pub ◌>>=◌ : {A B : Type 0} → Result A FieldFault → (A → Result B FieldFault) → Result B FieldFault
(Ok x) >>= f = f x
(Err fault) >>= f = Err fault

-- a field of one bit
unfoldable pub flag_of : Field → List (List ℕ) → Result Bool FieldFault
flag_of field words = do
  value ← value_of field words
  Ok (value == 1)

-- the granules of a range
abbrev pub range_of : List (List ℕ) → Result Reach FieldFault
range_of words = do
  tg ← value_of field.Tg words
  num ← value_of field.Num words
  scale ← value_of field.Scale words
  Ok (reach_by (granule_named tg) num scale)

-- The three fields of a range are given, or none of them, for a single page.
unfoldable pub reach_of : List (List ℕ) → Result Reach FieldFault
reach_of words = if is_given field.Tg words || is_given field.Num words || is_given field.Scale words then range_of words else Ok Page

-- The words are legal, and those of the kept command of this opcode.
abbrev pub kept_raw : Opcode → Raw → Result Command FieldFault
kept_raw opcode raw =
    if opcode_of raw == number_of opcode && (is_kept (opcode_of raw) && is_none (first_ill raw)) then Ok (Kept raw) else Err OtherCommand

-- A kept command is given by its words.
unfoldable pub kept_of : Opcode → List (List ℕ) → Result Command FieldFault
kept_of opcode words = do
  lo ← value_of field.Lo words
  hi ← value_of field.Hi words
  kept_raw opcode (record { lo = lo; hi = hi })

unfoldable pub command_of : Opcode → List (List ℕ) → Result Command FieldFault
command_of op.CfgiSte words = do
  sid ← value_of field.Sid words
  leaf ← flag_of field.Leaf words
  Ok (CfgiSte sid leaf)
command_of op.CfgiSteRange words = do
  sid ← value_of field.Sid words
  range ← value_of field.Range words
  Ok (CfgiSteRange sid range)
command_of op.CfgiCd words = do
  sid ← value_of field.Sid words
  ssid ← value_of field.Ssid words
  leaf ← flag_of field.Leaf words
  Ok (CfgiCd sid ssid leaf)
command_of op.CfgiCdAll words = do
  sid ← value_of field.Sid words
  Ok (CfgiCdAll sid)
command_of op.TlbiNhAll words = do
  vmid ← value_of field.Vmid words
  Ok (TlbiNhAll vmid)
command_of op.TlbiNhAsid words = do
  vmid ← value_of field.Vmid words
  asid ← value_of field.Asid words
  Ok (TlbiNhAsid vmid asid)
command_of op.TlbiNhVa words = do
  vmid ← value_of field.Vmid words
  asid ← value_of field.Asid words
  leaf ← flag_of field.Leaf words
  page ← value_of field.Page words
  reach ← reach_of words
  Ok (TlbiNhVa vmid asid leaf page reach)
command_of op.TlbiNhVaa words = do
  vmid ← value_of field.Vmid words
  leaf ← flag_of field.Leaf words
  page ← value_of field.Page words
  reach ← reach_of words
  Ok (TlbiNhVaa vmid leaf page reach)
command_of op.TlbiEl2All words = Ok TlbiEl2All
command_of op.TlbiEl2Asid words = do
  asid ← value_of field.Asid words
  Ok (TlbiEl2Asid asid)
command_of op.TlbiEl2Va words = do
  asid ← value_of field.Asid words
  leaf ← flag_of field.Leaf words
  page ← value_of field.Page words
  reach ← reach_of words
  Ok (TlbiEl2Va asid leaf page reach)
command_of op.TlbiEl2Vaa words = do
  leaf ← flag_of field.Leaf words
  page ← value_of field.Page words
  reach ← reach_of words
  Ok (TlbiEl2Vaa leaf page reach)
command_of op.TlbiS12Vmall words = do
  vmid ← value_of field.Vmid words
  Ok (TlbiS12Vmall vmid)
command_of op.TlbiS2Ipa words = do
  vmid ← value_of field.Vmid words
  leaf ← flag_of field.Leaf words
  page ← value_of field.IpaPage words
  reach ← reach_of words
  Ok (TlbiS2Ipa vmid leaf page reach)
command_of op.TlbiNsnhAll words = Ok TlbiNsnhAll
command_of op.AtcInv words = do
  sid ← value_of field.Sid words
  ssv ← flag_of field.Ssv words
  ssid ← value_of field.Ssid words
  global ← flag_of field.Global words
  size ← value_of field.Size words
  page ← value_of field.Page words
  Ok (AtcInv sid ssv ssid global size page)
command_of op.CmdSync words = do
  cs ← value_of field.Cs words
  msh ← value_of field.Msh words
  attr ← value_of field.Attr words
  «data» ← value_of field.Data words
  address ← value_of field.MsiWord words
  Ok (CmdSync cs msh attr «data» address)
command_of kept words = kept_of kept words
