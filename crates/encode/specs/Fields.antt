-- The fields of commands as texts have them. A word `key=number` gives a field: its number is so many units, and the
-- value of the field is how many.
use Rattle.std.specs.Prelude.{ℕ, ◌-◌, ◌^◌, List, codes}
use Rattle.encode.specs.declared.field.Field.{Field}
use Rattle.encode.specs.declared.field.Field.TheVariants as field

-- how the word begins
abbrev pub key_of : Field → List ℕ
key_of field.Sid = codes "sid="
key_of field.Ssid = codes "ssid="
key_of field.Range = codes "range="
key_of field.Leaf = codes "leaf="
key_of field.Vmid = codes "vmid="
key_of field.Asid = codes "asid="
key_of field.Page = codes "addr="
key_of field.IpaPage = codes "addr="
key_of field.Tg = codes "tg="
key_of field.Num = codes "num="
key_of field.Scale = codes "scale="
key_of field.Ssv = codes "ssv="
key_of field.Global = codes "global="
key_of field.Size = codes "size="
key_of field.Cs = codes "cs="
key_of field.Msh = codes "msh="
key_of field.Attr = codes "attr="
key_of field.Data = codes "data="
key_of field.MsiWord = codes "addr="
key_of field.Lo = codes "lo="
key_of field.Hi = codes "hi="

-- An address is told in bytes.
abbrev pub unit_of : Field → ℕ
unit_of field.Page = 4096
unit_of field.IpaPage = 4096
unit_of field.MsiWord = 4
unit_of other = 1

-- TG is 0 for a single page; the text of a command then leaves it out.
abbrev pub least_of : Field → ℕ
least_of field.Tg = 1
least_of other = 0

abbrev pub most_of : Field → ℕ
most_of field.Sid = 2 ^ 32 - 1
most_of field.Ssid = 2 ^ 20 - 1
most_of field.Range = 31
most_of field.Leaf = 1
most_of field.Vmid = 2 ^ 16 - 1
most_of field.Asid = 2 ^ 16 - 1
most_of field.Page = 2 ^ 52 - 1
most_of field.IpaPage = 2 ^ 40 - 1
most_of field.Tg = 3
most_of field.Num = 31
most_of field.Scale = 31
most_of field.Ssv = 1
most_of field.Global = 1
most_of field.Size = 52
most_of field.Cs = 2
most_of field.Msh = 3
most_of field.Attr = 15
most_of field.Data = 2 ^ 32 - 1
most_of field.MsiWord = 2 ^ 50 - 1
most_of field.Lo = 2 ^ 64 - 1
most_of field.Hi = 2 ^ 64 - 1
