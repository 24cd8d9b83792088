-- What the words of a line say of a field, in whatever order they stand.
use Rattle.std.specs.Prelude.{ℕ, ◌/◌, ◌%◌, ◌==◌, ◌&&◌, nat_le, List, [], ◌∷◌, Bool, true, false, not, Option, Some, None, Result, Ok, Err, if◌then◌else◌, filter, map, drop, length, eqb}
use Rattle.std.specs.List.{find, list_any, starts_with}
use Rattle.script.specs.Words.{number_of}
use Rattle.encode.specs.declared.field.Field.{Field}
use Rattle.encode.specs.declared.fault.FieldFault.{FieldFault}
use Rattle.encode.specs.declared.fault.FieldFault.TheVariants.{Missing, Twice, OutOfRange, NoMultiple}
use Rattle.encode.specs.Fields.{key_of, unit_of, least_of, most_of}

-- what follows the key in each word that begins with it
unfoldable pub behind : List ℕ → List (List ℕ) → List (List ℕ)
behind key words = map (drop (length key)) (filter (λ word. starts_with eqb word key) words)

-- the value that a number says
abbrev pub value_said : Field → Option ℕ → Result ℕ FieldFault
value_said field None = Err (OutOfRange field)
value_said field (Some number) =
    if number % unit_of field == 0
    then (if nat_le (least_of field) (number / unit_of field) && nat_le (number / unit_of field) (most_of field) then Ok (number / unit_of field) else Err (OutOfRange field))
    else Err (NoMultiple field)

-- One word gives the field.
abbrev pub value_in : Field → List (List ℕ) → Result ℕ FieldFault
value_in field [] = Err (Missing field)
value_in field (digits ∷ []) = value_said field (number_of digits)
value_in field (digits ∷ other ∷ more) = Err (Twice field)

unfoldable pub value_of : Field → List (List ℕ) → Result ℕ FieldFault
value_of field words = value_in field (behind (key_of field) words)

abbrev pub is_some_word : List (List ℕ) → Bool
is_some_word [] = false
is_some_word (word ∷ words) = true

-- At least one word begins with the key of the field.
unfoldable pub is_given : Field → List (List ℕ) → Bool
is_given field words = is_some_word (behind (key_of field) words)

-- the word begins with the key of one of these fields
abbrev pub is_of : List Field → List ℕ → Bool
is_of fields word = list_any (λ field. starts_with eqb word (key_of field)) fields

-- the first word that begins with the key of none
unfoldable pub unknown_word : List Field → List (List ℕ) → Option (List ℕ)
unknown_word fields words = find (λ word. not (is_of fields word)) words
