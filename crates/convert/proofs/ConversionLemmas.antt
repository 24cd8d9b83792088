-- The conversion of one command.
use Rattle.std.proofs.Common.{◌≡◌, ◌≤◌, ℕ, zero, suc, List, [], ◌∷◌, length, Some, None, ap, arith, refl, sym, ◌∙◌, append-nil, slice_get}
use Rattle.std.proofs.lemmas.List.Concat.{flat_map-cons}
use Rattle.std.proofs.lemmas.Option.{same_Some}
use Rattle.cmdcodec.specs.declared.raw.Raw.{Raw}
use Rattle.guest_commands.specs.declared.ended.Ended.TheVariants.{End, Full, At}
use Rattle.guest_commands.specs.declared.ended.Stop.{Stop}
use Rattle.guest_commands.specs.Mappings.{Mapping}
use Rattle.guest_commands.specs.Conversions.{Conversion, IsConverted, IsEnd, stop_for, words_for}

-- the only place of a list of one
only : (raw next : Raw) (taken : ℕ) → slice_get (raw ∷ []) taken ≡ Some next → (taken ≡ 0) × (next ≡ raw)
only raw next zero is = (refl, sym (same_Some _ _ is))
only raw next (suc taken) is = absurd cc

-- It stopped at the command.
pub stopped : (mapping : Mapping) (raw : Raw) (conversion : Conversion) (stop : Stop) → IsConverted mapping (raw ∷ []) conversion → conversion.ended ≡ At stop → stop_for raw ≡ Some stop
stopped mapping raw conversion stop is at =
    let end : IsEnd mapping (raw ∷ []) conversion.taken (length conversion.commands) (At stop) = rw at at is.ended in
    ap stop_for (sym (only raw end.0 conversion.taken end.1).1) ∙ end.2

-- It was taken.
pub record IsTaken (mapping : Mapping) (raw : Raw) (commands : List Raw) : Type 0 where
  pub goes_on : stop_for raw ≡ None
  pub commands_are : commands ≡ words_for mapping raw

pub taken : (mapping : Mapping) (raw : Raw) (conversion : Conversion) → IsConverted mapping (raw ∷ []) conversion → conversion.ended ≡ End → IsTaken mapping raw conversion.commands
taken mapping raw conversion is at =
    let all : IsEnd mapping (raw ∷ []) conversion.taken (length conversion.commands) End = rw at at is.ended in
    let none = rw all at is.none_stops in
    let commands = rw all at is.commands in
    record { goes_on = none 0 raw (omega arith); commands_are = commands ∙ flat_map-cons (words_for mapping) raw [] ∙ append-nil (words_for mapping raw) }

-- The host's commands for a single one fit.
pub not_full : (mapping : Mapping) (raw : Raw) (conversion : Conversion) → IsConverted mapping (raw ∷ []) conversion → conversion.ended ≡ Full → ⊥
not_full mapping raw conversion is at =
    let end : IsEnd mapping (raw ∷ []) conversion.taken (length conversion.commands) Full = rw at at is.ended in
    let none = rw (only raw end.0 conversion.taken end.1).0 at is.commands in
    let some : 1 ≤ length conversion.commands = end.2.1 in
    omega (arith, ap length none)
