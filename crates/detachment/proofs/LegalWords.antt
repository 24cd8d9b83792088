-- The commands of both lists are legal, so each is applied when it is taken.
use Rattle.std.proofs.Common.{◌≡◌, ℕ, zero, suc, ◌+◌, ◌++◌, List, [], ◌∷◌, length, map, Option, Some, None, true, false, ◌⊎◌, inl, inr, refl, ap, sym, ◌∙◌, subst, arith}
use Rattle.std.proofs.lemmas.List.Elements.{All-cons, All-head, All-nil, All-tail}
use Rattle.std.specs.Prelude.{slice_get, is_none, if◌then◌else◌, Bool, ◌&&◌, nat_eq, All}
use Rattle.cmdcodec.specs.declared.ill.Ill.{Ill}
use Rattle.cmdcodec.specs.declared.command.Command.TheVariants.{CfgiSte, CfgiCdAll, AtcInv}
use Rattle.cmdcodec.specs.declared.opcode.Opcode.{Opcode}
use Rattle.cmdcodec.specs.declared.opcode.Opcode.TheVariants as opcodes
use Rattle.cmdcodec.specs.Fields.{field}
use Rattle.cmdcodec.specs.Legality.{first_ill}
use Rattle.cmdcodec.specs.Words.{encoding}
use Rattle.cmdcodec.specs.Opcodes.{opcode_of, opcode_named}
use Rattle.ring.specs.Runs.{Raw, Applied, Replaced, Run, Taken, taken_as, world, advanced, Begins}
use Rattle.ringcore.proofs.WorldLemmas.Lists.{get_map, get_longer, get_behind, none_some}
use Rattle.smmu_features.specs.declared.smmu.Smmu.{Smmu}
use Rattle.smmu_features.specs.Commands.{has_command, has_accesses_in, is_of_stall, IsLegalFor}
use Rattle.detachment.specs.Commands.{Stream, has_ats, configuration_words, endpoint_words}
use Rattle.detachment.specs.Order.{AreAppliedFrom}

abbrev pub AreLegal : List Raw → Type 0
AreLegal [] = Unit {0}
AreLegal (raw ∷ raws) = (first_ill raw ≡ None) × AreLegal raws

and_left : (one other : Bool) → one && other ≡ true → one ≡ true
and_left true other is = refl
and_left false other is = is

legal_as : (raw : Raw) (opcode : ℕ) → opcode_of raw ≡ opcode → field raw.lo 10 10 ≡ 0 → (opcode ≡ 0x03) ⊎ (opcode ≡ 0x06) → first_ill raw ≡ None
unfolding opcode_named
legal_as raw opcode is secure (inl entry) = rw (is ∙ entry, secure) refl
legal_as raw opcode is secure (inr descriptors) = rw (is ∙ descriptors, secure) refl

legal_pages : (raw : Raw) → opcode_of raw ≡ 0x40 → field raw.lo 10 10 ≡ 0 → field raw.hi 5 0 ≡ 52 → first_ill raw ≡ None
unfolding opcode_named
legal_pages raw opcode secure size = rw (opcode, secure, size) refl

entry_is_legal : (sid : ℕ) → first_ill (encoding (CfgiSte sid true)) ≡ None
unfolding encoding
entry_is_legal sid = legal_as (encoding (CfgiSte sid true)) 0x03 (omega arith) (omega arith) (inl refl)

descriptors_are_legal : (sid : ℕ) → first_ill (encoding (CfgiCdAll sid)) ≡ None
unfolding encoding
descriptors_are_legal sid = legal_as (encoding (CfgiCdAll sid)) 0x06 (omega arith) (omega arith) (inr refl)

pages_are_legal : (sid : ℕ) → first_ill (encoding (AtcInv sid false 0 false 52 0)) ≡ None
unfolding encoding
pages_are_legal sid = legal_pages (encoding (AtcInv sid false 0 false 52 0)) (omega arith) (omega arith) (omega arith)

pub configuration_is_legal : (stream : Stream) → AreLegal (configuration_words stream)
configuration_is_legal stream = by_stage_1 stream.smmu.stage_1
  where
    by_stage_1 : (b : Bool) → AreLegal (map encoding (CfgiSte stream.sid true ∷ (if b then CfgiCdAll stream.sid ∷ [] else [])))
    by_stage_1 true = (entry_is_legal stream.sid, (descriptors_are_legal stream.sid, tt))
    by_stage_1 false = (entry_is_legal stream.sid, tt)

pub endpoint_is_legal : (stream : Stream) → AreLegal (endpoint_words stream)
endpoint_is_legal stream = (pages_are_legal stream.sid, tt)

-- ---- They are legal for the SMMU, too.

-- Words whose opcode names this command, which the SMMU has, with accesses that it has, and which isn't of a stall.
of_command : (smmu : Smmu) (raw : Raw) (number : ℕ) (own : Opcode) → opcode_of raw ≡ number → opcode_named number ≡ Some own → is_of_stall (Some own) ≡ false
    → has_command smmu own ≡ true → has_accesses_in smmu raw own ≡ true → first_ill raw ≡ None → IsLegalFor smmu raw
of_command smmu raw number own is named calm has accesses legal = record {
  words = legal;
  non_secure = ap (λ (v : Bool). v && nat_eq (field raw.lo 10 10) 1) (ap is_of_stall own_named ∙ calm);
  had = λ other found. subst (λ (o : Opcode). has_command smmu o ≡ true) (same other found) has;
  accesses = λ other found. subst (λ (o : Opcode). has_accesses_in smmu raw o ≡ true) (same other found) accesses;
}
  where
    own_named : opcode_named (opcode_of raw) ≡ Some own
    own_named = ap opcode_named is ∙ named

    same : (other : Opcode) → opcode_named (opcode_of raw) ≡ Some other → own ≡ other
    same other found = let both : Some own ≡ Some other = sym own_named ∙ found in cc

entry_opcode : (sid : ℕ) → opcode_of (encoding (CfgiSte sid true)) ≡ 0x03
unfolding encoding
entry_opcode sid = omega arith

descriptors_opcode : (sid : ℕ) → opcode_of (encoding (CfgiCdAll sid)) ≡ 0x06
unfolding encoding
descriptors_opcode sid = omega arith

pages_opcode : (sid : ℕ) → opcode_of (encoding (AtcInv sid false 0 false 52 0)) ≡ 0x40
unfolding encoding
pages_opcode sid = omega arith

pages_without_substream : (sid : ℕ) → field (encoding (AtcInv sid false 0 false 52 0)).lo 11 11 ≡ 0
unfolding encoding
pages_without_substream sid = omega arith

entry_named : opcode_named 0x03 ≡ Some opcodes.CfgiSte
unfolding opcode_named
entry_named = refl

descriptors_named : opcode_named 0x06 ≡ Some opcodes.CfgiCdAll
unfolding opcode_named
descriptors_named = refl

pages_named : opcode_named 0x40 ≡ Some opcodes.AtcInv
unfolding opcode_named
pages_named = refl

entry_is_legal_for : (smmu : Smmu) (sid : ℕ) → IsLegalFor smmu (encoding (CfgiSte sid true))
entry_is_legal_for smmu sid =
    of_command smmu (encoding (CfgiSte sid true)) 0x03 opcodes.CfgiSte (entry_opcode sid) entry_named refl refl refl (entry_is_legal sid)

descriptors_are_legal_for : (smmu : Smmu) (sid : ℕ) → smmu.stage_1 ≡ true → IsLegalFor smmu (encoding (CfgiCdAll sid))
descriptors_are_legal_for smmu sid stage_1 =
    of_command smmu (encoding (CfgiCdAll sid)) 0x06 opcodes.CfgiCdAll (descriptors_opcode sid) descriptors_named refl stage_1 refl (descriptors_are_legal sid)

-- without a substream there is nothing that the SMMU may lack
pages_accesses : (smmu : Smmu) (raw : Raw) → field raw.lo 11 11 ≡ 0 → has_accesses_in smmu raw opcodes.AtcInv ≡ true
pages_accesses smmu raw none = rw none refl

pages_are_legal_for : (smmu : Smmu) (sid : ℕ) → smmu.ats ≡ true → IsLegalFor smmu (encoding (AtcInv sid false 0 false 52 0))
pages_are_legal_for smmu sid ats =
    of_command smmu (encoding (AtcInv sid false 0 false 52 0)) 0x40 opcodes.AtcInv (pages_opcode sid) pages_named refl ats
    (pages_accesses smmu (encoding (AtcInv sid false 0 false 52 0)) (pages_without_substream sid)) (pages_are_legal sid)

pub configuration_is_legal_for : (stream : Stream) → All (IsLegalFor stream.smmu) (configuration_words stream)
configuration_is_legal_for stream = by_stage_1 stream.smmu.stage_1 refl
  where
    by_stage_1 : (b : Bool) → stream.smmu.stage_1 ≡ b → All (IsLegalFor stream.smmu) (map encoding (CfgiSte stream.sid true ∷ (if b then CfgiCdAll stream.sid ∷ [] else [])))
    by_stage_1 true is =
        All-cons (IsLegalFor stream.smmu) (encoding (CfgiSte stream.sid true)) (encoding (CfgiCdAll stream.sid) ∷ []) (entry_is_legal_for stream.smmu stream.sid)
        (All-cons (IsLegalFor stream.smmu) (encoding (CfgiCdAll stream.sid)) [] (descriptors_are_legal_for stream.smmu stream.sid is) (All-nil (IsLegalFor stream.smmu)))
    by_stage_1 false is =
        All-cons (IsLegalFor stream.smmu) (encoding (CfgiSte stream.sid true)) [] (entry_is_legal_for stream.smmu stream.sid) (All-nil (IsLegalFor stream.smmu))

pub endpoint_is_legal_for : (stream : Stream) → has_ats stream ≡ true → All (IsLegalFor stream.smmu) (endpoint_words stream)
endpoint_is_legal_for stream has =
    All-cons (IsLegalFor stream.smmu) (encoding (AtcInv stream.sid false 0 false 52 0)) []
    (pages_are_legal_for stream.smmu stream.sid (and_left stream.smmu.ats stream.ats has)) (All-nil (IsLegalFor stream.smmu))

-- Words that are legal for an SMMU are legal.
pub are_legal : (smmu : Smmu) (words : List Raw) → All (IsLegalFor smmu) words → AreLegal words
are_legal smmu [] all = tt
are_legal smmu (raw ∷ words) all = ((All-head (IsLegalFor smmu) raw words all).words, are_legal smmu words (All-tail (IsLegalFor smmu) raw words all))

legal_at : (words : List Raw) → AreLegal words → (place : ℕ) (raw : Raw) → slice_get words place ≡ Some raw → first_ill raw ≡ None
legal_at [] legal place raw at = none_some raw at
legal_at (word ∷ words) legal zero raw at = let same : word ≡ raw = cc in subst (λ (r : Raw). first_ill r ≡ None) same legal.0
legal_at (word ∷ words) legal (suc place) raw at = legal_at words legal.1 place raw at

-- Legal words that begin what was advanced behind others are applied.
pub applied_from : (ahead words : List Raw) (run : Run) → AreLegal words → (world run).taken ≡ map taken_as (advanced run) → Begins (ahead ++ words) (advanced run)
    → AreAppliedFrom (length ahead) words (world run).taken
applied_from ahead words run legal taken begins place raw at =
    ap (λ (l : List Taken). slice_get l (length ahead + place)) taken
    ∙ get_map taken_as (advanced run) (length ahead + place) raw
    (ap (λ (l : List Raw). slice_get l (length ahead + place)) begins.1
    ∙ get_longer (ahead ++ words) begins.0 (length ahead + place) raw (get_behind ahead words place ∙ at))
    ∙ ap (λ (ill : Option Ill). Some record { raw = raw; outcome = if is_none ill then Applied else Replaced }) (legal_at words legal place raw at)
