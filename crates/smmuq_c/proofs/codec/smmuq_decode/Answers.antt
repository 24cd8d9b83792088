use Rattle.std.proofs.Common.{◌≡◌, Result, Ok, Err, refl, sym, ap, subst, ◌∙◌}
use Rattle.cmdcodec.specs.declared.command.Command.{Command}
use Rattle.cmdcodec.specs.declared.ill.Ill.{Ill}
use Rattle.cmdcodec.specs.Words.{decoding}
use Rattle.smmuq_c.specs.Statuses.{number_of}
use Rattle.smmuq_c.specs.Commands.{decode_status, HasDecoded}
use Rattle.smmuq_c.proofs.codec.smmuq_decode.Goals as goal
use Rattle.smmuq_c.proofs.codec.smmuq_decode.Goals.{In-Ok, In-Err}

is_decoded : (c : In-Ok) → decoding (record { lo = c.args.lo; hi = c.args.hi }) ≡ Ok c.in-Ok.command
is_decoded c = c.legal_words_spell_one_command.ensures.decoded _ _ c.in-Ok.ensures.found.spelled

is_ill : (c : In-Err) → decoding (record { lo = c.args.lo; hi = c.args.hi }) ≡ Err c.in-Err.ill
is_ill c = c.legal_words_spell_one_command.ensures.faults _ _ c.in-Err.ensures.first

pub returns-in-Ok-clause-status : goal.returns-in-Ok-clause-status
returns-in-Ok-clause-status c = c.number.ensures ∙ sym (ap (λ (r : Result Command Ill). number_of (decode_status r)) (is_decoded c.before.before))

pub returns-in-Ok-clause-fields : goal.returns-in-Ok-clause-fields
returns-in-Ok-clause-fields c = subst (λ (r : Result Command Ill). HasDecoded r c.args.fields.now c.with_hint.result) (sym (is_decoded c.before.before)) (record { says = c.with_hint.ensures.command; exactly = c.with_hint.ensures.exactly })

pub returns-in-Err-clause-status : goal.returns-in-Err-clause-status
returns-in-Err-clause-status c = c.number-in-Err.ensures ∙ sym (ap (λ (r : Result Command Ill). number_of (decode_status r)) (is_ill c.before))

pub returns-in-Err-clause-fields : goal.returns-in-Err-clause-fields
returns-in-Err-clause-fields c = subst (λ (r : Result Command Ill). HasDecoded r c.args.fields.now c.args.fields.now) (sym (is_ill c.before)) refl
