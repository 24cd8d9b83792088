use Rattle.std.proofs.Common.{◌≡◌, Bool, true, false, refl, sym, subst}
use Rattle.std.specs.Prelude.{if◌then◌else◌}
use Rattle.range_hints.specs.declared.ttl.Ttl.{Ttl}
use Rattle.range_hints.specs.declared.ttl.Ttl.TheVariants.{AnyLevel}
use Rattle.range_hints.specs.Hints.{has_ttl, SpellsWithHint}
use Rattle.smmuq_c.specs.declared.fields.Fields.{Fields}
use Rattle.smmuq_c.specs.Commands.{SaysHintBy}
use Rattle.smmuq_c.proofs.codec.encode_fields.Goals as goal
use Rattle.smmuq_c.proofs.codec.encode_fields.Goals.{After-encode_with_hint}

-- What the fields say is kept.
kept : (has : Bool) (f : Fields) (ttl : Ttl) → SaysHintBy has f ttl → (if has then ttl else AnyLevel) ≡ ttl
kept true f ttl says = refl
kept false f ttl says = sym says

spelled : (c : After-encode_with_hint) → SpellsWithHint c.encode_with_hint.result c.in-Some.command c.in-Some-hint_of.ttl
spelled c =
    subst (SpellsWithHint c.encode_with_hint.result c.in-Some.command)
    (kept (has_ttl c.in-Some.command) c.args.fields.now c.in-Some-hint_of.ttl c.in-Some-hint_of.ensures) c.encode_with_hint.ensures.spells

pub returns-clause-answered : goal.returns-clause-answered
returns-clause-answered c = record {
  command = c.in-Some.command;
  ttl = c.in-Some-hint_of.ttl;
  says = c.in-Some.ensures;
  hints = c.in-Some-hint_of.ensures;
  spelled = spelled c;
  decoded = c.legal_words_spell_one_command.ensures.decoded _ _ (spelled c).spelled;
  reserved = c.encode_with_hint.ensures.reserved;
}
