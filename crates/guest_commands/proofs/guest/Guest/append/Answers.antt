use Rattle.std.proofs.Common.{List, length, sym, subst}
use Rattle.std.proofs.lemmas.Bool.{eqb-true}
use Rattle.smmu_features.specs.declared.smmu.Smmu.{Smmu}
use Rattle.guest_commands.specs.declared.streams.Attachment.{Attachment}
use Rattle.guest_commands.specs.Appending.{AreTried}
use Rattle.guest_commands.proofs.AppendLemmas.{few_more}
use Rattle.guest_commands.proofs.AppendedLemmas.{tlb_appended, tlb_unfit, streams_tried}
use Rattle.guest_commands.proofs.guest.Guest.append.Goals as goal

pub returns-then-is_full : goal.returns-then-is_full
returns-then-is_full c =
    tlb_unfit c.args.self.now c.args.command.now c.args.ttl (c.in-Some.host, c.in-Some.ttl) c.args.body.now.items c.streams-streams.ensures.mapping (sym c.in-Some.ensures)
    (eqb-true (length c.args.body.now.items) 63 (sym c.if-is_full.ensures.value))

pub returns-in-None : goal.returns-in-None
returns-in-None c =
    let m = c.args.self.now in
    let command = c.args.command.now in
    let old = c.args.body.now.items in
    let new = c.append_of_streams.new.body.items in
    let result = c.append_of_streams.result in
    let tried =
    subst (λ (smmu : Smmu). AreTried smmu command m.streams old new result) c.smmu.ensures
    (subst (λ (streams : List Attachment). AreTried c.smmu.result.now command streams old new result)
    c.streams-streams.ensures.value c.append_of_streams.ensures) in
    streams_tried c.legal_words_spell_one_command.ensures.legal c.served_words_are_legal.ensures m command c.args.ttl old new result c.streams-streams.ensures.mapping (sym c.in-None.ensures) tried

pub returns-else-is_full : goal.returns-else-is_full
returns-else-is_full c =
    let old = c.args.body.now.items in
    let new = c.push.new.self.items in
    tlb_appended c.legal_words_spell_one_command.ensures.legal c.served_words_are_legal.ensures c.args.self.now c.args.command.now c.args.ttl (c.in-Some.host, c.in-Some.ttl)
    c.encode_with_hint.result old new c.streams-streams.ensures.mapping (sym c.in-Some.ensures) c.encode_with_hint.ensures.words c.encode_with_hint.ensures.spells c.push.ensures.items
    (few_more old new c.encode_with_hint.result c.push.ensures.items (sym c.if-is_full.ensures.value) c.is_full.ensures.fits)
