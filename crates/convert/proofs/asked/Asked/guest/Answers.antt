use Rattle.std.proofs.Common.{sym, ap, ◌∙◌, arith, ◌+◌, drop, inl, inr}
use Rattle.std.proofs.lemmas.List.{length-map}
use Rattle.convert.specs.Guests.{guest_asked, streams_of, with_streams}
use Rattle.convert.proofs.GuestLemmas.{all_attached, failed, one_more, unattached, unmade}
use Rattle.convert.proofs.asked.Asked.guest.Goals as goal

pub returns-in_err-guest : goal.returns-in_err-guest
returns-in_err-guest c =
    let streams = streams_of c.args.self.now in
    unmade (guest_asked c.args.self.now) c.from_residual.result c.in_err-guest.field-0.0 c.from_residual.ensures.1
    (ap (λ made. with_streams made streams) (sym c.without_streams.ensures ∙ c.in_err-guest.was) ∙ failed _ streams)

pub returns : goal.returns
returns c =
    let texts = c.args.self.now.streams.now in
    all_attached (guest_asked c.args.self.now) c.loop-text.guest (streams_of c.args.self.now) c.loop-text.text-index (omega (arith, length-map texts (λ text. text.now), c.loop-text-test.false)) c.loop-text.invariant

pub loop-text-preserved : goal.loop-text-preserved
loop-text-preserved c =
    let left = drop (c.loop-text.text-index + 1) (streams_of c.args.self.now) in
    sym (ap (λ made. with_streams made left) c.in_ok-attach.ensures.ok)
    ∙ sym (one_more (λ text. text.now) c.args.self.now.streams.now c.loop-text.text-index _ c.loop-text.guest c.loop-text-test.true) ∙ c.loop-text.invariant

pub returns-in_err-attach : goal.returns-in_err-attach
returns-in_err-attach c =
    let left = drop (c.loop-text.text-index + 1) (streams_of c.args.self.now) in
    unattached (guest_asked c.args.self.now) c.from_residual-in_err-attach.result c.in_err-attach.field-0.0 c.from_residual-in_err-attach.ensures.1
    (elim c.in_err-attach.ensures.err [
      | inl fault ↦ inl (sym c.loop-text.invariant ∙ one_more (λ text. text.now) c.args.self.now.streams.now c.loop-text.text-index _ c.loop-text.guest c.loop-text-test.true
          ∙ ap (λ made. with_streams made left) fault ∙ failed _ left)
      | inr memory ↦ inr memory
    ])
