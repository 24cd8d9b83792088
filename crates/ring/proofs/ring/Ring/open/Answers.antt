use Rattle.std.proofs.Common.{rules, ◌≡◌, [], ◌∷◌, refl, ap, ◌∙◌}
use Rattle.ring.specs.Runs.{Consumer, Ring}
use Rattle.ring.specs.table.{Holding, participant, participants_from}
use Rattle.ring.proofs.TableLemmas.Starts.{starts, fresh}
use Rattle.ring.proofs.ring.Ring.open.Goals as goal
use Rattle.ring.specs.NewRings.{made_with}

pub of_words-requires : goal.of_words-requires
of_words-requires g c =
    let key : Ring = made_with c.args.geometry c.args.senders c.args.max_batches in
    starts c.begin.ensures key c.words.result _ (search rules) (record { senders = c.requires.senders; batches = c.ranges.max_batches.fits }) c.requires.geometry refl c.words.ensures

pub invariant_of-consumer : goal.invariant_of-consumer
invariant_of-consumer g c =
    let key : Ring = made_with c.args.geometry c.args.senders c.args.max_batches in
    let key_is : c.in_ok-table.table.shared.key ≡ key = search rules in
    let is : c.in_ok-all.seat.me ≡ (participants_from c.in_ok-table.table.shared.key c.args.senders 0, []) = search rules in
    fresh c.begin.ensures key Consumer _ (record { senders = c.requires.senders; batches = c.ranges.max_batches.fits }) c.requires.geometry refl tt
    (is ∙ ap (λ (r : Ring). let m : Holding = (participant r Consumer [] [] ∷ [], []) in m) key_is)
