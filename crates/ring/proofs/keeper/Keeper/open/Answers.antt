use Rattle.std.proofs.Common.{rules, ◌≡◌, [], replicate, refl}
use Rattle.ring.specs.Runs.{Ring}
use Rattle.ring.specs.table.{first_participants, IsWithinLimits}
use Rattle.ring.specs.NewRings.{made_with}
use Rattle.qindex.specs.Positions.{index_of}
use Rattle.ring.proofs.TableLemmas.Starts.{starts, zeros_after}
use Rattle.ring.proofs.KeeperLemmas.Seated.{starts_kept, starts_as, starts_idle}
use Rattle.ring.proofs.keeper.Keeper.open.Goals as goal

pub of_words-requires : goal.of_words-requires
of_words-requires g c =
    let key : Ring = made_with c.args.geometry c.args.senders c.args.max_batches in
    starts c.begin.ensures key c.words.result _ (search rules) (record { senders = c.requires.senders; batches = c.ranges.max_batches.fits }) c.requires.geometry refl c.words.ensures

pub invariant_of-result-2 : goal.invariant_of-result-2
invariant_of-result-2 g c =
    let key : Ring = made_with c.args.geometry c.args.senders c.args.max_batches in
    let limits : IsWithinLimits key = record { senders = c.requires.senders; batches = c.ranges.max_batches.fits } in
    let is : c.in_ok-table.seat.me ≡ (first_participants key, []) = search rules in
    starts_kept key c.requires.some (record { limits = limits; words = replicate c.words.result 0; after = zeros_after c.begin.ensures key c.words.result c.requires.geometry refl c.words.ensures; only = tt }) _ is

pub returns : goal.returns
returns g c =
    let key : Ring = made_with c.args.geometry c.args.senders c.args.max_batches in
    let is : c.in_ok-table.seat.me ≡ (first_participants key, []) = search rules in
    let ours : c.in_ok-table.seat.table_id ≡ c.in_ok-table.table.shared.table_id = search rules in
    let keeper_is = starts_as key c.in_ok-table.table.shared.table_id _ ours _ is in
    let head_is : c.unwrap.result ≡ index_of c.args.geometry 0 = search rules in
    record {
      made_is = refl;
      keeper_is = keeper_is;
      consumer_is = starts_idle (record { table = c.in_ok-table.table.shared.table_id; made_with = key }) _ keeper_is _ head_is;
      nothing_lent = search rules;
    }
