-- What is left of the others stays that while a keeper lends a seat and takes it back.
use Rattle.std.proofs.Common.{◌≡◌, ℕ, sym, subst}
use Rattle.ringcore.specs.declared.world.event.Who.TheVariants.{Consumer, Sender}
use Rattle.ring.specs.Keepers.{KeeperValue, has_lent, KeepsOthers, IsIdleSender, IsIdleReservation, IsIdleConsumer}
use Rattle.ring_tests.specs.Staying.{SendersStay, ReservationsStay, ConsumerStays}

pub senders_stay : (old lent new : KeeperValue) → lent ≡ has_lent Consumer old → KeepsOthers Consumer lent new → SendersStay old new
senders_stay old lent new lent_is kept tally is =
    kept.senders tally (λ e. cc) (subst (λ (k : KeeperValue). IsIdleSender k tally) (sym lent_is) is)

pub reservations_stay : (old lent new : KeeperValue) → lent ≡ has_lent Consumer old → KeepsOthers Consumer lent new → ReservationsStay old new
reservations_stay old lent new lent_is kept body left is =
    kept.reservations body left (λ e. cc) (subst (λ (k : KeeperValue). IsIdleReservation k body left) (sym lent_is) is)

pub consumer_stays : (lends takes : ℕ) (old lent new : KeeperValue) → lent ≡ has_lent (Sender lends) old → KeepsOthers (Sender takes) lent new → ConsumerStays old new
consumer_stays lends takes old lent new lent_is kept head taken is =
    kept.consumer head taken (λ e. cc) (subst (λ (k : KeeperValue). IsIdleConsumer k head taken) (sym lent_is) is)
