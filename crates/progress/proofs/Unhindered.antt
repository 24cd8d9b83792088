-- No step of another disables a step that is a participant's own business.
use Rattle.std.proofs.Common.{◌≡◌, ◌≢◌, ℕ, suc, ◌+◌, ◌<◌, Bool, true, cond, ◌∷◌, length, Some, refl, sym, ap, ◌∙◌, subst, ne_eqb}
use Rattle.std.specs.Prelude.{slice_get}
use Rattle.ringcore.specs.declared.world.event.Who.{Who}
use Rattle.ringcore.specs.declared.world.event.Who.TheVariants.{Consumer, Sender}
use Rattle.ringcore.specs.declared.world.event.Event.{Event}
use Rattle.ringcore.specs.declared.world.event.Event.TheVariants.{Look, Won, Lost, Write, Flip, Test, Read, Advance, Close, Acknowledge, Ask}
use Rattle.ringcore.specs.world.Trails.{Trail, trail_of}
use Rattle.ringcore.specs.world.World.{Item, World, items, tail, head, after, world}
use Rattle.ringcore.specs.world.Allowed.{Ring, MayFlip, Allowed}
use Rattle.ringcore.proofs.WorldLemmas.Lists.{off, get_longer}
use Rattle.ringcore.proofs.WorldLemmas.Newest.{others_leave}
use Rattle.progress.specs.Publishing.{is_independent, OthersDisableNothing}

-- What a step of another than the consumer leaves: what is taken and acknowledged, and what is reserved stays there.
record IsLater (w v : World) : Type 0 where
  pub there : (p : ℕ) (item : Item) → slice_get w.reserved p ≡ Some item → slice_get v.reserved p ≡ Some item
  pub taken : v.taken ≡ w.taken
  pub acknowledged : v.acknowledged ≡ w.acknowledged

later_by : (ring : Ring) (w : World) (mine : Trail) (s : ℕ) (x : Event) → Allowed ring w mine (Sender s) x → IsLater w (after w (Sender s) x)
later_by ring w mine s (Look found) a = record { there = λ p item at. at; taken = refl; acknowledged = refl }
later_by ring w mine s (Won body number) a = record { there = λ p item at. get_longer w.reserved (items s number body) p item at; taken = refl; acknowledged = refl }
later_by ring w mine s (Lost body closes found) a = record { there = λ p item at. at; taken = refl; acknowledged = refl }
later_by ring w mine s (Write offset half) a = record { there = λ p item at. at; taken = refl; acknowledged = refl }
later_by ring w mine s (Flip offset count) a = record { there = λ p item at. at; taken = refl; acknowledged = refl }
later_by ring w mine s (Test limit found) a = absurd a
later_by ring w mine s (Read offset half word) a = absurd a
later_by ring w mine s (Advance raws) a = absurd a
later_by ring w mine s Close a = record { there = λ p item at. at; taken = refl; acknowledged = refl }
later_by ring w mine s (Acknowledge sender number) a = absurd a
later_by ring w mine s (Ask found) a = record { there = λ p item at. at; taken = refl; acknowledged = refl }

-- where a sender's last reservation starts, only its own exchange changes
pub start_stays : (w : World) (s : ℕ) (other : Who) (x : Event) → Sender s ≢ other → (after w other x).start s ≡ w.start s
start_stays w s Consumer (Look found) apart = refl
start_stays w s Consumer (Won body number) apart = refl
start_stays w s Consumer (Lost body closes found) apart = refl
start_stays w s Consumer (Write offset half) apart = refl
start_stays w s Consumer (Flip offset count) apart = refl
start_stays w s Consumer (Test limit found) apart = refl
start_stays w s Consumer (Read offset half word) apart = refl
start_stays w s Consumer (Advance raws) apart = refl
start_stays w s Consumer Close apart = refl
start_stays w s Consumer (Acknowledge sender number) apart = refl
start_stays w s Consumer (Ask found) apart = refl
start_stays w s (Sender t) (Look found) apart = refl
start_stays w s (Sender t) (Won body number) apart = ap (λ (v : Bool). cond v (tail w) (w.start s)) (ne_eqb s t (λ e. apart (ap Sender e)))
start_stays w s (Sender t) (Lost body closes found) apart = refl
start_stays w s (Sender t) (Write offset half) apart = refl
start_stays w s (Sender t) (Flip offset count) apart = refl
start_stays w s (Sender t) (Test limit found) apart = refl
start_stays w s (Sender t) (Read offset half word) apart = refl
start_stays w s (Sender t) (Advance raws) apart = refl
start_stays w s (Sender t) Close apart = refl
start_stays w s (Sender t) (Acknowledge sender number) apart = refl
start_stays w s (Sender t) (Ask found) apart = refl

sender_stays : (ring : Ring) (w v : World) (mine : Trail) (s : ℕ) (e : Event) → is_independent e ≡ true → v.start s ≡ w.start s
    → Allowed ring w mine (Sender s) e → Allowed ring v mine (Sender s) e
sender_stays ring w v mine s (Look found) own start a = off own
sender_stays ring w v mine s (Won body number) own start a = off own
sender_stays ring w v mine s (Lost body closes found) own start a = off own
sender_stays ring w v mine s (Write offset half) own start a = a
sender_stays ring w v mine s (Flip offset count) own start a = subst (λ (n : ℕ). MayFlip ring mine n offset count) (sym start) a
sender_stays ring w v mine s (Test limit found) own start a = absurd a
sender_stays ring w v mine s (Read offset half word) own start a = absurd a
sender_stays ring w v mine s (Advance raws) own start a = absurd a
sender_stays ring w v mine s Close own start a = tt
sender_stays ring w v mine s (Acknowledge sender number) own start a = absurd a
sender_stays ring w v mine s (Ask found) own start a = off own

consumer_stays : (ring : Ring) (w v : World) (mine : Trail) (e : Event) → is_independent e ≡ true → IsLater w v → Allowed ring w mine Consumer e → Allowed ring v mine Consumer e
consumer_stays ring w v mine (Look found) own l a = off own
consumer_stays ring w v mine (Won body number) own l a = absurd a
consumer_stays ring w v mine (Lost body closes found) own l a = absurd a
consumer_stays ring w v mine (Write offset half) own l a = absurd a
consumer_stays ring w v mine (Flip offset count) own l a = absurd a
consumer_stays ring w v mine (Test limit found) own l a = off own
consumer_stays ring w v mine (Read offset half word) own l a = record {
  ready = a.ready;
  item = a.item;
  there = ap (λ n. slice_get v.reserved (n + offset)) (ap length l.taken) ∙ l.there (head w + offset) a.item a.there;
  found = a.found;
}
consumer_stays ring w v mine (Advance raws) own l a = a
consumer_stays ring w v mine Close own l a = absurd a
consumer_stays ring w v mine (Acknowledge sender number) own l a =
    let was = a.taken in record {
      next = a.next ∙ ap (λ (f : ℕ → ℕ). suc (f sender)) (sym l.acknowledged);
      taken = record {
        position = was.position;
        place = was.place;
        below = subst (λ n. was.position < n) (sym (ap length l.taken)) was.below;
        there = l.there was.position _ was.there;
      };
    }
consumer_stays ring w v mine (Ask found) own l a = absurd a

pub others_disable_nothing : OthersDisableNothing
others_disable_nothing ring run who other e x ok apart own a b =
    subst (λ (t : Trail). Allowed ring (world ((other, x) ∷ run)) t who e) (sym (others_leave who other x run apart)) (by_seat who other apart a b)
  where
    by_seat : (u v : Who) → u ≢ v → Allowed ring (world run) (trail_of u run) u e → Allowed ring (world run) (trail_of v run) v x → Allowed ring (world ((v, x) ∷ run)) (trail_of u run) u e
    by_seat Consumer Consumer differ mine theirs = absurd (differ refl)
    by_seat Consumer (Sender t) differ mine theirs =
        consumer_stays ring (world run) (world ((Sender t, x) ∷ run)) (trail_of Consumer run) e own (later_by ring (world run) (trail_of (Sender t) run) t x theirs) mine
    by_seat (Sender s) v differ mine theirs =
        sender_stays ring (world run) (world ((v, x) ∷ run)) (trail_of (Sender s) run) s e own (start_stays (world run) s v x differ) mine
