use Rattle.std.proofs.Common.{◌≡◌, ◌++◌, [], ℕ, List, rules, refl, ap, sym, subst, ◌∙◌}
use Rattle.std.specs.Slots.{slots_items}
use Rattle.std.proofs.lemmas.List.{nil_from_length}
use mathlib.Core.Option.{some}
use lib.ListN.{get_elem?}
use Rattle.ring.specs.table.{Final, Seen, Holding, RuleHolds}
use Rattle.ring.specs.Runs.{Ring}
use Rattle.ring.specs.Finishing.{all_in}
use Rattle.ring.proofs.TableLemmas.StepKinds.{control_inside}
use Rattle.ring.proofs.TableLemmas.Steps.{gathers_at}
use Rattle.ring.proofs.FinishLemmas.Ends.{last_ring, is_control_word, end_is, is_there, that_there}
use Rattle.qindex.specs.ControlWord.{IsControlWord, control_in}
use Rattle.ring.proofs.ring.Ring.join.Goals as goal
use Rattle.ring.specs.Rings.{RingValue}
use Rattle.ring.specs.sender.{SenderValue}
use Rattle.ring.specs.consumer.{without_device}

pub join_seat-requires : goal.join_seat-requires
join_seat-requires c =
    let i = c.loop-sender.invariant in
    let its = last_ring _ _ _ _ i.gathered.0 _ c.requires.senders i.gathered.1 c.in-Some.ensures.items in (
      search rules,
      (let e : c.into_seat-other.result.table_id ≡ c.self.inside.table.shared.table_id = search (rules, its) in e),
      ap (λ (m : Holding). m.1) c.into_seat-other.ensures.1,
      control_inside _ _ _ 0 c.self.invariant.words refl,
      gathers_at _ _ _ _ _,
    )

-- the rule, by the ring that was handed in
ended : (c : goal.After-unpack) → Final (Seen (RuleHolds c.args.self.made_with) c.loop-sender.seat.id c.loop-sender.seat.me.0) (slots_items c.close_with-closed.result.words) (slots_items c.close_with-closed.result.slots)
ended c =
    let key_is : c.self.inside.table.shared.key ≡ c.args.self.made_with = c.self.invariant.key_is ∙ ap (λ (r : RingValue). r.made_with) c.self.view_is in
    subst (λ (r : Ring). Final (Seen (RuleHolds r) c.loop-sender.seat.id c.loop-sender.seat.me.0) (slots_items c.close_with-closed.result.words) (slots_items c.close_with-closed.result.slots)) key_is c.close_with-closed.ensures.values.2

all_joined : (c : goal.After-unpack) → c.loop-sender.seat.me.0 ≡ all_in c.args.self.made_with c.args.consumer.trail c.args.consumer.history c.args.senders.items
all_joined c =
    let i = c.loop-sender.invariant in
    let none : c.loop-sender.senders.items ≡ [] = nil_from_length c.loop-sender.senders.items (search rules) in
    let all : c.args.senders.items ≡ i.gathered.0 = i.gathered.1 ∙ ap (λ (l : List SenderValue). l ++ i.gathered.0) none in
    let ours : c.args.consumer.ring ≡ c.args.self = c.requires.consumer in
    ap (λ (m : Holding). m.0) i.gathered.2 ∙ (λ k. all_in (ours k).made_with c.args.consumer.trail c.args.consumer.history (sym all k))

same_geometry : (c : goal.After-unpack) → c.made_with.inside.geometry ≡ c.args.self.made_with.geometry
same_geometry c = ap (λ (r : Ring). r.geometry) (c.made_with.view_is ∙ ap (λ (r : RingValue). r.made_with) c.self.view_is)

pub unwrap-end-requires : goal.unwrap-end-requires
unwrap-end-requires c = is_there _ _ _ c.unpack.ensures.found
    (subst (λ (g : ℕ). IsControlWord g c.word-word.result) (sym (same_geometry c)) (is_control_word c.args.self c.args.senders.items (without_device c.args.consumer) _ _ _ _ (ended c) (all_joined c) c.requires.senders c.look.ensures.word _ (subst (λ (n : ℕ). get_elem? (slots_items c.close_with-closed.result.words) n ≡ some c.word-word.result) c.control_word.ensures c.word-word.ensures)))

pub returns : goal.returns
returns c =
    let d : goal.After-unpack = c.before.before.before.before in
    let found : c.unwrap-end.result ≡ control_in c.args.self.made_with.geometry c.word-word.result =
    that_there _ _ _ _ c.unpack.ensures.found c.unwrap-end.ensures ∙ ap (λ (g : ℕ). control_in g c.word-word.result) (same_geometry d) in
    end_is c.args.self c.args.senders.items (without_device c.args.consumer) _ _ _ _ (ended d) (all_joined d) c.requires.senders
    c.world_law.ensures.taken c.world_law.ensures.numbered c.world_law.ensures.closed c.world_law.ensures.told c.world_law.ensures.within c.world_law.ensures.told_of_all
    c.batches_law.ensures.senders_order c.batches_law.ensures.all c.batches_law.ensures.closed c.batches_law.ensures.owners
    c.consumer_trail.ensures.head c.consumer_trail.ensures.advanced c.consumer_trail.ensures.taken c.consumer_trail.ensures.count c.consumer_trail.ensures.drained
    c.control_words_say_their_control.ensures.said c.indexes_tell_the_queue.ensures.control c.indexes_tell_the_queue.ensures.queue c.contention_law.ensures.few c.contention_law.ensures.all
    _ _ _ c.unwrap-end.result (subst (λ (n : ℕ). get_elem? (slots_items d.close_with-closed.result.words) n ≡ some c.word-word.result) c.control_word.ensures c.word-word.ensures) found c.taken-taken.ensures.value (c.from.ensures ∙ c.distance.ensures.value)
