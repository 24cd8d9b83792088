use Rattle.std.proofs.Common.{◌≡◌, ℕ, suc, ◌+◌, ◌-◌, [], arith, rules, refl, ap, ◌∙◌}
use Rattle.ring.specs.table.{Holding, participants_from, TableId}
use Rattle.ring.specs.Runs.{Sender, Ring}
use Rattle.ring.proofs.TableLemmas.StepKinds.{control_inside}
use Rattle.ring.proofs.TableLemmas.Starts.{deals_as, fresh, first_of, rest_of, new_state, new_is_sender, pushed}
use Rattle.ring.proofs.ring.deal.Goals as goal
use Rattle.ring.specs.sender.{SenderValue}
use Rattle.ring.specs.NewRings.{new_sender}

pub split_seat-one-requires : goal.split_seat-one-requires
split_seat-one-requires c =
    let i = c.loop-number.invariant in let less : ℕ = c.args.senders - (c.loop-number.number + 1) in let key : Ring = c.args.words.now.key in
    let e : c.args.senders - c.loop-number.number ≡ suc less = omega arith in
    (i.table, control_inside _ _ _ 0 c.requires.words refl, deals_as _ _ key c.loop-number.number less _ (ap (λ (m : Holding). m.0) i.seat ∙ ap (participants_from key c.loop-number.number) e))

pub invariant_of-push_reserved : goal.invariant_of-push_reserved
invariant_of-push_reserved c =
    let i = c.loop-number.invariant in let less : ℕ = c.args.senders - (c.loop-number.number + 1) in let key : Ring = c.args.words.now.key in
    let e : c.args.senders - c.loop-number.number ≡ suc less = omega arith in
    let at = i.seat ∙ ap (λ (k : ℕ). let m : Holding = (participants_from key c.loop-number.number k, []) in m) e in
    fresh c.begin.ensures key (Sender c.loop-number.number) _ c.requires.limits c.requires.geometry c.requires.flags (omega (arith, c.requires.senders)) (first_of key c.loop-number.number less _ _ at c.split_seat-one.ensures.4)

pub invariant_of-push_reserved-in-loop-number : goal.invariant_of-push_reserved-in-loop-number
invariant_of-push_reserved-in-loop-number c =
    let i = c.loop-number.invariant in let less : ℕ = c.args.senders - (c.loop-number.number + 1) in let key : Ring = c.args.words.now.key in
    let e : c.args.senders - c.loop-number.number ≡ suc less = omega arith in
    let at = i.seat ∙ ap (λ (k : ℕ). let m : Holding = (participants_from key c.loop-number.number k, []) in m) e in
    new_is_sender _ _ c.loop-number.number (new_state c.split_seat-one.result.table_id key (Sender c.loop-number.number) _ (first_of key c.loop-number.number less _ _ at c.split_seat-one.ensures.4)) _ c.new.ensures

pub loop-number-preserved : goal.loop-number-preserved
loop-number-preserved c =
    let i = c.loop-number.invariant in let less : ℕ = c.args.senders - (c.loop-number.number + 1) in let key : Ring = c.args.words.now.key in
    let e : c.args.senders - c.loop-number.number ≡ suc less = omega arith in
    let at = i.seat ∙ ap (λ (k : ℕ). let m : Holding = (participants_from key c.loop-number.number k, []) in m) e in
    let one = new_state c.split_seat-one.result.table_id key (Sender c.loop-number.number) _ (first_of key c.loop-number.number less _ _ at c.split_seat-one.ensures.4) in
    let ours : c.split_seat-one.result.table_id ≡ c.args.words.now.table_id = c.split_seat-one.ensures.3 ∙ i.table in
    record {
      table = search rules;
      seat = rest_of key c.loop-number.number less _ _ at c.split_seat-one.ensures.2;
      len = search rules;
      room = search rules;
      items = c.push_reserved.ensures.items ∙ pushed (record { table = c.args.words.now.table_id; made_with = key }) c.loop-number.number _ _ i.items
          ((λ i. let s : SenderValue = record { ring = (one i).ring; number = (c.new.ensures i).sender; trail = (one i).trail; history = (one i).history } in s) ∙ ap (λ (t : TableId). new_sender (record { table = t; made_with = key }) c.loop-number.number) ours);
    }
