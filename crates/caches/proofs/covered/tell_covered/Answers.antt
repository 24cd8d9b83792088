use Rattle.std.proofs.Common.{◌≡◌, ◌∙◌, ◌+◌, rules, true, false, sym, ap, subst, arith, List, ◌∷◌, [], All, length}
use Rattle.std.proofs.lemmas.List.Elements.{All-head, All-tail}
use Rattle.std.specs.BTreeMap.{values}
use Rattle.caches.specs.declared.tag.Entry.{Entry}
use Rattle.caches.specs.Blocks.{IsBlock}
use Rattle.caches.specs.Covers.{covers}
use Rattle.caches.specs.Keys.{tag_of}
use Rattle.caches.specs.Told.{only_covered}
use Rattle.caches.specs.Unlisted.{is_listed, unlisted}
use Rattle.std.specs.FinMap as finite
use Rattle.std.specs.List.Sorted.{IsPermutation}
use Rattle.caches.proofs.Shuffled.{is_told, told_are_covered, told_if, not_covered, not_held, all_blocks}
use Rattle.caches.proofs.Telling.{IsTelling, telling_none, telling_more, telling_full, telling_not, told_all}
use Rattle.caches.proofs.Viewed.{tag_back}
use Rattle.caches.proofs.covered.tell_covered.Goals as goal
use Rattle.caches.proofs.covered.tell_covered.Goals.{then-count-room, else-count-room, else-covers-via-then-covers+else-not-is_among, else-covers-via-else-covers}

pub loop-held-init : goal.loop-held-init
loop-held-init c =
    let all : List Entry = values c.args.map.now in
    let p = is_told c.args.command.now c.args.removed.now in
    let begins : c.into_iter-held-iterator.result ≡ all = search rules in
    let whole : c.into_iter-held-iterator.result ≡ c.values-held-items.result = search rules in
    record {
      telling = subst (λ rest. IsTelling p all c.args.room.now rest c.args.room.now 0) (sym begins) (telling_none p all c.args.room.now);
      well_formed = subst (All (λ (e : Entry). IsBlock e.tag)) (sym begins) (all_blocks c.args.map.now c.values-held-items.ensures.ordered c.requires.keeping);
      few = let long = ap length whole in omega (arith, long, c.values-held-items.ensures.len);
    }

module _ (x : Entry) (rest all : List Entry) (is : all ≡ x ∷ rest) (blocks : All (λ (e : Entry). IsBlock e.tag) all) where
  here : All (λ (e : Entry). IsBlock e.tag) (x ∷ rest)
  here = subst (All (λ (e : Entry). IsBlock e.tag)) is blocks

  head : IsBlock x.tag
  head = All-head (λ (e : Entry). IsBlock e.tag) x rest here

  tail : All (λ (e : Entry). IsBlock e.tag) rest
  tail = All-tail (λ (e : Entry). IsBlock e.tag) x rest here

pub covers-requires : goal.covers-requires
covers-requires c = subst (λ (e : Entry). IsBlock e.tag) (sym c.get-entry.ensures) (head c.in-Some.held.now c.next.new.self c.loop-held.held-iterator c.in-Some.ensures.steps c.loop-held.invariant.well_formed)

pub loop-held-preserved-then-not-is_among : goal.loop-held-preserved-then-not-is_among
loop-held-preserved-then-not-is_among c =
    let all : List Entry = values c.args.map.now in
    let command = c.args.command.now in
    let ks = c.args.removed.now in
    let x = c.get-entry.result.now in
    let steps : c.loop-held.held-iterator ≡ x ∷ c.next.new.self = c.in-Some.ensures.steps ∙ ap (λ (e : Entry). e ∷ c.next.new.self) (sym c.get-entry.ensures) in
    let p = is_told command ks in
    let before : IsTelling p all c.args.room.now (x ∷ c.next.new.self) c.loop-held.room c.loop-held.count =
    subst (λ rest. IsTelling p all c.args.room.now rest c.loop-held.room c.loop-held.count) steps c.loop-held.invariant.telling in
    let covered : covers command x.tag ≡ true = sym c.covers.ensures ∙ c.if-covers.true in
    let unlisted : is_listed ks x.tag ≡ false = ap (is_listed ks) (sym (ap tag_of c.of.ensures.key ∙ tag_back x.tag)) ∙ sym c.is_among.ensures ∙ c.if-not-is_among.true in
    let passes = told_if command ks x covered unlisted in
    record {
      telling = elim c.if-count-room.branch [
        | then-count-room w ↦ subst (λ room. IsTelling p all c.args.room.now c.next.new.self room (c.loop-held.count + 1)) (sym w.room-is)
            (telling_more p all c.args.room.now x c.next.new.self c.loop-held.room c.loop-held.count before passes w.if-count-room.true)
        | else-count-room w ↦ subst (λ room. IsTelling p all c.args.room.now c.next.new.self room (c.loop-held.count + 1)) (sym w.room-is)
            (telling_full p all c.args.room.now x c.next.new.self c.loop-held.room c.loop-held.count before passes w.if-count-room.false)
      ];
      well_formed = tail x c.next.new.self c.loop-held.held-iterator steps c.loop-held.invariant.well_formed;
      few = let long = ap length steps in omega (arith, long, c.loop-held.invariant.few);
    }

pub loop-held-preserved : goal.loop-held-preserved
loop-held-preserved c =
    let all : List Entry = values c.args.map.now in
    let command = c.args.command.now in
    let ks = c.args.removed.now in
    let x = c.get-entry.result.now in
    let steps : c.loop-held.held-iterator ≡ x ∷ c.next.new.self = c.in-Some.ensures.steps ∙ ap (λ (e : Entry). e ∷ c.next.new.self) (sym c.get-entry.ensures) in
    let p = is_told command ks in
    let before : IsTelling p all c.args.room.now (x ∷ c.next.new.self) c.loop-held.room c.loop-held.count =
    subst (λ rest. IsTelling p all c.args.room.now rest c.loop-held.room c.loop-held.count) steps c.loop-held.invariant.telling in
    let fails : p x ≡ false = elim c.else-covers.branch [
      | else-covers-via-then-covers+else-not-is_among w ↦ not_held command ks x (sym c.covers.ensures ∙ w.if-covers.true)
          (ap (is_listed ks) (sym (ap tag_of w.of.ensures.key ∙ tag_back x.tag)) ∙ sym w.is_among.ensures ∙ w.if-not-is_among.false)
      | else-covers-via-else-covers w ↦ not_covered command ks x (sym c.covers.ensures ∙ w.if-covers.false)
    ] in
    record {
      telling = telling_not p all c.args.room.now x c.next.new.self c.loop-held.room c.loop-held.count before fails;
      well_formed = tail x c.next.new.self c.loop-held.held-iterator steps c.loop-held.invariant.well_formed;
      few = let long = ap length steps in omega (arith, long, c.loop-held.invariant.few);
    }

pub returns : goal.returns
returns c =
    let all : List Entry = values c.args.map.now in
    let command = c.args.command.now in
    let ks = c.args.removed.now in
    let p = is_told command ks in
    let after : IsTelling p all c.args.room.now [] c.loop-held.room c.loop-held.count =
    subst (λ rest. IsTelling p all c.args.room.now rest c.loop-held.room c.loop-held.count) c.in-None.ensures.steps.0 c.loop-held.invariant.telling in
    record {
      list = after.done;
      all = subst (IsPermutation (finite.values (only_covered command (unlisted c.args.map.now ks)))) (sym (told_all p all c.args.room.now c.loop-held.room c.loop-held.count after))
          (told_are_covered command c.args.map.now ks c.values-held-items.ensures.ordered c.requires.keeping);
      counted = after.counted;
      begun = after.begun;
    }
