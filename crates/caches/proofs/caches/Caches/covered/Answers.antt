use Rattle.std.proofs.Common.{◌≡◌, ℕ, List, ◌∙◌, ◌+◌, sym, ap, subst, arith, length, take, All}
use Rattle.std.proofs.lemmas.List.Elements.{All-take}
use Rattle.std.specs.FinMap as finite
use Rattle.cmdcodec.specs.declared.command.Command.{Command}
use Rattle.caches.specs.declared.tag.Entry.{Entry}
use Rattle.caches.specs.Held.{Entries, without_covered}
use Rattle.caches.specs.Stored.{Stored}
use Rattle.caches.specs.Told.{AreTold, IsCoveredIn, only_covered}
use Rattle.caches.proofs.Shuffled.{all_covered, len_told}
use Rattle.caches.proofs.Telling.{take-begun}
use Rattle.caches.proofs.caches.Caches.covered.Goals as goal

pub returns-clause-own : goal.returns-clause-own
returns-clause-own c =
    let told = c.covered.ensures in
    let command = c.args.command.now in
    let old = c.args.entries.now in
    let begins : take c.covered.result c.covered.new.room ≡ take (length old) told.list = ap (λ n. take n c.covered.new.room) told.counted ∙ ap (take (length told.list)) told.begun ∙ take-begun told.list old in
    let all : All (IsCoveredIn c.self.inside.held command) (take (length old) told.list) = All-take (IsCoveredIn c.self.inside.held command) (length old) told.list (all_covered command c.self.inside.held told.list c.are_own.ensures told.all) in
    subst (λ (s : Stored). All (IsCoveredIn s.entries command) (take c.covered.result c.covered.new.room)) c.self.view_is (subst (All (IsCoveredIn c.self.inside.held command)) (sym begins) all)

module _ (command : Command) (m : Entries) (old new : List Entry) (count : ℕ) (told : AreTold (only_covered command m) old new count) where
  all_counted : count + finite.len (without_covered command m) ≡ finite.len m
  all_counted = ap (λ n. n + finite.len (without_covered command m)) told.counted ∙ len_told command m told.list told.all

pub returns-clause-counted : goal.returns-clause-counted
returns-clause-counted c = subst (λ (s : Stored). c.covered.result + finite.len (without_covered c.args.command.now s.entries) ≡ finite.len s.entries) c.self.view_is
    (all_counted c.args.command.now c.self.inside.held c.args.entries.now c.covered.new.room c.covered.result c.covered.ensures)

pub returns-clause-few : goal.returns-clause-few
returns-clause-few c =
    let all = all_counted c.args.command.now c.self.inside.held c.args.entries.now c.covered.new.room c.covered.result c.covered.ensures in
    let room = c.self.invariant.room in
    let limit = c.self.invariant.limit in
    omega (arith, all, room, limit)
