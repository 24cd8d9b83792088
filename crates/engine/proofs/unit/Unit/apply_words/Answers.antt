use Rattle.std.proofs.Common.{◌≡◌, ◌≤◌, ◌∙◌, ℕ, false, Option, Some, None, refl, ap, sym, subst, arith}
use Rattle.std.specs.Option.{is_some}
use Rattle.cmdcodec.specs.declared.ill.Ill.{Ill}
use Rattle.std.specs.FinMap as finite
use Rattle.cmdcodec.specs.Legality.{first_ill}
use Rattle.caches.specs.declared.tag.Tag.{Tag}
use Rattle.caches.specs.declared.tag.Entry.{Entry}
use Rattle.caches.specs.Covers.{covers}
use Rattle.caches.specs.Held.{Entries, without_covered}
use Rattle.engine.specs.Stops.{IsStopped, MayComeNext, gone_on}
use Rattle.engine.specs.Counting.{counted_applied}
use Rattle.engine.specs.Units.{UnitValue}
use Rattle.engine.proofs.Judging.{goes_on}
use Rattle.engine.proofs.Running.{applied_to_none, none_covered}
use Rattle.engine.proofs.Syncs.{covers_none}
use Rattle.engine.proofs.unit.Unit.apply_words.Goals as goal
use Rattle.engine.proofs.unit.Unit.apply_words.Goals.{else-len-gt0-via-then-len-gt0+else-not-is_sync, else-len-gt0-via-else-len-gt0}

no_ill : (found : Option Ill) → is_some found ≡ false → found ≡ None
no_ill None is = refl
no_ill (Some ill) is = absurd (cc)

none_held : (n m : ℕ) → n ≡ m → n ≤ 0 → m ≡ 0
none_held n m same none = omega (arith, same, none)

pub returns-clause-applied : goal.returns-clause-applied
returns-clause-applied c =
    let legal : first_ill c.args.raw ≡ None = sym c.first_ill.ensures ∙ no_ill c.first_ill.result (sym c.is_some.ensures ∙ c.if-is_some.false) in
    let spelled = c.legal_words_spell_one_command.ensures.one c.args.raw legal in
    let before : UnitValue = c.args.self.now in
    let entries : Entries = c.self.inside.caches.entries in
    let uncovered : (tag : Tag) (entry : Entry) → finite.get entries tag ≡ Some entry → covers spelled.0 tag ≡ false =
    elim c.else-len-gt0.branch [
      | else-len-gt0-via-then-len-gt0+else-not-is_sync w ↦ λ tag entry held. covers_none c.args.raw spelled.0 spelled.1 (sym w.is_sync.ensures ∙ w.if-not-is_sync.false) tag
      | else-len-gt0-via-else-len-gt0 w ↦ none_covered spelled.0 entries (none_held _ _ c.len.ensures.len w.if-len-gt0.false)
    ] in
    let stay : without_covered spelled.0 entries ≡ entries = c.uncovered_entries_stay.ensures spelled.0 entries uncovered in
    let going : ¬ IsStopped c.self.inside.stop.mode = subst (λ (u : UnitValue). ¬ IsStopped u.stop.mode) (sym c.self.view_is) c.requires.running in
    let comes : MayComeNext c.args.raw c.self.inside.stop = subst (λ (u : UnitValue). MayComeNext c.args.raw u.stop) (sym c.self.view_is) c.requires.next in
    let running = goes_on c.self.inside.stop.mode c.self.inside.stop.next c.args.raw going comes c.is_replacing.ensures.kept legal in (
      spelled.0,
      applied_to_none c.args.raw spelled.0 before _ (record { legal = legal; spelled = spelled.1; alone = spelled.2 })
          (ap (λ (u : UnitValue). u.stop.mode) (sym c.self.view_is) ∙ running)
          (subst (λ (u : UnitValue). without_covered spelled.0 u.caches.entries ≡ u.caches.entries) c.self.view_is stay)
          (ap (λ (u : UnitValue). u.caches) c.self.view_is)
          (c.go_on.ensures ∙ ap (λ (u : UnitValue). gone_on u.stop) c.self.view_is)
          (c.count_applied.ensures ∙ ap (λ (u : UnitValue). counted_applied c.args.raw 0 u.counts) c.self.view_is),
    )
