use Rattle.std.proofs.Common.{◌≡◌, Result, Ok, Err, Option, false, ap, subst, sym, ◌∙◌, arith}
use Rattle.std.specs.Result.{OnOk, is_err}
use Rattle.caches.specs.declared.tag.Tag.{Tag}
use Rattle.caches.specs.declared.tag.Entry.{Entry}
use Rattle.caches.specs.declared.fault.CacheFault.{CacheFault}
use Rattle.engine.specs.Units.{UnitValue, filled, with_entries}
use Rattle.engine.specs.Engines.{EngineValue}
use Rattle.stress.specs.FirstEntries.{tag_of, IsFilled}
use Rattle.stress.proofs.Filled.{none_filled, one_more_filled}
use Rattle.stress.proofs.first_entries.filled_engine.Goals as goal

pub loop-sender-init : goal.loop-sender-init
loop-sender-init c = (
  none_filled c.new-engine.result.unit
      (ap (λ (e : EngineValue). e.unit.caches.entries) c.new-engine.ensures ∙ c.in-Ok.ensures.ok.1) (ap (λ (e : EngineValue). e.unit.counts) c.new-engine.ensures),
  ap (λ (e : EngineValue). e.consumer) c.new-engine.ensures,
)

where_ok : {P : Type 0} (r : Result (Option Entry) CacheFault) → is_err r ≡ false → OnOk r P → P
where_ok (Ok was) ok p = p
where_ok (Err fault) ok p = absurd (cc)

pub loop-sender-preserved : goal.loop-sender-preserved
loop-sender-preserved c =
    let number = c.loop-sender.sender in
    let unit : UnitValue = c.loop-sender.engine.unit in
    let was_ok : is_err c.fill.result ≡ false = sym c.if-is_err.ensures.value in
    let new_is = where_ok c.fill.result was_ok c.fill.ensures.ok in
    let value = c.from.result in
    let unit_is : c.fill.new.self.unit ≡ with_entries unit (filled (tag_of number) value unit) =
    ap (λ (e : EngineValue). e.unit) new_is ∙ ap (λ (t : Tag). with_entries unit (filled t value unit)) c.first_tag.ensures in
    (one_more_filled number value c.from.ensures unit c.loop-sender.invariant.0 c.fill.new.self.unit unit_is, c.fill.ensures.consumer ∙ c.loop-sender.invariant.1)

pub returns-clause-filled : goal.returns-clause-filled
returns-clause-filled c =
    let all : c.loop-sender.sender ≡ c.args.senders = omega (arith, c.loop-sender-test.false, c.loop-sender.auto.sender-end) in
    subst (λ n. IsFilled n c.loop-sender.engine.unit) all c.loop-sender.invariant.0
