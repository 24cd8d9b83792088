use Rattle.std.proofs.Common.{◌<◌, ◌≤◌, sym, subst, arith}
use Rattle.std.proofs.lemmas.Option.{slice_get_read}
use Rattle.ringcore.specs.machine.Core.{CoreValue, core_of, AfterEachRun}
use Rattle.ringcore.specs.machine.SenderViews.{Knows}
use Rattle.ringcore.proofs.machine.Core.sender.Goals as goal

pub returns-then-sender-len : goal.returns-then-sender-len
returns-then-sender-len c =
    let core = core_of c.self.inside in
    let views = c.self.invariant.views in
    let far : core.words.senders ≤ c.args.sender = omega (arith, views, c.len.ensures, c.if-sender-len.true) in
    subst (λ (m : CoreValue). m.words.senders ≤ c.args.sender) c.self.view_is far

pub returns : goal.returns
returns c =
    let core = core_of c.self.inside in
    let s = c.args.sender in
    let views = c.self.invariant.views in
    let low : s < core.words.senders = omega (arith, views, c.len.ensures, c.if-sender-len.false) in
    subst (λ (m : CoreValue). (s < m.words.senders) × AfterEachRun m (λ run. Knows run s c.index.result.now)) c.self.view_is
    (low, λ run stands. stands.senders_know s c.index.result.now (slice_get_read core.senders core.words.senders s c.index.result.now (sym views) low c.index.ensures))
