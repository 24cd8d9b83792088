use Rattle.std.proofs.Common.{rules, sym}
use Rattle.ring.proofs.TableLemmas.PortSteps.{tested, may_change, words_are}
use Rattle.ring.proofs.TableLemmas.StepKinds.{tests_may, flag_inside}
use Rattle.ring.proofs.table.port.Port.test.Goals as goal

pub load-word-requires : goal.load-word-requires
load-word-requires g c =
    let at = c.flag_word.ensures.position _ _ c.requires.head in (
      search rules,
      flag_inside _ _ _ _ _ (words_are _ _ c.ring.invariant.words _ _ c.requires.ring _ (sym c.ring.view_is)) at,
      may_change _ _ _ c.self.view_is c.self.invariant _ _ _ _ _ c.requires.intent _ c.requires.who _ 0 0 (λ x. x) (tests_may c.ready_runs.ensures.test c.consumer_trail.ensures.head _ _ c.args.limit _ (c.requires.some, c.requires.most) at),
    )

pub returns-clause-trail : goal.returns-clause-trail
returns-clause-trail g c =
    tested c.self.inside.seat.table_id _ c.self.inside.seat.me c.load-word.new.seat.me _ c.self.view_is _ c.ring.inside.table.shared.table_id.slots c.flag_word.result c.args.limit c.load-word.result _
    c.load-word.ensures.0 c.requires.intent c.load-word.ensures.2 (c.ready_run.ensures.found _ _ c.requires.head)
