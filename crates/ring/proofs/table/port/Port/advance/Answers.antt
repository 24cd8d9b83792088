use Rattle.std.proofs.Common.{rules, ◌≡◌, ◌+◌, ℕ, take, length, sym, ap, ◌∙◌, length-take-le}
use Rattle.std.specs.Prelude.{bit_xor}
use Rattle.qindex.specs.Positions.{index_of}
use Rattle.qindex.specs.ControlWord.{advance_mask}
use Rattle.ring.specs.Runs.{taken_by}
use Rattle.ring.proofs.TableLemmas.StepKinds.{advances_may, control_inside}
use Rattle.ring.proofs.TableLemmas.PortSteps.{may_change}
use Rattle.ring.proofs.table.port.Port.advance.Goals as goal

pub fetch_xor-requires : goal.fetch_xor-requires
fetch_xor-requires g c =
    let many : length (take c.args.count c.args.commands.now) ≡ c.args.count = length-take-le c.args.count c.args.commands.now c.requires.count in
    let geometry : ℕ = c.args.self.now.ring.made_with.geometry in let h : ℕ = taken_by c.args.self.now.trail in
    let further : c.forward.result ≡ index_of geometry (h + length (take c.args.count c.args.commands.now)) =
    c.forward.ensures.position geometry h c.requires.head ∙ ap (λ (n : ℕ). index_of geometry (h + n)) (sym many) in (
      search rules,
      control_inside _ _ _ _ c.ring.invariant.words c.control_word.ensures,
      may_change _ _ _ c.self.view_is c.self.invariant _ _ _ _ _ c.requires.intent _ c.requires.who _ _ 0 (λ x. bit_xor x c.advance_mask-mask.result)
          (advances_may c.advance.ensures c.consumer_trail.ensures.head _ _ _ _ _ c.control_word.ensures c.requires.may (c.advance_mask-mask.ensures ∙ (λ k. advance_mask (c.requires.head k) (further k)))),
    )
