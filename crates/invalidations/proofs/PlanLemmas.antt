-- The commands of a plan, one by one.
use Rattle.std.proofs.Common.{◌≡◌, [], ◌∷◌, ◌++◌, Some, None, refl, ap}
use Rattle.cmdcodec.specs.declared.command.Command.{Command}
use Rattle.invalidations.specs.declared.space.Space.{Space}
use Rattle.invalidations.specs.declared.request.Request.{Request}
use Rattle.invalidations.specs.Spaces.{whole_command}
use Rattle.invalidations.specs.ByAddress.{commands_by_address}
use Rattle.invalidations.specs.Plans.{Plan, commands_for_whole, commands_of}
use Rattle.invalidations.specs.Hints.{AreNextByAddress, AreNextWords}
use Rattle.cmdcodec.specs.declared.raw.Raw.{Raw}

pub by_address_next : (plan : Plan) (command : Command) (next : Request) → commands_by_address plan.request ≡ command ∷ commands_by_address next
    → commands_of plan ≡ command ∷ commands_of (record { request = next; whole = plan.whole })
unfolding commands_of
by_address_next plan command next is = ap (λ cs. cs ++ commands_for_whole plan.whole) is

pub whole_next : (plan : Plan) (space : Space) → commands_by_address plan.request ≡ [] → plan.whole ≡ Some space
    → commands_of plan ≡ whole_command space ∷ commands_of (record { request = plan.request; whole = None })
unfolding commands_of
whole_next plan space none is = rw none (rw is refl)

pub none_left : (plan : Plan) → commands_by_address plan.request ≡ [] → plan.whole ≡ None → commands_of plan ≡ []
unfolding commands_of
none_left plan none is = rw none (rw is refl)

pub by_address_words : (plan : Plan) (raw : Raw) (next : Request) → AreNextByAddress plan.request (Some raw) next
    → AreNextWords plan (Some raw) (record { request = next; whole = plan.whole })
by_address_words plan raw next (command, is, words) = (command, by_address_next plan command next is, words)
