use Rattle.guest_table.proofs.PlaceLemmas.{placed}
use Rattle.guest_table.proofs.guests.place.Goals as goal

pub returns : goal.returns
returns c = placed c.args.guests.now c.args.vmid c.position.result c.position.ensures
