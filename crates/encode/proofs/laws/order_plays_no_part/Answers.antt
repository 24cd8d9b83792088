use Rattle.encode.proofs.OrderLemmas.{order_plays_no_part}
use Rattle.encode.proofs.laws.order_plays_no_part.Goals as goal

pub returns : goal.returns
returns c = order_plays_no_part
