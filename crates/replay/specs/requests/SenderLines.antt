-- What the lines ask for by which a sender publishes what it reserved, asks, looks and closes.
use Rattle.std.specs.Prelude.{ℕ, List, Option, option_map}
use Rattle.script.specs.Fields.{one_number}
use Rattle.replay.specs.declared.request.Request.{Request}
use Rattle.replay.specs.declared.request.Request.TheVariants.{Publish, Done, Look, Close}

-- `publish S`
unfoldable pub publish_of : List (List ℕ) → Option Request
publish_of words = option_map (λ sender. Publish sender) (one_number words)

-- `done S`
unfoldable pub done_of : List (List ℕ) → Option Request
done_of words = option_map (λ sender. Done sender) (one_number words)

-- `look S`
unfoldable pub look_of : List (List ℕ) → Option Request
look_of words = option_map (λ sender. Look sender) (one_number words)

-- `close S`
unfoldable pub close_of : List (List ℕ) → Option Request
close_of words = option_map (λ sender. Close sender) (one_number words)
