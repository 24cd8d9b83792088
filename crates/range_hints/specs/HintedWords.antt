-- The words of a command with its level hint.
use Rattle.std.specs.Prelude.{◌+◌, ◌*◌, ◌^◌}
use Rattle.cmdcodec.specs.declared.raw.Raw.{Raw}
use Rattle.cmdcodec.specs.declared.command.Command.{Command}
use Rattle.cmdcodec.specs.Words.{encoding}
use Rattle.range_hints.specs.declared.ttl.Ttl.{Ttl}
use Rattle.range_hints.specs.Hints.{kept_ttl, ttl_number}

-- the words without the hint, and TTL at its place
abbrev pub hinted_words : Command → Ttl → Raw
hinted_words command ttl =
    record { lo = (encoding command).lo; hi = (encoding command).hi + ttl_number (kept_ttl command ttl) * 2 ^ 8 }
