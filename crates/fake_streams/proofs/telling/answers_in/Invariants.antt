use Rattle.std.proofs.Common.{◌≡◌, ◌++◌, take}
use Rattle.std.specs.List.{concat}
use denote.Text.{Utf8}
use denote.Shadow.{shadow}
use Rattle.fake_streams.specs.Telling.{texts_of}
use Rattle.fake_streams.proofs.telling.answers_in.Given as goal

abbrev pub invariant-loop-count : goal.invariant-loop-count
invariant-loop-count l = shadow (Utf8 l.rest) × (l.fn.text ≡ concat (take l.count (texts_of l.answers)) ++ l.rest)
