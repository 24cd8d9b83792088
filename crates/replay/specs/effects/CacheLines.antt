-- What the lines of the caches do.
use Rattle.std.specs.Prelude.{ℕ, List, Bool, Option, Result, Ok, Err}
use Rattle.std.specs.FinMap as finite
use Rattle.caches.specs.declared.tag.Tag.{Tag}
use Rattle.caches.specs.declared.tag.Entry.{Entry}
use Rattle.caches.specs.declared.fault.CacheFault.{CacheFault}
use Rattle.caches.specs.Faults.{label_of}
use Rattle.script.specs.Effects.{Effect, answers}
use Rattle.simulator.specs.State.{State, entries}
use Rattle.simulator.specs.Fills.{filled, evicted}
use Rattle.replay.specs.texts.CacheLines.{filled_text, evicted_text, found_text}
use Rattle.replay.specs.texts.Refusals.{refused_text}
use Rattle.replay.specs.effects.Answering.{tells}

-- given the entry of the tag that was held before, or why the new one isn't put in
abbrev pub fill_text : Result (Option Entry) CacheFault → List ℕ
fill_text (Ok was) = filled_text was
fill_text (Err fault) = refused_text (label_of fault)

abbrev pub fill_effect : Bool → Tag → ℕ → State → Effect State
fill_effect wanting tag value state = tells fill_text (filled wanting tag value state)

abbrev pub evict_effect : Tag → State → Effect State
evict_effect tag state = tells evicted_text (evicted tag state)

abbrev pub lookup_effect : Tag → State → Effect State
lookup_effect tag state = answers (found_text (finite.get (entries state) tag)) state
