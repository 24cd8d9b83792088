-- The commands that detach a stream.
use Rattle.std.specs.Prelude.{ℕ, true, false, List, [], ◌∷◌}
use Rattle.cmdcodec.specs.declared.command.Command.{Command}
use Rattle.cmdcodec.specs.declared.command.Command.TheVariants.{CfgiSte, CfgiCdAll, AtcInv}

-- its stream table entry, its context descriptors, and all 2^52 pages that its endpoint caches
abbrev pub detach_commands : ℕ → List Command
detach_commands sid = CfgiSte sid true ∷ CfgiCdAll sid ∷ AtcInv sid false 0 false 52 0 ∷ []
