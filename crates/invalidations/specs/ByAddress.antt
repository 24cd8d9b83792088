-- The commands by address for a range of granules.
use Rattle.std.specs.Prelude.{ℕ, zero, suc, ◌+◌, ◌-◌, ◌*◌, ◌==◌, ◌&&◌, not, Bool, List, [], ◌∷◌, Option, Some, None, if◌then◌else◌}
use Rattle.cmdcodec.specs.declared.command.Command.{Command}
use Rattle.cmdcodec.specs.declared.reach.Granule.{Granule}
use Rattle.cmdcodec.specs.declared.reach.Granule.TheVariants.{Kib4, Kib16, Kib64}
use Rattle.cmdcodec.specs.declared.reach.Reach.{Reach}
use Rattle.cmdcodec.specs.declared.reach.Reach.TheVariants.{Page, Range}
use Rattle.cmdcodec.specs.PageRuns.{granule_pages}
use Rattle.invalidations.specs.declared.request.Request.{Request}
use Rattle.invalidations.specs.declared.request.Target.{Target}
use Rattle.invalidations.specs.Spaces.{command_for}
use Rattle.invalidations.specs.Targets.{is_leaf, is_hinted, leaf_granules}
use Rattle.invalidations.specs.Pieces.{scale_of, count_of, reached_of}

-- A granule without TTL: a TG beside NUM, SCALE and TTL that are all 0 is reserved, so this is its page, TG 0,
-- if that is all of it, or else two granules.
abbrev pub single : Granule → Reach
single Kib4 = Page
single Kib16 = Range Kib16 0 1
single Kib64 = Range Kib64 0 1

-- with ranges, for `left` granules
unfoldable pub ranged_reach : Granule → Bool → ℕ → Reach
ranged_reach granule hinted left =
    if reached_of left == 1 && not hinted then single granule else Range granule (count_of left - 1) (scale_of left)

-- without ranges the page where the leaf begins
unfoldable pub reach_of : Target → ℕ → Reach
reach_of target left = if target.ranged then ranged_reach target.granule (is_hinted target.entries) left else Page

-- how many granules the next command stands for: without ranges those of a leaf
unfoldable pub step_of : Target → ℕ → ℕ
step_of target left = if target.ranged then reached_of left else leaf_granules target

-- the next command for `left` granules from this one on
unfoldable pub command_of : Target → ℕ → ℕ → Command
command_of target first left = command_for target.space (is_leaf target.entries) (first * granule_pages target.granule) (reach_of target left)

-- It and those for the granules after it; at most `most` in all.
unfoldable pub commands_up_to : ℕ → Target → ℕ → ℕ → List Command
commands_up_to zero target first left = []
commands_up_to (suc most) target first left =
    if left == 0 then []
    else command_of target first left ∷ commands_up_to most target (first + step_of target left) (left - step_of target left)

-- There are no more commands than granules, since each stands for at least one.
unfoldable pub commands_by_address : Request → List Command
commands_by_address request = commands_up_to request.range.count request.target request.range.first request.range.count

-- these commands, behind one more if there is one; without it there are none
abbrev pub preceded_by : Option Command → List Command → List Command
preceded_by None commands = []
preceded_by (Some command) commands = command ∷ commands
