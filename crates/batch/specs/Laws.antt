-- The law of the commands for a run of pages.
use Rattle.std.specs.Prelude.{◌≡◌, ◌<◌, ◌≤◌, ◌↔◌, ℕ, ◌+◌, ◌^◌, true, List, [], ◌∷◌, All, Any, AllPairs}
use Rattle.std.specs.List.{filter_map}
use Rattle.cmdcodec.specs.declared.command.Command.{Command}
use Rattle.cmdcodec.specs.declared.command.Command.TheVariants.{TlbiNhVa}
use Rattle.cmdcodec.specs.declared.reach.PageRun.{PageRun}
use Rattle.cmdcodec.specs.PageRuns.{run_of, IsIn}
use Rattle.batch.specs.Ranges.{range_commands}

-- a CMD_TLBI_NH_VA of this address space, with Leaf 1
abbrev pub IsLastLevelOf : ℕ → ℕ → Command → Type 0
IsLastLevelOf vmid asid (TlbiNhVa of_vmid of_asid leaf page reach) = (of_vmid ≡ vmid) × (of_asid ≡ asid) × (leaf ≡ true)
IsLastLevelOf vmid asid other = ⊥

-- the runs of pages that they reach, in order
abbrev pub runs_of : List Command → List PageRun
runs_of commands = filter_map run_of commands

-- The runs go from this page up to that end: each begins where the one before it ended, and none is empty.
abbrev pub AreJoined : ℕ → ℕ → List PageRun → Type 0
AreJoined first end [] = first ≡ end
AreJoined first end (run ∷ runs) = (run.first ≡ first) × (run.first < run.end) × AreJoined run.end end runs

-- The first ends before the second begins.
abbrev pub IsBelow : PageRun → PageRun → Type 0
IsBelow earlier later = earlier.end ≤ later.first

-- These commands reach exactly `pages` pages from this one on, each once, in ascending order.
pub record ReachExactly (vmid asid page pages : ℕ) (commands : List Command) : Type 0 where
  pub alike : All (IsLastLevelOf vmid asid) commands
  pub joined : AreJoined page (page + pages) (runs_of commands)
  pub disjoint : AllPairs IsBelow (runs_of commands)
  pub exact : (other : ℕ) → Any (IsIn other) (runs_of commands) ↔ ((page ≤ other) × (other < page + pages))

-- The commands for any range in the address space reach it exactly.
abbrev pub RangesAreReachedExactly : Type 0
RangesAreReachedExactly =
    (vmid asid page pages : ℕ) → page + pages ≤ 2 ^ 52 → ReachExactly vmid asid page pages (range_commands vmid asid page pages)
