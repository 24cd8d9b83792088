-- What an invalidation of the TLB for one space covers is what its region holds.
use Rattle.std.proofs.Common.{◌≡◌, ℕ, ◌==◌, ◌^◌, ◌&&◌, Bool, true, false, Option, Some, None, refl, ap}
use Rattle.cmdcodec.specs.declared.command.Command.{Command}
use Rattle.cmdcodec.specs.declared.command.Command.TheVariants.{TlbiNhAll, TlbiNhAsid, TlbiNhVa, TlbiNhVaa, TlbiEl2All, TlbiEl2Asid, TlbiEl2Va, TlbiEl2Vaa, TlbiS2Ipa}
use Rattle.cmdcodec.specs.declared.reach.PageRun.{PageRun}
use Rattle.cmdcodec.specs.PageRuns.{run_from, run_of}
use Rattle.caches.specs.declared.tag.Scope.{Scope}
use Rattle.caches.specs.declared.tag.Scope.TheVariants.{Global, Of}
use Rattle.caches.specs.declared.tag.Tag.{Tag}
use Rattle.caches.specs.declared.tag.Tag.TheVariants.{Ste, Cd, S1, S2, El2, Atc}
use Rattle.caches.specs.Blocks.{block, meets}
use Rattle.caches.specs.Covers.{covers, el2, is_of, reaches, stage1}
use Rattle.regions.specs.declared.address_spaces.AddressSpaces.TheVariants as spaces
use Rattle.regions.specs.declared.region.Region.TheVariants.{Translations}
use Rattle.regions.specs.declared.space.Space.{Space}
use Rattle.regions.specs.CommandRegions.{pages_of_run, space_of}
use Rattle.regions.specs.Regions.{has_pages_of, has_scope, in_space, HoldsWhatIsCovered}

and_true : (b : Bool) → b ≡ (b && true)
and_true true = refl
and_true false = refl

one_space : (asid : ℕ) (scope : Scope) → is_of asid scope ≡ (has_scope (spaces.One asid) scope && true)
one_space asid Global = refl
one_space asid (Of own) = and_true (own == asid)

one_and_global : (asid : ℕ) (scope : Scope) → reaches asid scope ≡ has_scope (spaces.OneAndGlobal asid) scope
one_and_global asid Global = refl
one_and_global asid (Of own) = refl

stage1_alike : (p q : ℕ → Scope → PageRun → Bool) → ((v : ℕ) (s : Scope) (b : PageRun) → p v s b ≡ q v s b) → (tag : Tag) → stage1 p tag ≡ stage1 q tag
stage1_alike p q same (Ste sid) = refl
stage1_alike p q same (Cd sid ssid) = refl
stage1_alike p q same (S1 vmid scope page span) = same vmid scope (block page span)
stage1_alike p q same (S2 vmid page span) = refl
stage1_alike p q same (El2 scope page span) = refl
stage1_alike p q same (Atc sid ssid page span) = refl

el2_alike : (p q : Scope → PageRun → Bool) → ((s : Scope) (b : PageRun) → p s b ≡ q s b) → (tag : Tag) → el2 p tag ≡ el2 q tag
el2_alike p q same (Ste sid) = refl
el2_alike p q same (Cd sid ssid) = refl
el2_alike p q same (S1 vmid scope page span) = refl
el2_alike p q same (S2 vmid page span) = refl
el2_alike p q same (El2 scope page span) = same scope (block page span)
el2_alike p q same (Atc sid ssid page span) = refl

-- what is said of the space of a command, if it has one
abbrev IsCovered : Option Space → Command → Tag → Type 0
IsCovered None command tag = Unit {0}
IsCovered (Some space) command tag = covers command tag ≡ in_space space (has_pages_of (pages_of_run (run_of command))) tag

covered_in : (command : Command) (tag : Tag) → IsCovered (space_of command) command tag
covered_in (TlbiNhAll vmid) tag = stage1_alike _ _ (λ v s b. and_true (v == vmid)) tag
covered_in (TlbiNhAsid vmid asid) tag = stage1_alike _ _ (λ v s b. ap (λ x. (v == vmid) && x) (one_space asid s)) tag
covered_in (TlbiNhVa vmid asid leaf page reach) tag =
    stage1_alike _ _ (λ v s b. ap (λ x. (v == vmid) && (x && meets b (run_from page reach (2 ^ 52)))) (one_and_global asid s)) tag
covered_in (TlbiNhVaa vmid leaf page reach) tag = refl
covered_in TlbiEl2All tag = refl
covered_in (TlbiEl2Asid asid) tag = el2_alike _ _ (λ s b. one_space asid s) tag
covered_in (TlbiEl2Va asid leaf page reach) tag = el2_alike _ _ (λ s b. ap (λ x. x && meets b (run_from page reach (2 ^ 52))) (one_and_global asid s)) tag
covered_in (TlbiEl2Vaa leaf page reach) tag = refl
covered_in (TlbiS2Ipa vmid leaf page reach) tag = refl
covered_in other tag = tt

pub translations_covered : (command : Command) (space : Space) → space_of command ≡ Some space → HoldsWhatIsCovered command (Translations space (pages_of_run (run_of command)))
translations_covered command space is tag inside = rw is at (covered_in command tag)
