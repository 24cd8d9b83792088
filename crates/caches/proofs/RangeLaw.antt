-- A command by address covers exactly what its one-page commands cover.
use Rattle.std.proofs.Common.{◌≡◌, ℕ, ◌+◌, ◌^◌, ◌<◌, ◌==◌, ◌&&◌, ◌↔◌, Bool, true, false, refl, subst, arith}
use Rattle.std.proofs.lemmas.Nat.{pow_pos, mul-le}
use Rattle.std.proofs.lemmas.Bool.{lt-ltb, and_from, and_parts, ltb-true}
use Rattle.cmdcodec.specs.declared.reach.PageRun.{PageRun}
use Rattle.cmdcodec.specs.declared.reach.Reach.{Reach}
use Rattle.cmdcodec.specs.declared.reach.Reach.TheVariants.{Page, Range}
use Rattle.cmdcodec.specs.declared.command.Command.{Command}
use Rattle.cmdcodec.specs.declared.command.Command.TheVariants.{CfgiSte, CfgiSteRange, CfgiCd, CfgiCdAll, TlbiNhAll, TlbiNhAsid, TlbiNhVa, TlbiNhVaa, TlbiEl2All, TlbiEl2Asid, TlbiEl2Va, TlbiEl2Vaa, TlbiS12Vmall, TlbiS2Ipa, TlbiNsnhAll, AtcInv, Kept, CmdSync}
use Rattle.cmdcodec.specs.PageRuns.{run_from, IsIn, IsReached}
use Rattle.cmdcodec.specs.Laws.{RunsAreOfWholeGranules}
use Rattle.caches.specs.declared.tag.Scope.{Scope}
use Rattle.caches.specs.declared.tag.Tag.{Tag}
use Rattle.caches.specs.declared.tag.Tag.TheVariants.{Ste, Cd, S1, S2, El2, Atc}
use Rattle.caches.specs.Blocks.{block, meets}
use Rattle.caches.specs.Covers.{covers, stage1, stage2, el2, reaches}
use Rattle.caches.specs.Laws.{RangesCoverTheirPages, at_page}
use Rattle.caches.proofs.LawLemmas.{later}

abbrev one : ℕ → PageRun
one page = record { first = page; end = page + 1 }

-- some page of the run passes
abbrev Somewhere : PageRun → (ℕ → Bool) → Type 0
Somewhere run test = (page : ℕ) × IsIn page run × (test page ≡ true)

nowhere : (run : PageRun) → (false ≡ true) ↔ Somewhere run (λ page. false)
nowhere run = (λ e. cc, λ s. s.2)

meets_one : (b run : PageRun) → b.first < b.end → run.first < run.end → (meets b run ≡ true) ↔ Somewhere run (λ page. meets b (one page))
meets_one b run hb hr = (
  λ e. let m = and_parts _ _ e in
      let s = later b.first b.end run.first run.end hb (ltb-true b.first run.end m.0) hr (ltb-true run.first b.end m.1) in
      let own = s.1 in
      (s.0, s.2, and_from _ _ (lt-ltb b.first (s.0 + 1) (omega (arith, own.0))) (lt-ltb s.0 b.end own.1)),
  λ s. let m = and_parts _ _ s.2 in
      let low = ltb-true b.first (s.0 + 1) m.0 in
      let high = ltb-true s.0 b.end m.1 in
      let own = s.1 in
      and_from _ _ (lt-ltb b.first run.end (omega (arith, low, own.1))) (lt-ltb run.first b.end (omega (arith, high, own.0))),
)

also : (x m : Bool) (run : PageRun) (test : ℕ → Bool) → (m ≡ true) ↔ Somewhere run test → ((x && m) ≡ true) ↔ Somewhere run (λ page. x && test page)
also x m run test h = (
  λ e. let both = and_parts x m e in let s = h.0 both.1 in (s.0, s.1, and_from x (test s.0) both.0 s.2),
  λ s. let both = and_parts x (test s.0) s.2 in and_from x m both.0 (h.1 (s.0, s.1, both.1)),
)

filled : (page span : ℕ) → page < page + 2 ^ span
filled page span = omega (arith, pow_pos span)

stage1_pages : (x : ℕ → Scope → Bool) (run : PageRun) → run.first < run.end → (tag : Tag) → (stage1 (λ v o pages. x v o && meets pages run) tag ≡ true) ↔ Somewhere run (λ page. stage1 (λ v o pages. x v o && meets pages (one page)) tag)
stage1_pages x run h (Ste s) = nowhere run
stage1_pages x run h (Cd s c) = nowhere run
stage1_pages x run h (S1 v o p n) = also (x v o) _ run (λ page. meets (block p n) (one page)) (meets_one (block p n) run (filled p n) h)
stage1_pages x run h (S2 v p n) = nowhere run
stage1_pages x run h (El2 o p n) = nowhere run
stage1_pages x run h (Atc s c p n) = nowhere run

machine_pages : (vmid asid : ℕ) (run : PageRun) → run.first < run.end → (tag : Tag) → (stage1 (λ v o pages. v == vmid && (reaches asid o && meets pages run)) tag ≡ true) ↔ Somewhere run (λ page. stage1 (λ v o pages. v == vmid && (reaches asid o && meets pages (one page))) tag)
machine_pages vmid asid run h (Ste s) = nowhere run
machine_pages vmid asid run h (Cd s c) = nowhere run
machine_pages vmid asid run h (S1 v o p n) = also (v == vmid) _ run (λ page. reaches asid o && meets (block p n) (one page)) (also (reaches asid o) _ run (λ page. meets (block p n) (one page)) (meets_one (block p n) run (filled p n) h))
machine_pages vmid asid run h (S2 v p n) = nowhere run
machine_pages vmid asid run h (El2 o p n) = nowhere run
machine_pages vmid asid run h (Atc s c p n) = nowhere run

stage2_pages : (vmid : ℕ) (run : PageRun) → run.first < run.end → (tag : Tag) → (stage2 (λ v pages. v == vmid && meets pages run) tag ≡ true) ↔ Somewhere run (λ page. stage2 (λ v pages. v == vmid && meets pages (one page)) tag)
stage2_pages vmid run h (Ste s) = nowhere run
stage2_pages vmid run h (Cd s c) = nowhere run
stage2_pages vmid run h (S1 v o p n) = nowhere run
stage2_pages vmid run h (S2 v p n) = also (v == vmid) _ run (λ page. meets (block p n) (one page)) (meets_one (block p n) run (filled p n) h)
stage2_pages vmid run h (El2 o p n) = nowhere run
stage2_pages vmid run h (Atc s c p n) = nowhere run

el2_space_pages : (asid : ℕ) (run : PageRun) → run.first < run.end → (tag : Tag) → (el2 (λ o pages. reaches asid o && meets pages run) tag ≡ true) ↔ Somewhere run (λ page. el2 (λ o pages. reaches asid o && meets pages (one page)) tag)
el2_space_pages asid run h (Ste s) = nowhere run
el2_space_pages asid run h (Cd s c) = nowhere run
el2_space_pages asid run h (S1 v o p n) = nowhere run
el2_space_pages asid run h (S2 v p n) = nowhere run
el2_space_pages asid run h (El2 o p n) = also (reaches asid o) _ run (λ page. meets (block p n) (one page)) (meets_one (block p n) run (filled p n) h)
el2_space_pages asid run h (Atc s c p n) = nowhere run

el2_pages : (run : PageRun) → run.first < run.end → (tag : Tag) → (el2 (λ o pages. meets pages run) tag ≡ true) ↔ Somewhere run (λ page. el2 (λ o pages. meets pages (one page)) tag)
el2_pages run h (Ste s) = nowhere run
el2_pages run h (Cd s c) = nowhere run
el2_pages run h (S1 v o p n) = nowhere run
el2_pages run h (S2 v p n) = nowhere run
el2_pages run h (El2 o p n) = meets_one (block p n) run (filled p n) h
el2_pages run h (Atc s c p n) = nowhere run

-- ---- the run of a command has a page, its own
reached : (page space : ℕ) (reach : Reach) → page < space → IsReached page reach space page
reached page space Page h = refl
reached page space (Range tg num scale) h = (omega arith, omega (arith, mul-le 1 1 (num + 1) (2 ^ scale) (omega arith) (pow_pos scale)), h)

has_page : RunsAreOfWholeGranules → (page space : ℕ) (reach : Reach) → page < space → (run_from page reach space).first < (run_from page reach space).end
has_page whole page space reach h = let own = (whole page space page reach h).1 (reached page space reach h) in omega (arith, own.0, own.1)

-- what the law says of one run
abbrev OfRun : Command → Tag → PageRun → Type 0
OfRun c tag run = (covers c tag ≡ true) ↔ Somewhere run (λ page. covers (at_page page c) tag)

pub cover_pages : RunsAreOfWholeGranules → RangesCoverTheirPages
cover_pages whole (TlbiNhVa vmid asid leaf page reach) run tag h e = let same : run_from page reach (2 ^ 52) ≡ run = cc in subst (OfRun (TlbiNhVa vmid asid leaf page reach) tag) same (machine_pages vmid asid (run_from page reach (2 ^ 52)) (has_page whole page (2 ^ 52) reach h) tag)
cover_pages whole (TlbiNhVaa vmid leaf page reach) run tag h e = let same : run_from page reach (2 ^ 52) ≡ run = cc in subst (OfRun (TlbiNhVaa vmid leaf page reach) tag) same (stage1_pages (λ v o. v == vmid) (run_from page reach (2 ^ 52)) (has_page whole page (2 ^ 52) reach h) tag)
cover_pages whole (TlbiEl2Va asid leaf page reach) run tag h e = let same : run_from page reach (2 ^ 52) ≡ run = cc in subst (OfRun (TlbiEl2Va asid leaf page reach) tag) same (el2_space_pages asid (run_from page reach (2 ^ 52)) (has_page whole page (2 ^ 52) reach h) tag)
cover_pages whole (TlbiEl2Vaa leaf page reach) run tag h e = let same : run_from page reach (2 ^ 52) ≡ run = cc in subst (OfRun (TlbiEl2Vaa leaf page reach) tag) same (el2_pages (run_from page reach (2 ^ 52)) (has_page whole page (2 ^ 52) reach h) tag)
cover_pages whole (TlbiS2Ipa vmid leaf page reach) run tag h e = let same : run_from page reach (2 ^ 40) ≡ run = cc in subst (OfRun (TlbiS2Ipa vmid leaf page reach) tag) same (stage2_pages vmid (run_from page reach (2 ^ 40)) (has_page whole page (2 ^ 40) reach h) tag)
cover_pages whole (CfgiSte sid leaf) run tag h e = cc
cover_pages whole (CfgiSteRange sid range) run tag h e = cc
cover_pages whole (CfgiCd sid ssid leaf) run tag h e = cc
cover_pages whole (CfgiCdAll sid) run tag h e = cc
cover_pages whole (TlbiNhAll vmid) run tag h e = cc
cover_pages whole (TlbiNhAsid vmid asid) run tag h e = cc
cover_pages whole TlbiEl2All run tag h e = cc
cover_pages whole (TlbiEl2Asid asid) run tag h e = cc
cover_pages whole (TlbiS12Vmall vmid) run tag h e = cc
cover_pages whole TlbiNsnhAll run tag h e = cc
cover_pages whole (AtcInv sid ssv ssid global size page) run tag h e = cc
cover_pages whole (Kept raw) run tag h e = cc
cover_pages whole (CmdSync cs msh attr number address) run tag h e = cc
