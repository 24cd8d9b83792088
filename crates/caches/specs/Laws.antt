-- The laws of the definitions.
use Rattle.std.specs.Prelude.{◌≡◌, ◌<◌, ◌^◌, ◌↔◌, ℕ, ◌==◌, Bool, true, false, Some}
use Rattle.std.specs.FinMap as finite
use Rattle.cmdcodec.specs.declared.reach.PageRun.{PageRun}
use Rattle.cmdcodec.specs.declared.command.Command.{Command}
use Rattle.cmdcodec.specs.declared.command.Command.TheVariants.{CfgiSteRange, TlbiNhVa, TlbiNhVaa, TlbiEl2Va, TlbiEl2Vaa, TlbiS2Ipa, TlbiNsnhAll, AtcInv}
use Rattle.cmdcodec.specs.declared.reach.Reach.TheVariants.{Page}
use Rattle.cmdcodec.specs.PageRuns.{IsIn, run_of}
use Rattle.caches.specs.declared.tag.Tag.{Tag}
use Rattle.caches.specs.declared.tag.Tag.TheVariants.{Ste, Cd, S1, S2, El2, Atc}
use Rattle.caches.specs.declared.tag.Entry.{Entry}
use Rattle.caches.specs.Blocks.{block, meets}
use Rattle.caches.specs.Covers.{covers, of_streams, of_machines, endpoints}
use Rattle.caches.specs.Held.{History, Entries, held, HeldAre, IsStanding, without_covered}

-- What is held after a history is exactly its fills that no later item ends.
abbrev pub HeldIsWhatStands : Type 0
HeldIsWhatStands = (history : History) → HeldAre history (held history)

abbrev pub NothingElseIsHeld : Type 0
NothingElseIsHeld = (history : History) (entries : Entries) → HeldAre history entries → entries ≡ held history

-- At most one entry stands per tag.
abbrev pub HeldSpeaksOfEachTagOnce : Type 0
HeldSpeaksOfEachTagOnce = (history : History) (one other : Entry) → IsStanding history one → IsStanding history other → one.tag ≡ other.tag → one ≡ other

-- A command that covers nothing held changes nothing.
abbrev pub UncoveredEntriesStay : Type 0
UncoveredEntriesStay = (command : Command) (entries : Entries) → ((tag : Tag) (entry : Entry) → finite.get entries tag ≡ Some entry → covers command tag ≡ false) → without_covered command entries ≡ entries

-- the numbers of streams and pages in a tag are in range
abbrev pub IsInRange : Tag → Type 0
IsInRange (Ste sid) = sid < 2 ^ 32
IsInRange (Cd sid ssid) = sid < 2 ^ 32
IsInRange (S1 vmid scope page span) = page < 2 ^ 52
IsInRange (S2 vmid page span) = page < 2 ^ 52
IsInRange (El2 scope page span) = page < 2 ^ 52
IsInRange (Atc sid ssid page span) = page < 2 ^ 52

-- CFGI_STE_RANGE with Range 31 covers exactly the stream table entries and context descriptors.
abbrev pub Range31IsAllStreams : Type 0
Range31IsAllStreams = (sid : ℕ) (tag : Tag) → sid < 2 ^ 32 → IsInRange tag → covers (CfgiSteRange sid 31) tag ≡ of_streams (λ stream. true) tag

-- ATC_INV with Size 52 and SSV 0 covers exactly the entries of its stream's endpoint.
abbrev pub Size52IsAllPages : Type 0
Size52IsAllPages = (sid ssid page : ℕ) (global : Bool) (tag : Tag) → page < 2 ^ 52 → IsInRange tag → covers (AtcInv sid false ssid global 52 page) tag ≡ endpoints (λ stream substream pages. stream == sid) tag

-- TLBI_NSNH_ALL covers exactly the stage 1 and stage 2 translations.
abbrev pub NsnhIsAllMachines : Type 0
NsnhIsAllMachines = (tag : Tag) → covers TlbiNsnhAll tag ≡ of_machines (λ vmid. true) tag

-- A block meets a nonempty run exactly if they share a page.
abbrev pub MeetingIsToShareAPage : Type 0
MeetingIsToShareAPage = (page span : ℕ) (run : PageRun) → run.first < run.end → (meets (block page span) run ≡ true) ↔ ((shared : ℕ) × IsIn shared (block page span) × IsIn shared run)

-- the command by address, for this page only
abbrev pub at_page : ℕ → Command → Command
at_page page (TlbiNhVa vmid asid leaf old reach) = TlbiNhVa vmid asid leaf page Page
at_page page (TlbiNhVaa vmid leaf old reach) = TlbiNhVaa vmid leaf page Page
at_page page (TlbiEl2Va asid leaf old reach) = TlbiEl2Va asid leaf page Page
at_page page (TlbiEl2Vaa leaf old reach) = TlbiEl2Vaa leaf page Page
at_page page (TlbiS2Ipa vmid leaf old reach) = TlbiS2Ipa vmid leaf page Page
at_page page not_by_address = not_by_address

-- The page of a command by address is in its address space, as its type ensures.
abbrev pub HasPageInRange : Command → Type 0
HasPageInRange (TlbiNhVa vmid asid leaf page reach) = page < 2 ^ 52
HasPageInRange (TlbiNhVaa vmid leaf page reach) = page < 2 ^ 52
HasPageInRange (TlbiEl2Va asid leaf page reach) = page < 2 ^ 52
HasPageInRange (TlbiEl2Vaa leaf page reach) = page < 2 ^ 52
HasPageInRange (TlbiS2Ipa vmid leaf page reach) = page < 2 ^ 40
HasPageInRange not_by_address = Unit {0}

-- A command by address covers a tag exactly if the command for one of the pages of its run does.
abbrev pub RangesCoverTheirPages : Type 0
RangesCoverTheirPages = (command : Command) (run : PageRun) (tag : Tag) → HasPageInRange command → run_of command ≡ Some run
    → (covers command tag ≡ true) ↔ ((page : ℕ) × IsIn page run × (covers (at_page page command) tag ≡ true))
