-- Commands for one page, and the blocks that hold it, by whose they are.
use Rattle.std.specs.Prelude.{ℕ, ◌-◌, ◌%◌, ◌^◌, Bool, true, false, ◌||◌, Option, Some, None}
use Rattle.std.specs.Ordering.{eq_by_cmp}
use Rattle.cmdcodec.specs.declared.command.Command.{Command}
use Rattle.cmdcodec.specs.declared.command.Command.TheVariants.{TlbiNhVa, TlbiEl2Va, TlbiS2Ipa}
use Rattle.cmdcodec.specs.declared.reach.Reach.{Reach}
use Rattle.cmdcodec.specs.declared.reach.Reach.TheVariants.{Page, Range}
use Rattle.caches.specs.declared.tag.Tag.{Tag}
use Rattle.caches.specs.declared.key.Key.{Key}
use Rattle.caches.specs.declared.key.Key.TheVariants.{Machine, Hypervisor}
use Rattle.caches.specs.declared.one_page.Holder.{Holder}
use Rattle.caches.specs.declared.one_page.Holder.TheVariants.{Guest, Host}
use Rattle.caches.specs.declared.one_page.OnePage.{OnePage}
use Rattle.caches.specs.Keys.{key_of, span_of, tag_of}
use Rattle.caches.specs.TagOrder.{tag_cmp}

-- ---- which commands
abbrev pub is_page : Reach → Bool
is_page Page = true
is_page (Range tg num scale) = false

-- The command is for one page, and for one address space or for stage 2.
abbrev pub is_for_page : Command → Bool
is_for_page (TlbiNhVa vmid asid leaf page reach) = is_page reach
is_for_page (TlbiEl2Va asid leaf page reach) = is_page reach
is_for_page (TlbiS2Ipa vmid leaf page reach) = is_page reach
is_for_page command = false

-- ---- which blocks
-- the key of a holder's block, by its first page and its span
abbrev pub key_in : Holder → ℕ → ℕ → Key
key_in (Guest vmid stage) page span = Machine vmid page span stage
key_in (Host asid) page span = Hypervisor page span asid

-- the tag is that of the holder's block, of the tag's own span, that holds the page
abbrev pub is_block_at : Holder → ℕ → Tag → Bool
is_block_at holder page tag = eq_by_cmp tag_cmp tag (tag_of (key_in holder (page - page % 2 ^ span_of (key_of tag)) (span_of (key_of tag))))

abbrev pub is_shared_at : Option Holder → ℕ → Tag → Bool
is_shared_at None page tag = false
is_shared_at (Some holder) page tag = is_block_at holder page tag

-- the tag is that of a block of either holder that holds the page
abbrev pub is_on : OnePage → Tag → Bool
is_on one tag = is_block_at one.own one.page tag || is_shared_at one.shared one.page tag
