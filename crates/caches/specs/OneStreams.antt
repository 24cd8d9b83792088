-- Commands for the configuration of one stream, and the tags that they cover where no other substream than 0 has any.
use Rattle.std.specs.Prelude.{◌≡◌, Bool, true, false, not, ◌||◌, ◌==◌, Option, Some, None}
use Rattle.std.specs.Ordering.{eq_by_cmp}
use Rattle.std.specs.FinMap as finite
use Rattle.cmdcodec.specs.declared.command.Command.{Command}
use Rattle.cmdcodec.specs.declared.command.Command.TheVariants.{CfgiSte, CfgiCd, CfgiCdAll}
use Rattle.caches.specs.declared.tag.Tag.{Tag}
use Rattle.caches.specs.declared.tag.Tag.TheVariants.{Cd}
use Rattle.caches.specs.declared.tag.Entry.{Entry}
use Rattle.caches.specs.declared.key.Key.{Key}
use Rattle.caches.specs.declared.one_stream.OneStream.{OneStream}
use Rattle.caches.specs.Held.{Entries}
use Rattle.caches.specs.Keys.{tag_of}
use Rattle.caches.specs.TagOrder.{tag_cmp}

-- The command is for one stream. Unless it names a substream, no other substream than 0 may have descriptors.
abbrev pub is_for_stream : Bool → Command → Bool
is_for_stream substreams (CfgiSte sid leaf) = not substreams
is_for_stream substreams (CfgiCd sid ssid leaf) = true
is_for_stream substreams (CfgiCdAll sid) = not substreams
is_for_stream substreams command = false

-- a context descriptor of another substream than 0
abbrev pub is_of_substream : Tag → Bool
is_of_substream (Cd sid ssid) = not (ssid == 0)
is_of_substream tag = false

abbrev pub HaveNoSubstreams : Entries → Type 0
HaveNoSubstreams entries = (tag : Tag) (entry : Entry) → finite.get entries tag ≡ Some entry → is_of_substream tag ≡ false

-- the tag is that of a key, if one is given
abbrev pub is_of : Option Key → Tag → Bool
is_of None tag = false
is_of (Some key) tag = eq_by_cmp tag_cmp tag (tag_of key)

-- the tag is that of either key
abbrev pub is_in : OneStream → Tag → Bool
is_in one tag = is_of one.ste tag || is_of one.cd tag
