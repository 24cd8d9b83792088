-- The fields that say which pages an invalidation by address reaches.
use Rattle.std.specs.Prelude.{Option, Some, None}
use Rattle.cmdcodec.specs.declared.by_address.ByAddress.{ByAddress}
use Rattle.cmdcodec.specs.declared.command.Command.{Command}
use Rattle.cmdcodec.specs.declared.command.Command.TheVariants.{TlbiNhVa, TlbiNhVaa, TlbiEl2Va, TlbiEl2Vaa, TlbiS2Ipa}

abbrev pub by_address : Command → Option ByAddress
by_address (TlbiNhVa vmid asid leaf page reach) = Some (record { leaf = leaf; page = page; reach = reach })
by_address (TlbiNhVaa vmid leaf page reach) = Some (record { leaf = leaf; page = page; reach = reach })
by_address (TlbiEl2Va asid leaf page reach) = Some (record { leaf = leaf; page = page; reach = reach })
by_address (TlbiEl2Vaa leaf page reach) = Some (record { leaf = leaf; page = page; reach = reach })
by_address (TlbiS2Ipa vmid leaf page reach) = Some (record { leaf = leaf; page = page; reach = reach })
by_address other = None
