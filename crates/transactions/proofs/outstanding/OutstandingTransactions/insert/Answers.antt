use Rattle.std.proofs.Common.{◌≡◌, ◌<◌, ℕ, Some, None, ap, subst, ◌∙◌, arith}
use Rattle.std.specs.Prelude.{slice_get, slice_set}
use Rattle.std.proofs.lemmas.Option.{slice_get_read, slice_get_within}
use Rattle.transactions.specs.Outstanding.{Slots}
use Rattle.transactions.proofs.FreeSlots.{free_slot, kept_begun}
use Rattle.transactions.proofs.outstanding.OutstandingTransactions.insert.Goals as goal

within : (slot many len : ℕ) → slot < many → len ≡ many → slot < len
within slot many len below same = omega (arith, below, same)

pub index_mut-requires : goal.index_mut-requires
index_mut-requires c =
    let at = slice_get_read c.self.inside.free.items c.len.result c.self.inside.count c.index-slot.result.now (c.len.ensures ∙ c.self.inside.free.ok.0) c.if-self-len.false c.index-slot.ensures in
    within _ _ _ (slice_get_within c.self.inside.slots.items c.index-slot.result.now None (free_slot _ _ _ _ c.self.invariant c.index-slot.result.now c.args.transaction at)) c.self.inside.slots.ok.0

pub invariant_of-self : goal.invariant_of-self
invariant_of-self c =
    let at = slice_get_read c.self.inside.free.items c.len.result c.self.inside.count c.index-slot.result.now (c.len.ensures ∙ c.self.inside.free.ok.0) c.if-self-len.false c.index-slot.ensures in
    kept_begun _ _ _ _ c.self.invariant c.index-slot.result.now c.args.transaction c.requires.block c.requires.uncovered at

pub returns-clause-inserted : goal.returns-clause-inserted
returns-clause-inserted c =
    let at = slice_get_read c.self.inside.free.items c.len.result c.self.inside.count c.index-slot.result.now (c.len.ensures ∙ c.self.inside.free.ok.0) c.if-self-len.false c.index-slot.ensures in (
      subst (λ (s : Slots). slice_get s c.index-slot.result.now ≡ Some None) c.self.view_is (free_slot _ _ _ _ c.self.invariant c.index-slot.result.now c.args.transaction at),
      ap (λ (s : Slots). slice_set s c.index-slot.result.now (Some c.args.transaction)) c.self.view_is,
    )

below_all : (slot len most : ℕ) → slot < len → len < most → slot < most
below_all slot len most below few = omega (arith, below, few)

pub returns-clause-few : goal.returns-clause-few
returns-clause-few c =
    let at = slice_get_read c.self.inside.free.items c.len.result c.self.inside.count c.index-slot.result.now (c.len.ensures ∙ c.self.inside.free.ok.0) c.if-self-len.false c.index-slot.ensures in
    below_all _ _ _ (slice_get_within c.self.inside.slots.items c.index-slot.result.now None (free_slot _ _ _ _ c.self.invariant c.index-slot.result.now c.args.transaction at)) c.self.invariant.few
