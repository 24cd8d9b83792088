-- Changes of stage 2.
use Rattle.std.proofs.Common.{◌≡◌, ℕ, suc, Bool, true, false, List, [], ◌∷◌, ◌++◌, Option, Some, None, refl, sym, ap, subst, arith}
use Rattle.std.specs.Prelude.{slice_get, length, is_some}
use Rattle.cmdcodec.specs.declared.command.Command.TheVariants.{TlbiNhAll}
use Rattle.cmdcodec.specs.declared.reach.Granule.TheVariants.{Kib4, Kib16}
use Rattle.cmdcodec.specs.Words.{encoding}
use Rattle.smmu_features.specs.declared.smmu.Smmu.{Smmu}
use Rattle.smmu_features.specs.IdRegisters.{smmu_of}
use Rattle.invalidations.specs.declared.entries.Entries.TheVariants.{Any}
use Rattle.invalidations.specs.declared.space.Space.{Space}
use Rattle.invalidations.specs.declared.space.Space.TheVariants.{Stage1, Hypervisor, Stage2}
use Rattle.invalidations.specs.declared.invalidation.Bytes.{Bytes}
use Rattle.invalidations.specs.declared.invalidation.Bytes.TheVariants.{Everything, Range}
use Rattle.invalidations.specs.declared.invalidation.Invalidation.{Invalidation}
use Rattle.invalidations.specs.declared.policy.Policy.{Policy}
use Rattle.invalidations.specs.ByAddress.{commands_by_address, commands_up_to}
use Rattle.invalidations.specs.Plans.{commands_of}
use Rattle.ring.specs.Rings.{RingValue}
use Rattle.ring.specs.Runs.{Raw, Who, Sender, Event, Won, Run, advanced, joined, sync_raw}
use Rattle.ring.specs.sender.Senders.{SenderValue, ReceiptValue}
use Rattle.ring.specs.sender.Sending.{IsSent}
use Rattle.detachment.specs.declared.change_fault.ChangeFault.TheVariants.{OtherStage, Unsupported, PastEnd, NoByte}
use Rattle.detachment.specs.Order.{HasApplied}
use Rattle.detachment.specs.Values.{IsOwn}
use Rattle.detachment.specs.Changes.{Change, change_of, change_words, words_behind, change_refusal, IsChange, ChangeValue, change_value, HasSentChange, IsChanging, IsChanged}

-- SMMUs with both stages, and with one of them
abbrev pub nesting : Smmu
nesting = smmu_of 0x3 0x10 0 0x10

abbrev pub stage_1_alone : Smmu
stage_1_alone = smmu_of 0x2 0x10 0 0x10

abbrev pub stage_2_alone : Smmu
stage_2_alone = smmu_of 0x1 0x10 0 0x10

abbrev pub of_bytes : Space → Bytes → Invalidation
of_bytes space bytes = record { space = space; bytes = bytes; granule = Kib4; entries = Any }

abbrev pub with_most : ℕ → Policy
with_most most = record { most_commands = most; global_pages = false }

abbrev pub change : Smmu → Space → Bytes → Change
change smmu space bytes = change_of (of_bytes space bytes) smmu (with_most 512)

-- ---- the commands

pub at_most_a_batch : (change nesting (Stage2 0x21) Everything).policy.most_commands ≡ 63
at_most_a_batch = refl

pub fewer_if_asked_for : (change_of (of_bytes (Stage2 0x21) Everything) nesting (with_most 7)).policy.most_commands ≡ 7
fewer_if_asked_for = refl

pub all_of_stage_2 : change_words (change nesting (Stage2 0x21) Everything) ≡ record { lo = 0x2100000028; hi = 0 } ∷ []
unfolding encoding commands_of commands_by_address commands_up_to
all_of_stage_2 = refl

pub stage_1_behind : words_behind (change nesting (Stage2 0x21) Everything) ≡ Some (record { lo = 0x2100000010; hi = 0 } ∷ [])
unfolding encoding
stage_1_behind = refl

pub none_without_stage_1 : words_behind (change stage_2_alone (Stage2 0x21) Everything) ≡ None
none_without_stage_1 = refl

-- ---- what is refused

pub change_of_stage_1 : change_refusal (change nesting (Stage1 0x21 None) Everything) ≡ Some OtherStage
change_of_stage_1 = refl

pub change_of_the_hypervisor : change_refusal (change nesting (Hypervisor None) Everything) ≡ Some OtherStage
change_of_the_hypervisor = refl

pub change_of_what_the_smmu_lacks : change_refusal (change stage_1_alone (Stage2 0x21) Everything) ≡ Some Unsupported
change_of_what_the_smmu_lacks = refl

pub change_past_the_end : change_refusal (change nesting (Stage2 0x21) (Range (record { first = 0x10000000000000; length = 1 }))) ≡ Some PastEnd
change_past_the_end = refl

pub change_of_no_byte : change_refusal (change nesting (Stage2 0x21) (Range (record { first = 0; length = 0 }))) ≡ Some NoByte
unfolding commands_of commands_by_address commands_up_to
change_of_no_byte = refl

pub change_of_all : change_refusal (change nesting (Stage2 0x21) Everything) ≡ None
unfolding commands_of commands_by_address commands_up_to
change_of_all = refl

pub more_than_a_batch_is_none : (c : Change) → c.policy.most_commands ≡ 64 → ¬ IsChange c
more_than_a_batch_is_none c most is = let few = is.few in omega (arith, most, few)

pub refused_is_none : (c : Change) → change_refusal c ≡ Some NoByte → ¬ IsChange c
refused_is_none c refused is = let made = is.made in absurd (cc)

-- ---- the steps

abbrev pub parent : Change
parent = change nesting (Stage2 0x21) Everything

-- sender 0, who knows this run
abbrev knowing : RingValue → Run → SenderValue
knowing ring run = record { ring = ring; number = 0; trail = []; history = run }

abbrev pub known : RingValue → Run → ChangeValue
known ring run = record { change = parent; sync = record { sender = 0; number = 1 }; sender = knowing ring run }

pub parts_of_a_change : (receipt : ReceiptValue) (s : SenderValue) → change_value parent receipt s ≡ record { change = parent; sync = receipt; sender = s }
parts_of_a_change receipt s = refl

none_holds_one : {A : Type 0} (ahead : List A) (x : A) (behind : List A) → ¬ ([] ≡ ahead ++ x ∷ behind)
none_holds_one [] x behind is = absurd (cc)
none_holds_one (y ∷ ahead) x behind is = absurd (cc)

pub not_changing_before_it_is_sent : (ring : RingValue) → ¬ IsChanging (known ring [])
not_changing_before_it_is_sent ring is = none_holds_one is.reserved.later (Sender 0, Won (change_words parent) (Some 1)) is.earlier is.reserved.run_is

-- what is reserved, and none of it taken
abbrev pub reserved : Run
reserved = (Sender 0, Won (change_words parent) (Some 1)) ∷ []

nothing_applied : (words : List Raw) (run : Run) → advanced run ≡ [] → ¬ HasApplied 0 words 1 run
nothing_applied words run none is =
    let completed = is.sync.completed in
    let no : false ≡ true =
    ap is_some (subst (λ (raws : List Raw). slice_get raws (length (joined completed.ahead ++ completed.body)) ≡ Some (sync_raw 0 1)) none completed.sync) in absurd (cc)

pub not_changed_by_a_reservation : (ring : RingValue) → ¬ IsChanged (known ring reserved)
not_changed_by_a_reservation ring is = nothing_applied (change_words parent) reserved refl is.applied

pub own_while_changing : (c : ChangeValue) → IsChanging c → IsOwn c.sync c.sender
own_while_changing c is = is.own

pub sent_for_its_change : (c : Change) (tries : ℕ) (old new : SenderValue) (v : ChangeValue) → HasSentChange c tries old new v
    → (v.change ≡ c) × (v.sender ≡ new) × IsSent (change_words c) tries old new v.sync
sent_for_its_change c tries old new v did = (did.change_is, did.sender_is, did.sent)
