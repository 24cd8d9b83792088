-- What a command completes, by its opcode and its address.
use Rattle.std.proofs.Common.{◌≡◌, ℕ, Bool, true, false, ◌&&◌, Some, None, refl, ap, ap₂, ◌∙◌, arith, eq-eqb}
use Rattle.std.proofs.lemmas.Bool.{ne_eqb}
use Rattle.std.specs.Prelude.{◌≢◌, ◌==◌, if◌then◌else◌}
use Rattle.cmdcodec.specs.declared.raw.Raw.{Raw}
use Rattle.cmdcodec.specs.Opcodes.{is_sync}
use Rattle.cmdcodec.specs.ClosingSync.{cell_address}
use Rattle.ring.specs.consumer.Completing.{sync_sender, sync_number, IsClosingSync}
use Rattle.engine.specs.declared.completion.Completion.{Completion}
use Rattle.engine.specs.Completions.{is_to_a_cell, completion_of}

abbrev completion_by : ℕ → ℕ → Completion
completion_by sender number = record { sender = sender; number = number }

none_by : (test : Bool) (completion : Completion) → test ≡ false → None ≡ (if test then Some completion else None)
none_by true completion is = absurd (cc)
none_by false completion is = refl

some_by : (test : Bool) (completion : Completion) → test ≡ true → Some completion ≡ (if test then Some completion else None)
some_by true completion is = refl
some_by false completion is = absurd (cc)

-- It is no CMD_SYNC.
pub of_no_sync : (raw : Raw) → is_sync raw ≡ false → None ≡ completion_of raw
unfolding completion_of
of_no_sync raw other =
    none_by (is_to_a_cell raw) (completion_by (sync_sender raw) (sync_number raw)) (ap (λ (b : Bool). b && (raw.hi == cell_address (sync_sender raw))) other)

-- Its address is no completion cell.
pub of_no_cell : (raw : Raw) → is_sync raw ≡ true → ((sender : ℕ) → raw.hi ≢ cell_address sender) → None ≡ completion_of raw
unfolding completion_of
of_no_cell raw sync none =
    none_by (is_to_a_cell raw) (completion_by (sync_sender raw) (sync_number raw))
    (ap₂ (λ (b c : Bool). b && c) sync (ne_eqb raw.hi (cell_address (sync_sender raw)) (none (sync_sender raw))))

-- It is a CMD_SYNC to this sender's cell.
pub of_cell : (raw : Raw) (sender number : ℕ) → is_sync raw ≡ true → raw.hi ≡ cell_address sender → number ≡ sync_number raw → Some (completion_by sender number) ≡ completion_of raw
unfolding completion_of
of_cell raw sender number sync at number_is =
    ap₂ (λ (s n : ℕ). Some (completion_by s n)) owner number_is
    ∙ some_by (is_to_a_cell raw) (completion_by (sync_sender raw) (sync_number raw))
    (ap₂ (λ (b c : Bool). b && c) sync (eq-eqb raw.hi (cell_address (sync_sender raw)) (at ∙ ap cell_address owner)))
  where
    owner : sender ≡ sync_sender raw
    owner = omega (arith, at)

pub to_a_cell : (raw : Raw) → is_sync raw ≡ true → IsClosingSync raw → is_to_a_cell raw ≡ true
to_a_cell raw sync closing =
    let at = closing.address in
    let owner : closing.sender ≡ sync_sender raw = omega (arith, at) in
    ap₂ (λ (b c : Bool). b && c) sync (eq-eqb raw.hi (cell_address (sync_sender raw)) (at ∙ ap cell_address owner))
