-- What makes a body.
use Rattle.std.proofs.Common.{◌≡◌, ℕ, zero, suc, ◌+◌, ◌-◌, ◌*◌, ◌^◌, ◌<◌, ◌≤◌, ◌==◌, true, false, inl, inr, List, ◌++◌, length, map, refl, ap, ◌∙◌, length-append, arith}
use Rattle.std.proofs.lemmas.Bool.{cases_Bool, or_from}
use Rattle.std.proofs.lemmas.List.{length-map}
use Rattle.std.proofs.lemmas.List.Folds.{list_any-append}
use Rattle.std.specs.List.{list_any}
use Rattle.cmdcodec.specs.declared.raw.Raw.{Raw}
use Rattle.cmdcodec.specs.declared.command.Command.{Command}
use Rattle.cmdcodec.specs.declared.command.Command.TheVariants.{TlbiNhVa}
use Rattle.cmdcodec.specs.declared.reach.Reach.{Reach}
use Rattle.cmdcodec.specs.declared.reach.Reach.TheVariants.{Page, Range}
use Rattle.cmdcodec.specs.Fields.{field}
use Rattle.cmdcodec.specs.Words.{encoding, steps_word}
use Rattle.cmdcodec.specs.Opcodes.{is_sync}
use Rattle.cmdcodec.specs.Bodies.{IsBody}
use Rattle.batch.specs.Ranges.{reached_of, reach_of, commands_up_to, range_commands}

-- A body with some more commands is a body if they are few and none of them is a CMD_SYNC.
pub longer_body : (old new : List Raw) (commands : List Command) → new ≡ old ++ map encoding commands → 0 < length commands → length new ≤ 63
    → list_any is_sync old ≡ false → list_any is_sync (map encoding commands) ≡ false → IsBody new
longer_body old new commands appended some few before no_sync =
    let long = ap length appended ∙ length-append old (map encoding commands) in
    record {
      some = omega (arith, long, length-map commands encoding, some);
      few = few;
      no_sync = ap (list_any is_sync) appended ∙ list_any-append is_sync old (map encoding commands) ∙ or_from (list_any is_sync old) (list_any is_sync (map encoding commands)) before no_sync;
    }

steps_low : (reach : Reach) (more : ℕ) → field (0x12 + steps_word reach + more * 256) 7 0 ≡ 0x12
steps_low Page more = omega arith
steps_low (Range tg num scale) more = omega arith

invalidation_no_sync : (vmid asid page : ℕ) (reach : Reach) → is_sync (encoding (TlbiNhVa vmid asid true page reach)) ≡ false
unfolding encoding
invalidation_no_sync vmid asid page reach =
    let low = steps_low reach (vmid * 2 ^ 24 + asid * 2 ^ 40) in
    let word : 0x12 + steps_word reach + vmid * 2 ^ 32 + asid * 2 ^ 48 ≡ 0x12 + steps_word reach + (vmid * 2 ^ 24 + asid * 2 ^ 40) * 256 = omega arith in
    rw (ap (λ lo. field lo 7 0) word ∙ low) refl

no_sync_up_to : (most vmid asid page pages : ℕ) → list_any is_sync (map encoding (commands_up_to most vmid asid page pages)) ≡ false
unfolding commands_up_to
no_sync_up_to zero vmid asid page pages = refl
no_sync_up_to (suc most) vmid asid page pages =
    elim (cases_Bool (pages == 0)) [
      | inl is ↦ rw is refl
      | inr isnt ↦ rw isnt (or_from (is_sync (encoding (TlbiNhVa vmid asid true page (reach_of pages)))) _
          (invalidation_no_sync vmid asid page (reach_of pages))
          (no_sync_up_to most vmid asid (page + reached_of pages) (pages - reached_of pages)))
    ]

pub range_no_sync : (vmid asid page pages : ℕ) → list_any is_sync (map encoding (range_commands vmid asid page pages)) ≡ false
unfolding range_commands
range_no_sync vmid asid page pages = no_sync_up_to pages vmid asid page pages
