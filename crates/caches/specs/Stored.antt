-- Caches as callers see them.
use Rattle.std.specs.Prelude.{◌≡◌, ◌↔◌, ℕ, Option, Some, None, Result, Err, IfOk, OnErr, All}
use Rattle.std.proofs.Common.{refl}
use Rattle.std.specs.Global.{Vec}
use Rattle.std.specs.Result.{MatchResult}
use Rattle.std.specs.Coded.{Coded, code_by, coded×, coded_ℕ}
use Rattle.std.specs.FinMap as finite
use Rattle.caches.specs.declared.tag.Tag.{Tag}
use Rattle.caches.specs.declared.tag.Entry.{Entry}
use Rattle.caches.specs.declared.fault.CacheFault.{CacheFault}
use Rattle.caches.specs.declared.fault.CacheFault.TheVariants.{Full, BadBlock, NoMemory, BadCapacity}
use Rattle.caches.specs.Blocks.{IsBlock}
use Rattle.caches.specs.TagOrder.{tag_code, entry_code}
use Rattle.caches.specs.Held.{Entries}

-- caches: their capacity and the entries they hold
pub record Stored : Type 0 where
  pub capacity : ℕ
  pub entries : Entries

abbrev pub stored_code : Coded Stored
stored_code = code_by (ℕ × Entries) (coded× coded_ℕ (finite.code tag_code entry_code)) (λ s. (s.capacity, s.entries)) (λ p. record { capacity = p.0; entries = p.1 }) (λ _. refl)

-- The entry is put in and the result is the one held under its tag before, or there is no memory for a new
-- tag.
abbrev pub IsFilled : Entries → Entry → Entries → Result (Option Entry) CacheFault → Type 0
IsFilled old entry new result = MatchResult result
    (λ was. (was ≡ finite.get old entry.tag) × (new ≡ finite.insert old entry.tag entry))
    (λ fault. (fault ≡ NoMemory) × (new ≡ old) × (finite.get old entry.tag ≡ None))

-- ---- the answers of calls

-- The entry that was held under this tag before, if any; C2 exactly if the tag's block isn't well formed; C1
-- exactly if it is, the tag is new and the caches are full; C3 only if the tag is new.
pub record IsFillAnswer (held : Stored) (tag : Tag) (answer : Result (Option Entry) CacheFault) : Type 0 where
  pub was : IfOk answer (λ was. was ≡ finite.get held.entries tag)
  pub bad : (answer ≡ Err BadBlock) ↔ ¬ IsBlock tag
  pub full : (answer ≡ Err Full) ↔ (IsBlock tag × (finite.get held.entries tag ≡ None) × (finite.len held.entries ≡ held.capacity))
  pub named : ¬ (answer ≡ Err BadCapacity)
  pub new_only : answer ≡ Err NoMemory → finite.get held.entries tag ≡ None

-- All entries in tag order, each held under its own tag. The only error is C3.
pub record IsListAnswer (held : Entries) (answer : Result (Vec Entry) CacheFault) : Type 0 where
  pub ok : IfOk answer (λ list. list.items ≡ finite.values held)
  pub own : IfOk answer (λ list. All (λ entry. finite.get held entry.tag ≡ Some entry) list.items)
  pub err : OnErr answer (answer ≡ Err NoMemory)
