-- A unit that has taken nothing is filled with the entries of a list.
use Rattle.std.proofs.Common.{◌≡◌, ◌≤◌, ◌<◌, ◌+◌, ℕ, List, [], length, get_or, Err, refl, sym, ap, ◌∙◌, subst, arith}
use Rattle.std.specs.Prelude.{Some, All}
use Rattle.std.specs.FinMap as finite
use Rattle.std.specs.FinMap.{len-entries}
use Rattle.std.proofs.lemmas.List.{length-map}
use Rattle.std.proofs.lemmas.List.Elements.{All-same}
use Rattle.caches.specs.declared.tag.Entry.{Entry}
use Rattle.caches.specs.declared.fault.CacheFault.{CacheFault}
use Rattle.caches.specs.declared.fault.CacheFault.TheVariants.{Full, BadBlock, NoMemory, BadCapacity}
use Rattle.caches.specs.Held.{Entries, held}
use Rattle.caches.specs.Stored.{IsFillAnswer}
use Rattle.engine.specs.Stops.{unstopped}
use Rattle.engine.specs.Counting.{CountsValue, none_counted, taken}
use Rattle.engine.specs.Units.{UnitValue, new_unit, filled, with_entries}
use Rattle.renewal.specs.Carried.{reborn, IsCarried, IsUncarried}
use Rattle.renewal.proofs.Carrying.{AreIn, none_in, one_more_in, each_in}

-- Each entry of a list is held under its own tag, so the one read there is.
pub owned : (old : Entries) (list items : List Entry) → All (λ (e : Entry). finite.get old e.tag ≡ Some e) items → list ≡ items → (many : ℕ) (x : Entry) → many < length list → x ≡ get_or list many x
    → finite.get old x.tag ≡ Some x
owned old list items all same many x below at =
    subst (λ (e : Entry). finite.get old e.tag ≡ Some e) (sym at) (All-same (λ (e : Entry). finite.get old e.tag ≡ Some e) list items same all many x below)

-- It holds the first `many` of the list.
pub record HasFilled (capacity : ℕ) (old : Entries) (list : List Entry) (many : ℕ) (unit : UnitValue) : Type 0 where
  pub stop_is : unit.stop ≡ unstopped
  pub counts_are : unit.counts ≡ none_counted
  pub capacity_is : unit.caches.capacity ≡ capacity
  pub entries : AreIn old list many unit.caches.entries

pub none_filled : (capacity : ℕ) (old : Entries) (list : List Entry) (unit : UnitValue) → unit ≡ new_unit (record { capacity = capacity; entries = held [] }) → HasFilled capacity old list 0 unit
none_filled capacity old list unit is = record {
  stop_is = ap (λ (u : UnitValue). u.stop) is;
  counts_are = ap (λ (u : UnitValue). u.counts) is;
  capacity_is = ap (λ (u : UnitValue). u.caches.capacity) is;
  entries = none_in old list unit.caches.entries (ap (λ (u : UnitValue). u.caches.entries) is);
}

module _ (capacity : ℕ) (old : Entries) (list : List Entry) (many : ℕ) (unit : UnitValue) (was : HasFilled capacity old list many unit)
    (x : Entry) (below : many < length list) (at : x ≡ get_or list many x) (own : finite.get old x.tag ≡ Some x) where
  born_first : filled x.tag x.value unit ≡ finite.insert unit.caches.entries x.tag (reborn x)
  born_first = ap (λ (c : CountsValue). finite.insert unit.caches.entries x.tag (record { tag = x.tag; value = x.value; born = taken c })) was.counts_are

  pub one_more_filled : (new : UnitValue) → new ≡ with_entries unit (filled x.tag x.value unit) → HasFilled capacity old list (many + 1) new
  one_more_filled new is = record {
    stop_is = ap (λ (u : UnitValue). u.stop) is ∙ was.stop_is;
    counts_are = ap (λ (u : UnitValue). u.counts) is ∙ was.counts_are;
    capacity_is = ap (λ (u : UnitValue). u.caches.capacity) is ∙ was.capacity_is;
    entries = subst (AreIn old list (many + 1)) (sym (ap (λ (u : UnitValue). u.caches.entries) is ∙ born_first)) (one_more_in old unit.caches.entries x own list many below at was.entries);
  }

  -- It isn't full yet if there is room for all of the list.
  pub not_filled : length list ≤ capacity → (fault : CacheFault) → IsFillAnswer unit.caches x.tag (Err fault) → IsUncarried capacity old fault
  not_filled room Full answer =
      let full = (answer.full.0 refl).2 in
      let few = was.entries.few in
      let same = was.capacity_is in
      absurd (omega (arith, full, few, same))
  not_filled room BadBlock answer = record { entry = x; held = own; bad = answer.bad.0 refl }
  not_filled room NoMemory answer = tt
  not_filled room BadCapacity answer = answer.named refl

pub as_many : (old : Entries) → length (finite.values old) ≡ finite.len old
as_many old = let values = length-map (finite.entries old) (λ p. p.1) in let all = len-entries old in omega (arith, values, all)

pub all_filled : (capacity : ℕ) (old new : UnitValue) (list : List Entry) (many : ℕ) → list ≡ finite.values old.caches.entries → many ≡ length list → length list ≤ capacity
    → HasFilled capacity old.caches.entries list many new → IsCarried capacity old new
all_filled capacity old new list many whole all room was =
    let are : AreIn old.caches.entries (finite.values old.caches.entries) (length (finite.values old.caches.entries)) new.caches.entries =
    subst (λ (l : List Entry). AreIn old.caches.entries l (length l) new.caches.entries) whole
    (subst (λ (n : ℕ). AreIn old.caches.entries list n new.caches.entries) all was.entries) in
    record {
      each = each_in old.caches.entries new.caches.entries are;
      only = are.only;
      room = λ own. let listed = ap length whole in let held = as_many old.caches.entries in omega (arith, listed, held, room);
      capacity_is = was.capacity_is;
      stop_is = was.stop_is;
      counts_are = was.counts_are;
    }
