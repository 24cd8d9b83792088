-- A buffer whose held bytes move to the front, and that is then read into after them, through a slice.
use Rattle.std.proofs.Common.{◌≡◌, ℕ, ◌+◌, ◌-◌, ◌≤◌, List, ◌++◌, length, take, drop, ap, sym, ◌∙◌, arith, length-drop, take-add, zero-add}
use Rattle.std.specs.List.{copy_within}
use Rattle.std.proofs.lemmas.List.{drop-take, take-take, take-append-le}
use Rattle.std.proofs.lemmas.List.Edits.{take-paste}

moved_to_front : (items : List ℕ) (at filled : ℕ) → at ≤ filled → filled ≤ length items → take (filled - at) (copy_within items at filled 0) ≡ drop at (take filled items)
moved_to_front items at filled low high =
    let end : at + (filled - at) ≡ filled = omega arith in
    ap (λ n. take n (copy_within items at filled 0)) (sym (zero-add (filled - at)))
    ∙ take-paste items 0 (drop at items) (filled - at) (omega arith) (omega (arith, length-drop at items))
    ∙ sym (drop-take at (filled - at) items)
    ∙ ap (λ n. drop at (take n items)) end

-- What was held stands at the front of the slice after the read too.
pub record ReadsBehind (items new : List ℕ) (at filled : ℕ) : Type 0 where
  pub low : at ≤ filled
  pub high : filled ≤ length items
  pub long : length new ≡ length items
  pub front : take (filled - at) new ≡ drop at (take filled items)

pub reads_behind : (items moved slice new : List ℕ) (at filled : ℕ) → at ≤ filled → filled ≤ length items → moved ≡ copy_within items at filled 0 → slice ≡ moved
    → length new ≡ length items → take (filled - at) new ≡ take (filled - at) slice → ReadsBehind items new at filled
reads_behind items moved slice new at filled low high is_moved is_slice long front = record {
  low = low;
  high = high;
  long = long;
  front = front ∙ ap (take (filled - at)) (is_slice ∙ is_moved) ∙ moved_to_front items at filled low high;
}

-- what is held once `count` bytes were read: `all` and `behind` tell how the slice goes back into the buffer
pub held_after_read : (items new behind : List ℕ) (at filled all count : ℕ) → ReadsBehind items new at filled → all ≡ length items → filled - at + count ≤ length new
    → take (filled - at + count) (take all (new ++ behind)) ≡ drop at (take filled items) ++ take count (drop (filled - at) new)
held_after_read items new behind at filled all count h is_all within =
    let long = h.long in
    take-take (filled - at + count) all (new ++ behind) (omega arith)
    ∙ take-append-le (filled - at + count) new behind within
    ∙ take-add (filled - at) count new
    ∙ ap (λ held. held ++ take count (drop (filled - at) new)) h.front

-- if nothing was read
pub held_after_nothing : (items new behind : List ℕ) (at filled all count : ℕ) → ReadsBehind items new at filled → all ≡ length items → count ≡ 0
    → take (filled - at + count) (take all (new ++ behind)) ≡ drop at (take filled items)
held_after_nothing items new behind at filled all count h is_all nothing =
    let same : filled - at + count ≡ filled - at = omega arith in
    let low = h.low in
    let high = h.high in
    let long = h.long in
    ap (λ n. take n (take all (new ++ behind))) same
    ∙ take-take (filled - at) all (new ++ behind) (omega arith)
    ∙ take-append-le (filled - at) new behind (omega arith)
    ∙ h.front

-- if the read failed
pub held_after_failure : (items new behind : List ℕ) (at filled all : ℕ) → ReadsBehind items new at filled → all ≡ length items
    → take (filled - at) (take all (new ++ behind)) ≡ drop at (take filled items)
held_after_failure items new behind at filled all h is_all =
    let low = h.low in
    let high = h.high in
    let long = h.long in
    take-take (filled - at) all (new ++ behind) (omega arith) ∙ take-append-le (filled - at) new behind (omega arith) ∙ h.front
