use Rattle.std.proofs.Common.{◌≡◌, ℕ, ◌+◌, ◌<◌, ◌≤◌, ◌^◌, true, false, inl, inr, IsSome, Some, None, refl, sym, ◌∙◌, ap, subst, List, [], ◌∷◌, ◌++◌, arith, is_lt}
use Rattle.std.proofs.Math.Pow.{pow_mono}
use Rattle.std.proofs.lemmas.Bool.{cases_lt}
use Rattle.std.specs.declared.cmp.Ordering.TheVariants.{Less}
use Rattle.std.specs.declared.ops.Bound.TheVariants.{Unbounded, Excluded}
use Rattle.std.specs.BTreeMap.{BTreeMap, get}
use Rattle.std.specs.BTreeMap.Range.{IsEntryInRange}
use Rattle.cmdcodec.specs.declared.command.Command.{Command}
use Rattle.caches.specs.declared.key.Key.{Key}
use Rattle.caches.specs.declared.key.Owner.{Owner}
use Rattle.caches.specs.declared.tag.Entry.{Entry}
use Rattle.caches.specs.Blocks.{IsBlock}
use Rattle.caches.specs.Covers.{covers}
use Rattle.caches.specs.Keys.{covers_key, least, owner_of, page_of, span_of, tag_of, IsKept}
use Rattle.caches.specs.Sweep.{IsKeeping}
use Rattle.caches.specs.Walks.{IsNoneFrom, IsLastKey}
use Rattle.caches.proofs.Back.{IsFront, last_entry, front_more, none_between, none_left}
use Rattle.caches.proofs.KeyOrder.{key_cmp, key_total, key_exact, before_page, block_order, from_least, less_at_most, own_between}
use Rattle.caches.proofs.Pruned.{aligned_key, page_back}
use Rattle.caches.proofs.Rest.{rest_start}
use Rattle.caches.proofs.Sweeping.{lt_is}
use Rattle.caches.proofs.walk.last_covered.Goals as goal

-- Of two powers the greater has the greater exponent.
longer : (n m : ℕ) → 2 ^ n < 2 ^ m → n < m
longer n m h = elim (cases_lt n m) as (λ _. n < m) [
  | inl less ↦ less
  | inr from ↦ let more : 2 ^ m ≤ 2 ^ n = pow_mono from in absurd (omega arith)
]

module _ (command : Command) (m : BTreeMap Key Entry) (end : Key) (w : Owner) (first : ℕ) (keeping : IsKeeping key_cmp m) (own : owner_of end ≡ Some w)
    (reach : (q : Key) → covers_key command q ≡ true → (owner_of q ≡ Some w) × (first < page_of q + 2 ^ span_of q)) where
  all_looked_at : IsFront key_cmp (covers_key command) m end [] → IsNoneFrom key_cmp (covers_key command) m end w first 0
  all_looked_at front = record {
    none = λ q passes before low. none_left key_cmp (covers_key command) m end key_total key_exact front q before passes;
    low = omega arith;
    begins = inl refl;
  }

  module _ (k : Key) (e : Entry) (t all : List (Key × Entry)) (is : all ≡ t ++ (k, e) ∷ []) (front : IsFront key_cmp (covers_key command) m end all) where
    here : IsFront key_cmp (covers_key command) m end (t ++ (k, e) ∷ [])
    here = subst (IsFront key_cmp (covers_key command) m end) is front

    entry : IsEntryInRange key_cmp Unbounded (Excluded end) m (k, e)
    entry = last_entry key_cmp (covers_key command) m end key_total key_exact t (k, e) here

    kept : IsKept (tag_of k) e
    kept = keeping k e entry.1

    before : key_cmp k end ≡ Less
    before = entry.0.1

    is_covered : covers_key command k ≡ covers command e.tag
    is_covered = sym (ap (covers command) kept.own)

    behind : (q : Key) → key_cmp k q ≡ Less → key_cmp q end ≡ Less → covers_key command q ≡ true → get key_cmp m q ≡ None
    behind q = none_between key_cmp (covers_key command) m end key_total key_exact t (k, e) here q

    of_other : is_lt (key_cmp k (least w 0 0)) ≡ true → IsNoneFrom key_cmp (covers_key command) m end w first 0
    of_other below = record {
      none = λ q passes earlier low. behind q (less_at_most k (least w 0 0) q (lt_is _ below) (from_least w q (reach q passes).0)) earlier passes;
      low = omega arith;
      begins = inl refl;
    }

    ends_before : is_lt (key_cmp k (least w 0 0)) ≡ false → page_of k + 2 ^ span_of k ≤ first → IsNoneFrom key_cmp (covers_key command) m end w first (page_of k)
    ends_before from ends =
        let last : owner_of k ≡ Some w = (own_between w (page_of end + 1) k (key_total.trans k end (least w (page_of end + 1) 0) before (before_page w (page_of end + 1) end own (omega arith))) from).0 in
        record {
          none = λ q passes earlier low. behind q (block_order w k q last (reach q passes).0 low (λ same.
              let past : first < page_of q + 2 ^ span_of q = (reach q passes).1 in
              longer (span_of k) (span_of q) (omega arith))) earlier passes;
          low = omega arith;
          begins = inr (k, last, refl, before);
        }

    is_last : covers_key command k ≡ true → IsLastKey key_cmp (covers_key command) m end k
    is_last passes = record { before = before; passes = passes; there = subst IsSome (sym entry.1) refl; last = behind }

pub loop-key-init : goal.loop-key-init
loop-key-init c = rest_start key_cmp (covers_key c.args.command.now) c.args.map.now Unbounded (Excluded c.args.end) key_total key_exact c.range-entries.result (c.range-entries.ensures.between tt) c.range-entries.ensures.ordered (c.range-entries.ensures.in_range tt).0

pub returns-then-is_lt : goal.returns-then-is_lt
returns-then-is_lt c = of_other c.args.command.now c.args.map.now c.args.end c.args.owner c.args.first c.requires.keeping c.requires.own c.requires.reach c.in-Some.key.now c.in-Some.entry.now c.next_back.new.self c.loop-key.entries c.in-Some.ensures.steps c.loop-key.invariant
    (ap (λ (k : Key). is_lt (key_cmp c.in-Some.key.now k)) (sym c.least-least.ensures) ∙ sym (ap is_lt c.cmp.ensures) ∙ sym c.is_lt.ensures ∙ c.if-is_lt.true)

pub block_end-requires-clause-span : goal.block_end-requires-clause-span
block_end-requires-clause-span c = (aligned_key c.in-Some.key.now (kept c.args.command.now c.args.map.now c.args.end c.args.owner c.args.first c.requires.keeping c.requires.own c.requires.reach c.in-Some.key.now c.in-Some.entry.now c.next_back.new.self c.loop-key.entries c.in-Some.ensures.steps c.loop-key.invariant).well_formed).0

pub block_end-requires-clause-page : goal.block_end-requires-clause-page
block_end-requires-clause-page c = subst (λ page. page < 2 ^ 52) (page_back c.in-Some.key.now) (kept c.args.command.now c.args.map.now c.args.end c.args.owner c.args.first c.requires.keeping c.requires.own c.requires.reach c.in-Some.key.now c.in-Some.entry.now c.next_back.new.self c.loop-key.entries c.in-Some.ensures.steps c.loop-key.invariant).in_space

pub returns-then-block_end-first : goal.returns-then-block_end-first
returns-then-block_end-first c = rw c.page.ensures (ends_before c.args.command.now c.args.map.now c.args.end c.args.owner c.args.first c.requires.keeping c.requires.own c.requires.reach c.in-Some.key.now c.in-Some.entry.now c.next_back.new.self c.loop-key.entries c.in-Some.ensures.steps c.loop-key.invariant
    (ap (λ (k : Key). is_lt (key_cmp c.in-Some.key.now k)) (sym c.least-least.ensures) ∙ sym (ap is_lt c.cmp.ensures) ∙ sym c.is_lt.ensures ∙ c.if-is_lt.false)
    (omega (arith, c.block_end.ensures, c.if-block_end-first.true)))

pub covers-requires : goal.covers-requires
covers-requires c =
    let k = kept c.args.command.now c.args.map.now c.args.end c.args.owner c.args.first c.requires.keeping c.requires.own c.requires.reach c.in-Some.key.now c.in-Some.entry.now c.next_back.new.self c.loop-key.entries c.in-Some.ensures.steps c.loop-key.invariant in
    subst (λ (e : Entry). IsBlock e.tag) (sym c.get.ensures) (subst IsBlock (sym k.own) k.well_formed)

pub returns-then-covers : goal.returns-then-covers
returns-then-covers c = is_last c.args.command.now c.args.map.now c.args.end c.args.owner c.args.first c.requires.keeping c.requires.own c.requires.reach c.in-Some.key.now c.in-Some.entry.now c.next_back.new.self c.loop-key.entries c.in-Some.ensures.steps c.loop-key.invariant
    (is_covered c.args.command.now c.args.map.now c.args.end c.args.owner c.args.first c.requires.keeping c.requires.own c.requires.reach c.in-Some.key.now c.in-Some.entry.now c.next_back.new.self c.loop-key.entries c.in-Some.ensures.steps c.loop-key.invariant ∙ ap (λ (e : Entry). covers c.args.command.now e.tag) (sym c.get.ensures) ∙ sym c.covers.ensures ∙ c.if-covers.true)

pub loop-key-preserved : goal.loop-key-preserved
loop-key-preserved c =
    front_more key_cmp (covers_key c.args.command.now) c.args.map.now c.args.end key_total key_exact c.next_back.new.self (c.in-Some.key.now, c.in-Some.entry.now)
    (here c.args.command.now c.args.map.now c.args.end c.args.owner c.args.first c.requires.keeping c.requires.own c.requires.reach c.in-Some.key.now c.in-Some.entry.now c.next_back.new.self c.loop-key.entries c.in-Some.ensures.steps c.loop-key.invariant)
    (is_covered c.args.command.now c.args.map.now c.args.end c.args.owner c.args.first c.requires.keeping c.requires.own c.requires.reach c.in-Some.key.now c.in-Some.entry.now c.next_back.new.self c.loop-key.entries c.in-Some.ensures.steps c.loop-key.invariant ∙ ap (λ (e : Entry). covers c.args.command.now e.tag) (sym c.get.ensures) ∙ sym c.covers.ensures ∙ c.if-covers.false)

pub returns : goal.returns
returns c = all_looked_at c.args.command.now c.args.map.now c.args.end c.args.owner c.args.first c.requires.keeping c.requires.own c.requires.reach
    (subst (IsFront key_cmp (covers_key c.args.command.now) c.args.map.now c.args.end) c.in_default.ensures.steps.0 c.loop-key.invariant)
