-- What a judgement leaves of words that somebody wrote over the awaited ones.
use Rattle.std.proofs.Common.{◌≡◌, ◌≢◌, ◌+◌, ℕ, Bool, true, List, ◌++◌, length, length-append, append_assoc, not, ◌==◌, ◌&&◌, rules, tests, sym, ap, subst, ◌∙◌, arith}
use Rattle.cmdcodec.specs.declared.raw.Raw.{Raw}
use Rattle.ringcore.specs.world.World.{Taken}
use Rattle.engine.specs.Counting.{taken}
use Rattle.engine.specs.Settled.{IsSettled}
use Rattle.engine.specs.Units.{UnitValue, HasReplacedAwaited, StaysSettled, took_awaited}

-- Two changes, one after another.
pub settled_both : (old between new : UnitValue) (first more : List Taken) → taken between.counts ≡ taken old.counts + length first
    → StaysSettled old between first → StaysSettled between new more → StaysSettled old new (first ++ more)
settled_both old between new first more many before after list length_is settled =
    let long : length (list ++ first) ≡ taken between.counts = length-append list first ∙ (ap (λ (n : ℕ). n + length first) length_is ∙ sym many) in
    subst (λ (l : List Taken). IsSettled new.caches.entries l) (append_assoc list first more) (after (list ++ first) long (before list length_is settled))

-- One command more was taken.
pub one_more : (awaited : Raw) (old new : UnitValue) → HasReplacedAwaited awaited old new → taken new.counts ≡ taken old.counts + length (took_awaited awaited)
one_more awaited old new replaced = ap (λ (u : UnitValue). taken u.counts) replaced.new_is ∙ counted old.counts.applied old.counts.replaced
  where
    counted : (applied replaced : ℕ) → applied + (replaced + 1) ≡ applied + replaced + 1
    counted applied replaced = omega arith

-- Words that are compared unequal.
pub differs : (a b : Raw) (r : Bool) → r ≡ not ((a.lo == b.lo) && (a.hi == b.hi)) → r ≡ true → a ≢ b
differs a b r is holds same = search (rules, tests)
