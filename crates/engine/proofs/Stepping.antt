-- What always holds of the unit and the consumer is kept by a step.
use Rattle.std.proofs.Common.{◌≡◌, ◌+◌, ℕ, suc, Bool, List, [], ◌∷◌, ◌++◌, length, length-append, Option, Some, None, sym, ap, subst, ◌∙◌, arith}
use Rattle.std.proofs.lemmas.List.{append-nil}
use Rattle.cmdcodec.specs.declared.raw.Raw.{Raw}
use Rattle.cmdcodec.specs.declared.command.Command.{Command}
use Rattle.cmdcodec.specs.declared.ill.Ill.{Ill}
use Rattle.qindex.specs.declared.control.Control.{Control}
use Rattle.ringcore.specs.declared.world.event.Event.TheVariants.{Look}
use Rattle.ringcore.specs.world.Trails.{Trail}
use Rattle.ringcore.specs.world.World.{Taken}
use Rattle.ring.specs.consumer.Consumers.{ConsumerValue}
use Rattle.ring.specs.consumer.Pendings.{PendingValue, HasSeen, reads_from}
use Rattle.ring.specs.consumer.Taking.{with_trail, TookNone, TookUnwritten, TookRun}
use Rattle.ring.specs.consumer.Completing.{taken_of, with_outcome}
use Rattle.ringcore.specs.declared.world.event.Outcome.{Outcome}
use Rattle.caches.specs.Held.{Entries}
use Rattle.engine.specs.Settled.{IsSettled}
use Rattle.engine.specs.Counting.{CountsValue, taken, AreCountsOf}
use Rattle.engine.specs.Units.{UnitValue, IsSettledUnit, StaysSettled, IsApplied, IsStoppedAt, IsReplaced}
use Rattle.engine.specs.Engines.{AreTogether, IsEngine, consumer_in}
use Rattle.engine.proofs.Counted.{StaysCounted}

-- Reads take nothing.
reads_keep : (offset : ℕ) (raws : List Raw) (t : Trail) → taken_of (reads_from offset raws t) ≡ taken_of t
reads_keep offset [] t = λ _. taken_of t
reads_keep offset (raw ∷ raws) t = reads_keep (suc offset) raws _

-- What was taken before a run was read is what was taken after that, whatever the device.
pub taken_before_reads : {D : Type 0} (most : ℕ) (d : ConsumerValue D) (p : PendingValue D) → TookRun most d p → taken_of p.consumer.trail ≡ taken_of d.trail
taken_before_reads {D = D} most d p took = ap (λ (x : ConsumerValue D). taken_of x.trail) took.trail_is ∙ reads_keep 0 p.raws _

-- That the two are together depends on the consumer's trail, not on its history.
knowing : (e : ConsumerValue UnitValue) (unit : UnitValue) → AreTogether (record e { history = [] }) unit → AreTogether e unit
knowing e unit t = record { many = t.many; counted = t.counted; settled = t.settled; seen = λ raw is half. t.seen raw is half }

pub still_known : (d e : ConsumerValue UnitValue) (unit : UnitValue) → AreTogether d unit → record e { history = [] } ≡ record d { history = [] } → AreTogether e unit
still_known d e unit t is =
    knowing e unit (subst (λ (x : ConsumerValue UnitValue). AreTogether x unit) (sym is) (record { many = t.many; counted = t.counted; settled = t.settled; seen = λ raw is half. t.seen raw is half }))

module _ (d : ConsumerValue UnitValue) (unit : UnitValue) (t : AreTogether d unit) where
  -- ---- nothing was taken
  pub still_looked : (control : Control) (e : ConsumerValue UnitValue) → record e { history = [] } ≡ with_trail (record d { history = [] }) (Look control ∷ d.trail) → AreTogether e unit
  still_looked control e is =
      knowing e unit (subst (λ (x : ConsumerValue UnitValue). AreTogether x unit) (sym is) (record { many = t.many; counted = t.counted; settled = t.settled; seen = λ raw is half. t.seen raw is half }))

  pub still_none : (closed : Bool) (e : ConsumerValue UnitValue) → TookNone closed d e → AreTogether e unit
  still_none closed e took = still_looked took.seen e took.trail_is

  pub still_unwritten : (most : ℕ) (e : ConsumerValue UnitValue) → TookUnwritten most d e → AreTogether e unit
  still_unwritten most e took =
      knowing e unit (subst (λ (x : ConsumerValue UnitValue). AreTogether x unit) (sym took.trail_is) (record { many = t.many; counted = t.counted; settled = t.settled; seen = λ raw is half. t.seen raw is half }))

  module _ (most : ℕ) (p : PendingValue UnitValue) (took : TookRun most d p) where
    -- What was taken before the reads is what was taken after them.
    pub taken_before : taken_of p.consumer.trail ≡ taken_of d.trail
    taken_before = taken_before_reads most d p took

    pub taken_settled : (new : UnitValue) (more : List Taken) → StaysSettled unit new more → IsSettled new.caches.entries (taken_of p.consumer.trail ++ more)
    taken_settled new more keeps =
        subst (λ (l : List Taken). IsSettled new.caches.entries (l ++ more)) (sym taken_before) (keeps (taken_of d.trail) (sym t.many) t.settled)

    pub one_settled : (new : UnitValue) (outcome : Outcome) (raw other : Raw) → raw ≡ other → StaysSettled unit new (with_outcome outcome raw ∷ [])
        → IsSettled new.caches.entries (taken_of p.consumer.trail ++ with_outcome outcome other ∷ [])
    one_settled new outcome raw other same keeps =
        subst (λ (r : Raw). IsSettled new.caches.entries (taken_of p.consumer.trail ++ with_outcome outcome r ∷ [])) same (taken_settled new (with_outcome outcome raw ∷ []) keeps)

    -- What is asked of the unit when it is lent: it counted what was taken before together with these, and is
    -- settled for it.
    pub taken_unit : (new : UnitValue) (more : List Taken) → StaysSettled unit new more → StaysCounted unit new more → IsSettledUnit new (taken_of p.consumer.trail ++ more)
    taken_unit new more settles counts = record {
      entries = taken_settled new more settles;
      counted = counts (taken_of p.consumer.trail) (subst (λ (l : List Taken). AreCountsOf l unit.counts) (sym taken_before) t.counted);
    }

    pub one_unit : (new : UnitValue) (outcome : Outcome) (raw other : Raw) → raw ≡ other → StaysSettled unit new (with_outcome outcome raw ∷ [])
        → StaysCounted unit new (with_outcome outcome raw ∷ []) → IsSettledUnit new (taken_of p.consumer.trail ++ with_outcome outcome other ∷ [])
    one_unit new outcome raw other same settles counts =
        subst (λ (r : Raw). IsSettledUnit new (taken_of p.consumer.trail ++ with_outcome outcome r ∷ [])) same (taken_unit new (with_outcome outcome raw ∷ []) settles counts)

    -- ---- some commands were taken
    pub taken_together : (e : ConsumerValue UnitValue) (new : UnitValue) (more : List Taken) → taken_of e.trail ≡ taken_of p.consumer.trail ++ more
        → IsSettled new.caches.entries (taken_of p.consumer.trail ++ more) → taken new.counts ≡ taken unit.counts + length more → StaysCounted unit new more → new.stop.next ≡ None
        → AreTogether e new
    taken_together e new more longer settled counted keeps none = record {
      many =
          let m = t.many in
          let same : length (taken_of p.consumer.trail) ≡ length (taken_of d.trail) = ap (λ (l : List Taken). length l) taken_before in
          let grown : length (taken_of e.trail) ≡ length (taken_of p.consumer.trail) + length more = ap (λ (l : List Taken). length l) longer ∙ length-append (taken_of p.consumer.trail) more in
          omega (arith, m, same, grown, counted);
      counted =
          subst (λ (l : List Taken). AreCountsOf l new.counts) (sym longer)
          (keeps (taken_of p.consumer.trail) (subst (λ (l : List Taken). AreCountsOf l unit.counts) (sym taken_before) t.counted));
      settled = subst (λ (l : List Taken). IsSettled new.caches.entries l) (sym longer) settled;
      seen = λ raw is. absurd (none_some raw (sym none ∙ is));
    }
      where
        none_some : (raw : Raw) → ◌≡◌ {A = Option Raw} None (Some raw) → ⊥
        none_some raw is = absurd (cc)

    -- ---- it stopped
    pub stopped_together : (e : ConsumerValue UnitValue) (new : UnitValue) (raw at_head : Raw) (ill : Ill) → raw ≡ at_head → e ≡ p.consumer → HasSeen e.trail at_head
        → IsStoppedAt raw ill unit new → AreTogether e new
    stopped_together e new raw at_head ill same e_is seen stop = record {
      many = ap (λ (u : UnitValue). taken u.counts) stop.new_is ∙ t.many ∙ sym (ap (λ (l : List Taken). length l) same_taken);
      counted = subst (λ (x : List Taken × CountsValue). AreCountsOf x.0 x.1) (λ k. (sym same_taken k, sym same_counts k)) t.counted;
      settled = subst (λ (x : List Taken × Entries). IsSettled x.1 x.0) (λ k. (sym same_taken k, sym same_entries k)) t.settled;
      seen = λ other is. subst (λ (r : Raw). HasSeen e.trail r) (sym same ∙ some_raw raw other (sym (ap (λ (u : UnitValue). u.stop.next) stop.new_is) ∙ is)) seen;
    }
      where
        same_taken : taken_of e.trail ≡ taken_of d.trail
        same_taken = ap (λ (x : ConsumerValue UnitValue). taken_of x.trail) e_is ∙ taken_before

        same_counts : new.counts ≡ unit.counts
        same_counts = ap (λ (u : UnitValue). u.counts) stop.new_is

        same_entries : new.caches.entries ≡ unit.caches.entries
        same_entries = ap (λ (u : UnitValue). u.caches.entries) stop.new_is

        some_raw : (a b : Raw) → Some a ≡ Some b → a ≡ b
        some_raw a b is = cc

pub applied_more : (raw : Raw) (command : Command) (removed : ℕ) (old new : UnitValue) → IsApplied raw command removed old new → taken new.counts ≡ taken old.counts + 1
applied_more raw command removed old new is = ap taken is.counts ∙ (let e : old.counts.applied + 1 + old.counts.replaced ≡ taken old.counts + 1 = omega arith in e)

pub replaced_more : (raw : Raw) (ill : Ill) (old new : UnitValue) → IsReplaced raw ill old new → taken new.counts ≡ taken old.counts + 1
replaced_more raw ill old new is =
    ap (λ (u : UnitValue). taken u.counts) is.new_is ∙ (let e : old.counts.applied + (old.counts.replaced + 1) ≡ taken old.counts + 1 = omega arith in e)

pub engine_has : (o : Option (ConsumerValue UnitValue)) (d : ConsumerValue UnitValue) (unit : UnitValue) → o ≡ Some d → IsEngine o unit → AreTogether d unit
engine_has o d unit is whole = subst (λ (x : Option (ConsumerValue UnitValue)). IsEngine x unit) is whole

-- ---- the unit changed, and nothing was taken

pub still_counted : (o : Option (ConsumerValue UnitValue)) (old new : UnitValue) → IsEngine o old → new.counts ≡ old.counts → new.stop.next ≡ old.stop.next → StaysSettled old new [] → IsEngine o new
still_counted None old new together counts next keeps = together
still_counted (Some d) old new together counts next keeps = record {
  many = ap taken counts ∙ together.many;
  counted = subst (AreCountsOf (taken_of d.trail)) (sym counts) together.counted;
  settled = subst (λ (l : List Taken). IsSettled new.caches.entries l) (append-nil (taken_of d.trail)) (keeps (taken_of d.trail) (sym together.many) together.settled);
  seen = λ raw is. together.seen raw (sym next ∙ is);
}

pub engine_settled : (o : Option (ConsumerValue UnitValue)) (unit : UnitValue) → IsEngine o unit → IsSettled unit.caches.entries (taken_of (consumer_in o).trail)
engine_settled None unit together = absurd together
engine_settled (Some d) unit together = together.settled
