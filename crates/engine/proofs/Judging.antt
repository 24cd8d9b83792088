-- The state of the stop when a command is judged, and the counts after.
use Rattle.std.proofs.Common.{◌≡◌, ◌≤◌, ◌+◌, ℕ, Bool, true, false, cond, Option, Some, None, ap, sym, subst, ◌∙◌, arith}
use Rattle.cmdcodec.specs.declared.raw.Raw.{Raw}
use Rattle.cmdcodec.specs.Opcodes.{is_sync}
use Rattle.cmdcodec.specs.Legality.{first_ill}
use Rattle.engine.specs.declared.stop.Mode.{Mode}
use Rattle.engine.specs.declared.stop.Mode.TheVariants.{Running, Stopped, Replacing}
use Rattle.engine.specs.Stops.{StopValue, MayComeNext, IsStopped, IsKept, IsActive, mode_after}
use Rattle.engine.specs.declared.remedy.Remedy.{Remedy}
use Rattle.engine.specs.declared.remedy.Remedy.TheVariants.{Retry, Replace}
use Rattle.engine.specs.Counting.{syncs_with}

-- A legal command comes only while it is running.
pub goes_on : (mode : Mode) (next : Option Raw) (raw : Raw) → ¬ IsStopped mode → ((awaited : Raw) → next ≡ Some awaited → raw ≡ awaited) → IsKept mode next
    → first_ill raw ≡ None → mode ≡ Running
goes_on Running next raw going comes kept legal = λ _. Running
goes_on (Stopped ill) next raw going comes kept legal = absurd (going tt)
goes_on Replacing next raw going comes kept legal =
    let same : raw ≡ kept.0 = comes kept.0 kept.1 in
    let ill : first_ill kept.0 ≡ Some kept.2 = kept.3 in
    let none : first_ill kept.0 ≡ None = ap first_ill (sym same) ∙ legal in
    absurd (cc)

pub not_stopped : (mode : Mode) → mode ≡ Running → ¬ IsStopped mode
not_stopped Running is stopped = stopped
not_stopped (Stopped ill) is stopped = absurd (cc)
not_stopped Replacing is stopped = stopped

-- If no words are kept, any may come.
pub any_next : (stop : StopValue) (raw : Raw) → stop.next ≡ None → MayComeNext raw stop
any_next stop raw none awaited is = let no_words = sym none ∙ is in absurd (cc)

-- An illegal command that it wasn't told to replace comes only while it is running.
pub stops : (mode : Mode) → ¬ IsStopped mode → ¬ (mode ≡ Replacing) → mode ≡ Running
stops Running going other = λ _. Running
stops (Stopped ill) going other = absurd (going tt)
stops Replacing going other = absurd (other (λ _. Replacing))

-- What is kept after an acknowledgement.
pub told_kept : (remedy : Remedy) (mode : Mode) (next : Option Raw) → IsStopped mode → IsKept mode next → IsKept (mode_after remedy) next
told_kept remedy Running next stopped kept = absurd stopped
told_kept remedy Replacing next stopped kept = absurd stopped
told_kept Retry (Stopped ill) next stopped kept = λ raw is.
    let same : kept.0 ≡ raw = one_raw kept.0 raw (sym kept.1 ∙ is) in (ill, subst (λ (r : Raw). first_ill r ≡ Some ill) same kept.2)
  where
    one_raw : (a b : Raw) → Some a ≡ Some b → a ≡ b
    one_raw a b is = cc
told_kept Replace (Stopped ill) next stopped kept = (kept.0, kept.1, ill, kept.2)

pub told_active : (remedy : Remedy) (error : Bool) → IsActive (mode_after remedy) error error
told_active Retry error = λ _. error
told_active Replace error = λ _. error

pub syncs_few : (raw : Raw) (n m : ℕ) → n ≤ m → syncs_with raw n ≤ m + 1
syncs_few raw n m le = by_opcode (is_sync raw)
  where
    by_opcode : (b : Bool) → cond b (n + 1) n ≤ m + 1
    by_opcode true = omega (arith, le)
    by_opcode false = omega (arith, le)
