-- When a call is refused, and what it makes of the table otherwise.
use Rattle.std.proofs.Common.{◌≡◌, ℕ, Bool, true, false, cond, refl, ap, sym, ◌∙◌, subst, Option, Some, None, Result, Ok, Err, OnOk, OnErr, IfSome, IfNone, IsOkUnless}
use Rattle.std.specs.Option.{option_map}
use Rattle.guest_commands.specs.declared.fault.AttachFault.{AttachFault}
use Rattle.guest_commands.specs.declared.fault.AttachFault.TheVariants as guests
use Rattle.guest_commands.specs.Mappings as mappings
use Rattle.guest_commands.specs.Mappings.{Mapping, attached, detached, is_used}
use Rattle.guest_table.specs.declared.fault.TableFault.{TableFault}
use Rattle.guest_table.specs.declared.fault.TableFault.TheVariants.{Leaving, Used, NoMemory}
use Rattle.guest_table.specs.Tables.{Table, guest_of, is_leaving, is_used_in}
use Rattle.guest_table.specs.Faults.{refusal, refusal_of, fault_of, answer_of}

abbrev Answer : Type 0
Answer = Result (Unit {0}) TableFault

-- ---- attach

-- how a refusal goes on from each test
abbrev tested : Bool → Bool → Option TableFault → Option TableFault
tested leaving used rest = cond leaving (Some Leaving) (cond used (Some Used) rest)

refusal_is : (table : Table) (vmid sid host : ℕ) (guest : Mapping) (leaving used : Bool) → guest_of table vmid ≡ Some guest → is_leaving table host ≡ leaving → is_used_in table host ≡ used
    → refusal table vmid sid host ≡ tested leaving used (option_map fault_of (mappings.refusal guest sid host))
refusal_is table vmid sid host guest leaving used found left taken =
    ap (λ g. refusal_of table g sid host) found
    ∙ ap (λ b. tested b (is_used_in table host) (option_map fault_of (mappings.refusal guest sid host))) left
    ∙ ap (λ b. tested leaving b (option_map fault_of (mappings.refusal guest sid host))) taken

pub leaving_fault : (table : Table) (vmid sid host : ℕ) (guest : Mapping) → guest_of table vmid ≡ Some guest → is_leaving table host ≡ true → refusal table vmid sid host ≡ Some Leaving
leaving_fault table vmid sid host guest found left = refusal_is table vmid sid host guest true (is_used_in table host) found left refl

pub used_fault : (table : Table) (vmid sid host : ℕ) (guest : Mapping) → guest_of table vmid ≡ Some guest → is_leaving table host ≡ false → is_used_in table host ≡ true
    → refusal table vmid sid host ≡ Some Used
used_fault table vmid sid host guest found left taken = refusal_is table vmid sid host guest false true found left taken

pub guests_fault : (table : Table) (vmid sid host : ℕ) (guest : Mapping) → guest_of table vmid ≡ Some guest → is_leaving table host ≡ false → is_used_in table host ≡ false
    → refusal table vmid sid host ≡ option_map fault_of (mappings.refusal guest sid host)
guests_fault table vmid sid host guest found left taken = refusal_is table vmid sid host guest false false found left taken

-- a refusal that is known is told, and isn't out of memory
pub told : (refusal : Option TableFault) (fault : TableFault) → refusal ≡ Some fault → let answer : Answer = Err fault in IfSome refusal (λ other. answer ≡ Err other)
told refusal fault e = let answer : Answer = Err fault in subst (λ r. IfSome r (λ other. answer ≡ Err other)) (sym e) refl

pub not_memory : (refusal : Option TableFault) (fault : TableFault) (P : Type 0) → refusal ≡ Some fault → IfNone refusal P
not_memory refusal fault P e = subst (λ r. IfNone r P) (sym e) tt

fault_of_guest : (refusal : Option AttachFault) (answer : Result (Unit {0}) AttachFault) → IfSome refusal (λ fault. answer ≡ Err fault)
    → IfSome (option_map fault_of refusal) (λ fault. answer_of answer ≡ Err fault)
fault_of_guest None answer h = tt
fault_of_guest (Some fault) answer h = ap answer_of h

pub told_of_guest : (refusal : Option TableFault) (own : Option AttachFault) (answer : Result (Unit {0}) AttachFault) → refusal ≡ option_map fault_of own
    → IfSome own (λ fault. answer ≡ Err fault) → IfSome refusal (λ fault. answer_of answer ≡ Err fault)
told_of_guest refusal own answer e h = subst (λ r. IfSome r (λ fault. answer_of answer ≡ Err fault)) (sym e) (fault_of_guest own answer h)

unless : (answer : Result (Unit {0}) AttachFault) → IsOkUnless answer guests.NoMemory → IsOkUnless (answer_of answer) NoMemory
unless (Ok done) h = tt
unless (Err fault) h = ap fault_of h

memory_of_guest : (own : Option AttachFault) (answer : Result (Unit {0}) AttachFault) → IfNone own (IsOkUnless answer guests.NoMemory)
    → IfNone (option_map fault_of own) (IsOkUnless (answer_of answer) NoMemory)
memory_of_guest None answer h = unless answer h
memory_of_guest (Some fault) answer h = tt

pub memory_told : (refusal : Option TableFault) (own : Option AttachFault) (answer : Result (Unit {0}) AttachFault) → refusal ≡ option_map fault_of own
    → IfNone own (IsOkUnless answer guests.NoMemory) → IfNone refusal (IsOkUnless (answer_of answer) NoMemory)
memory_told refusal own answer e h = subst (λ r. IfNone r (IsOkUnless (answer_of answer) NoMemory)) (sym e) (memory_of_guest own answer h)

pub on_ok : (answer : Result (Unit {0}) AttachFault) (P Q : Type 0) → (P → Q) → OnOk answer P → OnOk (answer_of answer) Q
on_ok (Ok done) P Q f h = f h
on_ok (Err fault) P Q f h = tt

pub on_err : (answer : Result (Unit {0}) AttachFault) (P Q : Type 0) → (P → Q) → OnErr answer P → OnErr (answer_of answer) Q
on_err (Ok done) P Q f h = tt
on_err (Err fault) P Q f h = f h

pub either : (answer : Result (Unit {0}) AttachFault) (P Q R : Type 0) → (P → R) → (Q → R) → OnOk answer P → OnErr answer Q → R
either (Ok done) P Q R f g h k = f h
either (Err fault) P Q R f g h k = g k
