-- The queue that two registers tell of, and what is at fault in them.
use Rattle.std.specs.Prelude.{◌≡◌, ◌≤◌, ⊤, ℕ, ◌-◌, ◌*◌, ◌/◌, ◌%◌, ◌^◌, ◌==◌, nat_lt, nat_le, ◌&&◌, Bool, Option, Some, None, Result, Ok, Err, IsErr, List, [], ◌∷◌, ◌++◌, codes, decimal, if◌then◌else◌}
use Rattle.std.specs.List.{find, range_with_len}
use Rattle.qindex.specs.Positions.{size}
use Rattle.qindex.specs.Indexes.{distance}
use Rattle.image.specs.declared.asked.Asked.{Asked}
use Rattle.image.specs.declared.asked.ErrorRegisters.{ErrorRegisters}
use Rattle.image.specs.declared.error.CmdqErr.{CmdqErr}
use Rattle.image.specs.declared.error.CmdqErr.TheVariants.{NotGiven, Active, NotActive}
use Rattle.image.specs.declared.fault.ImageFault.{ImageFault}
use Rattle.image.specs.declared.fault.ImageFault.TheVariants.{BadLog2, BadProd, BadCons, BadGerror, BadGerrorn, BadDistance, BadLine, BadLength}
use Rattle.image.specs.declared.known.Known.{Known}
use Rattle.image.specs.declared.known.Known.TheVariants as known
use Rattle.image.specs.declared.queue.Queue.{Queue}
use Rattle.image.specs.declared.request.Request.{Request}

-- SMMU_CMDQ_CONS.ERR, bits 30:24
abbrev pub err_of : ℕ → ℕ
err_of cons = cons / 2 ^ 24 % 2 ^ 7

-- SMMU_CMDQ_CONS without ERR
abbrev pub without_err : ℕ → ℕ
without_err cons = cons - err_of cons * 2 ^ 24

-- how many commands wait
abbrev pub waiting_of : Queue → ℕ
waiting_of queue = distance queue.prod queue.cons

-- one ring, in which no more commands wait than there are slots
pub record IsShown (queue : Queue) : Type 0 where
  pub one_ring : queue.prod.geometry ≡ queue.cons.geometry
  pub few : waiting_of queue ≤ size queue.cons.geometry

-- no more is known than the registers, or the queue is one that can be shown
abbrev pub IsKnown : Known → Type 0
IsKnown (known.Queue queue) = IsShown queue
IsKnown (known.Registers prod cons) = ⊤

-- No more commands wait than there are slots.
abbrev pub judged : Queue → Result Queue ImageFault
judged queue = if nat_le (waiting_of queue) (size queue.cons.geometry) then Ok queue else Err (BadDistance (waiting_of queue))

-- CONS has no bit above the wrap bit, bit log2, but those of ERR.
abbrev pub with_cons : ℕ → ℕ → Option ℕ → Result Queue ImageFault
with_cons geometry prod None = Err BadCons
with_cons geometry prod (Some cons) =
    if nat_lt (without_err cons) (2 * size geometry)
    then judged (record { prod = record { geometry = geometry; number = prod }; cons = record { geometry = geometry; number = without_err cons }; register = cons })
    else Err BadCons

-- PROD has no bit above the wrap bit. The first fault is told, in this order.
abbrev pub with_prod : ℕ → Option ℕ → Option ℕ → Result Queue ImageFault
with_prod geometry None cons = Err BadProd
with_prod geometry (Some prod) cons = if nat_lt prod (2 * size geometry) then with_cons geometry prod cons else Err BadProd

-- A queue has 2^1 to 2^19 slots.
abbrev pub with_log2 : ℕ → Option ℕ → Option ℕ → Result Queue ImageFault
with_log2 log2 prod cons = if nat_le 1 log2 && nat_le log2 19 then with_prod log2 prod cons else Err BadLog2

-- ---- before the image is read

abbrev pub as_known : Result Queue ImageFault → Result Known ImageFault
as_known (Ok queue) = Ok (known.Queue queue)
as_known (Err fault) = Err fault

-- The registers are numbers of 32 bits.
abbrev pub numbers : Option ℕ → Option ℕ → Result Known ImageFault
numbers None cons = Err BadProd
numbers (Some prod) None = Err BadCons
numbers (Some prod) (Some cons) = Ok (known.Registers prod cons)

-- Without a size no more is known of the registers.
abbrev pub known_by : Option ℕ → Option ℕ → Option ℕ → Result Known ImageFault
known_by (Some log2) prod cons = as_known (with_log2 log2 prod cons)
known_by None prod cons = numbers prod cons

unfoldable pub known_of : Asked → Result Known ImageFault
known_of asked = known_by asked.log2 asked.prod asked.cons

-- CMDQ_ERR is active exactly if bit 0 of SMMU_GERROR and SMMU_GERRORN differ.
abbrev pub cmdq_err : ℕ → ℕ → CmdqErr
cmdq_err gerror gerrorn = if gerror % 2 == gerrorn % 2 then NotActive else Active

abbrev pub error_by : Option ℕ → Option ℕ → Result CmdqErr ImageFault
error_by None gerrorn = Err BadGerror
error_by (Some gerror) None = Err BadGerrorn
error_by (Some gerror) (Some gerrorn) = Ok (cmdq_err gerror gerrorn)

abbrev pub error_of : Option ErrorRegisters → Result CmdqErr ImageFault
error_of None = Ok NotGiven
error_of (Some registers) = error_by registers.gerror registers.gerrorn

-- The error registers are judged after the others.
abbrev pub request_by : Result Known ImageFault → Result CmdqErr ImageFault → Bool → Result Request ImageFault
request_by (Err fault) error all = Err fault
request_by (Ok known) (Err fault) all = Err fault
request_by (Ok known) (Ok error) all = Ok (record { known = known; shown = record { all = all; error = error } })

unfoldable pub request_of : Asked → Result Request ImageFault
request_of asked = request_by (known_of asked) (error_of asked.errors) asked.all

-- The size or the registers are at fault, whatever the image is.
abbrev pub HasFault : Asked → Type 0
HasFault asked = IsErr (request_of asked)

-- ---- by the length of the image, in bytes

-- 16 bytes a slot
abbrev pub has_length : ℕ → ℕ → Bool
has_length bytes log2 = 16 * size log2 == bytes

-- the binary logarithm of the slots, of 1 to 19, that so many bytes are
unfoldable pub log2_of : ℕ → Option ℕ
log2_of bytes = find (has_length bytes) (range_with_len 1 19)

abbrev pub sized : Option ℕ → ℕ → ℕ → ℕ → Result Queue ImageFault
sized None bytes prod cons = Err (BadLength bytes)
sized (Some log2) bytes prod cons = with_prod log2 (Some prod) (Some cons)

-- An image has 16 bytes a slot.
abbrev pub queue_in : Known → ℕ → Result Queue ImageFault
queue_in (known.Queue queue) bytes = if bytes == 16 * size queue.cons.geometry then Ok queue else Err (BadLength bytes)
queue_in (known.Registers prod cons) bytes = sized (log2_of bytes) bytes prod cons

-- the one line of a fault
abbrev pub fault_text : ImageFault → List ℕ
fault_text BadLog2 = codes "bad log2\n"
fault_text BadProd = codes "bad prod\n"
fault_text BadCons = codes "bad cons\n"
fault_text BadGerror = codes "bad gerror\n"
fault_text BadGerrorn = codes "bad gerrorn\n"
fault_text (BadDistance waiting) = codes "bad distance " ++ decimal waiting ++ codes "\n"
fault_text (BadLine number) = codes "bad line " ++ decimal number ++ codes "\n"
fault_text (BadLength bytes) = codes "bad length " ++ decimal bytes ++ codes "\n"
