-- What the control words of single queues are, for a queue of four slots: its log2 size is 2.
use Rattle.std.proofs.Common.{◌≡◌, ℕ, ◌+◌, ◌^◌, Bool, true, false, refl, arith}
use Rattle.qindex.specs.declared.control.Control.{Control}
use Rattle.qindex.specs.Positions.{IndexValue}
use Rattle.qindex.specs.ControlWord.{bit, packed, IsControl}

abbrev index : ℕ → ℕ → IndexValue
index geometry number = record { geometry = geometry; number = number }

abbrev control : IndexValue → IndexValue → Bool → Control
control prod cons closed = record { prod = prod; cons = cons; closed = closed }

pub a_flag_is_one_bit : bit true ≡ 1
a_flag_is_one_bit = refl

pub an_open_queue_has_a_clear_bit : packed (control (index 2 5) (index 2 1) false) ≡ 5 + 2 ^ 32
an_open_queue_has_a_clear_bit = refl

pub a_closed_queue_has_bit_31 : packed (control (index 2 0) (index 2 0) true) ≡ 2 ^ 31
a_closed_queue_has_bit_31 = refl

pub prod_is_in_the_low_half : packed (control (index 2 4) (index 2 1) true) ≡ 4 + 2 ^ 31 + 2 ^ 32
prod_is_in_the_low_half = refl

pub a_full_queue_is_a_queue : IsControl 2 (control (index 2 5) (index 2 1) false)
a_full_queue_is_a_queue = record {
  prod = record { geometry = (omega arith, omega arith); number = omega arith };
  cons = record { geometry = (omega arith, omega arith); number = omega arith };
  prod_geometry = refl;
  cons_geometry = refl;
  within = omega arith;
}

pub prod_is_an_index : ¬ IsControl 2 (control (index 2 8) (index 2 0) false)
prod_is_an_index is = absurd (omega (arith, is.prod.number))

pub cons_is_an_index : ¬ IsControl 2 (control (index 2 0) (index 2 8) false)
cons_is_an_index is = absurd (omega (arith, is.cons.number))

pub prod_is_of_the_same_queue : ¬ IsControl 2 (control (index 3 0) (index 2 0) false)
prod_is_of_the_same_queue is = let same : 3 ≡ 2 = is.prod_geometry in absurd (omega (arith, same))

pub cons_is_of_the_same_queue : ¬ IsControl 2 (control (index 2 0) (index 3 0) false)
cons_is_of_the_same_queue is = let same : 3 ≡ 2 = is.cons_geometry in absurd (omega (arith, same))

pub no_more_than_four_are_in_the_queue : ¬ IsControl 2 (control (index 2 6) (index 2 1) false)
no_more_than_four_are_in_the_queue is = absurd (omega (arith, is.within))
