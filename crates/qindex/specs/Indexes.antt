-- What two indexes tell, from the section on circular queues.
use Rattle.std.specs.Prelude.{◌≡◌, ◌<◌, ◌≤◌, ℕ, ◌+◌, ◌-◌, ◌*◌, ◌%◌, Bool, not, ◌&&◌, ◌==◌}
use Rattle.qindex.specs.Positions.{IndexValue, size, place, wrap_bit, index_of}

-- 1 to 19
abbrev pub IsGeometry : ℕ → Type 0
IsGeometry geometry = (1 ≤ geometry) × (geometry ≤ 19)

-- an index's number, below twice the size
abbrev pub IsIndexNumber : ℕ → ℕ → Type 0
IsIndexNumber geometry number = number < 2 * size geometry

pub record IsIndex (index : IndexValue) : Type 0 where
  pub geometry : IsGeometry index.geometry
  pub number : IsIndexNumber index.geometry index.number

-- The two are the indexes of a queue from position head up to position tail.
pub record IsQueue (prod cons : IndexValue) (geometry tail head : ℕ) : Type 0 where
  pub prod_is : prod ≡ index_of geometry tail
  pub cons_is : cons ≡ index_of geometry head
  pub order : head ≤ tail
  pub within : tail ≤ head + size geometry

-- (prod - cons) modulo twice the size
abbrev pub distance : IndexValue → IndexValue → ℕ
distance prod cons =
    let numbers = 2 * size prod.geometry in
    (prod.number + numbers - cons.number) % numbers

abbrev pub have_one_place : IndexValue → IndexValue → Bool
have_one_place prod cons = place prod.geometry prod.number == place cons.geometry cons.number

abbrev pub have_one_wrap_bit : IndexValue → IndexValue → Bool
have_one_wrap_bit prod cons = wrap_bit prod.geometry prod.number == wrap_bit cons.geometry cons.number

-- The queue is empty if place and wrap bit agree.
abbrev pub is_empty : IndexValue → IndexValue → Bool
is_empty prod cons = have_one_place prod cons && have_one_wrap_bit prod cons

-- The queue is full if the places agree and the wrap bits differ.
abbrev pub is_full : IndexValue → IndexValue → Bool
is_full prod cons = have_one_place prod cons && not (have_one_wrap_bit prod cons)
