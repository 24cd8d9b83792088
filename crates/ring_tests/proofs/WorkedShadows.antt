-- What no words of a ring are: for each clause of the shadow of a world, words of which it alone is false.
use Rattle.std.proofs.Common.{◌≡◌, ℕ, ◌-◌, ◌≤◌, true, false, List, [], ◌∷◌, ◌++◌, None, refl, arith}
use Rattle.std.specs.Prelude.{replicate}
use Rattle.ringcore.specs.declared.world.event.Who.TheVariants.{Consumer}
use Rattle.ringcore.specs.declared.world.event.Half.TheVariants.{Lo}
use Rattle.ringcore.specs.declared.world.event.Event.TheVariants.{Test}
use Rattle.ringcore.specs.world.World.{World, opening}
use Rattle.ringcore.specs.world.Allowed.{Ring}
use Rattle.ringcore.specs.memory.Shadow.{IsShadow, AreAfter}
use Rattle.ring_tests.proofs.WorkedCases.{x}

-- two slots and one sender: 35 words, of which word 8 has the flags, 16 the low word of slot 0, and 27 is the cell
abbrev ring : Ring
ring = record { geometry = 1; senders = 1; max_batches = 4; flags = 64 }

-- 35 words that are 0, but for this one
abbrev words_with : ℕ → ℕ → List ℕ
words_with at word = replicate at 0 ++ word ∷ replicate (34 - at) 0

-- the first command is reserved, and its low word is written
abbrev one_written : World
one_written = record opening { reserved = record { sender = 0; number = None; place = 0; raw = x } ∷ []; written = λ position half. true }

pub a_word_too_few : ¬ IsShadow ring (replicate 34 0) opening
a_word_too_few shadow = let same : 34 ≡ 35 = shadow.many in absurd (omega (arith, same))

pub another_control_word : ¬ IsShadow ring (words_with 0 1) opening
another_control_word shadow = let same : 1 ≡ 0 = shadow.control_is in absurd (omega (arith, same))

pub a_flag_of_nothing : ¬ IsShadow ring (words_with 8 1) opening
a_flag_of_nothing shadow = let same : true ≡ false = shadow.flags 0 (omega arith) (omega arith) in absurd cc

pub a_command_that_is_not_there : ¬ IsShadow ring (words_with 16 0) one_written
a_command_that_is_not_there shadow = let same : 0 ≡ x.lo = shadow.commands 0 Lo _ (omega arith) refl refl in absurd (omega (arith, same))

pub another_cell : ¬ IsShadow ring (words_with 27 1) opening
another_cell shadow = let same : 1 ≡ 0 = shadow.cells 0 (omega arith) in absurd (omega (arith, same))

-- ---- after a run

-- 35 words that are 0 are those of this ring before its first event.
abbrev zeros : List ℕ
zeros = replicate 35 0

pub words_of_another_size : ¬ AreAfter ring [] []
words_of_another_size after = let same : 0 ≡ 35 = after.shadow.many in absurd (omega (arith, same))

pub words_after_what_is_no_run : ¬ AreAfter ring ((Consumer, Test 1 1) ∷ []) zeros
words_after_what_is_no_run after = let ready : false ≡ true = after.run_is.1.ready 0 (omega arith) in absurd cc

-- One slot would be no geometry, with 33 words.
pub words_of_a_ring_of_one_slot : ¬ AreAfter (record ring { geometry = 0 }) [] (replicate 33 0)
words_of_a_ring_of_one_slot after = let some : 1 ≤ 0 = after.geometry_is.0 in absurd (omega (arith, some))

pub words_with_32_flags_each : ¬ AreAfter (record ring { flags = 32 }) [] zeros
words_with_32_flags_each after = let same : 32 ≡ 64 = after.flags_are in absurd (omega (arith, same))
