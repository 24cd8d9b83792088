-- A run that is worked out event by event: two senders in a ring of 2, in which the control word returns after
-- two laps, and an exchange is won with it.
use Rattle.std.proofs.Common.{◌≡◌, false, [], ◌∷◌, length, Some, refl, ltb-true, leb-true, arith}
use Rattle.cmdcodec.specs.Words.{encoding}
use Rattle.ringcore.specs.declared.world.event.Who.TheVariants.{Consumer, Sender}
use Rattle.ringcore.specs.declared.world.event.Half.TheVariants.{Lo, Hi}
use Rattle.ringcore.specs.declared.world.event.Event.TheVariants.{Look, Won, Write, Flip, Test, Read, Advance, Acknowledge}
use Rattle.ringcore.specs.world.Trails.{Run, trail_of}
use Rattle.ringcore.specs.world.World.{sync_raw, world, control}
use Rattle.ringcore.specs.world.Allowed.{Ring, IsRun}
use Rattle.ring_tests.proofs.WorkedCases.{none, one, two, halves_of_one, read_all, x, body_of_one, shows}

abbrev two_laps_ring : Ring
two_laps_ring = record { geometry = 1; senders = 2; max_batches = 4; flags = 64 }

abbrev two_laps_01 : Run
two_laps_01 = (Sender 0, Look (shows 1 0 0 false)) ∷ []

two_laps_01_ok : IsRun two_laps_ring two_laps_01
unfolding encoding
two_laps_01_ok = (tt, refl)

abbrev two_laps_02 : Run
two_laps_02 = (Sender 1, Look (shows 1 0 0 false)) ∷ two_laps_01

two_laps_02_ok : IsRun two_laps_ring two_laps_02
unfolding encoding
two_laps_02_ok = (two_laps_01_ok, refl)

abbrev two_laps_03 : Run
two_laps_03 = (Sender 1, Won (x ∷ []) (Some 1)) ∷ two_laps_02

two_laps_03_ok : IsRun two_laps_ring two_laps_03
unfolding encoding
two_laps_03_ok = (two_laps_02_ok, record { looked_at = refl; unclosed = refl; settled = none _; left = ltb-true 0 4 refl; body_is = body_of_one; next = refl; room = leb-true 2 2 refl })

abbrev two_laps_04 : Run
two_laps_04 = (Sender 1, Write 0 Lo) ∷ two_laps_03

two_laps_04_ok : IsRun two_laps_ring two_laps_04
unfolding encoding
two_laps_04_ok = (two_laps_03_ok, record { inside = ltb-true 0 2 refl; unflipped = refl })

abbrev two_laps_05 : Run
two_laps_05 = (Sender 1, Write 0 Hi) ∷ two_laps_04

two_laps_05_ok : IsRun two_laps_ring two_laps_05
unfolding encoding
two_laps_05_ok = (two_laps_04_ok, record { inside = ltb-true 0 2 refl; unflipped = refl })

abbrev two_laps_06 : Run
two_laps_06 = (Sender 1, Flip 0 1) ∷ two_laps_05

two_laps_06_ok : IsRun two_laps_ring two_laps_06
unfolding encoding
two_laps_06_ok = (two_laps_05_ok, record { many = (leb-true 1 1 refl, leb-true 1 64 refl); inside = leb-true 1 2 refl; in_word = one _ refl; unflipped = one _ refl; written = halves_of_one _ refl refl })

abbrev two_laps_07 : Run
two_laps_07 = (Sender 1, Write 1 Lo) ∷ two_laps_06

two_laps_07_ok : IsRun two_laps_ring two_laps_07
unfolding encoding
two_laps_07_ok = (two_laps_06_ok, record { inside = ltb-true 1 2 refl; unflipped = refl })

abbrev two_laps_08 : Run
two_laps_08 = (Sender 1, Write 1 Hi) ∷ two_laps_07

two_laps_08_ok : IsRun two_laps_ring two_laps_08
unfolding encoding
two_laps_08_ok = (two_laps_07_ok, record { inside = ltb-true 1 2 refl; unflipped = refl })

abbrev two_laps_09 : Run
two_laps_09 = (Sender 1, Flip 1 1) ∷ two_laps_08

two_laps_09_ok : IsRun two_laps_ring two_laps_09
unfolding encoding
two_laps_09_ok = (two_laps_08_ok, record { many = (leb-true 1 1 refl, leb-true 1 64 refl); inside = leb-true 2 2 refl; in_word = one _ refl; unflipped = one _ refl; written = halves_of_one _ refl refl })

abbrev two_laps_10 : Run
two_laps_10 = (Consumer, Test 1 1) ∷ two_laps_09

two_laps_10_ok : IsRun two_laps_ring two_laps_10
unfolding encoding
two_laps_10_ok = (two_laps_09_ok, record { many = (leb-true 1 1 refl, leb-true 1 64 refl); most = leb-true 1 1 refl; in_word = one _ refl; ready = one _ refl; no_more = λ less word. absurd (omega (arith, less)) })

abbrev two_laps_11 : Run
two_laps_11 = (Consumer, Read 0 Lo 0x500000003) ∷ two_laps_10

two_laps_11_ok : IsRun two_laps_ring two_laps_11
unfolding encoding
two_laps_11_ok = (two_laps_10_ok, record { ready = ltb-true 0 1 refl; item = record { sender = 1; number = Some 1; place = 0; raw = x }; there = refl; found = refl })

abbrev two_laps_12 : Run
two_laps_12 = (Consumer, Read 0 Hi 0x1) ∷ two_laps_11

two_laps_12_ok : IsRun two_laps_ring two_laps_12
unfolding encoding
two_laps_12_ok = (two_laps_11_ok, record { ready = ltb-true 0 1 refl; item = record { sender = 1; number = Some 1; place = 0; raw = x }; there = refl; found = refl })

abbrev two_laps_13 : Run
two_laps_13 = (Consumer, Advance (x ∷ [])) ∷ two_laps_12

two_laps_13_ok : IsRun two_laps_ring two_laps_13
unfolding encoding
two_laps_13_ok = (two_laps_12_ok, record { some = leb-true 1 1 refl; ready = leb-true 1 1 refl; read = read_all (trail_of Consumer two_laps_12) (x ∷ []) (refl, refl, tt) })

abbrev two_laps_14 : Run
two_laps_14 = (Consumer, Test 1 1) ∷ two_laps_13

two_laps_14_ok : IsRun two_laps_ring two_laps_14
unfolding encoding
two_laps_14_ok = (two_laps_13_ok, record { many = (leb-true 1 1 refl, leb-true 1 64 refl); most = leb-true 1 1 refl; in_word = one _ refl; ready = one _ refl; no_more = λ less word. absurd (omega (arith, less)) })

abbrev two_laps_15 : Run
two_laps_15 = (Consumer, Read 0 Lo 0x100001046) ∷ two_laps_14

two_laps_15_ok : IsRun two_laps_ring two_laps_15
unfolding encoding
two_laps_15_ok = (two_laps_14_ok, record { ready = ltb-true 0 1 refl; item = record { sender = 1; number = Some 1; place = 1; raw = sync_raw 1 1 }; there = refl; found = refl })

abbrev two_laps_16 : Run
two_laps_16 = (Consumer, Read 0 Hi 0x40000004) ∷ two_laps_15

two_laps_16_ok : IsRun two_laps_ring two_laps_16
unfolding encoding
two_laps_16_ok = (two_laps_15_ok, record { ready = ltb-true 0 1 refl; item = record { sender = 1; number = Some 1; place = 1; raw = sync_raw 1 1 }; there = refl; found = refl })

abbrev two_laps_17 : Run
two_laps_17 = (Consumer, Advance (sync_raw 1 1 ∷ [])) ∷ two_laps_16

two_laps_17_ok : IsRun two_laps_ring two_laps_17
unfolding encoding
two_laps_17_ok = (two_laps_16_ok, record { some = leb-true 1 1 refl; ready = leb-true 1 1 refl; read = read_all (trail_of Consumer two_laps_16) (sync_raw 1 1 ∷ []) (refl, refl, tt) })

abbrev two_laps_18 : Run
two_laps_18 = (Consumer, Acknowledge 1 1) ∷ two_laps_17

two_laps_18_ok : IsRun two_laps_ring two_laps_18
unfolding encoding
two_laps_18_ok = (two_laps_17_ok, record { next = refl; taken = record { position = 1; place = 1; below = ltb-true 1 2 refl; there = refl } })

abbrev two_laps_19 : Run
two_laps_19 = (Sender 1, Look (shows 1 2 2 false)) ∷ two_laps_18

two_laps_19_ok : IsRun two_laps_ring two_laps_19
unfolding encoding
two_laps_19_ok = (two_laps_18_ok, refl)

abbrev two_laps_20 : Run
two_laps_20 = (Sender 1, Won (x ∷ []) (Some 2)) ∷ two_laps_19

two_laps_20_ok : IsRun two_laps_ring two_laps_20
unfolding encoding
two_laps_20_ok = (two_laps_19_ok, record { looked_at = refl; unclosed = refl; settled = two _ refl refl; left = ltb-true 1 4 refl; body_is = body_of_one; next = refl; room = leb-true 4 4 refl })

abbrev two_laps_21 : Run
two_laps_21 = (Sender 1, Write 0 Lo) ∷ two_laps_20

two_laps_21_ok : IsRun two_laps_ring two_laps_21
unfolding encoding
two_laps_21_ok = (two_laps_20_ok, record { inside = ltb-true 0 2 refl; unflipped = refl })

abbrev two_laps_22 : Run
two_laps_22 = (Sender 1, Write 0 Hi) ∷ two_laps_21

two_laps_22_ok : IsRun two_laps_ring two_laps_22
unfolding encoding
two_laps_22_ok = (two_laps_21_ok, record { inside = ltb-true 0 2 refl; unflipped = refl })

abbrev two_laps_23 : Run
two_laps_23 = (Sender 1, Write 1 Lo) ∷ two_laps_22

two_laps_23_ok : IsRun two_laps_ring two_laps_23
unfolding encoding
two_laps_23_ok = (two_laps_22_ok, record { inside = ltb-true 1 2 refl; unflipped = refl })

abbrev two_laps_24 : Run
two_laps_24 = (Sender 1, Write 1 Hi) ∷ two_laps_23

two_laps_24_ok : IsRun two_laps_ring two_laps_24
unfolding encoding
two_laps_24_ok = (two_laps_23_ok, record { inside = ltb-true 1 2 refl; unflipped = refl })

abbrev two_laps_25 : Run
two_laps_25 = (Sender 1, Flip 0 1) ∷ two_laps_24

two_laps_25_ok : IsRun two_laps_ring two_laps_25
unfolding encoding
two_laps_25_ok = (two_laps_24_ok, record { many = (leb-true 1 1 refl, leb-true 1 64 refl); inside = leb-true 1 2 refl; in_word = one _ refl; unflipped = one _ refl; written = halves_of_one _ refl refl })

abbrev two_laps_26 : Run
two_laps_26 = (Sender 1, Flip 1 1) ∷ two_laps_25

two_laps_26_ok : IsRun two_laps_ring two_laps_26
unfolding encoding
two_laps_26_ok = (two_laps_25_ok, record { many = (leb-true 1 1 refl, leb-true 1 64 refl); inside = leb-true 2 2 refl; in_word = one _ refl; unflipped = one _ refl; written = halves_of_one _ refl refl })

abbrev two_laps_27 : Run
two_laps_27 = (Consumer, Test 1 1) ∷ two_laps_26

two_laps_27_ok : IsRun two_laps_ring two_laps_27
unfolding encoding
two_laps_27_ok = (two_laps_26_ok, record { many = (leb-true 1 1 refl, leb-true 1 64 refl); most = leb-true 1 1 refl; in_word = one _ refl; ready = one _ refl; no_more = λ less word. absurd (omega (arith, less)) })

abbrev two_laps_28 : Run
two_laps_28 = (Consumer, Read 0 Lo 0x500000003) ∷ two_laps_27

two_laps_28_ok : IsRun two_laps_ring two_laps_28
unfolding encoding
two_laps_28_ok = (two_laps_27_ok, record { ready = ltb-true 0 1 refl; item = record { sender = 1; number = Some 2; place = 0; raw = x }; there = refl; found = refl })

abbrev two_laps_29 : Run
two_laps_29 = (Consumer, Read 0 Hi 0x1) ∷ two_laps_28

two_laps_29_ok : IsRun two_laps_ring two_laps_29
unfolding encoding
two_laps_29_ok = (two_laps_28_ok, record { ready = ltb-true 0 1 refl; item = record { sender = 1; number = Some 2; place = 0; raw = x }; there = refl; found = refl })

abbrev two_laps_30 : Run
two_laps_30 = (Consumer, Advance (x ∷ [])) ∷ two_laps_29

two_laps_30_ok : IsRun two_laps_ring two_laps_30
unfolding encoding
two_laps_30_ok = (two_laps_29_ok, record { some = leb-true 1 1 refl; ready = leb-true 1 1 refl; read = read_all (trail_of Consumer two_laps_29) (x ∷ []) (refl, refl, tt) })

abbrev two_laps_31 : Run
two_laps_31 = (Consumer, Test 1 1) ∷ two_laps_30

two_laps_31_ok : IsRun two_laps_ring two_laps_31
unfolding encoding
two_laps_31_ok = (two_laps_30_ok, record { many = (leb-true 1 1 refl, leb-true 1 64 refl); most = leb-true 1 1 refl; in_word = one _ refl; ready = one _ refl; no_more = λ less word. absurd (omega (arith, less)) })

abbrev two_laps_32 : Run
two_laps_32 = (Consumer, Read 0 Lo 0x200001046) ∷ two_laps_31

two_laps_32_ok : IsRun two_laps_ring two_laps_32
unfolding encoding
two_laps_32_ok = (two_laps_31_ok, record { ready = ltb-true 0 1 refl; item = record { sender = 1; number = Some 2; place = 1; raw = sync_raw 1 2 }; there = refl; found = refl })

abbrev two_laps_33 : Run
two_laps_33 = (Consumer, Read 0 Hi 0x40000004) ∷ two_laps_32

two_laps_33_ok : IsRun two_laps_ring two_laps_33
unfolding encoding
two_laps_33_ok = (two_laps_32_ok, record { ready = ltb-true 0 1 refl; item = record { sender = 1; number = Some 2; place = 1; raw = sync_raw 1 2 }; there = refl; found = refl })

abbrev two_laps_34 : Run
two_laps_34 = (Consumer, Advance (sync_raw 1 2 ∷ [])) ∷ two_laps_33

two_laps_34_ok : IsRun two_laps_ring two_laps_34
unfolding encoding
two_laps_34_ok = (two_laps_33_ok, record { some = leb-true 1 1 refl; ready = leb-true 1 1 refl; read = read_all (trail_of Consumer two_laps_33) (sync_raw 1 2 ∷ []) (refl, refl, tt) })

abbrev two_laps_35 : Run
two_laps_35 = (Sender 0, Won (x ∷ []) (Some 1)) ∷ two_laps_34

two_laps_35_ok : IsRun two_laps_ring two_laps_35
unfolding encoding
two_laps_35_ok = (two_laps_34_ok, record { looked_at = refl; unclosed = refl; settled = none _; left = ltb-true 0 4 refl; body_is = body_of_one; next = refl; room = leb-true 6 6 refl })

abbrev two_laps_36 : Run
two_laps_36 = (Sender 1, Look (shows 1 2 0 false)) ∷ two_laps_35

two_laps_36_ok : IsRun two_laps_ring two_laps_36
unfolding encoding
two_laps_36_ok = (two_laps_35_ok, refl)

-- The word that sender 0 looked at came back, and the ring is full again: six commands are reserved, four taken.
two_laps_world : (length (world two_laps_36).reserved ≡ 6) × (length (world two_laps_36).taken ≡ 4) × (control 1 (world two_laps_36) ≡ shows 1 2 0 false) × ((world two_laps_36).acknowledged 1 ≡ 1)
two_laps_world = (refl, refl, refl, refl)
