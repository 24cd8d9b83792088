-- A run that is worked out event by event, in a ring of 4: sender 0 reserves a command without a closing sync, and
-- sender 1 another one after it with one. All three are taken, and sender 1 is told of its batch.
use Rattle.std.proofs.Common.{false, [], ◌∷◌, Some, None, refl, ltb-true, leb-true, arith}
use Rattle.cmdcodec.specs.Words.{encoding}
use Rattle.ringcore.specs.declared.world.event.Who.TheVariants.{Consumer, Sender}
use Rattle.ringcore.specs.declared.world.event.Half.TheVariants.{Lo, Hi}
use Rattle.ringcore.specs.declared.world.event.Event.TheVariants.{Look, Won, Write, Flip, Test, Read, Advance, Acknowledge, Ask}
use Rattle.ringcore.specs.world.Trails.{Run, trail_of}
use Rattle.ringcore.specs.world.World.{sync_raw}
use Rattle.ringcore.specs.world.Allowed.{Ring, IsRun}
use Rattle.ring_tests.proofs.WorkedCases.{none, one, two, three, halves_of_one, halves_of_two, read_all, x, y, body_of_one, body_of_y, shows}

abbrev pub told_ring : Ring
told_ring = record { geometry = 2; senders = 2; max_batches = 4; flags = 64 }

abbrev pub told_01 : Run
told_01 = (Sender 0, Look (shows 2 0 0 false)) ∷ []

pub told_01_ok : IsRun told_ring told_01
unfolding encoding
told_01_ok = (tt, refl)

abbrev pub told_02 : Run
told_02 = (Sender 0, Won (x ∷ []) None) ∷ told_01

pub told_02_ok : IsRun told_ring told_02
unfolding encoding
told_02_ok = (told_01_ok, record { looked_at = refl; unclosed = refl; settled = none _; left = ltb-true 0 4 refl; body_is = body_of_one; next = tt; room = leb-true 1 4 refl })

abbrev pub told_03 : Run
told_03 = (Sender 0, Write 0 Lo) ∷ told_02

pub told_03_ok : IsRun told_ring told_03
unfolding encoding
told_03_ok = (told_02_ok, record { inside = ltb-true 0 1 refl; unflipped = refl })

abbrev pub told_04 : Run
told_04 = (Sender 0, Write 0 Hi) ∷ told_03

pub told_04_ok : IsRun told_ring told_04
unfolding encoding
told_04_ok = (told_03_ok, record { inside = ltb-true 0 1 refl; unflipped = refl })

abbrev pub told_05 : Run
told_05 = (Sender 0, Flip 0 1) ∷ told_04

pub told_05_ok : IsRun told_ring told_05
unfolding encoding
told_05_ok = (told_04_ok, record { many = (leb-true 1 1 refl, leb-true 1 64 refl); inside = leb-true 1 1 refl; in_word = one _ refl; unflipped = one _ refl; written = halves_of_one _ refl refl })

abbrev pub told_06 : Run
told_06 = (Sender 1, Look (shows 2 1 0 false)) ∷ told_05

pub told_06_ok : IsRun told_ring told_06
unfolding encoding
told_06_ok = (told_05_ok, refl)

abbrev pub told_07 : Run
told_07 = (Sender 1, Won (y ∷ []) (Some 1)) ∷ told_06

pub told_07_ok : IsRun told_ring told_07
unfolding encoding
told_07_ok = (told_06_ok, record { looked_at = refl; unclosed = refl; settled = none _; left = ltb-true 0 4 refl; body_is = body_of_y; next = refl; room = leb-true 3 4 refl })

abbrev pub told_08 : Run
told_08 = (Sender 1, Write 0 Lo) ∷ told_07

pub told_08_ok : IsRun told_ring told_08
unfolding encoding
told_08_ok = (told_07_ok, record { inside = ltb-true 0 2 refl; unflipped = refl })

abbrev pub told_09 : Run
told_09 = (Sender 1, Write 0 Hi) ∷ told_08

pub told_09_ok : IsRun told_ring told_09
unfolding encoding
told_09_ok = (told_08_ok, record { inside = ltb-true 0 2 refl; unflipped = refl })

abbrev pub told_10 : Run
told_10 = (Sender 1, Write 1 Lo) ∷ told_09

pub told_10_ok : IsRun told_ring told_10
unfolding encoding
told_10_ok = (told_09_ok, record { inside = ltb-true 1 2 refl; unflipped = refl })

abbrev pub told_11 : Run
told_11 = (Sender 1, Write 1 Hi) ∷ told_10

pub told_11_ok : IsRun told_ring told_11
unfolding encoding
told_11_ok = (told_10_ok, record { inside = ltb-true 1 2 refl; unflipped = refl })

abbrev pub told_12 : Run
told_12 = (Sender 1, Flip 0 2) ∷ told_11

pub told_12_ok : IsRun told_ring told_12
unfolding encoding
told_12_ok = (told_11_ok, record { many = (leb-true 1 2 refl, leb-true 2 64 refl); inside = leb-true 2 2 refl; in_word = two _ refl refl; unflipped = two _ refl refl; written = halves_of_two _ refl refl refl refl })

abbrev pub told_13 : Run
told_13 = (Consumer, Test 3 3) ∷ told_12

pub told_13_ok : IsRun told_ring told_13
unfolding encoding
told_13_ok = (told_12_ok, record { many = (leb-true 1 3 refl, leb-true 3 64 refl); most = leb-true 3 3 refl; in_word = three _ refl refl refl; ready = three _ refl refl refl; no_more = λ less word. absurd (omega (arith, less)) })

abbrev pub told_14 : Run
told_14 = (Consumer, Read 0 Lo 0x500000003) ∷ told_13

pub told_14_ok : IsRun told_ring told_14
unfolding encoding
told_14_ok = (told_13_ok, record { ready = ltb-true 0 3 refl; item = record { sender = 0; number = None; place = 0; raw = x }; there = refl; found = refl })

abbrev pub told_15 : Run
told_15 = (Consumer, Read 0 Hi 0x1) ∷ told_14

pub told_15_ok : IsRun told_ring told_15
unfolding encoding
told_15_ok = (told_14_ok, record { ready = ltb-true 0 3 refl; item = record { sender = 0; number = None; place = 0; raw = x }; there = refl; found = refl })

abbrev pub told_16 : Run
told_16 = (Consumer, Read 1 Lo 0x600000003) ∷ told_15

pub told_16_ok : IsRun told_ring told_16
unfolding encoding
told_16_ok = (told_15_ok, record { ready = ltb-true 1 3 refl; item = record { sender = 1; number = Some 1; place = 0; raw = y }; there = refl; found = refl })

abbrev pub told_17 : Run
told_17 = (Consumer, Read 1 Hi 0x1) ∷ told_16

pub told_17_ok : IsRun told_ring told_17
unfolding encoding
told_17_ok = (told_16_ok, record { ready = ltb-true 1 3 refl; item = record { sender = 1; number = Some 1; place = 0; raw = y }; there = refl; found = refl })

abbrev pub told_18 : Run
told_18 = (Consumer, Read 2 Lo 0x100001046) ∷ told_17

pub told_18_ok : IsRun told_ring told_18
unfolding encoding
told_18_ok = (told_17_ok, record { ready = ltb-true 2 3 refl; item = record { sender = 1; number = Some 1; place = 1; raw = sync_raw 1 1 }; there = refl; found = refl })

abbrev pub told_19 : Run
told_19 = (Consumer, Read 2 Hi 0x40000004) ∷ told_18

pub told_19_ok : IsRun told_ring told_19
unfolding encoding
told_19_ok = (told_18_ok, record { ready = ltb-true 2 3 refl; item = record { sender = 1; number = Some 1; place = 1; raw = sync_raw 1 1 }; there = refl; found = refl })

abbrev pub told_20 : Run
told_20 = (Consumer, Advance (x ∷ y ∷ sync_raw 1 1 ∷ [])) ∷ told_19

pub told_20_ok : IsRun told_ring told_20
unfolding encoding
told_20_ok = (told_19_ok, record { some = leb-true 1 3 refl; ready = leb-true 3 3 refl; read = read_all (trail_of Consumer told_19) (x ∷ y ∷ sync_raw 1 1 ∷ []) (refl, refl, (refl, refl, (refl, refl, tt))) })

abbrev pub told_21 : Run
told_21 = (Consumer, Acknowledge 1 1) ∷ told_20

pub told_21_ok : IsRun told_ring told_21
unfolding encoding
told_21_ok = (told_20_ok, record { next = refl; taken = record { position = 2; place = 1; below = ltb-true 2 3 refl; there = refl } })

abbrev pub told_22 : Run
told_22 = (Sender 1, Ask 1) ∷ told_21

pub told_22_ok : IsRun told_ring told_22
unfolding encoding
told_22_ok = (told_21_ok, refl)
