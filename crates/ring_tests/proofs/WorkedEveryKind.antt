-- A run that is worked out event by event: every kind of step, in a ring of 4. A run of three positions passes the
-- end of the ring in one flip, one test and one advance.
use Rattle.std.proofs.Common.{◌≡◌, true, false, [], ◌∷◌, length, Some, None, refl, ap, ltb-true, leb-true, arith}
use Rattle.cmdcodec.specs.Words.{encoding}
use Rattle.qindex.specs.declared.control.Control.{Control}
use Rattle.ringcore.specs.declared.world.event.Who.TheVariants.{Consumer, Sender}
use Rattle.ringcore.specs.declared.world.event.Half.TheVariants.{Lo, Hi}
use Rattle.ringcore.specs.declared.world.event.Event.TheVariants.{Look, Won, Lost, Write, Flip, Test, Read, Advance, Close, Acknowledge, Ask}
use Rattle.ringcore.specs.world.Trails.{Run, trail_of}
use Rattle.ringcore.specs.world.World.{sync_raw, world}
use Rattle.ringcore.specs.world.Allowed.{Ring, IsRun}
use Rattle.ring_tests.proofs.WorkedCases.{none, one, two, three, halves_of_one, halves_of_two, halves_of_three, read_all, x, body_of_one, body_of_two, shows}

abbrev every_kind_ring : Ring
every_kind_ring = record { geometry = 2; senders = 2; max_batches = 4; flags = 64 }

abbrev every_kind_01 : Run
every_kind_01 = (Sender 0, Look (shows 2 0 0 false)) ∷ []

every_kind_01_ok : IsRun every_kind_ring every_kind_01
unfolding encoding
every_kind_01_ok = (tt, refl)

abbrev every_kind_02 : Run
every_kind_02 = (Sender 1, Look (shows 2 0 0 false)) ∷ every_kind_01

every_kind_02_ok : IsRun every_kind_ring every_kind_02
unfolding encoding
every_kind_02_ok = (every_kind_01_ok, refl)

abbrev every_kind_03 : Run
every_kind_03 = (Sender 0, Won (x ∷ []) (Some 1)) ∷ every_kind_02

every_kind_03_ok : IsRun every_kind_ring every_kind_03
unfolding encoding
every_kind_03_ok = (every_kind_02_ok, record { looked_at = refl; unclosed = refl; settled = none _; left = ltb-true 0 4 refl; body_is = body_of_one; next = refl; room = leb-true 2 4 refl })

abbrev every_kind_04 : Run
every_kind_04 = (Sender 1, Lost (x ∷ []) false (shows 2 2 0 false)) ∷ every_kind_03

every_kind_04_ok : IsRun every_kind_ring every_kind_04
unfolding encoding
every_kind_04_ok = (every_kind_03_ok, record { before = shows 2 0 0 false; tries = record { looked_at = refl; unclosed = refl; settled = none _; left = ltb-true 0 4 refl; body_is = body_of_one; room = leb-true 1 4 refl }; found_is = refl; other = λ is. absurd (omega (arith, ap (λ (c : Control). c.prod.number) is)) })

abbrev every_kind_05 : Run
every_kind_05 = (Sender 0, Write 0 Lo) ∷ every_kind_04

every_kind_05_ok : IsRun every_kind_ring every_kind_05
unfolding encoding
every_kind_05_ok = (every_kind_04_ok, record { inside = ltb-true 0 2 refl; unflipped = refl })

abbrev every_kind_06 : Run
every_kind_06 = (Sender 0, Write 0 Hi) ∷ every_kind_05

every_kind_06_ok : IsRun every_kind_ring every_kind_06
unfolding encoding
every_kind_06_ok = (every_kind_05_ok, record { inside = ltb-true 0 2 refl; unflipped = refl })

abbrev every_kind_07 : Run
every_kind_07 = (Sender 0, Write 1 Lo) ∷ every_kind_06

every_kind_07_ok : IsRun every_kind_ring every_kind_07
unfolding encoding
every_kind_07_ok = (every_kind_06_ok, record { inside = ltb-true 1 2 refl; unflipped = refl })

abbrev every_kind_08 : Run
every_kind_08 = (Sender 0, Write 1 Hi) ∷ every_kind_07

every_kind_08_ok : IsRun every_kind_ring every_kind_08
unfolding encoding
every_kind_08_ok = (every_kind_07_ok, record { inside = ltb-true 1 2 refl; unflipped = refl })

abbrev every_kind_09 : Run
every_kind_09 = (Sender 0, Flip 0 2) ∷ every_kind_08

every_kind_09_ok : IsRun every_kind_ring every_kind_09
unfolding encoding
every_kind_09_ok = (every_kind_08_ok, record { many = (leb-true 1 2 refl, leb-true 2 64 refl); inside = leb-true 2 2 refl; in_word = two _ refl refl; unflipped = two _ refl refl; written = halves_of_two _ refl refl refl refl })

abbrev every_kind_10 : Run
every_kind_10 = (Consumer, Test 64 2) ∷ every_kind_09

every_kind_10_ok : IsRun every_kind_ring every_kind_10
unfolding encoding
every_kind_10_ok = (every_kind_09_ok, record { many = (leb-true 1 64 refl, leb-true 64 64 refl); most = leb-true 2 64 refl; in_word = two _ refl refl; ready = two _ refl refl; no_more = λ less word. refl })

abbrev every_kind_11 : Run
every_kind_11 = (Consumer, Read 0 Lo 0x500000003) ∷ every_kind_10

every_kind_11_ok : IsRun every_kind_ring every_kind_11
unfolding encoding
every_kind_11_ok = (every_kind_10_ok, record { ready = ltb-true 0 2 refl; item = record { sender = 0; number = Some 1; place = 0; raw = x }; there = refl; found = refl })

abbrev every_kind_12 : Run
every_kind_12 = (Consumer, Read 0 Hi 0x1) ∷ every_kind_11

every_kind_12_ok : IsRun every_kind_ring every_kind_12
unfolding encoding
every_kind_12_ok = (every_kind_11_ok, record { ready = ltb-true 0 2 refl; item = record { sender = 0; number = Some 1; place = 0; raw = x }; there = refl; found = refl })

abbrev every_kind_13 : Run
every_kind_13 = (Consumer, Read 1 Lo 0x100001046) ∷ every_kind_12

every_kind_13_ok : IsRun every_kind_ring every_kind_13
unfolding encoding
every_kind_13_ok = (every_kind_12_ok, record { ready = ltb-true 1 2 refl; item = record { sender = 0; number = Some 1; place = 1; raw = sync_raw 0 1 }; there = refl; found = refl })

abbrev every_kind_14 : Run
every_kind_14 = (Consumer, Read 1 Hi 0x40000000) ∷ every_kind_13

every_kind_14_ok : IsRun every_kind_ring every_kind_14
unfolding encoding
every_kind_14_ok = (every_kind_13_ok, record { ready = ltb-true 1 2 refl; item = record { sender = 0; number = Some 1; place = 1; raw = sync_raw 0 1 }; there = refl; found = refl })

abbrev every_kind_15 : Run
every_kind_15 = (Consumer, Advance (x ∷ sync_raw 0 1 ∷ [])) ∷ every_kind_14

every_kind_15_ok : IsRun every_kind_ring every_kind_15
unfolding encoding
every_kind_15_ok = (every_kind_14_ok, record { some = leb-true 1 2 refl; ready = leb-true 2 2 refl; read = read_all (trail_of Consumer every_kind_14) (x ∷ sync_raw 0 1 ∷ []) (refl, refl, (refl, refl, tt)) })

abbrev every_kind_16 : Run
every_kind_16 = (Consumer, Acknowledge 0 1) ∷ every_kind_15

every_kind_16_ok : IsRun every_kind_ring every_kind_16
unfolding encoding
every_kind_16_ok = (every_kind_15_ok, record { next = refl; taken = record { position = 1; place = 1; below = ltb-true 1 2 refl; there = refl } })

abbrev every_kind_17 : Run
every_kind_17 = (Sender 0, Ask 1) ∷ every_kind_16

every_kind_17_ok : IsRun every_kind_ring every_kind_17
unfolding encoding
every_kind_17_ok = (every_kind_16_ok, refl)

abbrev every_kind_18 : Run
every_kind_18 = (Sender 1, Look (shows 2 2 2 false)) ∷ every_kind_17

every_kind_18_ok : IsRun every_kind_ring every_kind_18
unfolding encoding
every_kind_18_ok = (every_kind_17_ok, refl)

abbrev every_kind_19 : Run
every_kind_19 = (Sender 1, Won (x ∷ []) None) ∷ every_kind_18

every_kind_19_ok : IsRun every_kind_ring every_kind_19
unfolding encoding
every_kind_19_ok = (every_kind_18_ok, record { looked_at = refl; unclosed = refl; settled = none _; left = ltb-true 0 4 refl; body_is = body_of_one; next = tt; room = leb-true 3 6 refl })

abbrev every_kind_20 : Run
every_kind_20 = (Sender 1, Write 0 Lo) ∷ every_kind_19

every_kind_20_ok : IsRun every_kind_ring every_kind_20
unfolding encoding
every_kind_20_ok = (every_kind_19_ok, record { inside = ltb-true 0 1 refl; unflipped = refl })

abbrev every_kind_21 : Run
every_kind_21 = (Sender 1, Write 0 Hi) ∷ every_kind_20

every_kind_21_ok : IsRun every_kind_ring every_kind_21
unfolding encoding
every_kind_21_ok = (every_kind_20_ok, record { inside = ltb-true 0 1 refl; unflipped = refl })

abbrev every_kind_22 : Run
every_kind_22 = (Sender 1, Flip 0 1) ∷ every_kind_21

every_kind_22_ok : IsRun every_kind_ring every_kind_22
unfolding encoding
every_kind_22_ok = (every_kind_21_ok, record { many = (leb-true 1 1 refl, leb-true 1 64 refl); inside = leb-true 1 1 refl; in_word = one _ refl; unflipped = one _ refl; written = halves_of_one _ refl refl })

abbrev every_kind_23 : Run
every_kind_23 = (Consumer, Test 2 1) ∷ every_kind_22

every_kind_23_ok : IsRun every_kind_ring every_kind_23
unfolding encoding
every_kind_23_ok = (every_kind_22_ok, record { many = (leb-true 1 2 refl, leb-true 2 64 refl); most = leb-true 1 2 refl; in_word = one _ refl; ready = one _ refl; no_more = λ less word. refl })

abbrev every_kind_24 : Run
every_kind_24 = (Consumer, Read 0 Lo 0x500000003) ∷ every_kind_23

every_kind_24_ok : IsRun every_kind_ring every_kind_24
unfolding encoding
every_kind_24_ok = (every_kind_23_ok, record { ready = ltb-true 0 1 refl; item = record { sender = 1; number = None; place = 0; raw = x }; there = refl; found = refl })

abbrev every_kind_25 : Run
every_kind_25 = (Consumer, Read 0 Hi 0x1) ∷ every_kind_24

every_kind_25_ok : IsRun every_kind_ring every_kind_25
unfolding encoding
every_kind_25_ok = (every_kind_24_ok, record { ready = ltb-true 0 1 refl; item = record { sender = 1; number = None; place = 0; raw = x }; there = refl; found = refl })

abbrev every_kind_26 : Run
every_kind_26 = (Consumer, Advance (x ∷ [])) ∷ every_kind_25

every_kind_26_ok : IsRun every_kind_ring every_kind_26
unfolding encoding
every_kind_26_ok = (every_kind_25_ok, record { some = leb-true 1 1 refl; ready = leb-true 1 1 refl; read = read_all (trail_of Consumer every_kind_25) (x ∷ []) (refl, refl, tt) })

abbrev every_kind_27 : Run
every_kind_27 = (Sender 0, Look (shows 2 3 3 false)) ∷ every_kind_26

every_kind_27_ok : IsRun every_kind_ring every_kind_27
unfolding encoding
every_kind_27_ok = (every_kind_26_ok, refl)

abbrev every_kind_28 : Run
every_kind_28 = (Sender 0, Won (x ∷ x ∷ []) (Some 2)) ∷ every_kind_27

every_kind_28_ok : IsRun every_kind_ring every_kind_28
unfolding encoding
every_kind_28_ok = (every_kind_27_ok, record { looked_at = refl; unclosed = refl; settled = two _ refl refl; left = ltb-true 1 4 refl; body_is = body_of_two; next = refl; room = leb-true 6 7 refl })

abbrev every_kind_29 : Run
every_kind_29 = (Sender 1, Close) ∷ every_kind_28

every_kind_29_ok : IsRun every_kind_ring every_kind_29
unfolding encoding
every_kind_29_ok = (every_kind_28_ok, tt)

abbrev every_kind_30 : Run
every_kind_30 = (Sender 0, Write 0 Lo) ∷ every_kind_29

every_kind_30_ok : IsRun every_kind_ring every_kind_30
unfolding encoding
every_kind_30_ok = (every_kind_29_ok, record { inside = ltb-true 0 3 refl; unflipped = refl })

abbrev every_kind_31 : Run
every_kind_31 = (Sender 0, Write 0 Hi) ∷ every_kind_30

every_kind_31_ok : IsRun every_kind_ring every_kind_31
unfolding encoding
every_kind_31_ok = (every_kind_30_ok, record { inside = ltb-true 0 3 refl; unflipped = refl })

abbrev every_kind_32 : Run
every_kind_32 = (Sender 0, Write 1 Lo) ∷ every_kind_31

every_kind_32_ok : IsRun every_kind_ring every_kind_32
unfolding encoding
every_kind_32_ok = (every_kind_31_ok, record { inside = ltb-true 1 3 refl; unflipped = refl })

abbrev every_kind_33 : Run
every_kind_33 = (Sender 0, Write 1 Hi) ∷ every_kind_32

every_kind_33_ok : IsRun every_kind_ring every_kind_33
unfolding encoding
every_kind_33_ok = (every_kind_32_ok, record { inside = ltb-true 1 3 refl; unflipped = refl })

abbrev every_kind_34 : Run
every_kind_34 = (Sender 0, Write 2 Lo) ∷ every_kind_33

every_kind_34_ok : IsRun every_kind_ring every_kind_34
unfolding encoding
every_kind_34_ok = (every_kind_33_ok, record { inside = ltb-true 2 3 refl; unflipped = refl })

abbrev every_kind_35 : Run
every_kind_35 = (Sender 0, Write 2 Hi) ∷ every_kind_34

every_kind_35_ok : IsRun every_kind_ring every_kind_35
unfolding encoding
every_kind_35_ok = (every_kind_34_ok, record { inside = ltb-true 2 3 refl; unflipped = refl })

abbrev every_kind_36 : Run
every_kind_36 = (Sender 0, Flip 0 3) ∷ every_kind_35

every_kind_36_ok : IsRun every_kind_ring every_kind_36
unfolding encoding
every_kind_36_ok = (every_kind_35_ok, record { many = (leb-true 1 3 refl, leb-true 3 64 refl); inside = leb-true 3 3 refl; in_word = three _ refl refl refl; unflipped = three _ refl refl refl; written = halves_of_three _ refl refl refl refl refl refl })

abbrev every_kind_37 : Run
every_kind_37 = (Consumer, Test 64 3) ∷ every_kind_36

every_kind_37_ok : IsRun every_kind_ring every_kind_37
unfolding encoding
every_kind_37_ok = (every_kind_36_ok, record { many = (leb-true 1 64 refl, leb-true 64 64 refl); most = leb-true 3 64 refl; in_word = three _ refl refl refl; ready = three _ refl refl refl; no_more = λ less word. refl })

abbrev every_kind_38 : Run
every_kind_38 = (Consumer, Read 0 Lo 0x500000003) ∷ every_kind_37

every_kind_38_ok : IsRun every_kind_ring every_kind_38
unfolding encoding
every_kind_38_ok = (every_kind_37_ok, record { ready = ltb-true 0 3 refl; item = record { sender = 0; number = Some 2; place = 0; raw = x }; there = refl; found = refl })

abbrev every_kind_39 : Run
every_kind_39 = (Consumer, Read 0 Hi 0x1) ∷ every_kind_38

every_kind_39_ok : IsRun every_kind_ring every_kind_39
unfolding encoding
every_kind_39_ok = (every_kind_38_ok, record { ready = ltb-true 0 3 refl; item = record { sender = 0; number = Some 2; place = 0; raw = x }; there = refl; found = refl })

abbrev every_kind_40 : Run
every_kind_40 = (Consumer, Read 1 Lo 0x500000003) ∷ every_kind_39

every_kind_40_ok : IsRun every_kind_ring every_kind_40
unfolding encoding
every_kind_40_ok = (every_kind_39_ok, record { ready = ltb-true 1 3 refl; item = record { sender = 0; number = Some 2; place = 1; raw = x }; there = refl; found = refl })

abbrev every_kind_41 : Run
every_kind_41 = (Consumer, Read 1 Hi 0x1) ∷ every_kind_40

every_kind_41_ok : IsRun every_kind_ring every_kind_41
unfolding encoding
every_kind_41_ok = (every_kind_40_ok, record { ready = ltb-true 1 3 refl; item = record { sender = 0; number = Some 2; place = 1; raw = x }; there = refl; found = refl })

abbrev every_kind_42 : Run
every_kind_42 = (Consumer, Read 2 Lo 0x200001046) ∷ every_kind_41

every_kind_42_ok : IsRun every_kind_ring every_kind_42
unfolding encoding
every_kind_42_ok = (every_kind_41_ok, record { ready = ltb-true 2 3 refl; item = record { sender = 0; number = Some 2; place = 2; raw = sync_raw 0 2 }; there = refl; found = refl })

abbrev every_kind_43 : Run
every_kind_43 = (Consumer, Read 2 Hi 0x40000000) ∷ every_kind_42

every_kind_43_ok : IsRun every_kind_ring every_kind_43
unfolding encoding
every_kind_43_ok = (every_kind_42_ok, record { ready = ltb-true 2 3 refl; item = record { sender = 0; number = Some 2; place = 2; raw = sync_raw 0 2 }; there = refl; found = refl })

abbrev every_kind_44 : Run
every_kind_44 = (Consumer, Advance (x ∷ x ∷ sync_raw 0 2 ∷ [])) ∷ every_kind_43

every_kind_44_ok : IsRun every_kind_ring every_kind_44
unfolding encoding
every_kind_44_ok = (every_kind_43_ok, record { some = leb-true 1 3 refl; ready = leb-true 3 3 refl; read = read_all (trail_of Consumer every_kind_43) (x ∷ x ∷ sync_raw 0 2 ∷ []) (refl, refl, (refl, refl, (refl, refl, tt))) })

abbrev every_kind_45 : Run
every_kind_45 = (Consumer, Acknowledge 0 2) ∷ every_kind_44

every_kind_45_ok : IsRun every_kind_ring every_kind_45
unfolding encoding
every_kind_45_ok = (every_kind_44_ok, record { next = refl; taken = record { position = 5; place = 2; below = ltb-true 5 6 refl; there = refl } })

abbrev every_kind_46 : Run
every_kind_46 = (Sender 0, Ask 2) ∷ every_kind_45

every_kind_46_ok : IsRun every_kind_ring every_kind_46
unfolding encoding
every_kind_46_ok = (every_kind_45_ok, refl)

abbrev every_kind_47 : Run
every_kind_47 = (Consumer, Look (shows 2 6 6 true)) ∷ every_kind_46

every_kind_47_ok : IsRun every_kind_ring every_kind_47
unfolding encoding
every_kind_47_ok = (every_kind_46_ok, refl)

-- All six commands that were reserved are taken, both numbers are acknowledged, and the queue is closed.
every_kind_world : (length (world every_kind_47).reserved ≡ 6) × (length (world every_kind_47).taken ≡ 6) × ((world every_kind_47).acknowledged 0 ≡ 2) × ((world every_kind_47).closed ≡ true)
every_kind_world = (refl, refl, refl, refl)
