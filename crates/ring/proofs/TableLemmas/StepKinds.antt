-- What each kind of step may do, by its law.
use Rattle.std.proofs.Common.{◌≡◌, ℕ, suc, Bool, true, false, cond, eq-eqb, eqb-true, true≢false, ◌+◌, ◌<◌, List, ◌∷◌, refl, sym, ap, ◌∙◌, subst, arith, ◌%◌, ◌≤◌, mod-lt}
use Rattle.std.proofs.lemmas.Nat.{pow_pos}
use Rattle.std.specs.Prelude.{◌==◌, Option, Some, length, slice_index, slice_set, slice_get, bit_or, bit_xor}
use Rattle.std.proofs.lemmas.List.{get_or-set_same}
use prog.Atomic.{either}
use Rattle.ring.specs.Runs.{Raw, Control, Who, Consumer, Sender, Event, Look, Won, Lost, Write, Flip, Close, Test, Read, Advance, Acknowledge, Ask, Half, Lo, Hi, Trail, Run, trail_of, batch_length}
use Rattle.ring.specs.Runs.{found_ready, start_index, taken_by, acknowledged_by, head, world, half_of, IsRunLength, MayTry, IsNextNumber, MayWrite, MayFlip, MayAdvance, SyncIsTaken, length_with, Ring}
use Rattle.ring.specs.Runs.{EveryRun, SyncsAreCounted, syncs_taken, TellsTheHead, TellsTheNumbers}
use Rattle.qindex.specs.Positions.{size, index_of}
use Rattle.qindex.specs.ControlWord.{packed, control_in, advance_mask, close_mask}
use Rattle.ringcore.specs.memory.Layout.{control_word, flag_word, data_word, half_number, cell, words_of}
use Rattle.ringcore.specs.memory.Flags.{IsFlipMask, ready_in}
use Rattle.ringcore.specs.memory.Shadow.{AreAfter}
use Rattle.ringcore.specs.memory.StepLaws.{Always, HasAControlWord, LooksByALoad, ClosesByAnOr, WinsByAnExchange, LosesByAnExchange, WritesByAStore, FlipsByAnExclusiveOr, ReadsByALoad}
use Rattle.ringcore.specs.memory.StepLaws.{AdvancesByAnExclusiveOr, AcknowledgesByAStore, AsksByALoad, StartsWhereItLooked, with_reserved, reserved_commands, TestsFindReadyIn}
use Rattle.ringcore.specs.machine.StepAnswers.{next_number}
use Rattle.ring.specs.table.{Stands, looks, closes, tests, reserves, writes, flips, reads, advances, acknowledges, asks, IsOperation, IsEventOf}
use Rattle.ring.proofs.TableLemmas.Steps.{MayStep, set_back}

many_is : (trail : Trail) (closing : Bool) (body : List Raw) → length_with closing body ≡ batch_length body (next_number trail closing)
many_is trail true body = refl
many_is trail false body = refl

next_is : (trail : Trail) (closing : Bool) → IsNextNumber trail (next_number trail closing)
next_is trail true = refl
next_is trail false = tt

-- what is stored is what was there
still : (ring : Ring) (run : Run) (words : List ℕ) (i : ℕ) → AreAfter ring run words → AreAfter ring run (slice_set words i (slice_index words i))
still ring run words i is = subst (AreAfter ring run) (sym (set_back words i)) is

look_leaves : (ring : Ring) (run : Run) (who : Who) (c : Control) (old new : List ℕ) → new ≡ old → IsOperation ring run who (Look c) old new
look_leaves ring run Consumer c old new is = is
look_leaves ring run (Sender s) c old new is = is

pub looks_may : Always HasAControlWord → Always LooksByALoad → (ring : Ring) (who : Who) (trail : Trail) (i : ℕ) → i ≡ control_word → MayStep ring who trail i (λ x. x) (IsEventOf ring trail looks 0)
looks_may says finds ring who trail i is = subst (λ (j : ℕ). MayStep ring who trail j (λ x. x) (IsEventOf ring trail looks 0)) (sym is) (λ run words now.
    let x : ℕ = slice_index words control_word in (
      Look (control_in ring.geometry x),
      (refl, says ring run words now.after),
      still ring ((who, Look (control_in ring.geometry x)) ∷ run) words control_word (finds ring run words now.after who),
      look_leaves ring run who (control_in ring.geometry x) words _ (set_back words control_word),
    ))

pub closes_may : Always ClosesByAnOr → (ring : Ring) (s : ℕ) (trail : Trail) (i mask : ℕ) → i ≡ control_word → mask ≡ close_mask
    → MayStep ring (Sender s) trail i (λ x. bit_or x mask) (IsEventOf ring trail closes mask)
closes_may law ring s trail i mask at is run words now = (
  Close,
  refl,
  subst (λ (t : ℕ × ℕ). AreAfter ring ((Sender s, Close) ∷ run) (slice_set words t.0 (bit_or (slice_index words t.0) t.1))) (λ q. (sym at q, sym is q)) (law ring run words now.after s),
  (λ q. slice_set words (at q) (bit_or (slice_index words (at q)) (is q))),
)

-- the two ways of an exchange, by what it found
module _ (wins : Always WinsByAnExchange) (loses : Always LosesByAnExchange) (ring : Ring) (s : ℕ) (trail : Trail) (body : List Raw) (closing : Bool) (before : Control) (old new : ℕ)
    (may : MayTry ring trail body (length_with closing body) before) (old_is : old ≡ packed before) (new_is : new ≡ packed (with_reserved before (length_with closing body)))
    (run : Run) (words : List ℕ) (now : Stands ring (Sender s) trail run words) where
  abbrev x : ℕ
  x = slice_index words control_word

  abbrev number : Option ℕ
  number = next_number trail closing

  abbrev Exchanged : Bool → Type 0
  Exchanged v =
      (e : Event) × (e ≡ cond v (Won body number) (Lost body closing (control_in ring.geometry x))) × AreAfter ring ((Sender s, e) ∷ run) (slice_set words control_word (either v new x))
      × IsOperation ring run (Sender s) e words (slice_set words control_word (either v new x))

  tries : MayTry ring (trail_of (Sender s) run) body (length_with closing body) before
  tries = subst (λ (t : Trail). MayTry ring t body (length_with closing body) before) (sym now.trail_is) may

  by_hit : (v : Bool) → (x == old) ≡ v → Exchanged v
  by_hit true hit =
      let many : length_with closing body ≡ batch_length body number = many_is trail closing body in
      let won : AreAfter ring ((Sender s, Won body number) ∷ run) (slice_set words control_word new) =
      subst (λ (y : ℕ). AreAfter ring ((Sender s, Won body number) ∷ run) (slice_set words control_word y))
      (sym (new_is ∙ ap (λ (k : ℕ). packed (with_reserved before k)) many))
      (wins ring run words now.after s body number before
      (subst (λ (k : ℕ). MayTry ring (trail_of (Sender s) run) body k before) many tries)
      (subst (λ (t : Trail). IsNextNumber t number) (sym now.trail_is) (next_is trail closing))
      (eqb-true x old hit ∙ old_is)) in
      -- There is a control word, and it is what was stored in it.
      let some : control_word < length words = (let all = now.after.shadow.many in let slots : ℕ = size ring.geometry in omega (arith, all)) in (
        Won body number,
        refl,
        won,
        record { found = now.after.shadow.control_is; stored = ap (slice_set words control_word) (sym (get_or-set_same words control_word new 0 some) ∙ won.shadow.control_is) },
      )
  by_hit false miss = (
    Lost body closing (control_in ring.geometry x),
    refl,
    still ring ((Sender s, Lost body closing (control_in ring.geometry x)) ∷ run) words control_word
        (loses ring run words now.after s body closing before tries (λ same. true≢false (sym (eq-eqb x old (same ∙ sym old_is)) ∙ miss))),
    set_back words control_word,
  )

pub reserves_may : Always WinsByAnExchange → Always LosesByAnExchange → (ring : Ring) (s : ℕ) (trail : Trail) (body : List Raw) (closing : Bool) (before : Control) (i old new : ℕ) → i ≡ control_word
    → MayTry ring trail body (length_with closing body) before → old ≡ packed before → new ≡ packed (with_reserved before (length_with closing body))
    → MayStep ring (Sender s) trail i (λ x. either (x == old) new x) (IsEventOf ring trail (reserves body closing) old)
reserves_may wins loses ring s trail body closing before i old new at may old_is new_is =
    subst (λ (j : ℕ). MayStep ring (Sender s) trail j (λ x. either (x == old) new x) (IsEventOf ring trail (reserves body closing) old)) (sym at)
    (λ run words now. by_hit wins loses ring s trail body closing before old new may old_is new_is run words now (slice_index words control_word == old) refl)

-- a store, at the slot that an offset of the reservation has
pub writes_may : Always WritesByAStore → Always StartsWhereItLooked → (ring : Ring) (s : ℕ) (trail : Trail) (offset : ℕ) (half : Half) (raw : Raw) (i x : ℕ)
    → MayWrite trail offset → slice_get (reserved_commands s trail) offset ≡ Some raw → x ≡ half_of half raw
    → ((p : ℕ) → start_index ring.geometry trail ≡ index_of ring.geometry p → i ≡ data_word ring.geometry (p + offset) half)
    → MayStep ring (Sender s) trail i (λ _. x) (λ _. IsEventOf ring trail (writes offset half) x x)
writes_may law starts ring s trail offset half raw i x may there x_is at run words now =
    let p : ℕ = (world run).start s in
    let i_is : i ≡ data_word ring.geometry (p + offset) half = at p (ap (start_index ring.geometry) (sym now.trail_is) ∙ sym (starts ring run words now.after s)) in (
      Write offset half,
      refl,
      subst (λ (t : ℕ × ℕ). AreAfter ring ((Sender s, Write offset half) ∷ run) (slice_set words t.0 t.1)) (λ q. (sym i_is q, sym x_is q))
          (law ring run words now.after s offset half raw (subst (λ (t : Trail). MayWrite t offset) (sym now.trail_is) may) (subst (λ (t : Trail). slice_get (reserved_commands s t) offset ≡ Some raw) (sym now.trail_is) there)),
      record {
        raw = raw;
        command = subst (λ (t : Trail). slice_get (reserved_commands s t) offset ≡ Some raw) (sym now.trail_is) there;
        stored = λ q. slice_set words (i_is q) (x_is q);
      },
    )

-- an exclusive or of a flag word
pub flips_may : Always FlipsByAnExclusiveOr → Always StartsWhereItLooked → (ring : Ring) (s : ℕ) (trail : Trail) (offset count i mask : ℕ)
    → ((p : ℕ) → start_index ring.geometry trail ≡ index_of ring.geometry p → ring.flags ≡ 64 → MayFlip ring trail p offset count)
    → ((p : ℕ) → start_index ring.geometry trail ≡ index_of ring.geometry p → i ≡ flag_word ring.geometry (p + offset))
    → ((p : ℕ) → start_index ring.geometry trail ≡ index_of ring.geometry p → IsFlipMask ring.geometry (p + offset) count mask)
    → MayStep ring (Sender s) trail i (λ x. bit_xor x mask) (IsEventOf ring trail (flips offset count) mask)
flips_may law starts ring s trail offset count i mask may at mask_is run words now =
    let p : ℕ = (world run).start s in
    let here : start_index ring.geometry trail ≡ index_of ring.geometry p = ap (start_index ring.geometry) (sym now.trail_is) ∙ sym (starts ring run words now.after s) in (
      Flip offset count,
      refl,
      subst (λ (j : ℕ). AreAfter ring ((Sender s, Flip offset count) ∷ run) (slice_set words j (bit_xor (slice_index words j) mask))) (sym (at p here))
          (law ring run words now.after s offset count mask (subst (λ (t : Trail). MayFlip ring t p offset count) (sym now.trail_is) (may p here now.after.flags_are)) (mask_is p here)),
      record { mask = mask; mask_is = mask_is p here; stored = λ q. slice_set words (at p here q) (bit_xor (slice_index words (at p here q)) mask) },
    )

-- ---- the consumer's

pub tests_may : Always TestsFindReadyIn → EveryRun TellsTheHead → (ring : Ring) (trail : Trail) (limit i : ℕ) → IsRunLength limit → i ≡ flag_word ring.geometry (taken_by trail)
    → MayStep ring Consumer trail i (λ x. x) (IsEventOf ring trail (tests limit) 0)
tests_may law tells ring trail limit i many at run words now =
    let g : ℕ = ring.geometry in
    let h : head (world run) ≡ taken_by trail = tells ring run now.after.run_is ∙ ap taken_by now.trail_is in
    let here : flag_word g (head (world run)) ≡ i = ap (flag_word g) h ∙ sym at in
    let found : ℕ = ready_in g (slice_index words i) (taken_by trail) limit in (
      Test limit found,
      refl,
      still ring ((Consumer, Test limit found) ∷ run) words i
          (subst (λ (t : ℕ × ℕ). AreAfter ring ((Consumer, Test limit (ready_in g (slice_index words t.1) t.0 limit)) ∷ run) words) (λ k. (h k, here k)) (law ring run words now.after limit many)),
      set_back words i,
    )

-- a store of nothing, at the slot that an offset from the head has
pub reads_may : Always ReadsByALoad → EveryRun TellsTheHead → (ring : Ring) (trail : Trail) (offset : ℕ) (half : Half) (i : ℕ) → offset < found_ready trail → i ≡ data_word ring.geometry (taken_by trail + offset) half
    → MayStep ring Consumer trail i (λ x. x) (IsEventOf ring trail (reads offset half) 0)
reads_may law tells ring trail offset half i low at run words now =
    let h : head (world run) ≡ taken_by trail = tells ring run now.after.run_is ∙ ap taken_by now.trail_is in
    let here : data_word ring.geometry (head (world run) + offset) half ≡ i = ap (λ (p : ℕ). data_word ring.geometry (p + offset) half) h ∙ sym at in
    let x : ℕ = slice_index words i in (
      Read offset half x,
      refl,
      still ring ((Consumer, Read offset half x) ∷ run) words i
          (subst (λ (j : ℕ). AreAfter ring ((Consumer, Read offset half (slice_index words j)) ∷ run) words) here
          (law ring run words now.after offset half (subst (λ (t : Trail). offset < found_ready t) (sym now.trail_is) low))),
      set_back words i,
    )

pub advances_may : Always AdvancesByAnExclusiveOr → EveryRun TellsTheHead → (ring : Ring) (trail : Trail) (raws : List Raw) (i mask : ℕ) → i ≡ control_word → MayAdvance trail raws
    → mask ≡ advance_mask (index_of ring.geometry (taken_by trail)) (index_of ring.geometry (taken_by trail + length raws))
    → MayStep ring Consumer trail i (λ x. bit_xor x mask) (IsEventOf ring trail (advances raws) mask)
advances_may law tells ring trail raws i mask at may mask_is run words now =
    let h : head (world run) ≡ taken_by trail = tells ring run now.after.run_is ∙ ap taken_by now.trail_is in
    let same : advance_mask (index_of ring.geometry (head (world run))) (index_of ring.geometry (head (world run) + length raws)) ≡ mask =
    ap (λ (p : ℕ). advance_mask (index_of ring.geometry p) (index_of ring.geometry (p + length raws))) h ∙ sym mask_is in (
      Advance raws,
      refl,
      subst (λ (t : ℕ × ℕ). AreAfter ring ((Consumer, Advance raws) ∷ run) (slice_set words t.0 (bit_xor (slice_index words t.0) t.1))) (λ q. (sym at q, same q))
          (law ring run words now.after raws (subst (λ (t : Trail). MayAdvance t raws) (sym now.trail_is) may)),
      (λ q. slice_set words (at q) (bit_xor (slice_index words (at q)) (sym same q))),
    )

pub acknowledges_may : Always AcknowledgesByAStore → EveryRun TellsTheNumbers → EveryRun SyncsAreCounted → (ring : Ring) (trail : Trail) (s number i x : ℕ) → i ≡ cell ring.geometry s → x ≡ number
    → number ≡ suc (acknowledged_by s trail) → number ≤ syncs_taken s trail
    → MayStep ring Consumer trail i (λ _. x) (λ _. IsEventOf ring trail (acknowledges s number) x x)
acknowledges_may law tells counted ring trail s number i x at x_is next low run words now =
    let a : (world run).acknowledged s ≡ acknowledged_by s trail = tells ring run now.after.run_is s ∙ ap (acknowledged_by s) now.trail_is in
    let taken : SyncIsTaken (world run) s number = (counted ring run now.after.run_is s number).1 (let n = next in omega arith, subst (λ (t : Trail). number ≤ syncs_taken s t) (sym now.trail_is) low) in (
      Acknowledge s number,
      refl,
      subst (λ (t : ℕ × ℕ). AreAfter ring ((Consumer, Acknowledge s number) ∷ run) (slice_set words t.0 t.1)) (λ q. (sym at q, sym x_is q))
          (law ring run words now.after s number (record { next = next ∙ ap suc (sym a); taken = taken })),
      (λ q. slice_set words (at q) (x_is q)),
    )

pub asks_may : Always AsksByALoad → (ring : Ring) (s : ℕ) (trail : Trail) (i : ℕ) → i ≡ cell ring.geometry s → MayStep ring (Sender s) trail i (λ x. x) (IsEventOf ring trail asks 0)
asks_may law ring s trail i at run words now =
    let x : ℕ = slice_index words i in (
      Ask x,
      refl,
      still ring ((Sender s, Ask x) ∷ run) words i (subst (λ (j : ℕ). AreAfter ring ((Sender s, Ask (slice_index words j)) ∷ run) words) (sym at) (law ring run words now.after s now.known)),
      set_back words i,
    )

-- ---- the words are in the table

pub control_inside : (g senders many i : ℕ) → many ≡ words_of g senders → i ≡ control_word → i < many
control_inside g senders many i m is = let x : ℕ = size g in omega arith

pub flag_inside : (g senders many i p : ℕ) → many ≡ words_of g senders → i ≡ flag_word g p → i < many
flag_inside g senders many i p m is =
    let n : ℕ = size g in let low : p % n < n = mod-lt p (pow_pos g) in let r : ℕ = p % n in omega arith

pub data_inside : (g senders many i p : ℕ) (half : Half) → many ≡ words_of g senders → i ≡ data_word g p half → i < many
data_inside g senders many i p half m is =
    let n : ℕ = size g in let low : p % n < n = mod-lt p (pow_pos g) in let h = small half in let r : ℕ = p % n in omega arith
  where
    small : (half : Half) → half_number half < 2
    small Lo = omega arith
    small Hi = omega arith

pub cell_inside : (g senders many i s : ℕ) → many ≡ words_of g senders → i ≡ cell g s → s < senders → i < many
cell_inside g senders many i s m is low = let x : ℕ = size g in omega arith
