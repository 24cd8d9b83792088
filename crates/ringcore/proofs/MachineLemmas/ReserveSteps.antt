-- The machine after a reserve, won or lost.
use Rattle.std.proofs.Common.{◌≡◌, ℕ, ◌+◌, ◌-◌, ◌^◌, ◌<◌, ◌≤◌, Bool, true, false, Option, Some, List, ◌∷◌, length, length-set, refl, sym, ap, ap₂, ◌∙◌, subst, arith}
use Rattle.std.specs.Prelude.{slice_get, slice_set, if◌then◌else◌}
use Rattle.std.specs.Int.{from_bool}
use Rattle.arrayvec.specs.ArrayVec.{ArrayVec}
use Rattle.cmdcodec.specs.declared.raw.Raw.{Raw}
use Rattle.qindex.specs.declared.control.Control.{Control}
use Rattle.qindex.specs.Positions.{IndexValue, index_of}
use Rattle.qindex.specs.Indexes.{IsQueue, distance}
use Rattle.qindex.specs.ControlWord.{packed}
use Rattle.qindex.specs.Laws.{IndexesTellTheQueue}
use Rattle.cmdcodec.specs.Bodies.{most_batches}
use Rattle.ringcore.specs.declared.world.event.Who.{Who}
use Rattle.ringcore.specs.declared.world.event.Who.TheVariants.{Sender}
use Rattle.ringcore.specs.declared.world.event.Event.{Event}
use Rattle.ringcore.specs.declared.world.event.Event.TheVariants as event
use Rattle.ringcore.specs.declared.machine.step.Step.TheVariants.{Reserve}
use Rattle.ringcore.specs.declared.machine.step.Seen.TheVariants as seen
use Rattle.ringcore.specs.world.Trails.{Run, trail_of, looked, batch_length}
use Rattle.ringcore.specs.world.World.{tail, head, world}
use Rattle.ringcore.specs.world.Allowed.{MayTry, MayWin, IsRun, length_with}
use Rattle.ringcore.specs.memory.Layout.{control_word}
use Rattle.ringcore.specs.memory.Shadow.{AreAfter}
use Rattle.ringcore.specs.memory.StepLaws.{Always, WinsByAnExchange}
use Rattle.ringcore.specs.memory.WordStores.{WordsValue, word_at, with_word}
use Rattle.ringcore.specs.machine.SenderViews.{SenderValue, Knows, WhereKnown}
use Rattle.ringcore.specs.machine.ConsumerViews.{WhereConsumerKnows}
use Rattle.ringcore.specs.machine.StepAnswers.{is_same_word, next_number, event_of, seen_of}
use Rattle.ringcore.specs.machine.Played.{StepsAreAllowed}
use Rattle.ringcore.specs.machine.Core.{CoreValue, ring_with, ring_of, StandsAfter, IsMachine, HasNoFault, FindsControl, IsTaken}
use Rattle.ringcore.proofs.MachineLemmas.FaultlessIsAllowed.{length_is}
use Rattle.ringcore.proofs.WorldLemmas.Sound.{sound}
use Rattle.ringcore.proofs.MachineLemmas.Standing.{all_know, sender_stands, stays_machine, few_reserved}

module _ (may : StepsAreAllowed) (old : CoreValue) (s : ℕ) (body : ArrayVec Raw) (closes : Bool) (found : Control) (same : Bool)
    (accepted : HasNoFault old (Reserve s body closes) (λ run. FindsControl old run s found same)) where
  -- the event, by whether the word is the one that was looked at
  reserve_event : (run : Run) → StandsAfter old run
      → event_of (ring_of old) run (Reserve s body closes)
      ≡ (Sender s, if same then event.Won body.items (next_number (trail_of (Sender s) run) closes) else event.Lost body.items closes found)
  reserve_event run stands =
      let finds = (accepted run stands).1 in
      let mine = trail_of (Sender s) run in
      ap (λ c. (Sender s, if is_same_word (looked mine) c then event.Won body.items (next_number mine closes) else event.Lost body.items closes c)) (sym finds.0)
      ∙ ap (λ (b : Bool). (Sender s, if b then event.Won body.items (next_number mine closes) else event.Lost body.items closes found)) finds.1

  reserve_run : (run : Run) (e : Event) → StandsAfter old run → event_of (ring_of old) run (Reserve s body closes) ≡ (Sender s, e)
      → IsRun (ring_of old) ((Sender s, e) ∷ run)
  reserve_run run e stands is =
      subst (λ (x : Who × Event). IsRun (ring_of old) (x ∷ run)) is
      (may (ring_of old) run (Reserve s body closes) stands.words_are.geometry_is stands.words_are.flags_are stands.words_are.run_is (accepted run stands).0)

-- ---- lost

module _ (may : StepsAreAllowed) (old : CoreValue) (s : ℕ) (low : s < old.words.senders) (body : ArrayVec Raw) (closes : Bool) (found : Control)
    (accepted : HasNoFault old (Reserve s body closes) (λ run. FindsControl old run s found false))
    (before : SenderValue) (there : slice_get old.senders s ≡ Some before) (view : SenderValue)
    (loses : (run : Run) (t : ℕ) (raws : List Raw) (with : Bool) (c : Control) → Knows run t before → Knows ((Sender t, event.Lost raws with c) ∷ run) t view) where
  abbrev after_loss : CoreValue
  after_loss = record old { senders = slice_set old.senders s view }

  lost_stands : (run : Run) → StandsAfter old run → StandsAfter after_loss (event_of (ring_of old) run (Reserve s body closes) ∷ run)
  lost_stands run stands =
      let e : Event = event.Lost body.items closes found in
      let is = reserve_event may old s body closes found false accepted run stands in
      let are : AreAfter (ring_of old) ((Sender s, e) ∷ run) old.words.words = record {
        geometry_is = stands.words_are.geometry_is;
        flags_are = stands.words_are.flags_are;
        run_is = reserve_run may old s body closes found false accepted run e stands is;
        shadow = stands.words_are.shadow;
      } in
      subst (λ (x : Who × Event). StandsAfter after_loss (x ∷ run)) (sym is)
      (sender_stands old run s e stands low old.words refl are (slice_set old.senders s view)
      (all_know run s e old.senders view stands.senders_know (loses run s body.items closes found (stands.senders_know s before there))))

  pub lost_machine : IsMachine old → IsMachine after_loss
  lost_machine was =
      stays_machine old after_loss was refl (length-set old.senders s view) refl
      (event_of (ring_of old) was.run (Reserve s body closes) ∷ was.run) (lost_stands was.run was.stands)

  pub lost_taken : IsTaken old after_loss (Reserve s body closes) (seen.Lost found) × (ring_of after_loss ≡ ring_of old)
  lost_taken = (
    λ run stands. record {
      no_fault = (accepted run stands).0;
      answer = sym (ap (λ (x : Who × Event). seen_of (ring_of old) (world run) x.0 x.1) (reserve_event may old s body closes found false accepted run stands));
      stands = lost_stands run stands;
    },
    refl,
  )

-- ---- won

module _ (may : StepsAreAllowed) (old : CoreValue) (s : ℕ) (body : ArrayVec Raw) (closes : Bool) (found : Control)
    (accepted : HasNoFault old (Reserve s body closes) (λ run. FindsControl old run s found true)) where
  won_event : (run : Run) → StandsAfter old run
      → event_of (ring_of old) run (Reserve s body closes) ≡ (Sender s, event.Won body.items (next_number (trail_of (Sender s) run) closes))
  won_event run stands = reserve_event may old s body closes found true accepted run stands

  won_run : (run : Run) → StandsAfter old run
      → IsRun (ring_of old) ((Sender s, event.Won body.items (next_number (trail_of (Sender s) run) closes)) ∷ run)
  won_run run stands = reserve_run may old s body closes found true accepted run _ stands (won_event run stands)

  may_win : (run : Run) → StandsAfter old run
      → MayWin (ring_of old) (world run) (trail_of (Sender s) run) body.items (next_number (trail_of (Sender s) run) closes)
  may_win run stands = (won_run run stands).1

  pub one_ring : (run : Run) → StandsAfter old run → found.prod.geometry ≡ found.cons.geometry
  one_ring run stands =
      let finds = (accepted run stands).1 in
      ap (λ (c : Control). c.prod.geometry) finds.0 ∙ sym (ap (λ (c : Control). c.cons.geometry) finds.0)

  pub has_batches_left : (before : SenderValue) → slice_get old.senders s ≡ Some before → (run : Run) → StandsAfter old run → before.batches < most_batches
  has_batches_left before there run stands =
      let known = (stands.senders_know s before there).batches_is in
      let left = (may_win run stands).left in omega (arith, known, left)

  is_queue : (run : Run) → StandsAfter old run → IsQueue found.prod found.cons old.words.geometry (tail (world run)) (head (world run))
  is_queue run stands =
      let finds = (accepted run stands).1 in
      let within = sound (ring_of old) run stands.words_are.run_is in record {
        prod_is = ap (λ (c : Control). c.prod) finds.0;
        cons_is = ap (λ (c : Control). c.cons) finds.0;
        order = within.behind;
        within = within.within;
      }

  module _ (taken waiting : ℕ) (taken_is : WhereConsumerKnows old.consumer (λ run mine. taken ≡ head (world run)))
      (waiting_is : (geometry far near : ℕ) → IsQueue found.prod found.cons geometry far near → waiting ≡ far - near) where
    pub starts_at_tail : (run : Run) → StandsAfter old run → taken + waiting ≡ tail (world run)
    starts_at_tail run stands =
        let at = taken_is run stands.consumer_knows in
        let far = waiting_is old.words.geometry (tail (world run)) (head (world run)) (is_queue run stands) in
        let behind = (sound (ring_of old) run stands.words_are.run_is).behind in omega (arith, at, far, behind)

    pub start_is_small : IsMachine old → (run : Run) → StandsAfter old run → taken + waiting ≤ 2 ^ 46
    start_is_small is run stands =
        let at = starts_at_tail run stands in
        let few = few_reserved old is run stands in omega (arith, at, few)

  -- According to the look there is room.
  may_try : IndexesTellTheQueue → (run : Run) → StandsAfter old run
      → MayTry (ring_of old) (trail_of (Sender s) run) body.items (batch_length body.items (next_number (trail_of (Sender s) run) closes)) found
  may_try tells run stands =
      let finds = (accepted run stands).1 in
      let win = may_win run stands in
      let room = win.room in
      let within = sound (ring_of old) run stands.words_are.run_is in
      let behind = within.behind in
      let far : distance found.prod found.cons ≡ tail (world run) - head (world run) =
      ap (λ (c : Control). distance c.prod c.cons) finds.0
      ∙ (tells old.words.geometry (tail (world run)) (head (world run)) stands.words_are.geometry_is within.behind within.within).distance in record {
        looked_at = win.looked_at ∙ ap Some (sym finds.0);
        unclosed = ap (λ (c : Control). c.closed) finds.0 ∙ win.unclosed;
        settled = win.settled;
        left = win.left;
        body_is = win.body_is;
        room = omega (arith, room, behind, far);
      }

  module _ (tells : IndexesTellTheQueue) (law : Always WinsByAnExchange) (low : s < old.words.senders)
      (next : IndexValue) (many : ℕ) (many_is : many ≡ length_with closes body.items) (next_is : next ≡ index_of found.prod.geometry (found.prod.number + many))
      (words : WordsValue)
      (stored : word_at old.words control_word ≡ packed found → words ≡ with_word old.words control_word (packed (record found { prod = next })))
      (before : SenderValue) (there : slice_get old.senders s ≡ Some before) (start : ℕ) (start_is : (run : Run) → StandsAfter old run → start ≡ tail (world run))
      (number : Option ℕ) (number_is : WhereKnown before (λ run t mine. number ≡ next_number mine closes))
      (view : SenderValue)
      (wins : (run : Run) → Knows run s before → start ≡ tail (world run) → Knows ((Sender s, event.Won body.items number) ∷ run) s view) where
    abbrev after_win : CoreValue
    after_win = record old { words = words; senders = slice_set old.senders s view }

    found_now : (run : Run) → StandsAfter old run → word_at old.words control_word ≡ packed found
    found_now run stands = stands.words_are.shadow.control_is ∙ ap packed (sym (accepted run stands).1.0)

    won_ring : (run : Run) → StandsAfter old run → ring_of after_win ≡ ring_of old
    won_ring run stands = ap (λ (w : WordsValue). ring_with w.geometry w.senders) (stored (found_now run stands))

    won_stands : (run : Run) → StandsAfter old run → StandsAfter after_win (event_of (ring_of old) run (Reserve s body closes) ∷ run)
    won_stands run stands =
        let mine = trail_of (Sender s) run in
        let n = next_number mine closes in
        let known = stands.senders_know s before there in
        let are = law (ring_of old) run old.words.words stands.words_are s body.items n found (may_try tells run stands) (may_win run stands).next (found_now run stands) in
        let long : many ≡ batch_length body.items n = many_is ∙ sym (length_is mine body.items closes) in
        let same : words.words ≡ slice_set old.words.words control_word (packed (record found { prod = index_of found.prod.geometry (found.prod.number + batch_length body.items n) })) =
        ap (λ (w : WordsValue). w.words) (stored (found_now run stands))
        ∙ ap (λ (i : IndexValue). slice_set old.words.words control_word (packed (record found { prod = i }))) (next_is ∙ ap (λ m. index_of found.prod.geometry (found.prod.number + m)) long) in
        subst (λ (x : Who × Event). StandsAfter after_win (x ∷ run)) (sym (won_event run stands))
        (sender_stands old run s (event.Won body.items n) stands low words (won_ring run stands)
        (subst (AreAfter (ring_of old) ((Sender s, event.Won body.items n) ∷ run)) (sym same) are)
        (slice_set old.senders s view)
        (all_know run s (event.Won body.items n) old.senders view stands.senders_know
        (subst (λ m. Knows ((Sender s, event.Won body.items m) ∷ run) s view) (number_is run s known) (wins run known (start_is run stands)))))

    pub won_machine : IsMachine old → IsMachine after_win
    won_machine was =
        stays_machine old after_win was (won_ring was.run was.stands) (length-set old.senders s view) refl
        (event_of (ring_of old) was.run (Reserve s body closes) ∷ was.run) (won_stands was.run was.stands)

    pub won_taken : IsMachine old → IsTaken old after_win (Reserve s body closes) (seen.Reserved found.prod number) × (ring_of after_win ≡ ring_of old)
    won_taken was = (
      λ run stands.
          let known = stands.senders_know s before there in record {
            no_fault = (accepted run stands).0;
            answer = ap₂ seen.Reserved (ap (λ (c : Control). c.prod) (accepted run stands).1.0) (number_is run s known)
                ∙ sym (ap (λ (x : Who × Event). seen_of (ring_of old) (world run) x.0 x.1) (won_event run stands));
            stands = won_stands run stands;
          },
      won_ring was.run was.stands,
    )

-- how many commands a batch has, counted with its closing sync
pub counted_with : (closes : Bool) (body : List Raw) (l m : ℕ) → l ≡ length body → m ≡ from_bool closes → l + m ≡ length_with closes body
counted_with true body l m l_is m_is = ap₂ (λ a b. a + b) l_is m_is
counted_with false body l m l_is m_is = let none : m ≡ 0 = m_is in omega (arith, l_is, none)
