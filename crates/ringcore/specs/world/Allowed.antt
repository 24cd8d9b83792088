-- When an event may follow those before it. Nothing is assumed about which seat comes next.
use Rattle.std.specs.Prelude.{◌≡◌, ◌≢◌, ℕ, suc, ◌+◌, ◌/◌, ◌<◌, ◌≤◌, Bool, true, false, List, [], ◌∷◌, length, Option, Some, None, slice_get, ⊤}
use Rattle.cmdcodec.specs.declared.raw.Raw.{Raw}
use Rattle.cmdcodec.specs.Bodies.{IsBody}
use Rattle.qindex.specs.declared.control.Control.{Control}
use Rattle.qindex.specs.Positions.{size, place}
use Rattle.qindex.specs.Indexes.{distance}
use Rattle.ringcore.specs.declared.world.event.Who.{Who}
use Rattle.ringcore.specs.declared.world.event.Who.TheVariants.{Consumer, Sender}
use Rattle.ringcore.specs.declared.world.event.Half.{Half}
use Rattle.ringcore.specs.declared.world.event.Event.{Event}
use Rattle.ringcore.specs.declared.world.event.Event.TheVariants.{Look, Won, Lost, Write, Flip, Test, Read, Advance, Close, Acknowledge, Ask}
use Rattle.ringcore.specs.world.Trails.{Trail, Run, trail_of, looked, batches_made, numbers_given, batch_length, reserved_length, has_written, has_flipped, IsSettled, found_ready, half_read}
use Rattle.ringcore.specs.world.World.{Item, World, tail, head, sync_raw, world, control, half_of}

-- What a ring is made with: the log2 of its slots, its senders, how many batches each may reserve, and how
-- many flags a flag word has.
pub record Ring : Type 0 where
  pub geometry : ℕ
  pub senders : ℕ
  pub max_batches : ℕ
  pub flags : ℕ

-- The flags of count positions from this one on are in one flag word, if each has `flags` flags.
abbrev pub ShareAWord : ℕ → ℕ → ℕ → ℕ → Type 0
ShareAWord flags geometry position count =
    (offset : ℕ) → offset < count → place geometry (position + offset) / flags ≡ place geometry position / flags

-- how many positions in a row one step may name: 1 to 64
abbrev pub IsRunLength : ℕ → Type 0
IsRunLength count = (1 ≤ count) × (count ≤ 64)

-- ---- reserve

-- the number of a batch: one more than the sender's numbers so far, or none
abbrev pub IsNextNumber : Trail → Option ℕ → Type 0
IsNextNumber mine None = ⊤
IsNextNumber mine (Some number) = number ≡ suc (numbers_given mine)

-- By its own trail, what it looked at since its last exchange is open, it has no open reservation, it has a
-- batch left, and by that look there is room for this many commands.
pub record MayTry (ring : Ring) (mine : Trail) (body : List Raw) (many : ℕ) (before : Control) : Type 0 where
  pub looked_at : looked mine ≡ Some before
  pub unclosed : before.closed ≡ false
  pub settled : IsSettled mine
  pub left : batches_made mine < ring.max_batches
  pub body_is : IsBody body
  pub room : distance before.prod before.cons + many ≤ size ring.geometry

-- Won: what it looked at is what a look finds now.
pub record MayWin (ring : Ring) (w : World) (mine : Trail) (body : List Raw) (number : Option ℕ) : Type 0 where
  pub looked_at : looked mine ≡ Some (control ring.geometry w)
  pub unclosed : w.closed ≡ false
  pub settled : IsSettled mine
  pub left : batches_made mine < ring.max_batches
  pub body_is : IsBody body
  pub next : IsNextNumber mine number
  pub room : tail w + batch_length body number ≤ head w + size ring.geometry

-- how many commands a batch has that closes with a sync, or doesn't
abbrev pub length_with : Bool → List Raw → ℕ
length_with true body = length body + 1
length_with false body = length body

-- Lost: a look finds something else now.
pub record MayLose (ring : Ring) (w : World) (mine : Trail) (body : List Raw) (closes : Bool) (found : Control) : Type 0 where
  pub before : Control
  pub tries : MayTry ring mine body (length_with closes body) before
  pub found_is : found ≡ control ring.geometry w
  pub other : found ≢ before

-- ---- write and flip

-- A half of a command of the open reservation that isn't flipped yet.
pub record MayWrite (mine : Trail) (offset : ℕ) : Type 0 where
  pub inside : offset < reserved_length mine
  pub unflipped : has_flipped offset mine ≡ false

-- 1 to 64 commands of the open reservation that aren't flipped, both halves of each written, their flags in one word.
pub record MayFlip (ring : Ring) (mine : Trail) (start offset count : ℕ) : Type 0 where
  pub many : IsRunLength count
  pub inside : offset + count ≤ reserved_length mine
  pub in_word : ShareAWord ring.flags ring.geometry (start + offset) count
  pub unflipped : (i : ℕ) → i < count → has_flipped (offset + i) mine ≡ false
  pub written : (i : ℕ) (half : Half) → i < count → has_written (offset + i) half mine ≡ true

-- ---- test, read and advance

-- A test finds how many positions in a row from the head on are flipped, up to its limit and within one flag
-- word.
pub record FindsReady (ring : Ring) (w : World) (limit found : ℕ) : Type 0 where
  pub many : IsRunLength limit
  pub most : found ≤ limit
  pub in_word : ShareAWord ring.flags ring.geometry (head w) found
  pub ready : (i : ℕ) → i < found → w.flipped (head w + i) ≡ true
  pub no_more : found < limit → ShareAWord ring.flags ring.geometry (head w) (suc found) → w.flipped (head w + found) ≡ false

-- A read is for one of the positions that the last test found, and finds that half of its command.
pub record MayRead (w : World) (mine : Trail) (offset : ℕ) (half : Half) (word : ℕ) : Type 0 where
  pub ready : offset < found_ready mine
  pub item : Item
  pub there : slice_get w.reserved (head w + offset) ≡ Some item
  pub found : word ≡ half_of half item.raw

-- The commands taken are some from the head on, both halves of each read since the test that found them
-- ready.
pub record MayAdvance (mine : Trail) (raws : List Raw) : Type 0 where
  pub some : 1 ≤ length raws
  pub ready : length raws ≤ found_ready mine
  pub read : (i : ℕ) (raw : Raw) (half : Half) → slice_get raws i ≡ Some raw → half_read i half mine ≡ Some (half_of half raw)

-- ---- acknowledge

-- The closing sync of a sender's batch with this number is below the head.
pub record SyncIsTaken (w : World) (sender number : ℕ) : Type 0 where
  pub position : ℕ
  pub place : ℕ
  pub below : position < head w
  pub there : slice_get w.reserved position ≡ Some record { sender = sender; number = Some number; place = place; raw = sync_raw sender number }

-- Numbers are acknowledged one by one.
pub record MayAcknowledge (w : World) (sender number : ℕ) : Type 0 where
  pub next : number ≡ suc (w.acknowledged sender)
  pub taken : SyncIsTaken w sender number

-- ---- all of them

-- One line for each kind, with the seat whose step it is. An event not listed is never allowed.
abbrev pub Allowed : Ring → World → Trail → Who → Event → Type 0
Allowed ring w mine who (Look found) = found ≡ control ring.geometry w
Allowed ring w mine (Sender s) (Won body number) = MayWin ring w mine body number
Allowed ring w mine (Sender s) (Lost body closes found) = MayLose ring w mine body closes found
Allowed ring w mine (Sender s) (Write offset half) = MayWrite mine offset
Allowed ring w mine (Sender s) (Flip offset count) = MayFlip ring mine (w.start s) offset count
Allowed ring w mine (Sender s) Close = ⊤
Allowed ring w mine (Sender s) (Ask found) = found ≡ w.acknowledged s
Allowed ring w mine Consumer (Test limit found) = FindsReady ring w limit found
Allowed ring w mine Consumer (Read offset half word) = MayRead w mine offset half word
Allowed ring w mine Consumer (Advance raws) = MayAdvance mine raws
Allowed ring w mine Consumer (Acknowledge sender number) = MayAcknowledge w sender number
Allowed ring w mine who e = ⊥

-- A run: each event is allowed after those before it, from the opening world.
abbrev pub IsRun : Ring → Run → Type 0
IsRun ring [] = ⊤
IsRun ring (x ∷ xs) = IsRun ring xs × Allowed ring (world xs) (trail_of x.0 xs) x.0 x.1
