-- What a look at the registers tells.
use Rattle.std.proofs.Common.{◌≡◌, ◌≢◌, ℕ, ◌+◌, ◌-◌, ◌≤◌, Bool, true, false, List, ◌∷◌, length, Option, Some, ap, ap₂, sym, subst, ◌∙◌, arith}
use Rattle.std.specs.Prelude.{IsTrue, ◌↔◌}
use Rattle.qindex.specs.Positions.{IndexValue, size, index_of}
use Rattle.qindex.specs.Indexes.{IsQueue}
use Rattle.hardware_queue.specs.declared.command_error.CommandError.{CommandError}
use Rattle.hardware_queue.specs.declared.reading.Reading.{Reading}
use Rattle.hardware_queue.specs.declared.reading.Reading.TheVariants.{Gerror, Cons}
use Rattle.hardware_queue.specs.declared.state.QueueState.{QueueState}
use Rattle.hardware_queue.specs.declared.state.QueueState.TheVariants as state
use Rattle.hardware_queue.specs.Queues.{QueueValue, Stop, IsBelievable, IsErrorActive, HasReadErrors, HasReadCons, newly_consumed, error_in, with_reading, consumed_up_to, command_queue_error}
use Rattle.hardware_queue.specs.Owners.{IsOwner, IsStoppedHere, HasConsumed, IsSameButSeen}

pub believed : (q s : QueueValue) (gerror word : ℕ) → HasReadErrors q s gerror → IsBelievable word s → IsBelievable word q
believed q s gerror word read b =
    let c : IsBelievable word (with_reading (Gerror gerror) (record q { stopped = s.stopped })) = subst (IsBelievable word) read.kept b in
    record { index = c.index; within = c.within }

pub unbelieved : (q s : QueueValue) (gerror word : ℕ) → HasReadErrors q s gerror → ¬ IsBelievable word s → ¬ IsBelievable word q
unbelieved q s gerror word read never b =
    never (subst (IsBelievable word) (sym read.kept) (record { index = b.index; within = b.within }))

pub newly_same : (q s : QueueValue) (gerror word : ℕ) → HasReadErrors q s gerror → newly_consumed word s ≡ newly_consumed word q
newly_same q s gerror word read = ap (newly_consumed word) read.kept

-- the queue after both reads
whole : (q s r : QueueValue) (gerror word : ℕ) → HasReadErrors q s gerror → HasReadCons s r word → IsBelievable word s
    → r ≡ record q { consumed = q.consumed + newly_consumed word q; stopped = s.stopped; read = Cons word ∷ Gerror gerror ∷ q.read }
whole q s r gerror word read cons b = cons.moved b ∙ ap (λ (x : QueueValue). with_reading (Cons word) (consumed_up_to word x)) read.kept

pub read_are : (q s r : QueueValue) (gerror word : ℕ) → HasReadErrors q s gerror → HasReadCons s r word → IsBelievable word s → r.read ≡ Cons word ∷ Gerror gerror ∷ q.read
read_are q s r gerror word read cons b = ap (λ (x : QueueValue). x.read) (whole q s r gerror word read cons b)

pub consumed : (q s r : QueueValue) (gerror word count : ℕ) → HasReadErrors q s gerror → HasReadCons s r word → IsBelievable word s → count ≡ newly_consumed word s → HasConsumed word q r count
consumed q s r gerror word count read cons b e =
    let all = whole q s r gerror word read cons b in
    let stopped : r.stopped ≡ s.stopped = ap (λ (x : QueueValue). x.stopped) all in
    let readings : r.read ≡ Cons word ∷ Gerror gerror ∷ q.read = ap (λ (x : QueueValue). x.read) all in
    let count_is : count ≡ newly_consumed word q = e ∙ newly_same q s gerror word read in
    record {
      believed = believed q s gerror word read b;
      count_is = count_is;
      new_is = all
          ∙ ap₂ (λ (t : Option Stop) (l : List Reading). record q { consumed = q.consumed + newly_consumed word q; stopped = t; read = l }) (sym stopped) (sym readings)
          ∙ ap (λ (n : ℕ). record q { consumed = q.consumed + n; stopped = r.stopped; read = r.read }) (sym count_is);
    }

pub broken_read : (q s r : QueueValue) (gerror word : ℕ) → HasReadErrors q s gerror → HasReadCons s r word → ¬ IsBelievable word s → r.read ≡ Cons word ∷ Gerror gerror ∷ q.read
broken_read q s r gerror word read cons never = ap (λ (x : QueueValue). x.read) (cons.kept never ∙ ap (with_reading (Cons word)) read.kept)

pub broken_same : (q s r : QueueValue) (gerror word : ℕ) → HasReadErrors q s gerror → HasReadCons s r word → ¬ IsBelievable word s → IsSameButSeen q r
broken_same q s r gerror word read cons never =
    let all : r ≡ record q { stopped = s.stopped; read = Cons word ∷ Gerror gerror ∷ q.read } = cons.kept never ∙ ap (with_reading (Cons word)) read.kept in
    let stopped : r.stopped ≡ s.stopped = ap (λ (x : QueueValue). x.stopped) all in
    let readings : r.read ≡ Cons word ∷ Gerror gerror ∷ q.read = ap (λ (x : QueueValue). x.read) all in
    all ∙ ap₂ (λ (t : Option Stop) (l : List Reading). record q { stopped = t; read = l }) (sym stopped) (sym readings)

pub stopped_here : (q s r : QueueValue) (gerror word : ℕ) → HasReadErrors q s gerror → HasReadCons s r word → IsBelievable word s → IsErrorActive gerror q → IsStoppedHere r (error_in word)
stopped_here q s r gerror word read cons b active =
    let at = read.active active in
    let frozen = cons.frozen at.stop at.stopped b in
    let moved = cons.moved b in
    let here : r.consumed ≡ at.stop.position = ap (λ (x : QueueValue). x.consumed) moved ∙ frozen.0 in
    let long : length r.shown ≡ length s.shown = ap (λ (x : QueueValue). length x.shown) moved in
    record {
      stopped = ap (λ (x : QueueValue). x.stopped) moved ∙ at.stopped
          ∙ ap₂ (λ (p : ℕ) (e : CommandError). Some (record { position = p; error = e })) (sym here) (sym frozen.1);
      shown = let inside = at.shown in omega (arith, here, inside, long);
    }

pub active : (q : QueueValue) (gerror d : ℕ) (a : Bool) → (command_queue_error gerror ≢ a) × (1 ≤ d) → a ≡ command_queue_error q.gerrorn → d ≡ length q.shown - q.consumed → IsErrorActive gerror q
active q gerror d a both a_is d_is = record { differ = λ same. both.0 (same ∙ sym a_is); in_flight = let some = both.1 in omega (arith, some, d_is) }

pub differs : (q : QueueValue) (gerror d : ℕ) (a : Bool) → IsErrorActive gerror q → a ≡ command_queue_error q.gerrorn → d ≡ length q.shown - q.consumed → (command_queue_error gerror ≢ a) × (1 ≤ d)
differs q gerror d a is a_is d_is = ((λ same. is.differ (same ∙ a_is)), (let f = is.in_flight in omega (arith, f, d_is)))

pub quiet : (q : QueueValue) (gerror d : ℕ) (a b : Bool) → IsTrue b ↔ ((command_queue_error gerror ≢ a) × (1 ≤ d)) → b ≡ false → a ≡ command_queue_error q.gerrorn → d ≡ length q.shown - q.consumed
    → ¬ IsErrorActive gerror q
quiet q gerror d a b tells is a_is d_is active = let yes : b ≡ true = tells.1 (differs q gerror d a active a_is d_is) in absurd (cc)

-- ---- the owner after it

pub stopped_with : (r : QueueValue) (error : CommandError) → IsStoppedHere r error → (other : CommandError) → state.Stopped error ≡ state.Stopped other → IsStoppedHere r other
stopped_with r error at other same = let one : error ≡ other = cc in subst (IsStoppedHere r) one at

pub running_never : (r : QueueValue) (other : CommandError) → state.Running ≡ state.Stopped other → IsStoppedHere r other
running_never r other same = absurd (cc)

pub broken_never : (r : QueueValue) (word : ℕ) (other : CommandError) → state.Broken word ≡ state.Stopped other → IsStoppedHere r other
broken_never r word other same = absurd (cc)

pub owner_after : (q r : QueueValue) (prod cons next : IndexValue) (a : Bool) (found new : QueueState) (word count : ℕ) → IsOwner q prod cons a found → HasConsumed word q r count
    → next ≡ index_of q.geometry (q.consumed + count) → ((error : CommandError) → new ≡ state.Stopped error → IsStoppedHere r error) → IsOwner r prod next a new
owner_after q r prod cons next a found new word count is c n stopped =
    let shown : r.shown ≡ q.shown = ap (λ (x : QueueValue). x.shown) c.new_is in
    let at : r.consumed ≡ q.consumed + count = ap (λ (x : QueueValue). x.consumed) c.new_is in
    let g : r.geometry ≡ q.geometry = ap (λ (x : QueueValue). x.geometry) c.new_is in
    let same : IsQueue prod next q.geometry (length q.shown) (q.consumed + count) = record {
      prod_is = is.queue.prod_is;
      cons_is = n;
      order = let w = c.believed.within in let e = c.count_is in omega (arith, w, e);
      within = let w = is.queue.within in omega (arith, w);
    } in
    record {
      geometry = rw g is.geometry;
      memory = ap (λ (x : QueueValue). length x.memory) c.new_is ∙ is.memory ∙ ap size (sym g);
      queue = subst (λ (k : ℕ). IsQueue prod next k (length r.shown) r.consumed) (sym g)
          (subst (λ (l : List _). IsQueue prod next q.geometry (length l) r.consumed) (sym shown) (subst (IsQueue prod next q.geometry (length q.shown)) (sym at) same));
      acknowledged_is = is.acknowledged_is ∙ ap (λ (x : QueueValue). command_queue_error x.gerrorn) (sym c.new_is);
      stopped = stopped;
    }

pub owner_broken : (q r : QueueValue) (prod cons : IndexValue) (a : Bool) (found new : QueueState) → IsOwner q prod cons a found → IsSameButSeen q r
    → ((error : CommandError) → new ≡ state.Stopped error → IsStoppedHere r error) → IsOwner r prod cons a new
owner_broken q r prod cons a found new is same stopped =
    let queue : IsQueue prod cons q.geometry (length q.shown) q.consumed = is.queue in
    let g : r.geometry ≡ q.geometry = ap (λ (x : QueueValue). x.geometry) same in
    record {
      geometry = rw g is.geometry;
      memory = ap (λ (x : QueueValue). length x.memory) same ∙ is.memory ∙ ap size (sym g);
      queue = subst (λ (x : QueueValue). IsQueue prod cons x.geometry (length x.shown) x.consumed) (sym same) queue;
      acknowledged_is = is.acknowledged_is ∙ ap (λ (x : QueueValue). command_queue_error x.gerrorn) (sym same);
      stopped = stopped;
    }
