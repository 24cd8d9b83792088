-- What contracts see of the consumer.
use Rattle.std.specs.Prelude.{◌≡◌, ℕ, ◌+◌, ◌≤◌, Option, None}
use Rattle.qindex.specs.Positions.{IndexValue, index_of}
use Rattle.ringcore.specs.Limits.{most_reserved}
use Rattle.ring.specs.Runs.{Consumer, Trail, Run, raws_by, taken_by, found_ready, acknowledged_by, Ring, syncs_taken, SyncsAreInOrder, IsSteady}
use Rattle.ring.specs.Rings.{RingValue}
use Rattle.ring.specs.table.{PortValue}

-- the consumer: what its port has, and the device that was lent to its newest completion, as it was then
pub record ConsumerValue (D : Type 0) : Type 0 where
  pub ring : RingValue
  pub trail : Trail
  pub history : Run
  pub lent : Option D

abbrev pub consumer_of : {D : Type 0} → PortValue → Option D → ConsumerValue D
consumer_of p lent = record { ring = p.ring; trail = p.trail; history = p.history; lent = lent }

-- a consumer of which only the port is left
abbrev pub without_device : PortValue → ConsumerValue (Unit {0})
without_device p = consumer_of p None

-- Its index of the head and its count of commands taken are right.
pub record IsAtHead (port : PortValue) (head : IndexValue) (taken : ℕ) : Type 0 where
  pub who_is : port.who ≡ Consumer
  pub head_is : head ≡ index_of port.ring.made_with.geometry taken
  pub taken_is : taken ≡ taken_by port.trail

-- It has acknowledged each closing sync that it took.
abbrev pub IsCurrent : Trail → Type 0
IsCurrent trail = (s : ℕ) → acknowledged_by s trail ≡ syncs_taken s trail

-- both
pub record IsConsumer (port : PortValue) (head : IndexValue) (taken : ℕ) : Type 0 where
  pub who_is : port.who ≡ Consumer
  pub head_is : head ≡ index_of port.ring.made_with.geometry taken
  pub taken_is : taken ≡ taken_by port.trail
  pub current : IsCurrent port.trail

-- What the consumer knows of its steps, by the laws of every run: it has taken no more commands than a ring
-- ever has, even with those that its last test found; the closing syncs among them come in the order of their
-- numbers; and what it read at the head it finds again until it takes it.
pub record KnowsItsSteps (ring : Ring) (trail : Trail) : Type 0 where
  pub few : taken_by trail ≤ most_reserved
  pub with_ready : taken_by trail + found_ready trail ≤ most_reserved
  pub order : SyncsAreInOrder ring.senders (raws_by trail)
  pub steady : IsSteady trail
