-- The labels of the causes of a refusal.
use Rattle.std.specs.Prelude.{ℕ, List, codes}
use Rattle.ring.specs.sender.{Cause, TooLong, Exhausted, Closed, Full, Contended}

abbrev pub cause_label : Cause → List ℕ
cause_label TooLong = codes "Q4"
cause_label Exhausted = codes "Q5"
cause_label Closed = codes "Q1"
cause_label Full = codes "Q2"
cause_label Contended = codes "Q3"
