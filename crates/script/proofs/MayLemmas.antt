-- What lines may come to by one account, they may come to by another.
use Rattle.std.proofs.Common.{ℕ, List, ◌++◌, Option, Some, None, inl, inr}
use Rattle.script.specs.declared.ending.Ending.{Ending}
use Rattle.script.specs.Outcome.{Outcome}
use Rattle.script.specs.Writing.{WritesAnswer, StopsForMemory, WritesNoMemory, IsBeginning, WritesBeginning, AnswersWholeLines}

-- What the first account allows, the second does.
abbrev pub Implies : (ℕ → List (List ℕ) → Outcome → Type 0) → (ℕ → List (List ℕ) → Outcome → Type 0) → Type 0
Implies may other = (number : ℕ) (lines : List (List ℕ)) (outcome : Outcome) → may number lines outcome → other number lines outcome

pub answer_comes : (may other : ℕ → List (List ℕ) → Outcome → Type 0) → Implies may other → (input before after : Option (List ℕ)) (ending : Ending) → WritesAnswer may input before after ending
    → WritesAnswer other input before after ending
answer_comes may other implies None before after ending w = tt
answer_comes may other implies (Some script) before after ending w = (w.0, implies _ _ _ w.1, w.2)

pub stops_comes : (may other : ℕ → List (List ℕ) → Outcome → Type 0) → Implies may other → (script text : List ℕ) → StopsForMemory may script text → StopsForMemory other script text
stops_comes may other implies script text s = record {
  whole = s.whole;
  rest = s.rest;
  answers = s.answers;
  split = s.split;
  is_whole = s.is_whole;
  comes = implies _ _ _ s.comes;
  told = s.told;
}

pub memory_comes : (may other : ℕ → List (List ℕ) → Outcome → Type 0) → Implies may other → (input before after : Option (List ℕ)) → WritesNoMemory may input before after → WritesNoMemory other input before after
memory_comes may other implies None before after w = tt
memory_comes may other implies (Some script) before after w = (w.0, stops_comes may other implies script w.0 w.1, w.2)

front_comes : (may other : ℕ → List (List ℕ) → Outcome → Type 0) → Implies may other → (script front : List ℕ) → IsBeginning may script front → IsBeginning other script front
front_comes may other implies script front (inl c) = inl (implies _ _ _ c)
front_comes may other implies script front (inr s) = inr (s.0, s.1, stops_comes may other implies script s.0 s.2, s.3)

pub beginning_comes : (may other : ℕ → List (List ℕ) → Outcome → Type 0) → Implies may other → (input rest before after : Option (List ℕ)) → WritesBeginning may input rest before after
    → WritesBeginning other input rest before after
beginning_comes may other implies input rest before after w = record {
  seen = w.seen;
  front = w.front;
  read = w.read;
  written = w.written;
  beginning = λ more follows. front_comes may other implies (w.seen ++ more) w.front (w.beginning more follows);
}

pub lines_come : (may other : ℕ → List (List ℕ) → Outcome → Type 0) → Implies may other → (input rest before after : Option (List ℕ)) → AnswersWholeLines may input rest before after
    → AnswersWholeLines other input rest before after
lines_come may other implies input rest before after w = record {
  whole = w.whole;
  part = w.part;
  answers = w.answers;
  read = w.read;
  is_whole = w.is_whole;
  no_end = w.no_end;
  comes = implies _ _ _ w.comes;
  written = w.written;
}
