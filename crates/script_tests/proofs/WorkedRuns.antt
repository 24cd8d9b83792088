-- What a run may not come to: runs that came to a state of which their kind's `holds` doesn't hold.
use Rattle.std.proofs.Common.{◌≡◌, refl, ℕ, Bool, true, false, List, [], ◌∷◌, Some, None}
use Rattle.script.specs.declared.ending.Ending.TheVariants.{Finished, Refused}
use Rattle.script.specs.Effects.{answers}
use Rattle.script.specs.Kinds.{Kind, AllHold, line_effect, request_of, request_effect}
use Rattle.script.specs.Giving.{HeldThroughout, MayCome}
use Rattle.script.specs.Words.{words_of, between_spaces}

-- A kind whose states are whether a line came after the first, and of which only the first state holds.
abbrev two_states : Kind Bool (Unit {0})
two_states = record {
  nothing = tt;
  named = λ name words. Some tt;
  first_served = λ number request. answers [] false;
  served = λ number wanting request state. answers [] true;
  holds = λ state. state ≡ false;
}

-- the same, of whose states none holds
abbrev none_holds : Kind Bool (Unit {0})
none_holds = record two_states { holds = λ state. ⊥ }

-- a line without words
abbrev line : List ℕ
line = []

pub state_that_does_not_hold : ¬ HeldThroughout none_holds 1 [] None (line ∷ []) (Some Finished)
unfolding AllHold line_effect request_of request_effect words_of between_spaces
state_that_does_not_hold all = (all refl).0

pub later_state_that_does_not_hold : ¬ HeldThroughout two_states 1 [] None (line ∷ line ∷ []) (Some Refused)
unfolding AllHold line_effect request_of request_effect words_of between_spaces
later_state_that_does_not_hold all = let no : true ≡ false = ((all refl).1 refl).0 in absurd cc

-- What may come says so of its run.
pub held_where_it_ended : ¬ MayCome none_holds None 1 (line ∷ []) (record { text = []; ending = Some Finished })
unfolding AllHold line_effect request_of request_effect words_of between_spaces
held_where_it_ended (choice, ends, all) = at choice all
  where
    at : (choice : List Bool) → ¬ AllHold none_holds 1 choice None (line ∷ [])
    at [] all = (all refl).0
    at (wanting ∷ later) all = (all refl).0
