-- Steps one after another.
use Rattle.std.proofs.Common.{◌≡◌, ℕ, suc, ◌-◌, ◌+◌, ◌<◌, true, false, cond, List, [], ◌++◌, ap, sym, ◌∙◌, arith, append_assoc, append-nil, Some}
use Rattle.script.specs.Effects.{answers}
use Rattle.script.specs.Standing.{Acts}
use Rattle.script.proofs.EffectLemmas.{produces_at}
use Rattle.simulator.specs.State.{State}
use Rattle.simulator.specs.Standing.{SimulatorValue, Stands}
use Rattle.replay.specs.effects.UnitLines.{Step, step_of, steps_of, step_effect}
use Rattle.replay.specs.Stepping.{Stepped, Steps}

-- a step with more text before it
abbrev pub ahead : List ℕ → Step → Step
ahead text step = record { text = text ++ step.text; state = step.state; may_follow = step.may_follow }

-- of `count` steps from `state` those taken told this, and `left` are left, from the state that `now` stands for
pub record Reached (state : State) (now : SimulatorValue) (told : List ℕ) (count left : ℕ) : Type 0 where
  pub here : State
  pub stands : Stands now here
  pub same : steps_of count state ≡ ahead told (steps_of left here)

pub record Running (old now : SimulatorValue) (before after : List ℕ) (count left : ℕ) : Type 0 where
  pub told : List ℕ
  pub text : after ≡ before ++ told
  pub reached : (state : State) → Stands old state → Reached state now told count left

pub starts_running : (simulator : SimulatorValue) (text : List ℕ) (count left : ℕ) → left ≡ count → Running simulator simulator text text count left
starts_running simulator text count left all = record {
  told = [];
  text = sym (append-nil text);
  reached = λ state s. record { here = state; stands = s; same = ap (λ n. steps_of n state) (sym all) };
}

-- what is told, and what the next step says
one_on : (told : List ℕ) (left : ℕ) (here : State) (now : SimulatorValue) (answer : List ℕ) → Stepped (step_of here) now answer true
    → ahead told (steps_of (suc left) here) ≡ ahead (told ++ answer) (steps_of left (step_of here).state)
unfolding steps_of
one_on told left here now answer s =
    let rest = steps_of left (step_of here).state in
    ap (λ t. ahead told (cond t (record { text = (step_of here).text ++ rest.text; state = rest.state; may_follow = rest.may_follow }) (step_of here))) s.follows
    ∙ ap (λ t. ahead told (record { text = t ++ rest.text; state = rest.state; may_follow = rest.may_follow })) s.text
    ∙ ap (λ t. record { text = t; state = rest.state; may_follow = rest.may_follow }) (sym (append_assoc told answer rest.text))

ended : (told : List ℕ) (left : ℕ) (here : State) (now : SimulatorValue) (answer : List ℕ) → Stepped (step_of here) now answer false
    → ahead told (steps_of (suc left) here) ≡ ahead told (step_of here)
unfolding steps_of
ended told left here now answer s =
    let rest = steps_of left (step_of here).state in
    ap (λ t. ahead told (cond t (record { text = (step_of here).text ++ rest.text; state = rest.state; may_follow = rest.may_follow }) (step_of here))) s.follows

left_is : (count i : ℕ) → i < count → count - i ≡ suc (count - (i + 1))
left_is count i low = omega arith

pub runs_on : (old now new : SimulatorValue) (before mid after : List ℕ) (count i : ℕ) → i < count → Running old now before mid count (count - i) → Steps step_of now new mid after true
    → Running old new before after count (count - (i + 1))
runs_on old now new before mid after count i low r s = record {
  told = r.told ++ s.answer;
  text = s.text ∙ ap (λ t. t ++ s.answer) r.text ∙ append_assoc before r.told s.answer;
  reached = λ state stands.
      let at = r.reached state stands in
      let step = s.steps at.here at.stands in
      record {
        here = (step_of at.here).state;
        stands = step.after;
        same = at.same ∙ ap (λ n. ahead r.told (steps_of n at.here)) (left_is count i low) ∙ one_on r.told (count - (i + 1)) at.here new s.answer step;
      };
}

-- the step after which none follows
pub stops_running : (old now new : SimulatorValue) (before mid after : List ℕ) (count i : ℕ) → i < count → Running old now before mid count (count - i) → Steps step_of now new mid after false
    → Acts Stands (λ wanting. step_effect count) old new before after true
unfolding step_effect
stops_running old now new before mid after count i low r s = record {
  answer = r.told ++ s.answer;
  text = s.text ∙ ap (λ t. t ++ s.answer) r.text ∙ append_assoc before r.told s.answer;
  produces = λ state stands.
      let at = r.reached state stands in
      let step = s.steps at.here at.stands in
      let same : steps_of count state ≡ ahead r.told (step_of at.here) =
      at.same ∙ ap (λ n. ahead r.told (steps_of n at.here)) (left_is count i low) ∙ ended r.told (count - (i + 1)) at.here new s.answer step in
      produces_at Stands (λ wanting. step_effect count state) (Some new) false (answers (r.told ++ s.answer) (step_of at.here).state)
      (ap (λ (x : Step). answers x.text x.state) same ∙ ap (λ t. answers (r.told ++ t) (step_of at.here).state) step.text)
      (λ on. step.after);
}

-- all steps were taken
pub ran : (old now : SimulatorValue) (before after : List ℕ) (count left : ℕ) → left ≡ 0 → Running old now before after count left → Acts Stands (λ wanting. step_effect count) old now before after true
unfolding step_effect steps_of
ran old now before after count left none r = record {
  answer = r.told;
  text = r.text;
  produces = λ state stands.
      let at = r.reached state stands in
      let same : steps_of count state ≡ ahead r.told (steps_of 0 at.here) = at.same ∙ ap (λ n. ahead r.told (steps_of n at.here)) none in
      produces_at Stands (λ wanting. step_effect count state) (Some now) false (answers r.told at.here)
      (ap (λ (x : Step). answers x.text x.state) same ∙ ap (λ t. answers t at.here) (append-nil r.told))
      (λ on. at.stands);
}
