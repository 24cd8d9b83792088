-- What a command with subcommands enters, if the words meet no fault: one of them that isn't `help`.
use Rattle.std.proofs.Common.{◌≡◌, ◌∙◌, ◌∷◌, [], ◌&&◌, Bool, true, false, true≢false, cond, not, ℕ, List, Option, Some, None, is_some, option_map, refl, sym, ap, codes}
use Rattle.std.specs.Prelude.{⊤, find, fold}
use Rattle.std.specs.Option.{option_map_or}
use Rattle.std.specs.Str.{bytes_eq}
use Rattle.clap.specs.Lexer.{long_of, short_of}
use Rattle.clap.specs.Kinds.{Kinds, or_else}
use Rattle.clap.specs.Faults.{built_fault, check_fault, defaults_fault, entered_fault, level_fault, other_fault, settle_fault, step_fault, turn_fault, walk_fault, word_fault}
use Rattle.clap.specs.Simple.{App, Shape, entered, label_of, names_of, rows_at}
use Rattle.clap.specs.Walk.{Held, Names, Outcome, Rule, Step, Text, Waiting, Walk, after_flag, after_step, answers_to, arg_by_index, arg_by_long, bundle, done, finished, idle, long_met, long_or_other, next, nothing_held, option, plain, plain_word, positional, refused, rows_after, settled, short_or_plain, stop_after, subcommand, subcommand_met, subcommand_or_other, to_positional, trailing, value, waits, walk, walk_from, walked, walked_from, word_met}
use Rattle.command_line.proofs.Walks.{In, both_none, check_none, found_in, found_passes, unless}

abbrev pub IsNoHelp : Text → Type 0
IsNoHelp name = bytes_eq name (codes "help") ≡ false

abbrev StepsPastHelp : Step → Type 0
StepsPastHelp (next waiting) = ⊤
StepsPastHelp (trailing position) = ⊤
StepsPastHelp (subcommand name) = IsNoHelp name
StepsPastHelp value = ⊤

abbrev StopsPastHelp : Option (Text × List Text) → Type 0
StopsPastHelp None = ⊤
StopsPastHelp (Some p) = IsNoHelp p.0

plain_step : (c : List Rule) (waiting : Waiting) (word : Text) (h : Held) → StepsPastHelp (plain_word c waiting word h).1
plain_step c (option id) word h = tt
plain_step c idle word h = tt
plain_step c positional word h = tt

after_step_of : (c : List Rule) (waiting : Waiting) (word : Text) (h : Held) (outcome : Outcome) → StepsPastHelp (after_flag c waiting word h outcome).1
after_step_of c waiting word h done = tt
after_step_of c waiting word h (waits id) = tt
after_step_of c waiting word h plain = plain_step c waiting word h
after_step_of c waiting word h refused = plain_step c waiting word h

flag_step : (c : List Rule) (waiting : Waiting) (word : Text) (o : Option (Text × Option Text)) (h : Held) → StepsPastHelp (long_or_other c waiting word o h).1
flag_step c waiting word (Some p) h = after_step_of c waiting word (long_met c (arg_by_long c p.0) p.1 h).0 (long_met c (arg_by_long c p.0) p.1 h).1
flag_step c waiting word None h = go (short_of word)
  where
    go : (o : Option Text) → StepsPastHelp (short_or_plain c waiting word o h).1
    go None = plain_step c waiting word h
    go (Some flags) = after_step_of c waiting word (bundle c flags h).0 (bundle c flags h).1

module _ (s : Shape) (names : Names) (enabled : s.disable_help_subcommand ≡ false) where
  word_step : (is_trailing : Bool) (waiting : Waiting) (position : ℕ) (word : Text) (h : Held) → word_fault s names is_trailing waiting word h ≡ []
      → StepsPastHelp (word_met s.rules names is_trailing waiting position word h).1
  word_step true waiting position word h e = tt
  word_step false waiting position word h e = go (subcommand_met names waiting word) e
    where
      other : (b : Bool) → StepsPastHelp (cond b (h, trailing position) (long_or_other s.rules waiting word (long_of word) h)).1
      other true = tt
      other false = flag_step s.rules waiting word (long_of word) h

      go : (o : Option Text) → other_fault s o word h ≡ [] → StepsPastHelp (subcommand_or_other s.rules o waiting position word h).1
      go (Some name) f = unless (bytes_eq name (codes "help")) s.disable_help_subcommand _ _ enabled f
      go None f = other (bytes_eq word (45 ∷ 45 ∷ []))

  step_stop : (w : Walk) (word : Text) (h : Held) (step : Step) → StopsPastHelp w.stopped → StepsPastHelp step → StopsPastHelp (after_step s.rules word w h step).stopped
  step_stop w word h (next waiting) before past = before
  step_stop w word h (trailing position) before past = before
  step_stop w word h (subcommand name) before past = past
  step_stop w word h value before past = go (arg_by_index s.rules w.position)
    where
      go : (o : Option Rule) → StopsPastHelp (to_positional s.rules o word w h).stopped
      go None = before
      go (Some a) = tt

  turn_stop : (w : Walk) (word : Text) → turn_fault s names w word ≡ [] → StopsPastHelp w.stopped → StopsPastHelp (walked s.rules names w word).stopped
  unfolding walked
  turn_stop w word e before = go w.stopped e before
    where
      go : (stop : Option (Text × List Text))
          → cond (is_some stop) [] (or_else (word_fault s names w.is_trailing w.waiting word w.held)
          (step_fault s w.position (word_met s.rules names w.is_trailing w.waiting w.position word w.held).0 (word_met s.rules names w.is_trailing w.waiting w.position word w.held).1)) ≡ []
          → StopsPastHelp stop → StopsPastHelp (walked_from s.rules names stop w word).stopped
      go (Some p) f past = past
      go None f past =
          step_stop w word (word_met s.rules names w.is_trailing w.waiting w.position word w.held).0 (word_met s.rules names w.is_trailing w.waiting w.position word w.held).1
          before (word_step w.is_trailing w.waiting w.position word w.held (both_none _ _ f).0)

  walk_stop : (words : List Text) (w : Walk) → walk_fault s names w words ≡ [] → StopsPastHelp w.stopped → StopsPastHelp (fold (walked s.rules names) w words).stopped
  unfolding walk_fault
  walk_stop [] w e before = before
  walk_stop (x ∷ xs) w e before =
      let parts = both_none _ _ e in
      walk_stop xs (walked s.rules names w x) parts.1 (turn_stop w x parts.0 before)

-- the subcommand that is entered, by the word for it and the words after it
pub record Enters (a : App) (stop : Option (Text × List Text)) : Type 0 where
  pub met : Text × List Text
  pub shape : Shape
  pub member : In shape a.subs
  pub answers : answers_to met.0 (label_of shape) ≡ true
  pub no_help : IsNoHelp met.0
  pub no_fault : level_fault shape [] nothing_held met.1 false [] ≡ []
  pub is : entered a stop ≡ Some (shape.name, rows_after shape.rules [] met.1)

pub enters : (a : App) (words : List Text) → a.top.disable_help_subcommand ≡ false → a.top.subcommand_required ≡ true → built_fault a nothing_held words ≡ []
    → Enters a (stop_after a.top.rules (names_of a) words)
enters a words enabled required e = go stop past below.0 (wanted _ _ required (check_none _ _ _ checked.1).0)
  where
    end : Held
    end = (walk a.top.rules (names_of a) nothing_held words).held

    stop : Option (Text × List Text)
    stop = (walk a.top.rules (names_of a) nothing_held words).stopped

    rest : Kinds
    rest = or_else (defaults_fault (settled a.top.rules end).rows a.top.rules) (check_fault a.top (finished a.top.rules end) (is_some (entered a stop)))

    walks : (walk_fault a.top (names_of a) (walk_from nothing_held) words ≡ []) × (or_else (entered_fault a stop) (or_else (settle_fault a.top.rules a.top.args_override_self end) rest) ≡ [])
    walks = both_none _ _ e

    past : StopsPastHelp stop
    past = walk_stop a.top (names_of a) enabled words (walk_from nothing_held) walks.0 tt

    below : (entered_fault a stop ≡ []) × (or_else (settle_fault a.top.rules a.top.args_override_self end) rest ≡ [])
    below = both_none _ _ walks.1

    settles : (settle_fault a.top.rules a.top.args_override_self end ≡ []) × (rest ≡ [])
    settles = both_none _ _ below.1

    checked : (defaults_fault (settled a.top.rules end).rows a.top.rules ≡ []) × (check_fault a.top (finished a.top.rules end) (is_some (entered a stop)) ≡ [])
    checked = both_none _ _ settles.1

    wanted : (has wants : Bool) → wants ≡ true → (not has && wants) ≡ false → has ≡ true
    wanted true wants is f = refl
    wanted false wants is f = absurd (true≢false (sym is ∙ f))

    by_shape : (p : Text × List Text) (o : Option Shape) → find (λ s. answers_to p.0 (label_of s)) a.subs ≡ o → IsNoHelp p.0
        → option_map_or (λ s. level_fault s [] nothing_held p.1 false []) o [] ≡ [] → is_some (option_map (λ s. rows_at s p.1) o) ≡ true → Enters a (Some p)
    by_shape p None is no_help f has = absurd (true≢false (sym has))
    by_shape p (Some s) is no_help f has = record {
      met = p;
      shape = s;
      member = found_in _ a.subs s is;
      answers = found_passes (λ x. answers_to p.0 (label_of x)) a.subs s is;
      no_help = no_help;
      no_fault = f;
      is = ap (option_map (λ x. rows_at x p.1)) is;
    }

    go : (stop : Option (Text × List Text)) → StopsPastHelp stop → entered_fault a stop ≡ [] → is_some (entered a stop) ≡ true → Enters a stop
    go None past f has = absurd (true≢false (sym has))
    go (Some p) past f has = by_shape p (find (λ s. answers_to p.0 (label_of s)) a.subs) refl past f has
