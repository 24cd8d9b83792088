-- What a walk that meets no fault leaves in the rows of a command with no subcommand: for each row one value, which its
-- argument takes.
use Rattle.std.proofs.Common.{◌≡◌, ◌∙◌, ◌⊎◌, inl, inr, ◌++◌, ◌∷◌, [], ◌&&◌, ◌||◌, ◌==◌, ℕ, Bool, true, false, true≢false, cond, not, zero, suc, List, length, Option, Some, None, is_some, refl, sym, ap, ap₂, subst, arith, drop}
use Rattle.std.specs.Prelude.{⊤, encode_utf8, find, fold, slice_get}
use Rattle.std.specs.List.{list_all, list_any}
use Rattle.std.specs.Option.{option_map_or}
use Rattle.std.specs.Str.{bytes_eq, chars}
use Rattle.std.proofs.lemmas.Bool.{eqb-true}
use Rattle.std.proofs.lemmas.List.{append-nil}
use Rattle.std.proofs.lemmas.Option.{same_Some}
use Rattle.std.proofs.lemmas.Slice.Eq.{bytes_eq-Decides}
use Rattle.clap.specs.Lexer.{long_of, short_of}
use Rattle.clap.specs.Facts.{explicit_source, parser_of_value, unwrap_or_range}
use Rattle.clap.specs.Kinds.{Kinds, check_kinds, or_else, range_kinds, value_kinds}
use Rattle.clap.specs.Faults.{action_fault, bundle_fault, bundle_step_fault, default_fault, defaults_fault, flag_word_fault, flags_fault, given_default_fault, long_fault, option_fault, positional_fault, react_fault, set_fault, settle_fault, short_fault, step_fault, stray_fault, turn_fault, use_fault, walk_fault, word_fault}
use Rattle.clap.specs.Simple.{Shape}
use Rattle.clap.specs.Takes.{is_given}
use Rattle.clap.specs.Walk.{Held, Outcome, Row, Rule, Step, Text, Waiting, Walk, action_of, after_flag, after_step, arg_by_id, arg_by_index, arg_by_long, arg_by_short, at_row, attached_value, flag_met, bundle_met, bundle_step, default_rows, done, has_row, idle, is_empty, is_pending, long_met, long_or_other, more_values, most_values, next, option, option_met, option_word, plain, plain_word, positional, reacted, reading_by, refused, settled, settled_rows, short_met, short_or_plain, subcommand, takes_several, takes_values, to_positional, trailing, used, used_as, used_by_id, value, values_or_missing, waits, walked, walked_from, with_default, with_values, without, word_met}
use Rattle.clap.specs.declared.builder.action.ArgAction.{ArgAction}
use Rattle.clap.specs.declared.builder.action.ArgAction.TheVariants as action
use Rattle.clap.specs.declared.builder.value_parser.Reading.{Reading}
use Rattle.clap.specs.declared.error.kind.ErrorKind.{ErrorKind}
use Rattle.clap.specs.declared.error.kind.ErrorKind.TheVariants as kind
use Rattle.clap.specs.declared.parser.matches.ValueSource.{ValueSource}
use Rattle.clap.specs.declared.parser.matches.ValueSource.TheVariants.{CommandLine, DefaultValue}
use Rattle.clap.proofs.WalkLemmas.{both}

-- ---- kinds

pub both_none : (a b : Kinds) → or_else a b ≡ [] → (a ≡ []) × (b ≡ [])
both_none [] b e = (refl, e)
both_none (k ∷ ks) b e = cc

pub no_kind : (b : Bool) (k : ErrorKind) (ks : Kinds) → cond b (k ∷ ks) [] ≡ [] → b ≡ false
no_kind true k ks e = cc
no_kind false k ks e = refl

pub check_none : (a b z : Bool) → check_kinds a b z ≡ [] → (b ≡ false) × (z ≡ false)
check_none true b z e = cc
check_none false true z e = cc
check_none false false true e = cc
check_none false false false e = (refl, refl)

ranged : (n : ℕ) → range_kinds 1 1 n ≡ [] → n ≡ 1
ranged n e = go (n == 0) (1 == n) refl e
  where
    go : (z o : Bool) → (1 == n) ≡ o → cond z (kind.InvalidValue ∷ []) (cond o [] (kind.WrongNumberOfValues ∷ [])) ≡ [] → n ≡ 1
    go true o is e = cc
    go false true is e = sym (eqb-true _ _ is)
    go false false is e = cc

-- ---- rules and rows

abbrev pub In : {X : Type 0} → X → List X → Type 0
In a [] = ⊥
In a (x ∷ xs) = (x ≡ a) ⊎ In a xs

pub found_in : {X : Type 0} (p : X → Bool) (c : List X) (a : X) → find p c ≡ Some a → In a c
found_in p [] a e = cc
found_in p (x ∷ xs) a e = go (p x) (found_in p xs a) e
  where
    go : (b : Bool) → (find p xs ≡ Some a → In a xs) → cond b (Some x) (find p xs) ≡ Some a → In a (x ∷ xs)
    go true more e = inl (same_Some _ _ e)
    go false more e = inr (more e)

-- what is found passes
pub found_passes : {X : Type 0} (p : X → Bool) (c : List X) (a : X) → find p c ≡ Some a → p a ≡ true
found_passes p [] a e = cc
found_passes p (x ∷ xs) a e = go (p x) refl (found_passes p xs a) e
  where
    go : (b : Bool) → p x ≡ b → (find p xs ≡ Some a → p a ≡ true) → cond b (Some x) (find p xs) ≡ Some a → p a ≡ true
    go true is more e = ap p (sym (same_Some _ _ e)) ∙ is
    go false is more e = more e

passes_in : (p : Rule → Bool) (c : List Rule) (a : Rule) → list_all p c ≡ true → In a c → p a ≡ true
passes_in p [] a e member = absurd member
passes_in p (x ∷ xs) a e (inl is) = ap p (sym is) ∙ (both _ _ e).0
passes_in p (x ∷ xs) a e (inr member) = passes_in p xs a (both _ _ e).1 member

-- the row has one value, which the rule takes
abbrev pub IsTaken : List Rule → Row → Type 0
IsTaken c r = (a : Rule) × (v : Text) × In a c × (r.id ≡ a.id) × (r.values ≡ v ∷ []) × (r.reading ≡ reading_by a)
    × (value_kinds a.ignore_case (parser_of_value a.parser) v ≡ [])

abbrev pub AreTaken : List Rule → List Row → Type 0
AreTaken c [] = ⊤
AreTaken c (r ∷ rs) = IsTaken c r × AreTaken c rs

taken_push : (c : List Rule) (rows : List Row) (r : Row) → AreTaken c rows → IsTaken c r → AreTaken c (rows ++ r ∷ [])
taken_push c [] r all one = (one, tt)
taken_push c (x ∷ xs) r all one = (all.0, taken_push c xs r all.1 one)

at_row_end : (id : Text) (change : Row → List Row) (missing rows : List Row) → has_row id rows ≡ false → at_row id change missing rows ≡ rows ++ missing
at_row_end id change missing [] e = refl
at_row_end id change missing (r ∷ rs) e = go (bytes_eq r.id id) (at_row_end id change missing rs) e
  where
    go : (b : Bool) → (has_row id rs ≡ false → at_row id change missing rs ≡ rs ++ missing) → (b || has_row id rs) ≡ false → cond b (change r ++ rs) (r ∷ at_row id change missing rs) ≡ r ∷ rs ++ missing
    go true more e = absurd (true≢false e)
    go false more e = ap (λ t. r ∷ t) (more e)

abbrev new_row : Text → Reading → ValueSource → List Text → Row
new_row id how s values = record { id = id; values = values; count = None; source = Some s; reading = how }

placed : (id : Text) (how : Reading) (s : ValueSource) (values : List Text) (rows : List Row) → has_row id rows ≡ false
    → with_values id how s values rows ≡ rows ++ new_row id how s values ∷ []
placed id how s values rows e = at_row_end id (more_values s values) _ rows e

-- ---- one use

-- an argument that is used once, with one value
abbrev takes_one : Rule → Bool
takes_one a = (unwrap_or_range a.range).start_inclusive == 1 && most_values a == 1

abbrev once_as : ArgAction → Bool → Bool
once_as action.Set one = one
once_as action.Help one = true
once_as x one = false

abbrev at_most_one : List Text → Bool
at_most_one [] = true
at_most_one (v ∷ []) = true
at_most_one (v ∷ w ∷ vs) = false

abbrev pub is_once : Rule → Bool
is_once a = once_as (action_of a) (takes_one a) && at_most_one a.defaults

pub unless : (has again : Bool) (k : ErrorKind) (ks : Kinds) → again ≡ false → cond (has && not again) (k ∷ ks) [] ≡ [] → has ≡ false
unless true true k ks off e = absurd (true≢false off)
unless true false k ks off e = cc
unless false again k ks off e = refl

module _ (s : Shape) (off : s.args_override_self ≡ false) (all : list_all is_once s.rules ≡ true) where
  set_taken : (a : Rule) (values : List Text) (rows : List Row) → In a s.rules → takes_one a ≡ true
      → or_else (range_kinds (unwrap_or_range a.range).start_inclusive (most_values a) (length values)) (set_fault s.args_override_self a (values_or_missing a values) rows) ≡ []
      → AreTaken s.rules rows → AreTaken s.rules (with_values a.id (reading_by a) CommandLine (values_or_missing a values) (without a.id rows))
  set_taken a values rows member one e taken = go values (ranged _ (ap₂ (λ x y. range_kinds x y (length values)) (sym start) (sym most) ∙ parts.0)) parts.1
    where
      start : (unwrap_or_range a.range).start_inclusive ≡ 1
      start = eqb-true _ _ (both _ _ one).0

      most : most_values a ≡ 1
      most = eqb-true _ _ (both ((unwrap_or_range a.range).start_inclusive == 1) _ one).1

      parts : (range_kinds (unwrap_or_range a.range).start_inclusive (most_values a) (length values) ≡ []) × (set_fault s.args_override_self a (values_or_missing a values) rows ≡ [])
      parts = both_none _ _ e

      go : (vs : List Text) → length vs ≡ 1 → set_fault s.args_override_self a (values_or_missing a vs) rows ≡ []
          → AreTaken s.rules (with_values a.id (reading_by a) CommandLine (values_or_missing a vs) (without a.id rows))
      go [] n f = absurd (omega arith)
      go (v ∷ w ∷ vs) n f = absurd (omega arith)
      go (v ∷ []) n f =
          let checks = both_none _ _ f in
          let free : has_row a.id rows ≡ false = unless _ _ _ _ off checks.0 in
          let kept : without a.id rows ≡ rows = at_row_end a.id (λ _. []) [] rows free ∙ append-nil rows in
          let is : with_values a.id (reading_by a) CommandLine (v ∷ []) (without a.id rows) ≡ rows ++ new_row a.id (reading_by a) CommandLine (v ∷ []) ∷ [] =
          ap (with_values a.id (reading_by a) CommandLine (v ∷ [])) kept ∙ placed a.id (reading_by a) CommandLine (v ∷ []) rows free in
          subst (AreTaken s.rules) (sym is)
          (taken_push s.rules rows (new_row a.id (reading_by a) CommandLine (v ∷ [])) taken (a, v, member, refl, refl, refl, (both_none _ _ checks.1).0))

  use_taken : (a : Rule) (values : List Text) (rows : List Row) → In a s.rules → use_fault s.args_override_self a values rows ≡ [] → AreTaken s.rules rows
      → AreTaken s.rules (used a values rows)
  use_taken a values rows member e taken = go (action_of a) (both _ _ (passes_in is_once s.rules a all member)).0 e
    where
      go : (x : ArgAction) → once_as x (takes_one a) ≡ true
          → or_else (range_kinds (unwrap_or_range a.range).start_inclusive (most_values a) (length values)) (action_fault x s.args_override_self a (values_or_missing a values) rows) ≡ []
          → AreTaken s.rules (used_as x a.id (reading_by a) (values_or_missing a values) rows)
      go action.Set o f = set_taken a values rows member o f taken
      go action.Help o f = taken
      go action.Append o f = absurd (true≢false (sym o))
      go action.SetTrue o f = absurd (true≢false (sym o))
      go action.SetFalse o f = absurd (true≢false (sym o))
      go action.Count o f = absurd (true≢false (sym o))
      go action.HelpShort o f = absurd (true≢false (sym o))
      go action.HelpLong o f = absurd (true≢false (sym o))
      go action.Version o f = absurd (true≢false (sym o))

  pub settle_taken : (h : Held) → settle_fault s.rules s.args_override_self h ≡ [] → AreTaken s.rules h.rows → AreTaken s.rules (settled s.rules h).rows
  settle_taken h e taken = go h.pending e
    where
      by_id : (p : Text × List Text) (o : Option Rule) → arg_by_id s.rules p.0 ≡ o → option_map_or (λ a. use_fault s.args_override_self a p.1 h.rows) o [] ≡ []
          → AreTaken s.rules (used_by_id o p.1 h.rows)
      by_id p None is f = taken
      by_id p (Some a) is f = use_taken a p.1 h.rows (found_in _ s.rules a is) f taken

      go : (p : Option (Text × List Text))
          → option_map_or (λ q. option_map_or (λ a. use_fault s.args_override_self a q.1 h.rows) (arg_by_id s.rules q.0) []) p [] ≡ [] → AreTaken s.rules (settled_rows s.rules p h.rows)
      go None f = taken
      go (Some p) f = by_id p (arg_by_id s.rules p.0) refl f

  react_taken : (a : Rule) (values : List Text) (h : Held) → In a s.rules → react_fault s.rules s.args_override_self a values h ≡ [] → AreTaken s.rules h.rows
      → AreTaken s.rules (reacted s.rules a values h).rows
  react_taken a values h member e taken =
      let parts = both_none _ _ e in
      use_taken a values (settled s.rules h).rows member parts.1 (settle_taken h parts.0 taken)

  option_taken : (a : Rule) (v : Option Text) (h : Held) → In a s.rules → option_fault s.rules s.args_override_self a v h ≡ [] → AreTaken s.rules h.rows
      → AreTaken s.rules (option_met s.rules a v h).0.rows
  option_taken a (Some v) h member e taken = react_taken a (v ∷ []) h member e taken
  option_taken a None h member e taken = settle_taken h e taken

  long_taken : (o : Option Rule) (v : Option Text) (h : Held) → ((a : Rule) → o ≡ Some a → In a s.rules) → long_fault s.rules s.args_override_self o v h ≡ []
      → AreTaken s.rules h.rows → AreTaken s.rules (long_met s.rules o v h).0.rows
  long_taken None v h member e taken = taken
  long_taken (Some a) v h member e taken = go (takes_values a) v e
    where
      go : (b : Bool) (v : Option Text)
          → cond b (option_fault s.rules s.args_override_self a v h) (cond (is_some v) (kind.TooManyValues ∷ []) (react_fault s.rules s.args_override_self a [] h)) ≡ []
          → AreTaken s.rules (cond b (option_met s.rules a v h) (flag_met s.rules a v h)).0.rows
      go true v f = option_taken a v h (member a refl) f taken
      go false (Some v) f = taken
      go false None f = react_taken a [] h (member a refl) f taken

  short_taken : (o : Option Rule) (rest : Text) (h : Held) (onward : Held → Held × Outcome) (faults : Held → Kinds) → ((a : Rule) → o ≡ Some a → In a s.rules)
      → ((k : Held) → faults k ≡ [] → AreTaken s.rules k.rows → AreTaken s.rules (onward k).0.rows) → short_fault s.rules s.args_override_self o rest h faults ≡ []
      → AreTaken s.rules h.rows → AreTaken s.rules (short_met s.rules o rest h onward).0.rows
  short_taken None rest h onward faults member more e taken = taken
  short_taken (Some a) rest h onward faults member more e taken = go (takes_values a) e
    where
      go : (b : Bool)
          → cond b (option_fault s.rules s.args_override_self a (attached_value rest) h)
          (or_else (react_fault s.rules s.args_override_self a [] h) (faults (reacted s.rules a [] h))) ≡ []
          → AreTaken s.rules (cond b (option_met s.rules a (attached_value rest) h) (onward (reacted s.rules a [] h))).0.rows
      go true f = option_taken a (attached_value rest) h (member a refl) f taken
      go false f =
          let parts = both_none _ _ f in
          more (reacted s.rules a [] h) parts.1 (react_taken a [] h (member a refl) parts.0 taken)

  bundle_taken : (k : ℕ) (flags : Text) (skip : ℕ) (so_far : Outcome) (h : Held) → flags_fault s.rules s.args_override_self k flags skip h ≡ [] → AreTaken s.rules h.rows
      → AreTaken s.rules (bundle_met s.rules k flags skip so_far h).0.rows
  unfolding bundle_met flags_fault
  bundle_taken zero flags skip so_far h e taken = taken
  bundle_taken (suc k) flags skip so_far h e taken = go (slice_get (chars flags) 0) skip (λ f n o g. bundle_taken k f n o g) e
    where
      go : (o : Option ℕ) (skip : ℕ)
          → ((f : Text) (n : ℕ) (o : Outcome) (g : Held) → flags_fault s.rules s.args_override_self k f n g ≡ [] → AreTaken s.rules g.rows
          → AreTaken s.rules (bundle_met s.rules k f n o g).0.rows)
          → bundle_step_fault s.rules s.args_override_self o flags skip h (flags_fault s.rules s.args_override_self k) ≡ []
          → AreTaken s.rules (bundle_step s.rules o flags skip so_far h (bundle_met s.rules k)).0.rows
      go None skip more f = taken
      go (Some x) zero more f =
          let rest = drop (length (encode_utf8 x)) flags in
          short_taken (arg_by_short s.rules x) rest h (bundle_met s.rules k rest 0 done) (flags_fault s.rules s.args_override_self k rest 0) (λ a is. found_in _ s.rules a is)
          (λ g. more rest 0 done g) f taken
      go (Some x) (suc skip) more f = more (drop (length (encode_utf8 x)) flags) skip so_far h f taken

  plain_taken : (waiting : Waiting) (word : Text) (h : Held) → AreTaken s.rules h.rows → AreTaken s.rules (plain_word s.rules waiting word h).0.rows
  plain_taken (option id) word h taken = go (arg_by_id s.rules id)
    where
      go : (o : Option Rule) → AreTaken s.rules (option_word o id word h).0.rows
      go None = taken
      go (Some a) = taken
  plain_taken idle word h taken = taken
  plain_taken positional word h taken = taken

  after_taken : (waiting : Waiting) (word : Text) (h : Held) (outcome : Outcome) → AreTaken s.rules h.rows → AreTaken s.rules (after_flag s.rules waiting word h outcome).0.rows
  after_taken waiting word h done taken = taken
  after_taken waiting word h (waits id) taken = taken
  after_taken waiting word h plain taken = plain_taken waiting word h taken
  after_taken waiting word h refused taken = plain_taken waiting word h taken

  flag_taken : (waiting : Waiting) (word : Text) (h : Held) (o : Option (Text × Option Text)) → flag_word_fault s.rules s.args_override_self o word h ≡ []
      → AreTaken s.rules h.rows → AreTaken s.rules (long_or_other s.rules waiting word o h).0.rows
  flag_taken waiting word h (Some p) e taken =
      after_taken waiting word (long_met s.rules (arg_by_long s.rules p.0) p.1 h).0 (long_met s.rules (arg_by_long s.rules p.0) p.1 h).1
      (long_taken (arg_by_long s.rules p.0) p.1 h (λ a is. found_in _ s.rules a is) e taken)
  flag_taken waiting word h None e taken = go (short_of word) e
    where
      go : (o : Option Text) → option_map_or (λ flags. bundle_fault s.rules s.args_override_self flags h) o [] ≡ []
          → AreTaken s.rules (short_or_plain s.rules waiting word o h).0.rows
      go None f = plain_taken waiting word h taken
      go (Some flags) f =
          after_taken waiting word _ (bundle_met s.rules (length flags) flags h.skip plain (record h { skip = 0 })).1
          (bundle_taken (length flags) flags h.skip plain (record h { skip = 0 }) f taken)

  word_taken : (is_trailing : Bool) (waiting : Waiting) (position : ℕ) (word : Text) (h : Held) → word_fault s [] is_trailing waiting word h ≡ [] → AreTaken s.rules h.rows
      → AreTaken s.rules (word_met s.rules [] is_trailing waiting position word h).0.rows
  word_taken true waiting position word h e taken = taken
  word_taken false waiting position word h e taken = by_waiting waiting e
    where
      other : (waiting : Waiting) (b : Bool) → cond b [] (flag_word_fault s.rules s.args_override_self (long_of word) word h) ≡ []
          → AreTaken s.rules (cond b (h, trailing position) (long_or_other s.rules waiting word (long_of word) h)).0.rows
      other waiting true f = taken
      other waiting false f = flag_taken waiting word h (long_of word) f taken

      by_waiting : (waiting : Waiting) → word_fault s [] false waiting word h ≡ [] → AreTaken s.rules (word_met s.rules [] false waiting position word h).0.rows
      by_waiting idle f = other idle (bytes_eq word (45 ∷ 45 ∷ [])) f
      by_waiting (option id) f = other (option id) (bytes_eq word (45 ∷ 45 ∷ [])) f
      by_waiting positional f = other positional (bytes_eq word (45 ∷ 45 ∷ [])) f

  step_taken : (w : Walk) (word : Text) (h : Held) (step : Step) → AreTaken s.rules h.rows → step_fault s w.position h step ≡ []
      → AreTaken s.rules (after_step s.rules word w h step).held.rows
  step_taken w word h (next waiting) taken e = taken
  step_taken w word h (trailing position) taken e = taken
  step_taken w word h (subcommand name) taken e = taken
  step_taken w word h value taken e = by_index (arg_by_index s.rules w.position) e
    where
      go : (a : Rule) (b : Bool) → cond b [] (settle_fault s.rules s.args_override_self h) ≡ [] → AreTaken s.rules (cond b h (settled s.rules h)).rows
      go a true f = taken
      go a false f = settle_taken h f taken

      by_index : (o : Option Rule) → option_map_or (λ a. positional_fault s.rules s.args_override_self a h) o (stray_fault s) ≡ []
          → AreTaken s.rules (to_positional s.rules o word w h).held.rows
      by_index None f = taken
      by_index (Some a) f = go a (is_pending a h.pending && takes_several a) f

  turn_taken : (w : Walk) (word : Text) → turn_fault s [] w word ≡ [] → AreTaken s.rules w.held.rows → AreTaken s.rules (walked s.rules [] w word).held.rows
  unfolding walked
  turn_taken w word e taken = go w.stopped e
    where
      go : (stop : Option (Text × List Text))
          → cond (is_some stop) [] (or_else (word_fault s [] w.is_trailing w.waiting word w.held)
          (step_fault s w.position (word_met s.rules [] w.is_trailing w.waiting w.position word w.held).0 (word_met s.rules [] w.is_trailing w.waiting w.position word w.held).1)) ≡ []
          → AreTaken s.rules (walked_from s.rules [] stop w word).held.rows
      go (Some p) f = taken
      go None f =
          let parts = both_none _ _ f in
          step_taken w word (word_met s.rules [] w.is_trailing w.waiting w.position word w.held).0 (word_met s.rules [] w.is_trailing w.waiting w.position word w.held).1
          (word_taken w.is_trailing w.waiting w.position word w.held parts.0 taken) parts.1

  pub walk_taken : (words : List Text) (w : Walk) → walk_fault s [] w words ≡ [] → AreTaken s.rules w.held.rows → AreTaken s.rules (fold (walked s.rules []) w words).held.rows
  unfolding walk_fault
  walk_taken [] w e taken = taken
  walk_taken (x ∷ xs) w e taken =
      let parts = both_none _ _ e in
      walk_taken xs (walked s.rules [] w x) parts.1 (turn_taken w x parts.0 taken)

  -- ---- after the walk

  default_taken : (rows : List Row) (a : Rule) → In a s.rules → default_fault rows a ≡ [] → AreTaken s.rules rows → AreTaken s.rules (with_default rows a)
  default_taken rows a member e taken = go (has_row a.id rows) refl e
    where
      by_values : (vs : List Text) → at_most_one vs ≡ true → has_row a.id rows ≡ false → cond (is_empty vs) [] (given_default_fault a vs) ≡ []
          → AreTaken s.rules (default_rows a.id (reading_by a) vs rows)
      by_values [] few free f = taken
      by_values (v ∷ w ∷ vs) few free f = absurd (true≢false (sym few))
      by_values (v ∷ []) few free f =
          subst (AreTaken s.rules) (sym (placed a.id (reading_by a) DefaultValue (v ∷ []) rows free))
          (taken_push s.rules rows (new_row a.id (reading_by a) DefaultValue (v ∷ [])) taken
          (a, v, member, refl, refl, refl, (both_none _ _ (both_none _ _ f).1).0))

      go : (b : Bool) → has_row a.id rows ≡ b → cond (b || is_empty a.defaults) [] (given_default_fault a a.defaults) ≡ []
          → AreTaken s.rules (cond b rows (default_rows a.id (reading_by a) a.defaults rows))
      go true is f = taken
      go false is f = by_values a.defaults (both (once_as (action_of a) (takes_one a)) _ (passes_in is_once s.rules a all member)).1 is f

  pub defaults_taken : (rules : List Rule) (rows : List Row) → ((a : Rule) → In a rules → In a s.rules) → defaults_fault rows rules ≡ [] → AreTaken s.rules rows
      → AreTaken s.rules (fold with_default rows rules)
  unfolding defaults_fault
  defaults_taken [] rows part e taken = taken
  defaults_taken (a ∷ rest) rows part e taken =
      let parts = both_none _ _ e in
      defaults_taken rest (with_default rows a) (λ x member. part x (inr member)) parts.1 (default_taken rows a (part a (inl refl)) parts.0 taken)

-- ---- which rows there are

any_end : (p : Row → Bool) (rows : List Row) (r : Row) → p r ≡ true → list_any p (rows ++ r ∷ []) ≡ true
any_end p [] r e = ap (λ b. b || false) e
any_end p (x ∷ xs) r e = go (p x) (any_end p xs r e)
  where
    go : (b : Bool) → list_any p (xs ++ r ∷ []) ≡ true → (b || list_any p (xs ++ r ∷ [])) ≡ true
    go true more = refl
    go false more = more

any_more : (p : Row → Bool) (rows : List Row) (r : Row) → list_any p rows ≡ true → list_any p (rows ++ r ∷ []) ≡ true
any_more p [] r e = absurd (true≢false (sym e))
any_more p (x ∷ xs) r e = go (p x) (any_more p xs r) e
  where
    go : (b : Bool) → (list_any p xs ≡ true → list_any p (xs ++ r ∷ []) ≡ true) → (b || list_any p xs) ≡ true → (b || list_any p (xs ++ r ∷ [])) ≡ true
    go true more f = refl
    go false more f = more f

same_text : (t : Text) → bytes_eq t t ≡ true
same_text t = (bytes_eq-Decides t t).1 refl

-- what was there stays, and an argument with a default is there
default_keeps : (id : Text) (rows : List Row) (a : Rule) → has_row id rows ≡ true → has_row id (with_default rows a) ≡ true
default_keeps id rows a has = go (has_row a.id rows) refl
  where
    by_values : (vs : List Text) → has_row a.id rows ≡ false → has_row id (default_rows a.id (reading_by a) vs rows) ≡ true
    by_values [] free = has
    by_values (v ∷ vs) free =
        ap (has_row id) (placed a.id (reading_by a) DefaultValue (v ∷ vs) rows free) ∙ any_more (λ r. bytes_eq r.id id) rows (new_row a.id (reading_by a) DefaultValue (v ∷ vs)) has

    go : (b : Bool) → has_row a.id rows ≡ b → has_row id (cond b rows (default_rows a.id (reading_by a) a.defaults rows)) ≡ true
    go true is = has
    go false is = by_values a.defaults is

default_there : (rows : List Row) (a : Rule) → is_empty a.defaults ≡ false → has_row a.id (with_default rows a) ≡ true
default_there rows a some = go (has_row a.id rows) refl
  where
    by_values : (vs : List Text) → is_empty vs ≡ false → has_row a.id rows ≡ false → has_row a.id (default_rows a.id (reading_by a) vs rows) ≡ true
    by_values [] none free = absurd (true≢false none)
    by_values (v ∷ vs) none free =
        ap (has_row a.id) (placed a.id (reading_by a) DefaultValue (v ∷ vs) rows free)
        ∙ any_end (λ r. bytes_eq r.id a.id) rows (new_row a.id (reading_by a) DefaultValue (v ∷ vs)) (same_text a.id)

    go : (b : Bool) → has_row a.id rows ≡ b → has_row a.id (cond b rows (default_rows a.id (reading_by a) a.defaults rows)) ≡ true
    go true is = is
    go false is = by_values a.defaults some is

defaults_keep : (id : Text) (rules : List Rule) (rows : List Row) → has_row id rows ≡ true → has_row id (fold with_default rows rules) ≡ true
defaults_keep id [] rows has = has
defaults_keep id (a ∷ rest) rows has = defaults_keep id rest (with_default rows a) (default_keeps id rows a has)

pub defaults_there : (rules : List Rule) (rows : List Row) (a : Rule) → In a rules → is_empty a.defaults ≡ false → has_row a.id (fold with_default rows rules) ≡ true
defaults_there [] rows a member some = absurd member
defaults_there (x ∷ rest) rows a (inl is) some =
    defaults_keep a.id rest (with_default rows x) (ap (λ (y : Rule). has_row a.id (with_default rows y)) is ∙ default_there rows a some)
defaults_there (x ∷ rest) rows a (inr member) some = defaults_there rest (with_default rows x) a member some

pub given_has : (id : Text) (rows : List Row) → is_given id rows ≡ true → has_row id rows ≡ true
given_has id [] e = e
given_has id (r ∷ rs) e = go (bytes_eq r.id id) (given_has id rs) e
  where
    go : (b : Bool) → (is_given id rs ≡ true → has_row id rs ≡ true)
        → option_map_or (λ (x : Row). explicit_source x.source) (cond b (Some r) (find (λ x. bytes_eq x.id id) rs)) false ≡ true → (b || has_row id rs) ≡ true
    go true more f = refl
    go false more f = more f
