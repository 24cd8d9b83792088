-- What a run gives once lines were served. `before` and `after` say what lines may come to that are
-- served from there on.
use Rattle.std.proofs.Common.{◌≡◌, ℕ, ◌+◌, ◌<◌, List, [], ◌∷◌, ◌++◌, length, take, drop, refl, ap, sym, ◌∙◌, arith, subst, inl, inr, Some, append_assoc, append-nil, length-append, length-take, string_bytes, codes, take-append-drop}
use Rattle.script.specs.declared.run.Run.{Run}
use Rattle.script.specs.declared.ending.Ending.TheVariants.{Finished, Refused}
use Rattle.script.specs.Lines.{lines_of}
use Rattle.script.specs.Outcome.{Outcome, Continues, Ends, with_front, fault, fault_line}
use Rattle.script.specs.Knowing.{Learns, Leads}
use Rattle.script.specs.Endings.{EndsAtLine, EndsKnown}
use Rattle.script.specs.Serving.{RunGives, Advances, Stops, Halts, Closes}
use Rattle.script.proofs.Searches.{NoneBefore}
use Rattle.script.proofs.LineLemmas.{EndsAt, IsWhole-append, lines_of-nothing, lines_of-at, lines_of-ended, lines_of-front, lines_of-last}

-- nothing more is given if no line is left
abbrev pub EndsWithNothing : (ℕ → List (List ℕ) → Outcome → Type 0) → Type 0
EndsWithNothing may = (n : ℕ) → may n [] (record { text = []; ending = Some Finished })

-- a line of this number that is too long ends a run
abbrev pub RefusesLongLine : (ℕ → List (List ℕ) → Outcome → Type 0) → ℕ → Type 0
RefusesLongLine may n = (line : List ℕ) (lines : List (List ℕ)) → 4096 < length line → may n (line ∷ lines) (fault n (codes "long line"))

pub with_front-with_front : (a b : List ℕ) (outcome : Outcome) → with_front a (with_front b outcome) ≡ with_front (a ++ b) outcome
with_front-with_front a b outcome = ap (λ t. record { text = t; ending = outcome.ending }) (sym (append_assoc a b outcome.text))

-- ---- one line

-- a line that was answered, with its end
pub advances_line : (before after : ℕ → List (List ℕ) → Outcome → Type 0) (old new : Run) (k : ℕ) → EndsAt old.pending k → new.lines ≡ old.lines + 1
    → new.pending ≡ drop (k + 1) old.pending
    → Continues before after (old.lines + 1) (take k old.pending) (string_bytes old.text) (string_bytes new.text) → Advances before after old new
advances_line before after old new k found count left line = record {
  used = take (k + 1) old.pending;
  split = sym (take-append-drop (k + 1) old.pending) ∙ ap (λ ys. take (k + 1) old.pending ++ ys) (sym left);
  whole = inr (take k old.pending, found.ended);
  gives = λ bytes outcome r. record {
    rest = with_front line.answer r.rest;
    gives =
        subst (λ lines. before (old.lines + 1) lines (with_front line.answer r.rest))
        (sym (ap (λ ys. lines_of (ys ++ bytes)) found.ended ∙ lines_of-ended (take k old.pending) bytes found.none))
        (line.rest (lines_of bytes) r.rest (subst (λ n. after (n + 1) (lines_of bytes) r.rest) count r.gives));
    same =
        r.same
        ∙ ap (λ t. with_front t r.rest) line.text
        ∙ sym (with_front-with_front (string_bytes old.text) line.answer r.rest);
  };
}

-- a line that ends the run, whatever follows it
pub gives_last_answer : (before : ℕ → List (List ℕ) → Outcome → Type 0) (old new : Run) (bytes line answer : List ℕ) (lines : List (List ℕ)) → lines_of bytes ≡ line ∷ lines
    → before (old.lines + 1) (line ∷ lines) (record { text = answer; ending = Some Refused }) → string_bytes new.text ≡ string_bytes old.text ++ answer
    → RunGives before old bytes (record { text = string_bytes new.text; ending = Some Refused })
gives_last_answer before old new bytes line answer lines e given text = record {
  rest = record { text = answer; ending = Some Refused };
  gives = subst (λ ls. before (old.lines + 1) ls (record { text = answer; ending = Some Refused })) (sym e) given;
  same = ap (λ t. record { text = t; ending = Some Refused }) text;
}

pub stops_line : (before : ℕ → List (List ℕ) → Outcome → Type 0) (old new : Run) (k : ℕ) → EndsAt old.pending k
    → Ends before (old.lines + 1) (take k old.pending) (string_bytes old.text) (string_bytes new.text) → Stops before old new
stops_line before old new k found line more =
    gives_last_answer before old new (old.pending ++ more) (take k old.pending) line.answer _ (lines_of-at old.pending more k found) (line.rest _) line.text

-- a line that is too long, with its end
pub stops_long : (before : ℕ → List (List ℕ) → Outcome → Type 0) (old new : Run) (k : ℕ) → RefusesLongLine before (old.lines + 1) → EndsAt old.pending k → 4096 < k
    → string_bytes new.text ≡ string_bytes old.text ++ fault_line (old.lines + 1) (codes "long line") → Stops before old new
stops_long before old new k refuses found long text more =
    let inside = found.inside in
    gives_last_answer before old new (old.pending ++ more) (take k old.pending) (fault_line (old.lines + 1) (codes "long line")) _ (lines_of-at old.pending more k found)
    (refuses _ _ (omega (arith, length-take k old.pending))) text

-- a line that is too long before its end
pub stops_long_front : (before : ℕ → List (List ℕ) → Outcome → Type 0) (old new : Run) → RefusesLongLine before (old.lines + 1) → NoneBefore 10 old.pending (length old.pending)
    → 4096 < length old.pending → string_bytes new.text ≡ string_bytes old.text ++ fault_line (old.lines + 1) (codes "long line") → Stops before old new
stops_long_front before old new refuses none long text more =
    let front = lines_of-front old.pending more none (omega arith) in
    gives_last_answer before old new (old.pending ++ more) (old.pending ++ front.0) (fault_line (old.lines + 1) (codes "long line")) front.1 front.2
    (refuses _ _ (omega (arith, length-append old.pending front.0))) text

-- nothing is pending
pub closes_nothing : (before : ℕ → List (List ℕ) → Outcome → Type 0) (old new : Run) → EndsWithNothing before → old.pending ≡ [] → string_bytes new.text ≡ string_bytes old.text
    → Closes before old new Finished
closes_nothing before old new nothing none text = record {
  rest = record { text = []; ending = Some Finished };
  gives = subst (λ ls. before (old.lines + 1) ls (record { text = []; ending = Some Finished })) (sym (ap lines_of none ∙ lines_of-nothing)) (nothing (old.lines + 1));
  same = ap (λ t. record { text = t; ending = Some Finished }) (text ∙ sym (append-nil (string_bytes old.text)));
}

-- a last line that lacks its end
pub closes_line : (before after : ℕ → List (List ℕ) → Outcome → Type 0) (old new : Run) → EndsWithNothing after → NoneBefore 10 old.pending (length old.pending) → 0 < length old.pending
    → Continues before after (old.lines + 1) old.pending (string_bytes old.text) (string_bytes new.text) → Closes before old new Finished
closes_line before after old new nothing none some line = record {
  rest = record { text = line.answer ++ []; ending = Some Finished };
  gives =
      subst (λ ls. before (old.lines + 1) ls (record { text = line.answer ++ []; ending = Some Finished })) (sym (lines_of-last old.pending none some))
      (line.rest [] (record { text = []; ending = Some Finished }) (nothing (old.lines + 1 + 1)));
  same = ap (λ t. record { text = t; ending = Some Finished }) (line.text ∙ ap (λ t. string_bytes old.text ++ t) (sym (append-nil line.answer)));
}

pub closes_refused : (before : ℕ → List (List ℕ) → Outcome → Type 0) (old new : Run) → NoneBefore 10 old.pending (length old.pending) → 0 < length old.pending
    → Ends before (old.lines + 1) old.pending (string_bytes old.text) (string_bytes new.text) → Closes before old new Refused
closes_refused before old new none some line =
    gives_last_answer before old new old.pending old.pending line.answer [] (lines_of-last old.pending none some) (line.rest []) line.text

-- what is known of a line that was answered
pub leads_line : {I : Type 0} → (knows : I → List (List ℕ) → Type 0) (before after : ℕ → List (List ℕ) → Outcome → Type 0) (last old new : I) (number : ℕ) (line told now : List ℕ)
    → Continues before after number line told now → Learns knows old new (line ∷ []) → Continues (Leads knows last old) (Leads knows last new) number line told now
leads_line knows before after last old new number line told now answered learns = record {
  answer = answered.answer;
  text = answered.text;
  rest = λ lines outcome leads past known. subst (knows last) (append_assoc past (line ∷ []) lines) (leads (past ++ line ∷ []) (learns past known));
}

-- ---- which line ends a run

-- none that was answered
pub passes_line : (is_last : ℕ → List ℕ → Type 0) (before after : ℕ → List (List ℕ) → Outcome → Type 0) (number : ℕ) (line told now : List ℕ) → Continues before after number line told now
    → Continues (EndsKnown before is_last) (EndsKnown after is_last) number line told now
passes_line is_last before after number line told now answered = record {
  answer = answered.answer;
  text = answered.text;
  rest = λ lines outcome known refused.
      let at = known refused in
      record {
        before = line ∷ at.before;
        line = at.line;
        after = at.after;
        split = ap (λ behind. line ∷ behind) at.split;
        ends = λ more. answered.rest (at.before ++ at.line ∷ more) outcome (at.ends more);
        last = subst (λ n. is_last n at.line) (omega arith) at.last;
      };
}

-- the first, of which that is known
ends_first : (is_last : ℕ → List ℕ → Type 0) (before : ℕ → List (List ℕ) → Outcome → Type 0) (number : ℕ) (line : List ℕ) (lines : List (List ℕ)) (outcome : Outcome)
    → ((more : List (List ℕ)) → before number (line ∷ more) outcome) → is_last number line → EndsAtLine before is_last number (line ∷ lines) outcome
ends_first is_last before number line lines outcome ends known = record {
  before = [];
  line = line;
  after = lines;
  split = refl;
  ends = ends;
  last = subst (λ n. is_last n line) (omega arith) known;
}

pub ends_line : (is_last : ℕ → List ℕ → Type 0) (before : ℕ → List (List ℕ) → Outcome → Type 0) (number : ℕ) (line told now : List ℕ) → Ends before number line told now → is_last number line
    → Ends (EndsKnown before is_last) number line told now
ends_line is_last before number line told now ended known = record {
  answer = ended.answer;
  text = ended.text;
  rest = λ lines _. ends_first is_last before number line lines _ ended.rest known;
}

pub ends_long : (is_last : ℕ → List ℕ → Type 0) (before : ℕ → List (List ℕ) → Outcome → Type 0) (number : ℕ) → RefusesLongLine before number
    → ((line : List ℕ) → 4096 < length line → is_last number line) → RefusesLongLine (EndsKnown before is_last) number
ends_long is_last before number refuses known line lines long _ = ends_first is_last before number line lines _ (λ more. refuses line more long) (known line long)

-- and none if no line is left
pub ends_nowhere : (is_last : ℕ → List ℕ → Type 0) (before : ℕ → List (List ℕ) → Outcome → Type 0) → EndsWithNothing (EndsKnown before is_last)
ends_nowhere is_last before n refused = absurd (cc refused)

-- ---- lines after lines

pub advances_refl : (before : ℕ → List (List ℕ) → Outcome → Type 0) (a : Run) → Advances before before a a
advances_refl before a = record { used = []; split = refl; whole = inl refl; gives = λ bytes outcome r. r }

pub advances_trans : (before mid after : ℕ → List (List ℕ) → Outcome → Type 0) (a b c : Run) → Advances before mid a b → Advances mid after b c → Advances before after a c
advances_trans before mid after a b c x y = record {
  used = x.used ++ y.used;
  split = x.split ∙ ap (λ ys. x.used ++ ys) y.split ∙ sym (append_assoc x.used y.used c.pending);
  whole = IsWhole-append x.used y.used x.whole y.whole;
  gives = λ bytes outcome r.
      subst (λ ys. RunGives before a ys outcome) (sym (append_assoc x.used y.used bytes)) (x.gives (y.used ++ bytes) outcome (y.gives bytes outcome r));
}

pub stops_after : (before after : ℕ → List (List ℕ) → Outcome → Type 0) (a b c : Run) → Advances before after a b → Stops after b c → Stops before a c
stops_after before after a b c x stops more =
    subst (λ ys. RunGives before a ys (record { text = string_bytes c.text; ending = Some Refused }))
    (sym (ap (λ ys. ys ++ more) x.split ∙ append_assoc x.used b.pending more))
    (x.gives (b.pending ++ more) _ (stops more))

-- memory ran out at the next line
pub halts_after : (before after : ℕ → List (List ℕ) → Outcome → Type 0) (a b c : Run) → EndsWithNothing after → Advances before after a b → string_bytes c.text ≡ string_bytes b.text
    → Halts before a c
halts_after before after a b c nothing x text = record {
  used = x.used;
  left = b.pending;
  split = x.split;
  whole = x.whole;
  gives =
      subst (λ ys. RunGives before a ys (record { text = string_bytes c.text; ending = Some Finished })) (append-nil x.used)
      (x.gives [] _ (record {
        rest = record { text = []; ending = Some Finished };
        gives = subst (λ ls. after (b.lines + 1) ls (record { text = []; ending = Some Finished })) (sym lines_of-nothing) (nothing (b.lines + 1));
        same = ap (λ t. record { text = t; ending = Some Finished }) (text ∙ sym (append-nil (string_bytes b.text)));
      }));
}
