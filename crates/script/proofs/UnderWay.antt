-- A run between two calls: whole lines were served, and what it still gives is known for all that may follow.
-- `may` says what the script may come to, `now_may` what the run may come to from here on.
use Rattle.std.proofs.Common.{◌≡◌, ℕ, ◌+◌, List, [], ◌++◌, Option, Some, None, refl, ap, sym, ◌∙◌, append_assoc, append-nil, inl, inr, subst, string_bytes, IfSome}
use Rattle.std.specs.Io.KnownBytes.{Consumes, Appends, Keeps, IsAtEnd}
use Rattle.std.proofs.KnownBytes.{Consumes-nil, Consumes-trans, Consumes-kept, Appends-nil, Appends-trans}
use Rattle.script.specs.declared.run.Run.{Run}
use Rattle.script.specs.declared.ending.Ending.{Ending}
use Rattle.script.specs.declared.ending.Ending.TheVariants.{Finished, Refused}
use Rattle.script.specs.Lines.{lines_of, HasNoEnd}
use Rattle.script.specs.Outcome.{Outcome, with_front}
use Rattle.script.specs.Knowing.{Learns, Leads}
use Rattle.script.specs.Writing.{ComesTo, MayFollow, IsBeginning, StopsForMemory, WritesAnswer, WritesNoMemory, WritesBeginning, AnswersWholeLines, no_memory_line}
use Rattle.script.specs.Serving.{Advances, Stops, Halts, Closes, IsUnderWay, SameButText, SameButPending, WritesFront}
use Rattle.script.proofs.LineLemmas.{IsWhole-append, lines_of-nothing}
use Rattle.script.proofs.ServedLines.{EndsWithNothing, with_front-with_front}

-- nothing is a beginning of what lines come to
abbrev pub BeginsWithNothing : (ℕ → List (List ℕ) → Outcome → Type 0) → Type 0
BeginsWithNothing may = (n : ℕ) (lines : List (List ℕ)) → may n lines (record { text = []; ending = None })

-- each front of a text is a beginning too
abbrev pub CanBeCut : (ℕ → List (List ℕ) → Outcome → Type 0) → Type 0
CanBeCut may = (n : ℕ) (lines : List (List ℕ)) (outcome : Outcome) (front rest : List ℕ) → may n lines outcome → outcome.text ≡ front ++ rest
    → may n lines (record { text = front; ending = None })

-- ---- it starts, and stays under way

pub under_way_start : (may : ℕ → List (List ℕ) → Outcome → Type 0) (input before : Option (List ℕ)) (s : Run) → s.pending ≡ [] → s.lines ≡ 0 → string_bytes s.text ≡ []
    → IsUnderWay may may input input before before s
under_way_start may input before s pending lines text = record {
  whole = [];
  told = [];
  read = subst (Consumes input input) (sym pending) (Consumes-nil input);
  ends = inl refl;
  written = Appends-nil before;
  gives = λ bytes outcome r.
      subst (λ o. may 1 (lines_of bytes) o) (sym (r.same ∙ ap (λ t. with_front t r.rest) text)) (subst (λ n. may (n + 1) (lines_of bytes) r.rest) lines r.gives);
}

-- whole lines were served
pub under_way_lines : (may now_may then_may : ℕ → List (List ℕ) → Outcome → Type 0) (input rest before now : Option (List ℕ)) (s t : Run)
    → IsUnderWay may now_may input rest before now s → Advances now_may then_may s t → IsUnderWay may then_may input rest before now t
under_way_lines may now_may then_may input rest before now s t u a = record {
  whole = u.whole ++ a.used;
  told = u.told;
  read = subst (Consumes input rest) (ap (λ ys. u.whole ++ ys) a.split ∙ sym (append_assoc u.whole a.used t.pending)) u.read;
  ends = IsWhole-append u.whole a.used u.ends a.whole;
  written = u.written;
  gives = λ bytes outcome r.
      subst (λ ys. may 1 (lines_of ys) (with_front u.told outcome)) (sym (append_assoc u.whole a.used bytes)) (u.gives (a.used ++ bytes) outcome (a.gives bytes outcome r));
}

-- the text was written
pub under_way_sent : (may now_may : ℕ → List (List ℕ) → Outcome → Type 0) (input rest before mid now : Option (List ℕ)) (s t : Run)
    → IsUnderWay may now_may input rest before mid s → SameButText s t → string_bytes t.text ≡ [] → Appends mid now (string_bytes s.text)
    → IsUnderWay may now_may input rest before now t
under_way_sent may now_may input rest before mid now s t u same empty w = record {
  whole = u.whole;
  told = u.told ++ string_bytes s.text;
  read = subst (λ ys. Consumes input rest (u.whole ++ ys)) (sym same.pending) u.read;
  ends = u.ends;
  written = Appends-trans before mid now u.told (string_bytes s.text) u.written w;
  gives = λ bytes outcome r.
      subst (λ o. may 1 (lines_of (u.whole ++ bytes)) o) (with_front-with_front u.told (string_bytes s.text) outcome)
      (u.gives bytes (with_front (string_bytes s.text) outcome) (record {
        rest = r.rest;
        gives = subst (λ n. now_may (n + 1) (lines_of bytes) r.rest) same.lines r.gives;
        same = ap (with_front (string_bytes s.text)) (r.same ∙ ap (λ x. with_front x r.rest) empty);
      }));
}

-- more was read
pub under_way_read : (may now_may : ℕ → List (List ℕ) → Outcome → Type 0) (input mid rest before now : Option (List ℕ)) (s t : Run) (part : List ℕ)
    → IsUnderWay may now_may input mid before now s → SameButPending s t → t.pending ≡ s.pending ++ part → Consumes mid rest part
    → IsUnderWay may now_may input rest before now t
under_way_read may now_may input mid rest before now s t part u same more r = record {
  whole = u.whole;
  told = u.told;
  read = subst (Consumes input rest) (append_assoc u.whole s.pending part ∙ ap (λ ys. u.whole ++ ys) (sym more)) (Consumes-trans input mid rest (u.whole ++ s.pending) part u.read r);
  ends = u.ends;
  written = u.written;
  gives = λ bytes outcome x.
      u.gives bytes outcome (record {
        rest = x.rest;
        gives = subst (λ n. now_may (n + 1) (lines_of bytes) x.rest) same.lines x.gives;
        same = x.same ∙ ap (λ t. with_front t x.rest) same.text;
      });
}

-- the reader stayed as it was
pub under_way_kept : (may now_may : ℕ → List (List ℕ) → Outcome → Type 0) (input mid rest before now : Option (List ℕ)) (s : Run) → IsUnderWay may now_may input mid before now s → Keeps mid rest
    → IsUnderWay may now_may input rest before now s
under_way_kept may now_may input mid rest before now s u kept = record {
  whole = u.whole;
  told = u.told;
  read = Consumes-kept input mid rest (u.whole ++ s.pending) u.read kept;
  ends = u.ends;
  written = u.written;
  gives = u.gives;
}

-- ---- what the script is

-- It is what was read, and what may follow that.
script_is : (input rest : Option (List ℕ)) (seen : List ℕ) (P : List ℕ → Type 0) → Consumes input rest seen → ((more : List ℕ) → MayFollow rest more → P (seen ++ more)) → IfSome input P
script_is None rest seen P read given = tt
script_is (Some script) None seen P read given = absurd read
script_is (Some script) (Some left) seen P read given = subst P (sym read) (given left (λ end. end))

-- ---- it ends

-- the script comes to this text, whatever follows what was seen of it
abbrev pub IsTold : (ℕ → List (List ℕ) → Outcome → Type 0) → Option (List ℕ) → List ℕ → List ℕ → Ending → Type 0
IsTold may rest seen text ending = (more : List ℕ) → MayFollow rest more → ComesTo may (seen ++ more) text (Some ending)

pub under_way_stops : (may now_may : ℕ → List (List ℕ) → Outcome → Type 0) (input rest before now : Option (List ℕ)) (s t : Run) (u : IsUnderWay may now_may input rest before now s)
    → Stops now_may s t → IsTold may rest (u.whole ++ s.pending) (u.told ++ string_bytes t.text) Refused
under_way_stops may now_may input rest before now s t u stops more _ =
    subst (λ ys. ComesTo may ys (u.told ++ string_bytes t.text) (Some Refused)) (sym (append_assoc u.whole s.pending more)) (u.gives (s.pending ++ more) _ (stops more))

pub under_way_closes : (may now_may : ℕ → List (List ℕ) → Outcome → Type 0) (input rest before now : Option (List ℕ)) (s t : Run) (ending : Ending)
    (u : IsUnderWay may now_may input rest before now s) → IsAtEnd rest → Closes now_may s t ending → IsTold may rest (u.whole ++ s.pending) (u.told ++ string_bytes t.text) ending
under_way_closes may now_may input rest before now s t ending u end closes more follows =
    subst (λ ys. ComesTo may ys (u.told ++ string_bytes t.text) (Some ending))
    (sym (ap (λ ys. (u.whole ++ s.pending) ++ ys) (follows end) ∙ append-nil (u.whole ++ s.pending))) (u.gives s.pending _ closes)

pub told_all : (may : ℕ → List (List ℕ) → Outcome → Type 0) (input rest before mid now : Option (List ℕ)) (seen told text : List ℕ) (ending : Ending) → Consumes input rest seen
    → IsTold may rest seen (told ++ text) ending → Appends before mid told → Appends mid now text → WritesAnswer may input before now ending
told_all may input rest before mid now seen told text ending read is_told told_before written =
    script_is input rest seen (λ script. (all : List ℕ) × ComesTo may script all (Some ending) × Appends before now all) read
    (λ more follows. (told ++ text, is_told more follows, Appends-trans before mid now told text told_before written))

pub told_part : (may : ℕ → List (List ℕ) → Outcome → Type 0) (input rest before mid now : Option (List ℕ)) (seen told text : List ℕ) (ending : Ending) → CanBeCut may
    → Consumes input rest seen → IsTold may rest seen (told ++ text) ending → Appends before mid told → WritesFront mid now text → WritesBeginning may input rest before now
told_part may input rest before mid now seen told text ending cut read is_told told_before f = record {
  seen = seen;
  front = told ++ f.front;
  read = read;
  written = Appends-trans before mid now told f.front told_before f.written;
  beginning = λ more follows.
      inl (cut 1 (lines_of (seen ++ more)) _ (told ++ f.front) f.rest (is_told more follows) (ap (λ x. told ++ x) f.split ∙ sym (append_assoc told f.front f.rest)));
}

-- What is known of lines is known of all of them, once what is pending is known too.
pub under_way_learned : {I : Type 0} → (knows : I → List (List ℕ) → Type 0) (first now last : I) (input rest before told : Option (List ℕ)) (s : Run)
    → IsUnderWay (Leads knows last first) (Leads knows last now) input rest before told s → IsAtEnd rest → Learns knows now last (lines_of s.pending)
    → IfSome input (λ script. Learns knows first last (lines_of script))
under_way_learned knows first now last input rest before told s u end learns =
    script_is input rest (u.whole ++ s.pending) (λ script. Learns knows first last (lines_of script)) u.read
    (λ more follows.
    subst (λ ys. Learns knows first last (lines_of ys)) (sym (ap (λ ys. (u.whole ++ s.pending) ++ ys) (follows end) ∙ append-nil (u.whole ++ s.pending)))
    (u.gives s.pending (with_front (string_bytes s.text) (record { text = []; ending = None })) (record { rest = record { text = []; ending = None }; gives = learns; same = refl })))

-- ---- it is broken off

-- some of the text was written
pub under_way_part : (may now_may : ℕ → List (List ℕ) → Outcome → Type 0) (input rest before mid now : Option (List ℕ)) (s : Run) → CanBeCut may → BeginsWithNothing now_may
    → IsUnderWay may now_may input rest before mid s → WritesFront mid now (string_bytes s.text) → WritesBeginning may input rest before now
under_way_part may now_may input rest before mid now s cut begins u f = record {
  seen = u.whole ++ s.pending;
  front = u.told ++ f.front;
  read = u.read;
  written = Appends-trans before mid now u.told f.front u.written f.written;
  beginning = λ more _.
      let comes : ComesTo may (u.whole ++ (s.pending ++ more)) (u.told ++ (string_bytes s.text ++ [])) None =
      u.gives (s.pending ++ more) (record { text = string_bytes s.text ++ []; ending = None }) (record { rest = record { text = []; ending = None }; gives = begins _ _; same = refl }) in
      let split = ap (λ x. u.told ++ x) (append-nil (string_bytes s.text) ∙ f.split) ∙ sym (append_assoc u.told f.front f.rest) in
      subst (λ ys. IsBeginning may ys (u.told ++ f.front)) (sym (append_assoc u.whole s.pending more)) (inl (cut 1 _ _ (u.told ++ f.front) f.rest comes split));
}

-- none of it was
pub under_way_begins : (may now_may : ℕ → List (List ℕ) → Outcome → Type 0) (input rest before now : Option (List ℕ)) (s : Run) → CanBeCut may → BeginsWithNothing now_may
    → IsUnderWay may now_may input rest before now s → WritesBeginning may input rest before now
under_way_begins may now_may input rest before now s cut begins u =
    under_way_part may now_may input rest before now now s cut begins u (record { front = []; rest = string_bytes s.text; split = refl; written = Appends-nil now })

-- memory ran out at a line, whatever follows
stops_for_memory : (may now_may : ℕ → List (List ℕ) → Outcome → Type 0) (input rest before now : Option (List ℕ)) (s t : Run) (u : IsUnderWay may now_may input rest before now s)
    → Halts now_may s t → (more : List ℕ) → StopsForMemory may ((u.whole ++ s.pending) ++ more) ((u.told ++ string_bytes t.text) ++ no_memory_line)
stops_for_memory may now_may input rest before now s t u h more = record {
  whole = u.whole ++ h.used;
  rest = h.left ++ more;
  answers = u.told ++ string_bytes t.text;
  split =
      ap (λ ys. (u.whole ++ ys) ++ more) h.split
      ∙ ap (λ ys. ys ++ more) (sym (append_assoc u.whole h.used h.left))
      ∙ append_assoc (u.whole ++ h.used) h.left more;
  is_whole = IsWhole-append u.whole h.used u.ends h.whole;
  comes = u.gives h.used _ h.gives;
  told = refl;
}

pub under_way_no_memory : (may now_may : ℕ → List (List ℕ) → Outcome → Type 0) (input rest before mid now : Option (List ℕ)) (s t : Run)
    → IsUnderWay may now_may input rest before mid s → Halts now_may s t → Appends mid now (string_bytes t.text ++ no_memory_line) → WritesNoMemory may input before now
under_way_no_memory may now_may input rest before mid now s t u h w =
    let written : Appends before now ((u.told ++ string_bytes t.text) ++ no_memory_line) =
    subst (Appends before now) (sym (append_assoc u.told (string_bytes t.text) no_memory_line)) (Appends-trans before mid now u.told _ u.written w) in
    script_is input rest (u.whole ++ s.pending) (λ script. (text : List ℕ) × StopsForMemory may script text × Appends before now text) u.read
    (λ more _. ((u.told ++ string_bytes t.text) ++ no_memory_line, stops_for_memory may now_may input rest before mid s t u h more, written))

pub under_way_no_memory_part : (may now_may : ℕ → List (List ℕ) → Outcome → Type 0) (input rest before mid now : Option (List ℕ)) (s t : Run)
    → IsUnderWay may now_may input rest before mid s → Halts now_may s t → WritesFront mid now (string_bytes t.text ++ no_memory_line) → WritesBeginning may input rest before now
under_way_no_memory_part may now_may input rest before mid now s t u h f =
    let split : (u.told ++ string_bytes t.text) ++ no_memory_line ≡ (u.told ++ f.front) ++ f.rest =
    append_assoc u.told (string_bytes t.text) no_memory_line ∙ ap (λ x. u.told ++ x) f.split ∙ sym (append_assoc u.told f.front f.rest) in
    record {
      seen = u.whole ++ s.pending;
      front = u.told ++ f.front;
      read = u.read;
      written = Appends-trans before mid now u.told f.front u.written f.written;
      beginning = λ more _. inr ((u.told ++ string_bytes t.text) ++ no_memory_line, f.rest, stops_for_memory may now_may input rest before mid s t u h more, split);
    }

-- memory ran out before any line
stops_at_once : (may : ℕ → List (List ℕ) → Outcome → Type 0) (script : List ℕ) → EndsWithNothing may → StopsForMemory may script no_memory_line
stops_at_once may script nothing = record {
  whole = [];
  rest = script;
  answers = [];
  split = refl;
  is_whole = inl refl;
  comes = subst (λ ls. may 1 ls (record { text = []; ending = Some Finished })) (sym lines_of-nothing) (nothing 1);
  told = refl;
}

always : (o : Option (List ℕ)) (P : List ℕ → Type 0) → ((x : List ℕ) → P x) → IfSome o P
always None P f = tt
always (Some x) P f = f x

pub no_memory_at_once : (may : ℕ → List (List ℕ) → Outcome → Type 0) (input before now : Option (List ℕ)) → EndsWithNothing may → Appends before now no_memory_line
    → WritesNoMemory may input before now
no_memory_at_once may input before now nothing w = always input _ (λ script. (no_memory_line, stops_at_once may script nothing, w))

pub no_memory_part_at_once : (may : ℕ → List (List ℕ) → Outcome → Type 0) (input before now : Option (List ℕ)) → EndsWithNothing may → WritesFront before now no_memory_line
    → WritesBeginning may input input before now
no_memory_part_at_once may input before now nothing f = record {
  seen = [];
  front = f.front;
  read = Consumes-nil input;
  written = f.written;
  beginning = λ more _. inr (no_memory_line, f.rest, stops_at_once may more nothing, f.split);
}

-- a read failed
pub under_way_read_failed : (may now_may : ℕ → List (List ℕ) → Outcome → Type 0) (input rest last before now : Option (List ℕ)) (s : Run) → EndsWithNothing now_may
    → IsUnderWay may now_may input rest before now s → string_bytes s.text ≡ [] → HasNoEnd s.pending → Keeps rest last → AnswersWholeLines may input last before now
under_way_read_failed may now_may input rest last before now s nothing u empty no_end kept =
    let all_told : may 1 (lines_of (u.whole ++ [])) (record { text = u.told ++ []; ending = Some Finished }) =
    u.gives [] (record { text = []; ending = Some Finished }) (record {
      rest = record { text = []; ending = Some Finished };
      gives = subst (λ ls. now_may (s.lines + 1) ls (record { text = []; ending = Some Finished })) (sym lines_of-nothing) (nothing (s.lines + 1));
      same = ap (λ t. record { text = t ++ []; ending = Some Finished }) (sym empty);
    }) in
    record {
      whole = u.whole;
      part = s.pending;
      answers = u.told;
      read = Consumes-kept input rest last (u.whole ++ s.pending) u.read kept;
      is_whole = u.ends;
      no_end = no_end;
      comes =
          subst (λ ys. may 1 (lines_of ys) (record { text = u.told; ending = Some Finished })) (append-nil u.whole)
          (subst (λ t. may 1 (lines_of (u.whole ++ [])) (record { text = t; ending = Some Finished })) (append-nil u.told) all_told);
      written = u.written;
    }

-- ---- a front of two texts

pub writes_front_then : (before mid after : Option (List ℕ)) (first second : List ℕ) → Appends before mid first → WritesFront mid after second → WritesFront before after (first ++ second)
writes_front_then before mid after first second w f = record {
  front = first ++ f.front;
  rest = f.rest;
  split = ap (λ t. first ++ t) f.split ∙ sym (append_assoc first f.front f.rest);
  written = Appends-trans before mid after first f.front w f.written;
}
