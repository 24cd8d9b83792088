-- What of an answer was written.
use Rattle.std.proofs.Common.{◌≡◌, ℕ, Bool, true, false, List, [], ◌++◌, refl, ap, sym, ◌∙◌, subst, append_assoc, append-nil, Option, Some, None, IfSome, Ok, Err, inr}
use Rattle.std.specs.Prelude.{Result}
use Rattle.std.specs.Io.KnownBytes.{Appends, Consumes, IsAtEnd}
use Rattle.std.proofs.KnownBytes.{Appends-nil, Appends-trans}
use Rattle.script.specs.declared.error.ServeError.{ServeError}
use Rattle.script.specs.declared.error.ServeError.TheVariants.{Memory, Read, Write, Endless}
use Rattle.script.specs.Errors.{is_endless, is_read, is_write}
use Rattle.script.specs.Serving.{WritesFront}
use Rattle.script.specs.Writing.{no_memory_line}
use Rattle.image.specs.declared.answered.Answered.{Answered}
use Rattle.image.specs.declared.asked.Asked.{Asked}
use Rattle.image.specs.declared.fault.ImageFault.{ImageFault}
use Rattle.image.specs.declared.request.Request.{Request}
use Rattle.image.specs.Queues.{request_of}
use Rattle.image.specs.Showings.{Moved}
use Rattle.image.specs.Views.{Answer, answer_in, answer_to, image_of, refusal}
use Rattle.image.specs.Tellings.{EndsWithoutMemory, IsToBeWritten, Serves}

pub nothing_written : (before : Option (List ℕ)) (text : List ℕ) → WritesFront before before text
nothing_written before text = record { front = []; rest = text; split = refl; written = Appends-nil before }

pub shown_all : (before mid after : Option (List ℕ)) (old head text lines : List ℕ) → old ≡ head → Moved before mid old text lines → Appends mid after text
    → Appends before after (head ++ lines)
shown_all before mid after old head text lines is moved written =
    subst (Appends before after) (sym moved.split ∙ ap (λ t. t ++ lines) is) (Appends-trans before mid after moved.told text moved.written written)

pub shown_part : (before mid after : Option (List ℕ)) (old head text lines : List ℕ) → old ≡ head → Moved before mid old text lines → WritesFront mid after text
    → WritesFront before after (head ++ lines)
shown_part before mid after old head text lines is moved f = record {
  front = moved.told ++ f.front;
  rest = f.rest;
  split = ap (λ t. t ++ lines) (sym is) ∙ moved.split ∙ ap (λ t. moved.told ++ t) f.split ∙ sym (append_assoc moved.told f.front f.rest);
  written = Appends-trans before mid after moved.told f.front moved.written f.written;
}

-- A line more was gathered behind what was shown.
pub moved_and_said : (before mid : Option (List ℕ)) (old text lines said more : List ℕ) → Moved before mid old text lines → said ≡ text ++ more
    → Moved before mid old said (lines ++ more)
moved_and_said before mid old text lines said more moved say = record {
  told = moved.told;
  written = moved.written;
  split =
      sym (append_assoc old lines more) ∙ ap (λ t. t ++ more) moved.split ∙ append_assoc moved.told text more ∙ ap (λ t. moved.told ++ t) (sym say);
}

-- A beginning is one of what has more lines.
pub part_of_more : (before after : Option (List ℕ)) (head lines more : List ℕ) → WritesFront before after (head ++ lines) → WritesFront before after (head ++ (lines ++ more))
part_of_more before after head lines more f = record {
  front = f.front;
  rest = f.rest ++ more;
  split = sym (append_assoc head lines more) ∙ ap (λ t. t ++ more) f.split ∙ append_assoc f.front f.rest more;
  written = f.written;
}

off : {b : Bool} → b ≡ false → b ≡ true → ⊥
off is_off is_on = let no : false ≡ true = sym is_off ∙ is_on in absurd cc

-- an error that is neither a failed read nor that there is no end
pub broken_off : (e : ServeError) (answer : Answer) (before after : Option (List ℕ)) → is_read e ≡ false → is_endless e ≡ false → WritesFront before after answer.text
    → Serves (Err e) answer before after
broken_off (Memory e) answer before after read endless written = written
broken_off (Read e) answer before after read endless written = absurd (off read refl)
broken_off (Write e) answer before after read endless written = written
broken_off Endless answer before after read endless written = absurd (off endless refl)

-- What was read to the end is the input.
pub all_read : (input rest : Option (List ℕ)) (bytes : List ℕ) (P : List ℕ → Type 0) → Consumes input rest bytes → IsAtEnd rest → P bytes → IfSome input P
all_read None rest bytes P read end holds = tt
all_read (Some script) None bytes P read end holds = absurd read
all_read (Some script) (Some left) bytes P read end holds = subst P (sym (read ∙ ap (λ t. bytes ++ t) end ∙ append-nil bytes)) holds

pub always : (o : Option (List ℕ)) (P : List ℕ → Type 0) → ((x : List ℕ) → P x) → IfSome o P
always None P f = tt
always (Some x) P f = f x

-- the line that tells of memory, behind a beginning
pub told_of_memory : (answer : List ℕ) (before mid after : Option (List ℕ)) → WritesFront before mid answer → Appends mid after no_memory_line
    → (text : List ℕ) × EndsWithoutMemory answer text × Appends before after text
told_of_memory answer before mid after f written = (
  f.front ++ no_memory_line,
  record { front = f.front; rest = f.rest; split = f.split; told = refl },
  Appends-trans before mid after f.front no_memory_line f.written written,
)

pub memory_cut : (answer : List ℕ) (before mid after : Option (List ℕ)) → WritesFront before mid answer → WritesFront mid after no_memory_line
    → (text : List ℕ) × IsToBeWritten answer text × WritesFront before after text
memory_cut answer before mid after f g = (
  f.front ++ no_memory_line,
  inr (record { front = f.front; rest = f.rest; split = f.split; told = refl }),
  record {
    front = f.front ++ g.front;
    rest = g.rest;
    split = ap (λ t. f.front ++ t) g.split ∙ sym (append_assoc f.front g.front g.rest);
    written = Appends-trans before mid after f.front g.front f.written g.written;
  },
)

-- ---- by what is known before the image is read

pub refused_at_once : (asked : Asked) (fault : ImageFault) (result : Result Answered ServeError) (input before after : Option (List ℕ)) → request_of asked ≡ Err fault
    → Serves result (refusal asked.cons fault) before after → IfSome input (λ bytes. Serves result (answer_to asked bytes) before after)
unfolding answer_to
refused_at_once asked fault result input before after is served =
    always input _ (λ bytes. subst (λ r. Serves result (answer_in asked.cons r (image_of asked.hex bytes)) before after) (sym is) served)

pub read_and_answered : (asked : Asked) (request : Request) (bytes : List ℕ) (result : Result Answered ServeError) (input rest before after : Option (List ℕ)) → request_of asked ≡ Ok request
    → Consumes input rest bytes → IsAtEnd rest → Serves result (answer_in asked.cons (Ok request) (image_of asked.hex bytes)) before after
    → IfSome input (λ script. Serves result (answer_to asked script) before after)
unfolding answer_to
read_and_answered asked request bytes result input rest before after is read end served =
    all_read input rest bytes (λ script. Serves result (answer_in asked.cons (request_of asked) (image_of asked.hex script)) before after) read end
    (subst (λ r. Serves result (answer_in asked.cons r (image_of asked.hex bytes)) before after) (sym is) served)

-- Nothing was written where the image wasn't read.
pub unread : (e : ServeError) (answer : Answer) (before : Option (List ℕ)) → is_write e ≡ false → Serves (Err e) answer before before
unread (Memory e) answer before kept = nothing_written before answer.text
unread (Read e) answer before kept = Appends-nil before
unread (Write e) answer before kept = absurd (off kept refl)
unread Endless answer before kept = Appends-nil before
