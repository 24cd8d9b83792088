-- The words of commands are written to a buffer one by one.
use Rattle.std.proofs.Common.{◌≡◌, ◌≤◌, ◌<◌, ℕ, ◌+◌, List, [], ◌∷◌, ◌++◌, length, drop, set, Some, None, refl, ap, sym, subst, ◌∙◌, append_assoc, append-nil, arith}
use Rattle.std.proofs.lemmas.List.{length-append}
use Rattle.cmdcodec.specs.declared.raw.Raw.{Raw}
use Rattle.cmdcodec.specs.declared.command.Command.{Command}
use Rattle.invalidations.specs.declared.request.Target.{Target}
use Rattle.invalidations.specs.Filling.{AreWordsOfAll}
use Rattle.invalidations.specs.Hints.{ttl_in, AreWordsOf, AreNextWords}
use Rattle.invalidations.specs.Plans.{Plan, commands_of}

-- Those of the commands that are taken stand at the beginning of the buffer.
pub record IsWriting (old now : Plan) (initial buffer : List Raw) (place : ℕ) : Type 0 where
  pub commands : List Command
  pub raws : List Raw
  pub target : now.request.target ≡ old.request.target
  pub taken : commands_of old ≡ commands ++ commands_of now
  pub words : AreWordsOfAll old.request.target commands raws
  pub placed : place ≡ length raws
  pub written : buffer ≡ raws ++ drop (length raws) initial

as_many : (target : Target) (commands : List Command) (raws : List Raw) → AreWordsOfAll target commands raws → length raws ≡ length commands
as_many target [] [] words = refl
as_many target (command ∷ commands) (raw ∷ raws) words = let rest = as_many target commands raws words.1 in omega (arith, rest)
as_many target [] (raw ∷ raws) words = absurd words
as_many target (command ∷ commands) [] words = absurd words

one_more : (target : Target) (commands : List Command) (raws : List Raw) (command : Command) (raw : Raw) → AreWordsOfAll target commands raws → AreWordsOf command (ttl_in target command) raw
    → AreWordsOfAll target (commands ++ command ∷ []) (raws ++ raw ∷ [])
one_more target [] [] command raw words word = (word, tt)
one_more target (first ∷ commands) (one ∷ raws) command raw words word = (words.0, one_more target commands raws command raw words.1 word)
one_more target [] (one ∷ raws) command raw words word = absurd words
one_more target (first ∷ commands) [] command raw words word = absurd words

one_written : (raws initial : List Raw) (raw : Raw) → length raws < length initial
    → set (raws ++ drop (length raws) initial) (length raws) raw ≡ (raws ++ raw ∷ []) ++ drop (length (raws ++ raw ∷ [])) initial
one_written [] [] raw room = absurd (omega (arith, room))
one_written [] (first ∷ initial) raw room = refl
one_written (one ∷ raws) [] raw room = absurd (omega (arith, room))
one_written (one ∷ raws) (first ∷ initial) raw room = ap (λ l. one ∷ l) (one_written raws initial raw (omega (arith, room)))

pub begun : (old : Plan) (initial : List Raw) → IsWriting old old initial initial 0
begun old initial = record { commands = []; raws = []; target = refl; taken = refl; words = tt; placed = refl; written = refl }

module _ {old now : Plan} {initial buffer : List Raw} {place : ℕ} (writing : IsWriting old now initial buffer place) where
  all : length (commands_of old) ≡ place + length (commands_of now)
  all =
      let taken = ap length writing.taken in
      let both = length-append writing.commands (commands_of now) in
      let placed = writing.placed in
      let many = as_many old.request.target writing.commands writing.raws writing.words in
      omega (arith, taken, both, placed, many)

  pub room : (next : Plan) (raw : Raw) → AreNextWords now (Some raw) next → length (commands_of old) ≤ length initial → place < length initial
  room next raw (command, is, words) fits =
      let many = all in
      let next = ap length is in
      omega (arith, many, next, fits)

  pub stepped : (next : Plan) (raw : Raw) → AreNextWords now (Some raw) next → next.request.target ≡ now.request.target → length (commands_of old) ≤ length initial
      → IsWriting old next initial (set buffer place raw) (place + 1)
  stepped next raw (command, is, words) same fits =
      let inside : place < length initial = room next raw (command, is, words) fits in
      let placed = writing.placed in
      record {
        commands = writing.commands ++ command ∷ [];
        raws = writing.raws ++ raw ∷ [];
        target = same ∙ writing.target;
        taken = writing.taken ∙ ap (λ cs. writing.commands ++ cs) is ∙ sym (append_assoc writing.commands (command ∷ []) (commands_of next));
        words = one_more old.request.target writing.commands writing.raws command raw writing.words (subst (λ t. AreWordsOf command (ttl_in t command) raw) writing.target words);
        placed = let long = length-append writing.raws (raw ∷ []) in omega (arith, placed, long);
        written = ap (λ b. set b place raw) writing.written ∙ ap (λ n. set (writing.raws ++ drop (length writing.raws) initial) n raw) placed
            ∙ one_written writing.raws initial raw (omega (arith, inside, placed));
      }

  pub ended : {next : Plan} → AreNextWords now None next
      → (raws : List Raw) × AreWordsOfAll old.request.target (commands_of old) raws × (buffer ≡ raws ++ drop (length raws) initial)
  ended (none, same) = (
    writing.raws,
    subst (λ cs. AreWordsOfAll old.request.target cs writing.raws) (sym (writing.taken ∙ ap (λ cs. writing.commands ++ cs) none ∙ append-nil writing.commands)) writing.words,
    writing.written,
  )
