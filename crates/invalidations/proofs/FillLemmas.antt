-- Filling a batch.
use Rattle.std.proofs.Common.{◌≡◌, false, inl, List, [], ◌∷◌, ◌++◌, Some, None, refl, ap, sym, subst, ◌∙◌, append_assoc, append-nil}
use Rattle.std.proofs.lemmas.Bool.{or_from}
use Rattle.std.proofs.lemmas.List.Folds.{list_any-append}
use Rattle.std.specs.List.{list_any}
use Rattle.cmdcodec.specs.Opcodes.{is_sync}
use Rattle.cmdcodec.specs.declared.raw.Raw.{Raw}
use Rattle.cmdcodec.specs.declared.command.Command.{Command}
use Rattle.invalidations.specs.declared.request.Target.{Target}
use Rattle.invalidations.specs.Plans.{Plan, commands_of}
use Rattle.invalidations.specs.Hints.{ttl_in, AreWordsOf, AreNextWords}
use Rattle.invalidations.specs.Filling.{AreWordsOfAll, IsMoved, IsFilled}

one_more : (target : Target) (commands : List Command) (raws : List Raw) (command : Command) (raw : Raw) → AreWordsOfAll target commands raws → AreWordsOf command (ttl_in target command) raw
    → AreWordsOfAll target (commands ++ command ∷ []) (raws ++ raw ∷ [])
one_more target [] [] command raw words word = (word, tt)
one_more target (first ∷ commands) (one ∷ raws) command raw words word = (words.0, one_more target commands raws command raw words.1 word)
one_more target [] (one ∷ raws) command raw words word = absurd words
one_more target (first ∷ commands) [] command raw words word = absurd words

pub begun : (old : Plan) (before : List Raw) → IsMoved old old before before
begun old before = record { commands = []; raws = []; target = refl; taken = refl; appended = sym (append-nil before); words = tt }

pub stepped : {old now next : Plan} {before after later : List Raw} {raw : Raw} → IsMoved old now before after → AreNextWords now (Some raw) next → next.request.target ≡ now.request.target
    → later ≡ after ++ raw ∷ [] → IsMoved old next before later
stepped {old} {now} {next} {before} {after} {later} {raw} moved (command, is, words) same pushed = record {
  commands = moved.commands ++ command ∷ [];
  raws = moved.raws ++ raw ∷ [];
  target = same ∙ moved.target;
  taken = moved.taken ∙ ap (λ cs. moved.commands ++ cs) is ∙ sym (append_assoc moved.commands (command ∷ []) (commands_of next));
  appended = pushed ∙ ap (λ rs. rs ++ raw ∷ []) moved.appended ∙ append_assoc before moved.raws (raw ∷ []);
  words = one_more old.request.target moved.commands moved.raws command raw moved.words (subst (λ t. AreWordsOf command (ttl_in t command) raw) moved.target words);
}

pub ended : {old now next : Plan} {before after : List Raw} → IsMoved old now before after → AreNextWords now None next → IsFilled old next before after
ended {old} {now} {next} {before} {after} moved (none, same) = record {
  moved = subst (λ r. IsMoved old r before after) (sym same) moved;
  as_many = inl (ap commands_of same ∙ none);
}

no_syncs : (target : Target) (commands : List Command) (raws : List Raw) → AreWordsOfAll target commands raws → list_any is_sync raws ≡ false
no_syncs target [] [] words = refl
no_syncs target (command ∷ commands) (raw ∷ raws) words = or_from (is_sync raw) (list_any is_sync raws) words.0.no_sync (no_syncs target commands raws words.1)
no_syncs target [] (raw ∷ raws) words = absurd words
no_syncs target (command ∷ commands) [] words = absurd words

pub still_no_sync : (old new : Plan) (before after : List Raw) → IsMoved old new before after → list_any is_sync before ≡ false → list_any is_sync after ≡ false
still_no_sync old new before after moved none =
    ap (list_any is_sync) moved.appended ∙ list_any-append is_sync before moved.raws
    ∙ or_from (list_any is_sync before) (list_any is_sync moved.raws) none (no_syncs old.request.target moved.commands moved.raws moved.words)
