-- The host's commands for a command of the guest are appended, or don't fit.
use Rattle.std.proofs.Common.{◌≡◌, ◌≤◌, Bool, true, false, List, [], ◌∷◌, ◌++◌, length, Some, None, refl, sym, ◌∙◌, ap, subst, arith}
use Rattle.std.specs.List.{filter_map}
use Rattle.cmdcodec.specs.declared.raw.Raw.{Raw}
use Rattle.cmdcodec.specs.declared.command.Command.{Command}
use Rattle.cmdcodec.specs.Laws.{SpelledWordsAreLegal}
use Rattle.range_hints.specs.declared.ttl.Ttl.{Ttl}
use Rattle.range_hints.specs.Hints.{SpellsWithHint, kept_ttl}
use Rattle.range_hints.specs.HintedWords.{hinted_words}
use Rattle.invalidations.specs.Reaching.{ServedWordsAreLegal}
use Rattle.guest_commands.specs.Mappings.{Mapping, IsMapping}
use Rattle.guest_commands.specs.HostCommands.{host_words, tlb_command, stream_words, words_or}
use Rattle.guest_commands.specs.Appending.{AreAppended, DoNotFit, AreHostCommands, AreReached, IsAppended, DoesNotFit, AreTried, IsTried}
use Rattle.guest_commands.proofs.TlbLemmas.{good_tlb}
use Rattle.guest_commands.proofs.CompleteLemmas.{tlb_own, tlb_reached, streams_own, streams_reached}
use Rattle.guest_commands.proofs.BatchLemmas.{few_words}

words_of_tlb : (m : Mapping) (command : Command) (ttl : Ttl) (host : Command × Ttl) → tlb_command m command ttl ≡ Some host → host_words m command ttl ≡ hinted_words host.0 host.1 ∷ []
unfolding host_words
words_of_tlb m command ttl host is = ap (λ o. words_or o (filter_map (stream_words m.smmu command) m.streams)) is

words_of_streams : (m : Mapping) (command : Command) (ttl : Ttl) → tlb_command m command ttl ≡ None → host_words m command ttl ≡ filter_map (stream_words m.smmu command) m.streams
unfolding host_words
words_of_streams m command ttl none = ap (λ o. words_or o (filter_map (stream_words m.smmu command) m.streams)) none

pub tlb_appended : SpelledWordsAreLegal → ServedWordsAreLegal → (m : Mapping) (command : Command) (ttl : Ttl) (host : Command × Ttl) (words : Raw) (old new : List Raw) → IsMapping m
    → tlb_command m command ttl ≡ Some host → words ≡ hinted_words host.0 host.1 → SpellsWithHint words host.0 (kept_ttl host.0 host.1) → new ≡ old ++ words ∷ [] → length new ≤ 63
    → IsAppended m command ttl old new
tlb_appended legal served m command ttl host words old new is_mapping is spelt spelled pushed few =
    let good = good_tlb m command ttl host is_mapping.machine is in
    let same = words_of_tlb m command ttl host is in
    let spells = subst (λ w. SpellsWithHint w host.0 host.1) spelt (subst (SpellsWithHint words host.0) good.kept spelled) in
    record {
      all = pushed ∙ ap (λ w. old ++ w ∷ []) spelt ∙ ap (λ w. old ++ w) (sym same);
      few = few;
      own = subst (AreHostCommands m) (sym same) (tlb_own legal served m command ttl host good spells);
      reached = λ taken. subst (AreReached m command ttl) (sym same) (tlb_reached m command ttl host good spells);
    }

streams_appended : SpelledWordsAreLegal → ServedWordsAreLegal → (m : Mapping) (command : Command) (ttl : Ttl) (old new : List Raw) → IsMapping m → tlb_command m command ttl ≡ None
    → AreAppended m.smmu command m.streams old new → IsAppended m command ttl old new
streams_appended legal served m command ttl old new is_mapping none was =
    let same = words_of_streams m command ttl none in
    record {
      all = was.all ∙ ap (λ w. old ++ w) (sym same);
      few = was.few;
      own = subst (AreHostCommands m) (sym same) (streams_own legal served m command is_mapping was.spelled);
      reached = λ taken. subst (AreReached m command ttl) (sym same) (streams_reached m command ttl is_mapping none taken was.spelled);
    }

some_if : (m : Mapping) (command : Command) (ttl : Ttl) (old new : List Raw) → IsMapping m → DoNotFit (host_words m command ttl) old new → DoesNotFit m command ttl old new
some_if m command ttl old new is_mapping rest =
    let few = few_words m command ttl is_mapping in
    let many = rest.many in
    record { rest = rest; some = omega arith }

pub tlb_unfit : (m : Mapping) (command : Command) (ttl : Ttl) (host : Command × Ttl) (old : List Raw) → IsMapping m → tlb_command m command ttl ≡ Some host → length old ≡ 63
    → DoesNotFit m command ttl old old
tlb_unfit m command ttl host old is_mapping is full =
    let one = ap length (words_of_tlb m command ttl host is) in
    some_if m command ttl old old is_mapping (record { same = refl; many = omega arith })

pub streams_tried : SpelledWordsAreLegal → ServedWordsAreLegal → (m : Mapping) (command : Command) (ttl : Ttl) (old new : List Raw) (b : Bool) → IsMapping m → tlb_command m command ttl ≡ None
    → AreTried m.smmu command m.streams old new b → IsTried m command ttl old new b
streams_tried legal served m command ttl old new true is_mapping none was = streams_appended legal served m command ttl old new is_mapping none was
streams_tried legal served m command ttl old new false is_mapping none was =
    some_if m command ttl old new is_mapping (subst (λ w. DoNotFit w old new) (sym (words_of_streams m command ttl none)) was)
