-- Commands with their level hint.
use Rattle.std.proofs.Common.{◌≡◌, ℕ, Bool, true, false, [], ◌++◌, List, Some, is_some, if◌then◌else◌, refl, ap, sym, ◌∙◌, append_assoc, append-nil}
use Rattle.cmdcodec.specs.declared.command.Command.{Command}
use Rattle.cmdcodec.specs.declared.command.Command.TheVariants.{CfgiSte, CfgiSteRange, CfgiCd, CfgiCdAll, TlbiNhAll, TlbiNhAsid, TlbiNhVa, TlbiNhVaa, TlbiEl2All, TlbiEl2Asid, TlbiEl2Va, TlbiEl2Vaa, TlbiS12Vmall, TlbiS2Ipa, TlbiNsnhAll, AtcInv, Kept, CmdSync}
use Rattle.cmdcodec.specs.Fields.{field}
use Rattle.cmdcodec.specs.PageRuns.{run_of}
use Rattle.invalidations.specs.declared.request.Target.{Target}
use Rattle.invalidations.specs.Plans.{Plan, commands_of}
use Rattle.range_hints.specs.declared.ttl.Ttl.{Ttl}
use Rattle.range_hints.specs.declared.ttl.Ttl.TheVariants.{AnyLevel, Level1, Level2, Level3}
use Rattle.range_hints.specs.Hints.{SpellsTtl, has_ttl, kept_ttl, ttl_named, ttl_number}
use Rattle.ranges.specs.Lines.{IsNext, hint_for, line_of, lines_of}

named_again : (ttl : Ttl) → ttl_named (ttl_number ttl) ≡ ttl
named_again AnyLevel = refl
named_again Level1 = refl
named_again Level2 = refl
named_again Level3 = refl

by_number : (hi n : ℕ) (ttl : Ttl) → field hi 9 8 ≡ ttl_number ttl → field hi 9 8 ≡ n → ttl ≡ ttl_named n
by_number hi n ttl spelled is = sym (named_again ttl) ∙ ap ttl_named (sym spelled ∙ is)

-- The hint that the high word spells is that of its field, if the command has a place for one.
pub hint_is : (command : Command) (hi n : ℕ) (ttl : Ttl) → SpellsTtl (has_ttl command) hi ttl → field hi 9 8 ≡ (if is_some (run_of command) then n else 0)
    → ttl ≡ kept_ttl command (ttl_named n)
hint_is (TlbiNhVa vmid asid leaf page reach) hi n ttl spelled is = by_number hi n ttl spelled is
hint_is (TlbiNhVaa vmid leaf page reach) hi n ttl spelled is = by_number hi n ttl spelled is
hint_is (TlbiEl2Va asid leaf page reach) hi n ttl spelled is = by_number hi n ttl spelled is
hint_is (TlbiEl2Vaa leaf page reach) hi n ttl spelled is = by_number hi n ttl spelled is
hint_is (TlbiS2Ipa vmid leaf page reach) hi n ttl spelled is = by_number hi n ttl spelled is
hint_is (CfgiSte sid leaf) hi n ttl spelled is = spelled
hint_is (CfgiSteRange sid range) hi n ttl spelled is = spelled
hint_is (CfgiCd sid ssid leaf) hi n ttl spelled is = spelled
hint_is (CfgiCdAll sid) hi n ttl spelled is = spelled
hint_is (TlbiNhAll vmid) hi n ttl spelled is = spelled
hint_is (TlbiNhAsid vmid asid) hi n ttl spelled is = spelled
hint_is TlbiEl2All hi n ttl spelled is = spelled
hint_is (TlbiEl2Asid asid) hi n ttl spelled is = spelled
hint_is (TlbiS12Vmall vmid) hi n ttl spelled is = spelled
hint_is TlbiNsnhAll hi n ttl spelled is = spelled
hint_is (AtcInv sid ssv ssid global size page) hi n ttl spelled is = spelled
hint_is (Kept raw) hi n ttl spelled is = spelled
hint_is (CmdSync cs msh attr «data» address) hi n ttl spelled is = spelled

-- A line does not keep a hint that the command has no place for.
kept_twice : (command : Command) (ttl : Ttl) → kept_ttl command (kept_ttl command ttl) ≡ kept_ttl command ttl
kept_twice command ttl = by_place (has_ttl command)
  where
    by_place : (has : Bool) → (if has then (if has then ttl else AnyLevel) else AnyLevel) ≡ (if has then ttl else AnyLevel)
    by_place true = refl
    by_place false = refl

same_line : (command : Command) (ttl : Ttl) → line_of command (kept_ttl command ttl) ≡ line_of command ttl
same_line command ttl = rw (kept_twice command ttl) refl

-- The text of one more line, and of those behind it.
pub stepped : (old next : Plan) (hinted : Command × Ttl) (target : Target) (text after all : List ℕ) → IsNext old (Some hinted) next
    → (old.request.target ≡ target) × (text ++ lines_of old.request.target (commands_of old) ≡ all) → next.request.target ≡ old.request.target
    → after ≡ text ++ line_of hinted.0 hinted.1 → (next.request.target ≡ target) × (after ++ lines_of next.request.target (commands_of next) ≡ all)
unfolding lines_of
stepped old next hinted target text after all (is, hint) (of, told) same said = (
  same ∙ of,
  ap (λ t. t ++ lines_of next.request.target (commands_of next)) said
      ∙ append_assoc text (line_of hinted.0 hinted.1) (lines_of next.request.target (commands_of next))
      ∙ ap (λ l. text ++ (l ++ lines_of next.request.target (commands_of next))) (ap (line_of hinted.0) hint ∙ same_line hinted.0 (hint_for old.request.target))
      ∙ ap (λ t. text ++ (line_of hinted.0 (hint_for old.request.target) ++ lines_of t (commands_of next))) same
      ∙ ap (λ cs. text ++ lines_of old.request.target cs) (sym is)
      ∙ told,
)

-- No line is left.
pub ended : (old : Plan) (text all : List ℕ) → commands_of old ≡ [] → text ++ lines_of old.request.target (commands_of old) ≡ all → text ≡ all
unfolding lines_of
ended old text all none told = sym (append-nil text) ∙ ap (λ cs. text ++ lines_of old.request.target cs) (sym none) ∙ told
