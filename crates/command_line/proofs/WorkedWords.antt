-- Worked command lines, by the definition: what they ask for, and which faults the others have.
use Rattle.std.proofs.Common.{◌≡◌, ◌∷◌, [], List, refl, codes, arith, rules}
use Rattle.clap.specs.declared.error.kind.ErrorKind.TheVariants as kind
use Rattle.clap.proofs.OnLiterals.{clap_on_literals}
use Rattle.command_line.specs.CommandLine.{AskFor, Text, fault_of, smmuq}
use Rattle.clap.specs.Kinds.{Kinds}
use Rattle.command_line.specs.declared.subcommand.Subcommand.TheVariants.{Replay, Schedule, Stress}

-- ---- what words ask for

replay_alone : AskFor (codes "replay" ∷ []) Replay
unfolding clap_on_literals
replay_alone = (_, _, refl, refl)

schedule_alone : AskFor (codes "schedule" ∷ []) Schedule
unfolding clap_on_literals
schedule_alone = (_, _, refl, refl)

-- the words of a stress run
abbrev of_a_run : Text → Text → Text → Text → List Text
of_a_run log2 senders batches turns =
    codes "stress" ∷ codes "--log2" ∷ log2 ∷ codes "--senders" ∷ senders ∷ codes "--batches" ∷ batches ∷ codes "--turns" ∷ turns ∷ []

abbrev a_run : List Text
a_run = of_a_run (codes "4") (codes "2") (codes "10") (codes "100")

run_of_four : AskFor a_run (Stress (record { log2 = 4; senders = 2; batches = 10; turns = 100; bare = 0 }))
unfolding clap_on_literals
run_of_four = (
  _,
  _,
  refl,
  (
    refl,
    record {
      log2 = (_, refl, search rules, refl, omega arith, omega arith);
      senders = (_, refl, search rules, refl, omega arith, omega arith);
      batches = (_, refl, search rules, refl, omega arith, omega arith);
      turns = (_, refl, search rules, refl, omega arith, omega arith);
      bare = (_, refl, search rules, refl, omega arith, omega arith);
    },
  ),
)

abbrev a_bare_run : Text → List Text
a_bare_run bare = codes "stress" ∷ codes "--log2" ∷ codes "4" ∷ codes "--senders" ∷ codes "1" ∷ codes "--batches" ∷ codes "1" ∷ codes "--turns" ∷ codes "1" ∷ codes "--bare" ∷ bare ∷ []

-- ---- which fault words have

abbrev AreOf : List Text → Kinds → Type 0
AreOf words kinds = fault_of smmuq words ≡ kinds

sound : AreOf (codes "replay" ∷ []) [] × AreOf (codes "decode" ∷ codes "12302000010002000004010000000000" ∷ []) [] × AreOf a_run []
unfolding clap_on_literals
sound = (refl, refl, refl)

help : AreOf (codes "--help" ∷ []) (kind.DisplayHelp ∷ [])
unfolding clap_on_literals
help = refl

-- either may be told
unknown_subcommand : AreOf (codes "explode" ∷ []) (kind.UnknownArgument ∷ kind.InvalidSubcommand ∷ [])
unfolding clap_on_literals
unknown_subcommand = refl

missing_words : AreOf [] (kind.MissingSubcommand ∷ []) × AreOf (codes "decode" ∷ []) (kind.MissingRequiredArgument ∷ [])
    × AreOf (codes "stress" ∷ codes "--log2" ∷ codes "4" ∷ codes "--senders" ∷ codes "2" ∷ codes "--batches" ∷ codes "10" ∷ []) (kind.MissingRequiredArgument ∷ [])
unfolding clap_on_literals
missing_words = (refl, refl, refl)

words_too_many : AreOf (codes "replay" ∷ codes "more" ∷ []) (kind.UnknownArgument ∷ []) × AreOf (codes "decode" ∷ codes "0g" ∷ codes "0g" ∷ []) (kind.UnknownArgument ∷ [])
unfolding clap_on_literals
words_too_many = (refl, refl)

abbrev IsOutOfRange : List Text → Type 0
IsOutOfRange words = AreOf words (kind.ValueValidation ∷ [])

log2_out_of_range : IsOutOfRange (of_a_run (codes "0") (codes "1") (codes "1") (codes "1")) × IsOutOfRange (of_a_run (codes "20") (codes "1") (codes "1") (codes "1"))
unfolding clap_on_literals
log2_out_of_range = (refl, refl)

senders_out_of_range : IsOutOfRange (of_a_run (codes "4") (codes "65") (codes "1") (codes "1"))
unfolding clap_on_literals
senders_out_of_range = refl

batches_out_of_range : IsOutOfRange (of_a_run (codes "4") (codes "1") (codes "0") (codes "1")) × IsOutOfRange (of_a_run (codes "4") (codes "1") (codes "100001") (codes "1"))
unfolding clap_on_literals
batches_out_of_range = (refl, refl)

turns_out_of_range : IsOutOfRange (of_a_run (codes "4") (codes "1") (codes "1") (codes "0")) × IsOutOfRange (of_a_run (codes "4") (codes "1") (codes "1") (codes "10000001"))
unfolding clap_on_literals
turns_out_of_range = (refl, refl)

bare_out_of_range : IsOutOfRange (a_bare_run (codes "100001"))
unfolding clap_on_literals
bare_out_of_range = refl
