-- The texts of what the lines of a sender answer.
use Rattle.std.specs.Prelude.{ℕ, List, ◌++◌, Option, codes, decimal, if◌then◌else◌}
use Rattle.qindex.specs.declared.control.Control.{Control}
use Rattle.replay.specs.texts.SendLines.{number_text}

-- of a look
abbrev pub control_text : Control → List ℕ
control_text control =
    codes "control " ++ decimal control.prod.number ++ codes " " ++ decimal control.cons.number
    ++ (if control.closed then codes " closed\n" else codes " open\n")

-- All of a sender's batches up to this number are done.
abbrev pub done_text : ℕ → ℕ → List ℕ
done_text sender number = codes "done " ++ decimal sender ++ codes " up to " ++ decimal number ++ codes "\n"

-- The ring is closed.
abbrev pub closed_text : List ℕ
closed_text = codes "closed\n"

-- of a batch that was published after it was only reserved
abbrev pub published_text : ℕ → Option ℕ → List ℕ
published_text sender number = codes "published " ++ decimal sender ++ number_text number ++ codes "\n"
