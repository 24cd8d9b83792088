-- The texts of what the lines that send answer.
use Rattle.std.specs.Prelude.{ℕ, List, ◌++◌, Option, Some, None, codes, decimal}

-- the number of a batch; one without a closing CMD_SYNC has none
abbrev pub number_text : Option ℕ → List ℕ
number_text None = codes " bare"
number_text (Some number) = codes " number " ++ decimal number

-- of a batch that was reserved and published
abbrev pub sent_text : ℕ → Option ℕ → List ℕ
sent_text sender number = codes "sent " ++ decimal sender ++ number_text number ++ codes "\n"

-- of a batch that was only reserved, its first slot at this index
abbrev pub opened_text : ℕ → Option ℕ → ℕ → List ℕ
opened_text sender number first = codes "opened " ++ decimal sender ++ number_text number ++ codes " first " ++ decimal first ++ codes "\n"
