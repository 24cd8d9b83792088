-- What the image of a queue is shown by, as the command line gives it.
use Rattle.std.specs.Prelude.{ℕ, Option, None, Some, List}
use Rattle.std.specs.Borrow.{Bor}
use Rattle.command_line.specs.declared.image_arguments.ImageArguments.{ImageArguments}
use Rattle.image.specs.declared.asked.Asked.{Asked}
use Rattle.image.specs.declared.asked.ErrorRegisters.{ErrorRegisters}
use Rattle.script.specs.Fields.{one_number}
use Rattle.script.specs.Words.{words_of}

-- A register is one number of 32 bits, decimal or 0x and hexadecimal.
abbrev pub register : List ℕ → Option ℕ
register text = one_number (words_of text)

-- Both error registers, or none.
abbrev pub errors_of : Option (Bor (List ℕ)) → Option (Bor (List ℕ)) → Option ErrorRegisters
errors_of (Some gerror) (Some gerrorn) = Some (record { gerror = register gerror.now; gerrorn = register gerrorn.now })
errors_of (Some gerror) None = None
errors_of None gerrorn = None

abbrev pub asked_of : ImageArguments → Asked
asked_of arguments = record {
  log2 = arguments.log2;
  prod = register arguments.prod.now;
  cons = register arguments.cons.now;
  all = arguments.all;
  hex = arguments.hex;
  errors = errors_of arguments.gerror arguments.gerrorn;
}
