use Rattle.std.proofs.Common.{◌≡◌, ◌≤◌, ◌+◌, length}
use Rattle.script.specs.Lines.{lines_of}
use Rattle.image.specs.Dumps.{behind, dump_image, image_from}
use Rattle.image.proofs.dump.read_dump.Given as goal

abbrev pub invariant-lines : goal.invariant-lines
invariant-lines l = record {
  image : dump_image l.text ≡ behind l.image.items (image_from l.number l.last (lines_of l.rest));
  counted : l.number + length l.rest ≤ length l.text + 1;
}

abbrev pub decreases-lines : goal.decreases-lines
decreases-lines l = length l.rest
