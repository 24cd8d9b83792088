use Rattle.std.proofs.Common.{◌≡◌, map, string_bytes}
use Rattle.smmuq.proofs.texts.Given as goal

abbrev pub invariant-loop-word : goal.invariant-loop-word
invariant-loop-word l = map (λ text. text.now) l.texts.items ≡ map (λ word. string_bytes word.now) l.yielded
