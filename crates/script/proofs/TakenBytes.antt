-- How many bytes were read, against the lines that were served and the turns of the loop.
use Rattle.std.proofs.Common.{◌≡◌, ℕ, ◌+◌, ◌*◌, ◌^◌, ◌<◌, ◌≤◌, List, ◌++◌, Option, length, ap, arith, length-append, inl, inr, true, ◌⊎◌}
use Rattle.std.specs.Io.KnownBytes.{Consumes}
use Rattle.std.proofs.KnownBytes.{Consumes-trans}
use Rattle.script.specs.declared.error.ServeError.{ServeError}
use Rattle.script.specs.declared.error.ServeError.TheVariants.{Memory, Read, Write, Endless}
use Rattle.script.specs.declared.run.Run.{Run}
use Rattle.script.specs.Errors.{is_memory, is_endless, is_write, WantsMemoryOrNumber}
use Rattle.script.specs.Serving.{TakesBytes, SameButPending}
use Rattle.script.specs.Writing.{ReadsAtLeast}

write_or_endless : (e : ServeError) → is_write e ≡ true → is_endless e ≡ true → ⊥
write_or_endless (Write e) write endless = cc
write_or_endless (Memory e) write endless = cc
write_or_endless (Read e) write endless = cc
write_or_endless Endless write endless = cc

memory_or_endless : (e : ServeError) → is_memory e ≡ true → is_endless e ≡ true → ⊥
memory_or_endless (Memory e) memory endless = cc
memory_or_endless (Write e) memory endless = cc
memory_or_endless (Read e) memory endless = cc
memory_or_endless Endless memory endless = cc

-- one more line was served
pub takes_line : (a b c : Run) → TakesBytes a b → c.lines ≡ b.lines + 1 → length c.pending < length b.pending → TakesBytes a c
takes_line a b c taken one shorter = record { lines = omega arith; bytes = omega arith }

-- Each line that was served had a byte at least, and each turn read a byte at least or took one away.
pub record HasRead (input rest : Option (List ℕ)) (turns : ℕ) (run : Run) : Type 0 where
  pub bytes : List ℕ
  pub read : Consumes input rest bytes
  pub lines : run.lines + length run.pending ≤ length bytes
  pub counted : turns + length run.pending ≤ 2 * length bytes

-- Lines were served, and then a part was read: at most as many turns as it has bytes.
pub has_read_part : (input mid rest : Option (List ℕ)) (turns made : ℕ) (s t u : Run) (part : List ℕ) → HasRead input mid turns s → TakesBytes s t → SameButPending t u
    → u.pending ≡ t.pending ++ part → Consumes mid rest part → made + length t.pending ≤ length u.pending → HasRead input rest (turns + made) u
has_read_part input mid rest turns made s t u part h taken same more read enough =
    let longer = ap length more in
    let count = same.lines in
    record {
      bytes = h.bytes ++ part;
      read = Consumes-trans input mid rest h.bytes part h.read read;
      lines = omega (arith, length-append t.pending part, length-append h.bytes part);
      counted = omega (arith, length-append t.pending part, length-append h.bytes part);
    }

-- Lines were served, which took a byte away.
pub has_read_less : (input rest : Option (List ℕ)) (turns : ℕ) (s t : Run) → HasRead input rest turns s → TakesBytes s t → length t.pending < length s.pending → HasRead input rest (turns + 1) t
has_read_less input rest turns s t h taken shorter = record { bytes = h.bytes; read = h.read; lines = omega arith; counted = omega arith }

-- if no number is left for a line
pub endless_lines : (input rest : Option (List ℕ)) (turns number : ℕ) (s : Run) (e : ServeError) → HasRead input rest turns s → number ≤ s.lines + length s.pending + 1
    → (is_write e ≡ true) ⊎ WantsMemoryOrNumber e number → is_endless e ≡ true → ReadsAtLeast (2 ^ 63) input rest
endless_lines input rest turns number s e h most (inl write) endless = absurd (write_or_endless e write endless)
endless_lines input rest turns number s e h most (inr (inl memory)) endless = absurd (memory_or_endless e memory endless)
endless_lines input rest turns number s e h most (inr (inr last)) endless = (h.bytes, h.read, (let enough = last.1 in omega arith))
