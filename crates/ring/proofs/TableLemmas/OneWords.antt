-- The operations of a run make only one list of words of zeros.
use Rattle.std.proofs.Common.{◌≡◌, ◌≢◌, ⊎_elim, ℕ, ◌+◌, List, [], ◌∷◌, length, sym, ap, ◌∙◌, arith}
use Rattle.std.proofs.lemmas.List.{length-set, ext_get_or}
use Rattle.std.specs.Prelude.{slice_index, slice_set, bit_or}
use Rattle.std.specs.Int.{bit_at}
use Rattle.std.proofs.lemmas.Nat.Bits.{bit_at-lt, same_from_bits}
use Rattle.std.proofs.lemmas.Bool.{cases_eq}
use Rattle.qindex.specs.Positions.{index_of}
use Rattle.qindex.specs.ControlWord.{packed, advance_mask, close_mask}
use Rattle.ring.specs.Runs.{Who, Consumer, Sender, Event, Won, Write, Flip, Advance, Close, Acknowledge, Run, head, world, control, half_of, Ring}
use Rattle.ringcore.specs.memory.Layout.{control_word, flag_word, data_word, cell}
use Rattle.ringcore.specs.memory.Flags.{IsFlipMask}
use Rattle.ringcore.specs.memory.StepLaws.{turned}
use Rattle.ring.specs.table.{IsOperation, WordsAreOne}

-- a mask is told by its bits
one_mask : (g p count a b : ℕ) → IsFlipMask g p count a → IsFlipMask g p count b → a ≡ b
one_mask g p count a b one other = same_from_bits a b (λ i.
    let low = bit_at-lt a i in let lower = bit_at-lt b i in
    let there : bit_at a i ≡ 1 → bit_at b i ≡ 1 = (λ is. (other.bits i).1 ((one.bits i).0 is)) in
    let back : bit_at b i ≡ 1 → bit_at a i ≡ 1 = (λ is. (one.bits i).1 ((other.bits i).0 is)) in
    ⊎_elim (λ set. set ∙ sym (there set)) (λ (unset : bit_at a i ≢ 1). let none : bit_at b i ≢ 1 = (λ set. unset (back set)) in omega (arith, low, lower, unset, none)) (cases_eq (bit_at a i) 1))

-- ---- one operation

keeps_length : (ring : Ring) (run : Run) (who : Who) (e : Event) (old new : List ℕ) → IsOperation ring run who e old new → length new ≡ length old
keeps_length ring run (Sender s) (Won body number) old new is = ap (λ (l : List ℕ). length l) is.stored ∙ length-set old _ _
keeps_length ring run (Sender s) (Write offset half) old new is = ap (λ (l : List ℕ). length l) is.stored ∙ length-set old _ _
keeps_length ring run (Sender s) (Flip offset count) old new is = ap (λ (l : List ℕ). length l) is.stored ∙ length-set old _ _
keeps_length ring run (Sender s) Close old new is = ap (λ (l : List ℕ). length l) is ∙ length-set old _ _
keeps_length ring run Consumer (Advance raws) old new is = ap (λ (l : List ℕ). length l) is ∙ length-set old _ _
keeps_length ring run Consumer (Acknowledge s number) old new is = ap (λ (l : List ℕ). length l) is ∙ length-set old _ _
keeps_length ring run who e old new is = ap (λ (l : List ℕ). length l) is

one_operation : (ring : Ring) (run : Run) (who : Who) (e : Event) (old older new newer : List ℕ) → old ≡ older → IsOperation ring run who e old new → IsOperation ring run who e older newer → new ≡ newer
one_operation ring run (Sender s) (Won body number) old older new newer same one other =
    one.stored ∙ ap (λ (l : List ℕ). slice_set l control_word (packed (control ring.geometry (world ((Sender s, Won body number) ∷ run))))) same ∙ sym other.stored
one_operation ring run (Sender s) (Write offset half) old older new newer same one other =
    let raw_is : one.raw ≡ other.raw = (let e = sym one.command ∙ other.command in cc) in
    one.stored ∙ (λ k. slice_set (same k) (data_word ring.geometry ((world run).start s + offset) half) (half_of half (raw_is k))) ∙ sym other.stored
one_operation ring run (Sender s) (Flip offset count) old older new newer same one other =
    let mask_is : one.mask ≡ other.mask = one_mask _ _ _ _ _ one.mask_is other.mask_is in
    one.stored ∙ (λ k. turned (same k) (flag_word ring.geometry ((world run).start s + offset)) (mask_is k)) ∙ sym other.stored
one_operation ring run (Sender s) Close old older new newer same one other =
    one ∙ ap (λ (l : List ℕ). slice_set l control_word (bit_or (slice_index l control_word) close_mask)) same ∙ sym other
one_operation ring run Consumer (Advance raws) old older new newer same one other =
    one ∙ ap (λ (l : List ℕ). turned l control_word (advance_mask (index_of ring.geometry (head (world run))) (index_of ring.geometry (head (world run) + length raws)))) same ∙ sym other
one_operation ring run Consumer (Acknowledge s number) old older new newer same one other = one ∙ ap (λ (l : List ℕ). slice_set l (cell ring.geometry s) number) same ∙ sym other
one_operation ring run who e old older new newer same one other = one ∙ same ∙ sym other

-- ---- all of them

pub words_are_one : WordsAreOne
words_are_one ring [] words others many made again = ext_get_or 0 words others many (λ i _. made i ∙ sym (again i))
words_are_one ring (x ∷ xs) words others many made again =
    let before : length made.0 ≡ length again.0 = sym (keeps_length ring xs x.0 x.1 made.0 words made.2) ∙ many ∙ keeps_length ring xs x.0 x.1 again.0 others again.2 in
    one_operation ring xs x.0 x.1 made.0 again.0 words others (words_are_one ring xs made.0 again.0 before made.1 again.1) made.2 again.2
